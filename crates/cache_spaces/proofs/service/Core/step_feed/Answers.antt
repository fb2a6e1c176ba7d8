use Rattle.std.proofs.Common.{false, true}
use Rattle.std.proofs.Math.Logic.{∥∥₁_map}
use Rattle.audit_model.specs.declared.input.Input.TheVariants as input
use Rattle.audit_laws.specs.declared.receipts.output.Output.TheVariants.{All, Held}
use Rattle.cache_spaces.proofs.Placing.{at-map, refuses-map}
use Rattle.cache_spaces.proofs.Reaching.{comes-fed, reached-more, refused-input, serves-performs}
use Rattle.cache_spaces.proofs.service.Core.step_feed.Goals as goal

pub returns-in-Ok-All-clause-performed : goal.returns-in-Ok-All-clause-performed
returns-in-Ok-All-clause-performed g c =
    let a = c.args in
    at-map _ _ a.self.now c.feed.new.self a.conn.namespace (rw c.in-Ok-All.field-0-is at c.in-Ok-All.ensures.taken)
    (λ was is f. serves-performs g.T.Tape.view (input.Feed a.conn a.piece.now a.moment) was is All false (comes-fed false) f)

pub returns-in-Ok-Held-clause-performed : goal.returns-in-Ok-Held-clause-performed
returns-in-Ok-Held-clause-performed g c =
    let a = c.args in
    at-map _ _ a.self.now c.feed.new.self a.conn.namespace (rw c.in-Ok-Held.field-0-is at c.in-Ok-Held.ensures.taken)
    (λ was is f. serves-performs g.T.Tape.view (input.Feed a.conn a.piece.now a.moment) was is Held true (comes-fed true) f)

pub returns-in-Ok-All-clause-reached : goal.returns-in-Ok-All-clause-reached
returns-in-Ok-All-clause-reached g c = λ n w. ∥∥₁_map w (reached-more g.T.Tape.view (input.Feed c.args.conn c.args.piece.now c.args.moment) All c.args.self.now c.feed.new.self n (returns-in-Ok-All-clause-performed g c))

pub returns-in-Ok-Held-clause-reached : goal.returns-in-Ok-Held-clause-reached
returns-in-Ok-Held-clause-reached g c = λ n w. ∥∥₁_map w (reached-more g.T.Tape.view (input.Feed c.args.conn c.args.piece.now c.args.moment) Held c.args.self.now c.feed.new.self n (returns-in-Ok-Held-clause-performed g c))

pub returns-in-Err-clause-refused : goal.returns-in-Err-clause-refused
returns-in-Err-clause-refused g c =
    let a = c.args in
    refuses-map a.self.now a.conn.namespace _ (λ was f. refused-input (input.Feed a.conn a.piece.now a.moment) _ was f) c.in-Err.ensures.refused
