use Rattle.std.proofs.Common.{ap, arith, subst, sym, ◌≡◌, ◌+◌, false}
use Rattle.cache_commands.specs.Loads.Standings.{keeps_line}
use Rattle.cache_core.specs.Connection.Fed.{FedRan}
use Rattle.cache_lines.specs.Bases.{seen_on}
use Rattle.cache_lines.specs.Gathered.{stage}
use Rattle.cache_lines.specs.Ran.{RunsAs, begins_to_wait}
use Rattle.cache_lines.specs.Waiting.{under_way}
use Rattle.cache_lines.specs.declared.running.LineOutcome.TheVariants.{Stays, Quits, Waits}
use Rattle.cache_core.proofs.connection.Pieces.{fed-quits, fed-stays, fed-waits, whole-kept}
use Rattle.cache_core.proofs.connection.feeding.feed_held.Goals as goal

pub returns-in-Ok-Stays-clause-ran : goal.returns-in-Ok-Stays-clause-ran
returns-in-Ok-Stays-clause-ran g c =
    let old = c.args.connection.now in
    let was = seen_on g.S.Store.view g.T.Tape.view c.args.base.now old.output in
    let mid = seen_on g.S.Store.view g.T.Tape.view c.run_line.new.base c.run_line.new.output in
    let one = subst (λ l. RunsAs c.args.now c.args.number l Stays was mid) c.first_line-line.ensures.line (subst (λ d. RunsAs c.args.now c.args.number c.first_line-line.result.now d was mid) c.in-Ok-Stays.field-0-is c.in-Ok-Stays.ensures.runs) in
    fed-stays c.args.now c.args.number old c.run_on.new.self c.args.piece.now was (seen_on g.S.Store.view g.T.Tape.view c.run_on.new.base c.run_on.new.self.output) c.requires.held c.is_holding.result mid one.0 one.1 c.run_on.ensures.left c.is_holding.ensures

pub returns-in-Ok-Quits-clause-ran : goal.returns-in-Ok-Quits-clause-ran
returns-in-Ok-Quits-clause-ran g c =
    let view = g.S.Store.view in
    let tape = g.T.Tape.view in
    let old = c.args.connection.now in
    let base = c.run_line.new.base in
    let was = seen_on view tape c.args.base.now old.output in
    let is = seen_on view tape base c.run_line.new.output in
    let one = subst (λ l. RunsAs c.args.now c.args.number l Quits was is) c.first_line-line.ensures.line (subst (λ d. RunsAs c.args.now c.args.number c.first_line-line.result.now d was is) c.in-Ok-Quits.field-0-is c.in-Ok-Quits.ensures.runs) in
    subst (λ t. FedRan c.args.now c.args.number old c.args.piece.now c.drop_closed.new.self false was (record { stage = stage (view base.store) t (tape base.tape); loads = under_way base.loads })) (sym c.drop_closed.ensures.text)
    (fed-quits c.args.now c.args.number old c.drop_closed.new.self c.args.piece.now was is c.requires.held one.0 one.1 c.drop_closed.ensures.closing)

pub returns-in-Ok-Waits-clause-ran : goal.returns-in-Ok-Waits-clause-ran
returns-in-Ok-Waits-clause-ran g c =
    let view = g.S.Store.view in
    let tape = g.T.Tape.view in
    let old = c.args.connection.now in
    let base = c.run_line.new.base in
    let was = seen_on view tape c.args.base.now old.output in
    let is = seen_on view tape base c.run_line.new.output in
    let w = subst (λ l. RunsAs c.args.now c.args.number l Waits was is) c.first_line-line.ensures.line (subst (λ d. RunsAs c.args.now c.args.number c.first_line-line.result.now d was is) c.in-Ok-Waits.field-0-is c.in-Ok-Waits.ensures.runs) in
    let stored = (c.in-Ok-Waits.ensures.waits (ap begins_to_wait c.in-Ok-Waits.field-0-is)).0 in
    let whole = whole-kept old.standing old.waited old.closing old.unread.bytes (ap keeps_line c.requires.held) old.fits in
    let counts : 1 + old.waited ≡ old.waited + 1 = omega arith in
    subst (λ t. FedRan c.args.now c.args.number old c.args.piece.now c.wait_before.new.self false was (record { stage = stage (view base.store) t (tape base.tape); loads = under_way base.loads })) (sym c.wait_before.ensures.text)
    (fed-waits c.args.now c.args.number old c.wait_before.new.self c.args.piece.now (old.waited + 1) was is c.requires.held whole c.sound.ensures c.requires.can_run.in_time.0 c.requires.can_run.clear w (ap view stored) counts
    (λ s left. c.wait_before.ensures.put s left c.args.number) c.wait_before.ensures.closing c.wait_before.ensures.standing)
