use Rattle.std.proofs.Common.{◌≡◌, ◌∙◌, ap, arith, false, inl, length, refl, subst, suc}
use Rattle.std.proofs.lemmas.Result.{err_from_is_err_and}
use Rattle.audit_model.specs.declared.event.Event.TheVariants as event
use Rattle.audit_model.specs.declared.input.Input.TheVariants as input
use Rattle.audit_laws.specs.declared.receipts.output.Output.TheVariants.{Done, Opened}
use Rattle.cache_spaces.specs.Calls.{ServesEvent}
use Rattle.cache_spaces.proofs.Reaching.{refused-input, serves-performs, settled-performs}
use Rattle.cache_spaces.proofs.Placing.{at-map, refuses-map}
use Rattle.cache_spaces.proofs.service.Core.perform.Goals as goal

pub returns-in_ok-conn-in-Open-clause-performed : goal.returns-in_ok-conn-in-Open-clause-performed
returns-in_ok-conn-in-Open-clause-performed g c =
    let n = c.in-Open.namespace in
    let conn = c.in_ok-conn-in-Open.conn in
    let e = c.in_ok-conn-in-Open.ensures.taken in
    rw c.in-Open.is (at-map _ _ c.args.self.now c.open.new.self n e.1 (λ was is f.
    let count : conn.number ≡ suc (length was.closings) = omega (arith, f.1) in
    serves-performs g.T.Tape.view (input.Open n) was is (Opened conn) false
    (λ steps held. ap (λ m. Opened (record { namespace = m; number = conn.number })) e.0 ∙ ap (λ m. Opened (record { namespace = n; number = m })) count)
    (subst (λ m. ServesEvent g.T.Tape.view was is (event.Open m) false) count f.0)))

pub returns-in_err-conn-in-Open-clause-refused : goal.returns-in_err-conn-in-Open-clause-refused
returns-in_err-conn-in-Open-clause-refused g c =
    let p = err_from_is_err_and c.from_residual.result c.from_residual.ensures.1 in
    rw (p.1, p.2, c.in-Open.is) (refuses-map c.args.self.now c.in-Open.namespace _ (λ was f. refused-input (input.Open c.in-Open.namespace) _ was (inl f)) c.in_err-conn-in-Open.ensures.refused)

pub returns-in_ok-close-in-Close-clause-performed : goal.returns-in_ok-close-in-Close-clause-performed
returns-in_ok-close-in-Close-clause-performed g c =
    let conn = c.in-Close.conn in
    rw c.in-Close.is (at-map _ _ c.args.self.now c.close.new.self conn.namespace c.in_ok-close-in-Close.ensures.taken
    (λ was is f. serves-performs g.T.Tape.view (input.Close conn) was is Done false (λ steps held. refl) f))

pub returns-in_err-close-in-Close-clause-refused : goal.returns-in_err-close-in-Close-clause-refused
returns-in_err-close-in-Close-clause-refused g c =
    let p = err_from_is_err_and c.from_residual-in_err-close-in-Close.result c.from_residual-in_err-close-in-Close.ensures.1 in
    rw (p.1, p.2, c.in-Close.is) (refuses-map c.args.self.now c.in-Close.conn.namespace _ (λ was f. refused-input (input.Close c.in-Close.conn) _ was f) c.in_err-close-in-Close.ensures.refused)

pub returns-in-Feed-clause-performed : goal.returns-in-Feed-clause-performed
returns-in-Feed-clause-performed g c = rw c.in-Feed.is (rw c.as_slice.ensures at c.step_feed.ensures.performed)

pub returns-in-Feed-clause-refused : goal.returns-in-Feed-clause-refused
returns-in-Feed-clause-refused g c = rw c.in-Feed.is (rw c.as_slice.ensures at c.step_feed.ensures.refused)

pub returns-in_ok-give_up-in-GiveUp-clause-performed : goal.returns-in_ok-give_up-in-GiveUp-clause-performed
returns-in_ok-give_up-in-GiveUp-clause-performed g c =
    let load = c.in-GiveUp.load in
    rw c.in-GiveUp.is (at-map _ _ c.args.self.now c.give_up.new.self load.namespace c.in_ok-give_up-in-GiveUp.ensures.taken
    (λ was is f. settled-performs g.T.Tape.view (input.GiveUp load c.in-GiveUp.moment) was is Done (λ steps. refl) f))

pub returns-in_err-give_up-in-GiveUp-clause-refused : goal.returns-in_err-give_up-in-GiveUp-clause-refused
returns-in_err-give_up-in-GiveUp-clause-refused g c =
    let i = input.GiveUp c.in-GiveUp.load c.in-GiveUp.moment in
    let p = err_from_is_err_and c.from_residual-in_err-give_up-in-GiveUp.result c.from_residual-in_err-give_up-in-GiveUp.ensures.1 in
    rw (p.1, p.2, c.in-GiveUp.is) (refuses-map c.args.self.now c.in-GiveUp.load.namespace _ (λ was f. refused-input i _ was f) c.in_err-give_up-in-GiveUp.ensures.refused)
