use Rattle.std.proofs.Common.{refl, sym, ap, ◌∙◌, subst, ◌≡◌, List, map}
use Rattle.audit_model.proofs.Waiting.{left-keeps, left_is, unleft_is}
use Rattle.audit_model.specs.Underway.{KeepsNumbers}
use Rattle.audit_model.specs.Situation.{PendingLoad, without_waiting}
use Rattle.cache_commands.specs.Loads.Keys.{have_their_keys}
use Rattle.cache_commands.proofs.loads.Numbers.{live-mapped, were-sent}
use Rattle.cache_commands.proofs.loads.Keys.{keys-mapped}
use Rattle.cache_commands.proofs.loads.loads.Loads.leave.Goals as goal

pub invariant_of-self : goal.invariant_of-self
invariant_of-self c =
    let old = c.args.self.now in
    let leaves = without_waiting c.args.conn in
    let is : c.leave.new.self ≡ map leaves old.loads = c.leave.ensures ∙ left_is c.args.conn c.in-Some.number old.joined old.loads old.keeps.awaited (sym c.take_waiting.ensures.found ∙ c.in-Some.is) in
    let keeps = subst (KeepsNumbers old.sent old.keys c.take_waiting.new.joined) (sym is) (left-keeps old.sent c.args.conn old.keys old.joined c.take_waiting.new.joined old.loads c.take_waiting.ensures.rest old.keeps) in
    record {
      fewer = old.fewer;
      in_turn = old.in_turn;
      sent_before = were-sent keeps;
      keyed = ap (λ (ps : List PendingLoad). have_their_keys ps old.outgoing.items) is ∙ keys-mapped leaves (λ l. refl) (λ l. refl) old.loads old.outgoing.items old.keyed;
      keeps = keeps;
      live = live-mapped leaves (λ p. refl) old.keys old.loads c.leave.new.self is old.live;
    }

pub returns-in-Some-clause-pending : goal.returns-in-Some-clause-pending
returns-in-Some-clause-pending c =
    let old = c.args.self.now in
    c.leave.ensures ∙ left_is c.args.conn c.in-Some.number old.joined old.loads old.keeps.awaited (sym c.take_waiting.ensures.found ∙ c.in-Some.is)

pub returns-in_default-clause-pending : goal.returns-in_default-clause-pending
returns-in_default-clause-pending c =
    let old = c.args.self.now in
    unleft_is c.args.conn old.joined old.loads old.keeps.awaited (sym c.take_waiting.ensures.found ∙ c.in_default.is)
