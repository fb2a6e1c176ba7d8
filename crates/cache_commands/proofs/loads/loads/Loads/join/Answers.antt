use Rattle.std.proofs.Common.{refl, sym, ap, ◌∙◌, subst, ◌≡◌, List, false, is_some}
use Rattle.audit_model.proofs.Waiting.{joined-keeps, joined_is}
use Rattle.audit_model.specs.Underway.{KeepsNumbers, load_of}
use Rattle.audit_model.specs.Situation.{PendingLoad}
use Rattle.cache_commands.specs.Loads.Keys.{have_their_keys}
use Rattle.cache_commands.proofs.loads.Numbers.{changed-number, with_one, live-mapped, numbered, were-sent}
use Rattle.cache_commands.proofs.loads.Keys.{joined-keys}
use Rattle.cache_commands.proofs.loads.loads.Loads.join.Goals as goal

pub returns-in_default-clause-found : goal.returns-in_default-clause-found
returns-in_default-clause-found c =
    let old = c.args.self.now in
    ap is_some (sym c.in_default.is ∙ c.number_at.ensures ∙ numbered old.keys c.args.key.now old.loads old.keeps.keyed old.live)

pub invariant_of-self-in_default-join : goal.invariant_of-self-in_default-join
invariant_of-self-in_default-join c =
    let old = c.args.self.now in
    let free : is_some (load_of c.args.conn old.joined) ≡ false = ap is_some (sym c.load_of.ensures) ∙ sym c.is_some.ensures ∙ c.if-is_some.false in
    let joined = c.in_default-join.ensures.joined in
    let is = joined ∙ joined_is old.keys c.args.key.now c.in-Some.number c.args.conn old.loads old.keeps.keyed (sym c.number_at.ensures ∙ c.in-Some.is) in
    let keeps = subst (KeepsNumbers old.sent old.keys c.put_waiting.new.joined) (sym joined)
    (joined-keeps old.sent c.in-Some.number c.args.conn old.keys old.joined c.put_waiting.new.joined old.loads free c.in_ok-put_waiting.ensures.put old.keeps) in
    record {
      fewer = old.fewer;
      in_turn = old.in_turn;
      sent_before = were-sent keeps;
      keyed = ap (λ (ps : List PendingLoad). have_their_keys ps old.outgoing.items) is ∙ joined-keys c.args.conn c.args.key.now old.loads old.outgoing.items old.keyed;
      keeps = keeps;
      live = live-mapped _ (changed-number c.in-Some.number (with_one c.args.conn) (λ p. refl)) old.keys old.loads c.join.new.self joined old.live;
    }

pub returns-clause-found : goal.returns-clause-found
returns-clause-found c =
    let old = c.args.self.now in
    ap is_some (sym c.in-Some.is ∙ c.number_at.ensures ∙ numbered old.keys c.args.key.now old.loads old.keeps.keyed old.live)

pub returns-clause-pending : goal.returns-clause-pending
returns-clause-pending c =
    let old = c.args.self.now in
    c.in_default-join.ensures.joined ∙ joined_is old.keys c.args.key.now c.in-Some.number c.args.conn old.loads old.keeps.keyed (sym c.number_at.ensures ∙ c.in-Some.is)
