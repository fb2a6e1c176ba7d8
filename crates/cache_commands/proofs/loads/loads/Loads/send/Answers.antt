use Rattle.std.proofs.Common.{cond, refl, sym, ap, ◌∙◌, subst, arith, ◌≡◌, ℕ, ◌+◌, ◌∷◌, [], List, Some, false, is_some, length}
use Rattle.std.proofs.lemmas.Bool.{eq-eqb}
use Rattle.std.proofs.lemmas.List.{length-append}
use Rattle.audit_model.proofs.Waiting.{joins, more-joined, sent}
use Rattle.audit_model.specs.Underway.{KeepsNumbers, load_of, number_at}
use Rattle.audit_model.specs.Bytewise.{same}
use Rattle.audit_model.specs.Situation.{PendingLoad}
use Rattle.cache_commands.specs.Loads.Numbers.{are_below}
use Rattle.cache_commands.proofs.loads.Numbers.{live-sent, newest, numbered, were-sent}
use Rattle.cache_commands.proofs.loads.Keys.{send-keyed, send-turn}
use Rattle.cache_commands.proofs.loads.loads.Loads.send.Goals as goal

pub add_keyed-requires-clause-newest : goal.add_keyed-requires-clause-newest
add_keyed-requires-clause-newest c =
    let old = c.args.self.now in
    ap (λ (l : PendingLoad). are_below l.number old.loads) c.in_ok-load.ensures ∙ newest old.sent old.keys old.joined old.loads (old.sent + 1) (omega arith) old.keeps

pub add_keyed-requires-clause-free : goal.add_keyed-requires-clause-free
add_keyed-requires-clause-free c =
    let old = c.args.self.now in
    numbered old.keys c.args.key.now old.loads old.keeps.keyed old.live ∙ c.requires

pub invariant_of-self-2 : goal.invariant_of-self-2
invariant_of-self-2 c =
    let old = c.args.self.now in
    let number = old.sent + 1 in
    let load : PendingLoad = record { number = number; key = c.args.key.now; waiting = c.args.conn ∷ [] } in
    let after = c.put_waiting.new.joined in
    let waits = c.in_ok-put_waiting.ensures.put in
    let none = numbered old.keys c.args.key.now old.loads old.keeps.keyed old.live ∙ c.requires in
    let alone : is_some (load_of c.args.conn old.joined) ≡ false = ap is_some (sym c.load_of.ensures) ∙ sym c.is_some.ensures ∙ c.if-is_some.false in
    let is : c.add_keyed.new.loads ≡ load ∷ old.loads = c.in_default.ensures.added ∙ ap (λ l. l ∷ old.loads) c.in_ok-load.ensures in
    let puts : (q : List ℕ) → number_at q c.add_keyed.new.keys ≡ cond (same c.args.key.now q) (Some number) (number_at q old.keys) =
    λ q. c.in_default.ensures.put q ∙ ap (λ (l : PendingLoad). cond (same c.args.key.now q) (Some l.number) (number_at q old.keys)) c.in_ok-load.ensures
    in
    let own : load_of c.args.conn after ≡ Some number = waits c.args.conn ∙ ap (λ b. cond b (Some number) (load_of c.args.conn old.joined)) (eq-eqb c.args.conn c.args.conn refl) in
    let before = more-joined old.sent old.keys old.joined after old.loads (joins c.args.conn number old.joined after alone waits) old.keeps in
    let keeps = subst (KeepsNumbers number c.add_keyed.new.keys after) (sym is)
    (sent old.sent old.keys c.add_keyed.new.keys c.args.key.now number (omega arith) (ap is_some none) puts old.keeps.past c.args.conn after old.loads own before) in
    let put = rw c.try_reserve.ensures.items at c.push_within.ensures.items in
    let one_more = ap length put ∙ length-append old.outgoing.items _ in
    record {
      fewer = omega (arith, old.fewer, one_more);
      in_turn = send-turn old.namespace old.sent number old.outgoing.items c.push_within.new.elements.items _ _ (omega arith) put refl refl old.fewer old.in_turn;
      sent_before = were-sent keeps;
      keyed =
          send-keyed old.namespace old.sent load old.loads c.add_keyed.new.loads old.outgoing.items c.push_within.new.elements.items _ _ is put old.fewer old.in_turn old.sent_before (omega arith) (omega arith)
          (sym (c.from_vec-copy.ensures ∙ c.in_ok-from_slice.ensures.items)) old.keyed;
      keeps = keeps;
      live = live-sent old.keys c.add_keyed.new.keys c.args.key.now load old.loads c.add_keyed.new.loads is puts old.live;
    }
