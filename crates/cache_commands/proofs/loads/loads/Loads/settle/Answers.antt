use Rattle.std.proofs.Common.{cond, sym, ap, ◌∙◌, subst, ◌≡◌, ◌==◌, not, ℕ, List, None}
use Rattle.std.specs.List.{list_any}
use Rattle.audit_model.proofs.Waiting.{none-removed, removed-keeps}
use Rattle.audit_model.specs.Underway.{KeepsNumbers, load_of, number_at}
use Rattle.audit_model.specs.Bytewise.{same}
use Rattle.audit_model.specs.Situation.{PendingLoad}
use Rattle.cache_commands.specs.Loads.Keys.{have_their_keys, pending_load}
use Rattle.cache_commands.proofs.loads.Numbers.{live-none, live-removed, were-sent}
use Rattle.cache_commands.proofs.loads.Keys.{keys-filtered}
use Rattle.cache_commands.proofs.loads.loads.Loads.settle.Goals as goal

pub invariant_of-self : goal.invariant_of-self
invariant_of-self c =
    let old = c.args.self.now in
    let rest = c.take.ensures.rest in
    let keeps = subst (KeepsNumbers old.sent old.keys old.joined) (sym rest) (none-removed old.sent c.args.number old.keys old.joined old.loads old.keeps) in
    record {
      fewer = old.fewer;
      in_turn = old.in_turn;
      sent_before = were-sent keeps;
      keyed = ap (λ (ps : List PendingLoad). have_their_keys ps old.outgoing.items) rest ∙ keys-filtered (λ (l : PendingLoad). not (l.number == c.args.number)) old.loads old.outgoing.items old.keyed;
      keeps = keeps;
      live = live-none old.keys c.args.number old.loads c.take.new.self c.take.result c.take.ensures.found c.in_err-load.was rest old.live;
    }

pub invariant_of-self-2 : goal.invariant_of-self-2
invariant_of-self-2 c =
    let old = c.args.self.now in
    let load = pending_load c.in_ok-load.load in
    let found = sym c.in_ok-load.ensures.found in
    let rest = c.take.ensures.rest in
    let less : (q : List ℕ) → number_at q c.remove_key.new.keys ≡ cond (same load.key q) None (number_at q old.keys) = λ q. c.remove_key.ensures q ∙ ap (λ k. cond (same k q) None (number_at q old.keys)) c.as_slice.ensures in
    let fewer : (q : ℕ) → load_of q c.remove_all.new.joined ≡ cond (list_any (λ n. n == q) load.waiting) None (load_of q old.joined) =
    λ q. c.remove_all.ensures q ∙ ap (λ ns. cond (list_any (λ n. n == q) ns) None (load_of q old.joined)) c.as_slice-2.ensures.value
    in
    let keeps = subst (KeepsNumbers old.sent c.remove_key.new.keys c.remove_all.new.joined) (sym rest) (removed-keeps old.sent c.args.number old.keys c.remove_key.new.keys old.joined c.remove_all.new.joined old.loads load found less fewer old.keeps) in
    record {
      fewer = old.fewer;
      in_turn = old.in_turn;
      sent_before = were-sent keeps;
      keyed = ap (λ (ps : List PendingLoad). have_their_keys ps old.outgoing.items) rest ∙ keys-filtered (λ (l : PendingLoad). not (l.number == c.args.number)) old.loads old.outgoing.items old.keyed;
      keeps = keeps;
      live = live-removed old.keys c.remove_key.new.keys old.joined old.sent c.args.number load old.loads c.take.new.self rest found less old.keeps old.live;
    }
