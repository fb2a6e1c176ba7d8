use Rattle.std.proofs.Common.{◌<◌, zero, cond, drop, get_or, ap, ◌∙◌, add-one, arith, ◌≡◌, ◌==◌, ◌||◌, ℕ, suc, Bool, true, List, [], ◌∷◌, Option, None, length}
use Rattle.std.specs.List.{list_any}
use Rattle.audit_model.specs.Underway.{load_of}
use Rattle.cache_commands.proofs.loads.loads.remove_all.Goals as goal

either : (old : Option ℕ) (b t : Bool) → cond t None (cond b None old) ≡ cond (b || t) None old
either old b t = grind arith

one-more : (xs : List ℕ) (i q : ℕ) (old new : Option ℕ) → i < length xs → new ≡ cond (get_or xs i 0 == q) None old → cond (list_any (λ n. n == q) (drop (suc i) xs)) None new ≡ cond (list_any (λ n. n == q) (drop i xs)) None old
one-more [] i q old new lt is = absurd (omega arith)
one-more (x ∷ xs) zero q old new lt is = ap (λ o. cond (list_any (λ n. n == q) xs) None o) is ∙ either old (x == q) (list_any (λ n. n == q) xs)
one-more (x ∷ xs) (suc i) q old new lt is = one-more xs i q old new (omega arith) is

pub loop-conn-preserved : goal.loop-conn-preserved
loop-conn-preserved c = λ q.
    let i = c.loop-conn.conn-index in
    ap (λ k. cond (list_any (λ n. n == q) (drop k c.args.conns.now)) None (load_of q c.take_waiting.new.joined)) (add-one i)
    ∙ one-more c.args.conns.now i q (load_of q c.loop-conn.joined) (load_of q c.take_waiting.new.joined) c.loop-conn-test.true (c.take_waiting.ensures.rest q) ∙ c.loop-conn.invariant q
