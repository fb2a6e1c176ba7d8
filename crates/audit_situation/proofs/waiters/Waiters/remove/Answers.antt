use Rattle.std.proofs.Common.{arith, ◌≡◌, ◌==◌, refl, sym, ap, ◌∙◌, ℕ, false, not, List, [], ◌∷◌, nat_eq}
use Rattle.std.proofs.lemmas.Bool.Decides.{nat_tests}
use Rattle.std.specs.List.{filter, list_any}
use Rattle.indexmap.specs.IndexSet.{remove_key}
use Rattle.audit_situation.proofs.waiters.Waiters.remove.Goals as goal

past_none : (conn : ℕ) (ns : List ℕ) → list_any (nat_eq conn) ns ≡ false → filter (λ n. not (n == conn)) ns ≡ ns
past_none conn [] e = refl
past_none conn (n ∷ ns) e = let next = past_none conn ns in grind (arith, nat_tests, e, next)

removed : (conn : ℕ) (ns : List ℕ) → list_any (nat_eq conn) (remove_key (nat_eq conn) ns) ≡ false → remove_key (nat_eq conn) ns ≡ filter (λ n. not (n == conn)) ns
removed conn [] e = refl
removed conn (n ∷ ns) e = let next = removed conn ns in let whole = past_none conn ns in grind (arith, nat_tests, e, next, whole)

pub returns : goal.returns
returns c =
    let gone : list_any (nat_eq c.args.conn) (remove_key (nat_eq c.args.conn) c.self.inside.conns.keys) ≡ false = ap (list_any (nat_eq c.args.conn)) (sym c.shift_remove.ensures.keys) ∙ c.shift_remove.ensures.updates.1 in
    c.shift_remove.ensures.keys ∙ removed c.args.conn c.self.inside.conns.keys gone ∙ ap (filter (λ n. not (n == c.args.conn))) c.self.view_is
