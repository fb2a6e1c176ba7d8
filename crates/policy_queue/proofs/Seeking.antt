-- A walk from the front on that seeks the first element to pass a test.
use Rattle.std.proofs.Common.{◌≡◌, ℕ, ◌<◌, Bool, true, false, List, [], ◌∷◌, ◌++◌, length, Option, Some, None, option_map, ap, sym, subst, ◌∙◌, append_assoc, inl, inr, arith}
use Rattle.std.proofs.lemmas.Bool.{cases_eq, cond-false, ne_eqb}
use Rattle.std.proofs.lemmas.List.{append-nil}
use Rattle.std.proofs.lemmas.List.Elements.{All-push}
use Rattle.std.proofs.lemmas.Option.{none-some, same_Some}
use Rattle.std.specs.List.{All}
use Rattle.slab.specs.Slab.{get, ContainsKey}
use Rattle.policy_base.specs.declared.name.CacheRegion.{CacheRegion}
use Rattle.policy_queue.specs.declared.places.Node.{Node}
use Rattle.policy_queue.specs.Indices.{IndicesDiffer, has_index, from_index}
use Rattle.policy_queue.specs.Places.{Nodes, node_of, nodes_of, AreTaken, slots_from}
use Rattle.policy_queue.specs.Queue.{head, tail, IsFirstThat, NonePasses}
use Rattle.policy_queue.proofs.Listed.{has_here, has_later}
use Rattle.policy_queue.proofs.Standing.{held, nodes_at, taken_from, taken_head, from_head, next_slots}

has_from : (x : ℕ) (xs : List ℕ) → head (from_index x xs) ≡ Some x → has_index x xs ≡ true
has_from x [] e = absurd (none-some x e)
has_from x (i ∷ xs) e = elim (cases_eq i x) [
  | inl same ↦ has_here x i xs same
  | inr d ↦ has_later x i xs d ∙ has_from x xs (sym (ap head (cond-false _ _ _ (ne_eqb i x d))) ∙ e)
]

head_tail : (ys : List ℕ) (x : ℕ) → head ys ≡ Some x → ys ≡ x ∷ tail ys
head_tail [] x e = absurd (none-some x e)
head_tail (y ∷ ys) x e = ap (λ i. i ∷ ys) (same_Some y x e)

module _ {T : Type 0} (Test : T → Bool → Type 0) (r : CacheRegion) (s : Nodes T) (xs : List ℕ) where
  -- all nodes before the next one were passed over
  pub record Seeks (next : Option ℕ) : Type 0 where
    pub before : List (Node T)
    pub is : nodes_of r s xs ≡ before ++ nodes_of r s (slots_from next xs)
    pub over : All (λ (n : Node T). Test n.element false) before
    pub first : head (slots_from next xs) ≡ next

  pub seeks-start : (next : Option ℕ) → next ≡ head xs → Seeks next
  seeks-start next e = subst Seeks (sym e) (record {
    before = [];
    is = ap (nodes_of r s) (sym (from_head xs));
    over = λ j d less. absurd (omega arith);
    first = ap head (from_head xs);
  })

  module _ (taken : AreTaken s xs) (x : ℕ) (h : Seeks (Some x)) where
    pub seeks_has : has_index x xs ≡ true
    seeks_has = has_from x xs h.first

    pub seeks_there : ContainsKey s x
    seeks_there = taken_head s (from_index x xs) x (taken_from s x xs taken) h.first

    pub seeks_less : length (tail (from_index x xs)) < length (from_index x xs)
    seeks_less = omega (arith, ap length (head_tail (from_index x xs) x h.first))

    module _ (element : T) (there : option_map (λ (v : ℕ × T). v.1) (get s x) ≡ Some element) where
      v : (v : ℕ × T) × (get s x ≡ Some v)
      v = held s x seeks_there

      same : v.0.1 ≡ element
      same = same_Some v.0.1 element (sym (ap (option_map (λ (u : ℕ × T). u.1)) v.1) ∙ there)

      here : nodes_of r s xs ≡ h.before ++ node_of r x v.0 ∷ nodes_of r s (tail (from_index x xs))
      here = h.is ∙ ap (λ ns. h.before ++ ns) (ap (nodes_of r s) (head_tail (from_index x xs) x h.first) ∙ nodes_at r s x v.0 (tail (from_index x xs)) v.1)

      pub seeks-one : (next : Option ℕ) → Test element false → IndicesDiffer xs → next ≡ head (tail (from_index x xs)) → Seeks next
      seeks-one next fails apart e =
          let rest : slots_from next xs ≡ tail (from_index x xs) = ap (λ o. slots_from o xs) e ∙ next_slots x xs apart in
          record {
            before = h.before ++ node_of r x v.0 ∷ [];
            is = here ∙ sym (append_assoc h.before (node_of r x v.0 ∷ []) (nodes_of r s (tail (from_index x xs)))) ∙ ap (λ ys. (h.before ++ node_of r x v.0 ∷ []) ++ nodes_of r s ys) (sym rest);
            over = All-push (λ (n : Node T). Test n.element false) h.before (node_of r x v.0) h.over (subst (λ e. Test e false) (sym same) fails);
            first = ap head rest ∙ sym e;
          }

      pub seeks-less : (next : Option ℕ) → IndicesDiffer xs → next ≡ head (tail (from_index x xs)) → length (slots_from next xs) < length (from_index x xs)
      seeks-less next apart e = let rest = ap length (ap (λ o. slots_from o xs) e ∙ next_slots x xs apart) in omega (arith, seeks_less)

      pub seeks-found : Test element true → IsFirstThat Test (nodes_of r s xs) element
      seeks-found passes = record {
        before = h.before;
        first = node_of r x v.0;
        behind = nodes_of r s (tail (from_index x xs));
        is = here;
        same = same;
        passes = passes;
        passed_over = record { fails = h.over };
      }

  pub seeks-none : Seeks None → NonePasses Test (nodes_of r s xs)
  seeks-none h = record { fails = subst (λ l. All (λ (n : Node T). Test n.element false) l) (sym (h.is ∙ append-nil h.before)) h.over }
