-- Nodes by their slots: one that is found, that leaves, and that comes to the back.
use Rattle.std.proofs.Common.{◌≡◌, ◌≢◌, ℕ, suc, ◌+◌, true, false, List, [], ◌∷◌, ◌++◌, length, map, Option, Some, None, IfSome, is_some, cond, option_map, refl, sym, ap, ◌∙◌, inl, inr, arith, subst}
use Rattle.std.proofs.lemmas.Bool.{cases_Bool, cases_eq, true≢false, cond-true, cond-false, eq-eqb, ne_eqb}
use Rattle.std.proofs.lemmas.Option.{none-some, same_Some}
use Rattle.std.proofs.lemmas.List.{length-append}
use Rattle.std.specs.Option.{option_to_list}
use Rattle.slab.specs.Slab.{get, ContainsKey, Updates}
use Rattle.policy_base.specs.declared.name.CacheRegion.{CacheRegion}
use Rattle.policy_base.specs.declared.name.NodeId.{NodeId}
use Rattle.policy_base.specs.Region.{same_id}
use Rattle.policy_base.proofs.Names.{same_id-refl, same_id-slot, same_id-equal}
use Rattle.policy_queue.specs.declared.places.Node.{Node}
use Rattle.policy_queue.specs.declared.places.Cursor.{Cursor}
use Rattle.policy_queue.specs.declared.places.Cursor.TheVariants.{Unstarted, At, Done}
use Rattle.policy_queue.specs.Indices.{Lacks, IndicesDiffer, has_index, without_index, from_index, index_moved_to_back}
use Rattle.policy_queue.specs.Places.{Nodes, node_of, with_node, nodes_of, AreTaken, slots_from, cursor_off}
use Rattle.policy_queue.specs.Queue.{Queue, find, without_node, from_id, tail, head, final, cursor_moved, cursor_at, cursor_past, with_node_at_back, is_nonempty, LacksSerial, AreNamed}
use Rattle.policy_queue.proofs.Live.{NoneIs, find_none, find_at, without_at as node_without_at, from_id_at}
use Rattle.policy_queue.proofs.Listed.{split_at, has_at, without_at, from_at}
use Rattle.policy_queue.proofs.Names.{LacksSerial-others}

pub from_has : (x : ℕ) (xs : List ℕ) → has_index x xs ≡ true → from_index x xs ≡ x ∷ tail (from_index x xs)
from_has x xs h =
    let s = split_at x xs h in
    let e : from_index x xs ≡ x ∷ s.back = ap (from_index x) s.is ∙ from_at x s.front s.back s.apart in
    e ∙ ap (λ r. x ∷ r) (sym (ap tail e))

pub from_head : (xs : List ℕ) → slots_from (head xs) xs ≡ xs
from_head [] = refl
from_head (x ∷ xs) = cond-true _ _ _ (eq-eqb x x refl)

pub length-split : (front back : List ℕ) (x : ℕ) → length (front ++ back) + 1 ≡ length (front ++ x ∷ back)
length-split front back x = let a = length-append front back in let b = length-append front (x ∷ back) in omega arith

lacks_from : (i x : ℕ) (xs : List ℕ) → Lacks i xs → Lacks i (from_index x xs)
lacks_from i x [] h = tt
lacks_from i x (j ∷ xs) h = elim (cases_eq j x) [
  | inl e ↦ subst (Lacks i) (sym (cond-true _ _ _ (eq-eqb j x e))) h
  | inr d ↦ subst (Lacks i) (sym (cond-false _ _ _ (ne_eqb j x d))) (lacks_from i x xs h.1)
]

lacks_second : (i y : ℕ) (xs : List ℕ) → Lacks i xs → head (tail xs) ≡ Some y → y ≢ i
lacks_second i y [] h e = absurd (none-some y e)
lacks_second i y (x ∷ []) h e = absurd (none-some y e)
lacks_second i y (x ∷ z ∷ xs) h e = subst (λ w. w ≢ i) (same_Some z y e) h.1.0

lacks_first : (i y : ℕ) (xs : List ℕ) → Lacks i xs → head xs ≡ Some y → y ≢ i
lacks_first i y [] h e = absurd (none-some y e)
lacks_first i y (x ∷ xs) h e = subst (λ w. w ≢ i) (same_Some x y e) h.0

from_first : (y : ℕ) (xs : List ℕ) → head xs ≡ Some y → from_index y xs ≡ xs
from_first y [] e = absurd (none-some y e)
from_first y (x ∷ xs) e = cond-true _ _ _ (eq-eqb x y (same_Some x y e))

-- the walk goes on behind a slot
pub next_from : (x y : ℕ) (xs : List ℕ) → IndicesDiffer xs → head (tail (from_index x xs)) ≡ Some y → from_index y xs ≡ tail (from_index x xs)
next_from x y [] a e = absurd (none-some y e)
next_from x y (i ∷ xs) a e = elim (cases_eq i x) [
  | inl same ↦
      let here : from_index x (i ∷ xs) ≡ i ∷ xs = cond-true _ _ _ (eq-eqb i x same) in
      let first : head xs ≡ Some y = sym (ap (λ r. head (tail r)) here) ∙ e in
      let other : i ≢ y = λ f. lacks_first i y xs a.0 first (sym f) in
      cond-false _ _ _ (ne_eqb i y other) ∙ from_first y xs first ∙ sym (ap tail here)
  | inr differs ↦
      let later : from_index x (i ∷ xs) ≡ from_index x xs = cond-false _ _ _ (ne_eqb i x differs) in
      let second : head (tail (from_index x xs)) ≡ Some y = sym (ap (λ r. head (tail r)) later) ∙ e in
      let other : i ≢ y = λ f. lacks_second i y (from_index x xs) (lacks_from i x xs a.0) second (sym f) in
      cond-false _ _ _ (ne_eqb i y other) ∙ next_from x y xs a.1 second ∙ sym (ap tail later)
]

pub next_slots : (x : ℕ) (xs : List ℕ) → IndicesDiffer xs → slots_from (head (tail (from_index x xs))) xs ≡ tail (from_index x xs)
next_slots x xs a = go (head (tail (from_index x xs))) refl
  where
    nothing : (ys : List ℕ) → head ys ≡ None → [] ≡ ys
    nothing [] e = refl
    nothing (y ∷ ys) e = absurd (none-some y (sym e))

    go : (o : Option ℕ) → head (tail (from_index x xs)) ≡ o → slots_from (head (tail (from_index x xs))) xs ≡ tail (from_index x xs)
    go None e = ap (λ o. slots_from o xs) e ∙ nothing (tail (from_index x xs)) e
    go (Some y) e = ap (λ o. slots_from o xs) e ∙ next_from x y xs a e

pub not_some : {X : Type 0} (o : Option X) → is_some o ≡ false → o ≡ None
not_some None e = refl
not_some (Some x) e = absurd (true≢false e)

module _ {T : Type 0} where
  pub held : (s : Nodes T) (slot : ℕ) → ContainsKey s slot → (v : ℕ × T) × (get s slot ≡ Some v)
  held s slot e = go (get s slot) refl e
    where
      go : (o : Option (ℕ × T)) → get s slot ≡ o → is_some o ≡ true → (v : ℕ × T) × (get s slot ≡ Some v)
      go None f some = absurd (true≢false (sym some))
      go (Some v) f some = (v, f)

  pub taken_front : (s : Nodes T) (xs ys : List ℕ) → AreTaken s (xs ++ ys) → AreTaken s xs
  taken_front s [] ys h = tt
  taken_front s (x ∷ xs) ys h = (h.0, taken_front s xs ys h.1)

  pub taken_back : (s : Nodes T) (xs ys : List ℕ) → AreTaken s (xs ++ ys) → AreTaken s ys
  taken_back s [] ys h = h
  taken_back s (x ∷ xs) ys h = taken_back s xs ys h.1

  pub taken_both : (s : Nodes T) (xs ys : List ℕ) → AreTaken s xs → AreTaken s ys → AreTaken s (xs ++ ys)
  taken_both s [] ys h g = g
  taken_both s (x ∷ xs) ys h g = (h.0, taken_both s xs ys h.1 g)

  pub taken_tail : (s : Nodes T) (xs : List ℕ) → AreTaken s xs → AreTaken s (tail xs)
  taken_tail s [] h = tt
  taken_tail s (x ∷ xs) h = h.1

  pub taken_from : (s : Nodes T) (x : ℕ) (xs : List ℕ) → AreTaken s xs → AreTaken s (from_index x xs)
  taken_from s x [] h = tt
  taken_from s x (i ∷ xs) h = elim (cases_eq i x) [
    | inl e ↦ subst (AreTaken s) (sym (cond-true _ _ _ (eq-eqb i x e))) h
    | inr d ↦ subst (AreTaken s) (sym (cond-false _ _ _ (ne_eqb i x d))) (taken_from s x xs h.1)
  ]

  pub taken_head : (s : Nodes T) (xs : List ℕ) (x : ℕ) → AreTaken s xs → head xs ≡ Some x → ContainsKey s x
  taken_head s [] x h e = absurd (none-some x e)
  taken_head s (y ∷ xs) x h e = ap (λ i. is_some (get s i)) (sym (same_Some y x e)) ∙ h.0

  pub first_there : (s : Nodes T) (xs : List ℕ) (o : Option ℕ) → o ≡ head xs → AreTaken s xs → IfSome o (ContainsKey s)
  first_there s [] o e h = subst (λ p. IfSome p (ContainsKey s)) (sym e) tt
  first_there s (x ∷ xs) o e h = subst (λ p. IfSome p (ContainsKey s)) (sym e) h.0

  pub taken_final : (s : Nodes T) (xs : List ℕ) (x : ℕ) → AreTaken s xs → final xs ≡ Some x → ContainsKey s x
  taken_final s [] x h e = absurd (none-some x e)
  taken_final s (y ∷ []) x h e = ap (λ i. is_some (get s i)) (sym (same_Some y x e)) ∙ h.0
  taken_final s (y ∷ z ∷ xs) x h e = taken_final s (z ∷ xs) x h.1 e

  pub taken_has : (s : Nodes T) (xs : List ℕ) (x : ℕ) → AreTaken s xs → has_index x xs ≡ true → ContainsKey s x
  taken_has s xs x h has = taken_head s (from_index x xs) x (taken_from s x xs h) (ap head (from_has x xs has))

  -- a slot that has no node is not listed
  pub lacks_vacant : (s : Nodes T) (xs : List ℕ) (slot : ℕ) → AreTaken s xs → get s slot ≡ None → Lacks slot xs
  lacks_vacant s [] slot h e = tt
  lacks_vacant s (x ∷ xs) slot h e = ((λ f. true≢false (sym h.0 ∙ ap (λ i. is_some (get s i)) f ∙ ap is_some e)), lacks_vacant s xs slot h.1 e)

  pub taken_other : (s s' : Nodes T) (slot : ℕ) (o : Option (ℕ × T)) (xs : List ℕ) → Updates s s' slot o → Lacks slot xs → AreTaken s xs → AreTaken s' xs
  taken_other s s' slot o [] u l h = tt
  taken_other s s' slot o (x ∷ xs) u l h = (ap is_some (u.others x l.0) ∙ h.0, taken_other s s' slot o xs u l.1 h.1)

  module _ (r : CacheRegion) where
    pub nodes_at : (s : Nodes T) (x : ℕ) (v : ℕ × T) (xs : List ℕ) → get s x ≡ Some v → nodes_of r s (x ∷ xs) ≡ node_of r x v ∷ nodes_of r s xs
    nodes_at s x v xs e = ap (λ o. with_node r x o (nodes_of r s xs)) e

    with_node-append : (x : ℕ) (o : Option (ℕ × T)) (ns ms : List (Node T)) → with_node r x o (ns ++ ms) ≡ with_node r x o ns ++ ms
    with_node-append x None ns ms = refl
    with_node-append x (Some v) ns ms = refl

    pub nodes_of-append : (s : Nodes T) (xs ys : List ℕ) → nodes_of r s (xs ++ ys) ≡ nodes_of r s xs ++ nodes_of r s ys
    nodes_of-append s [] ys = refl
    nodes_of-append s (x ∷ xs) ys = ap (with_node r x (get s x)) (nodes_of-append s xs ys) ∙ with_node-append x (get s x) (nodes_of r s xs) (nodes_of r s ys)

    pub nodes_of-other : (s s' : Nodes T) (slot : ℕ) (o : Option (ℕ × T)) (xs : List ℕ) → Updates s s' slot o → Lacks slot xs → nodes_of r s' xs ≡ nodes_of r s xs
    nodes_of-other s s' slot o [] u h = refl
    nodes_of-other s s' slot o (x ∷ xs) u h = ap (λ v. with_node r x v (nodes_of r s' xs)) (u.others x h.0) ∙ ap (with_node r x (get s x)) (nodes_of-other s s' slot o xs u h.1)

    pub length-nodes_of : (s : Nodes T) (xs : List ℕ) → AreTaken s xs → length (nodes_of r s xs) ≡ length xs
    length-nodes_of s [] h = refl
    length-nodes_of s (x ∷ xs) h = let v = held s x h.0 in ap length (nodes_at s x v.0 xs v.1) ∙ ap suc (length-nodes_of s xs h.1)

    pub slots_of-nodes : (s : Nodes T) (xs : List ℕ) → AreTaken s xs → map (λ (n : Node T). n.id.slot) (nodes_of r s xs) ≡ xs
    slots_of-nodes s [] h = refl
    slots_of-nodes s (x ∷ xs) h = let v = held s x h.0 in ap (map (λ (n : Node T). n.id.slot)) (nodes_at s x v.0 xs v.1) ∙ ap (λ r. x ∷ r) (slots_of-nodes s xs h.1)

    -- the first node, and the last one
    pub head_node : (s : Nodes T) (xs : List ℕ) (x : ℕ) → head xs ≡ Some x → AreTaken s xs → head (nodes_of r s xs) ≡ option_map (node_of r x) (get s x)
    head_node s [] x e h = absurd (none-some x e)
    head_node s (y ∷ xs) x e h =
        let v = held s y h.0 in
        let same = same_Some y x e in
        ap head (nodes_at s y v.0 xs v.1) ∙ sym (ap (option_map (node_of r y)) v.1) ∙ ap (λ i. option_map (node_of r i) (get s i)) same

    pub final_node : (s : Nodes T) (xs : List ℕ) (x : ℕ) → final xs ≡ Some x → AreTaken s xs → final (nodes_of r s xs) ≡ option_map (node_of r x) (get s x)
    final_node s [] x e h = absurd (none-some x e)
    final_node s (y ∷ []) x e h =
        let v = held s y h.0 in
        let same = same_Some y x e in
        ap final (nodes_at s y v.0 [] v.1) ∙ sym (ap (option_map (node_of r y)) v.1) ∙ ap (λ i. option_map (node_of r i) (get s i)) same
    final_node s (y ∷ z ∷ xs) x e h =
        let v = held s y h.0 in
        let w = held s z h.1.0 in
        let here : nodes_of r s (y ∷ z ∷ xs) ≡ node_of r y v.0 ∷ node_of r z w.0 ∷ nodes_of r s xs = nodes_at s y v.0 (z ∷ xs) v.1 ∙ ap (λ ns. node_of r y v.0 ∷ ns) (nodes_at s z w.0 xs w.1) in
        ap final here ∙ ap final (sym (nodes_at s z w.0 xs w.1)) ∙ final_node s (z ∷ xs) x e h.1

    element_mapped : (x : ℕ) (o : Option (ℕ × T)) → option_map (λ (n : Node T). n.element) (option_map (node_of r x) o) ≡ option_map (λ (v : ℕ × T). v.1) o
    element_mapped x None = refl
    element_mapped x (Some v) = refl

    id_mapped : (x : ℕ) (o : Option (ℕ × T)) → option_map (λ (n : Node T). n.id) (option_map (node_of r x) o) ≡ option_map (λ (v : ℕ × T). (node_of r x v).id) o
    id_mapped x None = refl
    id_mapped x (Some v) = refl

    pub head_element : (s : Nodes T) (xs : List ℕ) (x : ℕ) → head xs ≡ Some x → AreTaken s xs → option_map (λ (n : Node T). n.element) (head (nodes_of r s xs)) ≡ option_map (λ (v : ℕ × T). v.1) (get s x)
    head_element s xs x e h = ap (option_map (λ (n : Node T). n.element)) (head_node s xs x e h) ∙ element_mapped x (get s x)

    pub head_id : (s : Nodes T) (xs : List ℕ) (x : ℕ) → head xs ≡ Some x → AreTaken s xs → option_map (λ (n : Node T). n.id) (head (nodes_of r s xs)) ≡ option_map (λ (v : ℕ × T). (node_of r x v).id) (get s x)
    head_id s xs x e h = ap (option_map (λ (n : Node T). n.id)) (head_node s xs x e h) ∙ id_mapped x (get s x)

    pub final_element : (s : Nodes T) (xs : List ℕ) (x : ℕ) → final xs ≡ Some x → AreTaken s xs → option_map (λ (n : Node T). n.element) (final (nodes_of r s xs)) ≡ option_map (λ (v : ℕ × T). v.1) (get s x)
    final_element s xs x e h = ap (option_map (λ (n : Node T). n.element)) (final_node s xs x e h) ∙ element_mapped x (get s x)

    pub nodes_none : (s : Nodes T) (xs : List ℕ) → head xs ≡ None → nodes_of r s xs ≡ []
    nodes_none s [] e = refl
    nodes_none s (x ∷ xs) e = absurd (none-some x (sym e))

    pub final_none : (s : Nodes T) (xs : List ℕ) → final xs ≡ None → nodes_of r s xs ≡ []
    final_none s [] e = refl
    final_none s (x ∷ []) e = absurd (none-some x (sym e))
    final_none s (x ∷ y ∷ xs) e = absurd (final_some y xs e)
      where
        final_some : (y : ℕ) (xs : List ℕ) → final (y ∷ xs) ≡ None → ⊥
        final_some y [] e = none-some y (sym e)
        final_some y (z ∷ xs) e = final_some z xs e

    -- a cursor at the first of these nodes needs no more than its slot
    pub cursor_head : (s : Nodes T) (xs : List ℕ) → AreTaken s xs → cursor_at (nodes_of r s (option_to_list (head xs))) ≡ cursor_at (nodes_of r s xs)
    cursor_head s [] h = refl
    cursor_head s (x ∷ xs) h =
        let v = held s x h.0 in
        ap cursor_at (nodes_at s x v.0 [] v.1) ∙ sym (ap cursor_at (nodes_at s x v.0 xs v.1))

    pub cursor_past-slot : (s : Nodes T) (xs : List ℕ) (x : ℕ) → AreTaken s xs → has_index x xs ≡ true → cursor_past (nodes_of r s (from_index x xs)) ≡ cursor_at (nodes_of r s (tail (from_index x xs)))
    cursor_past-slot s xs x h has =
        let v = held s x (taken_has s xs x h has) in
        ap (λ r'. cursor_past (nodes_of r s r')) (from_has x xs has) ∙ ap cursor_past (nodes_at s x v.0 (tail (from_index x xs)) v.1)

    -- a slot that is not listed is in no node's name
    pub NoneIs-lacks : (s : Nodes T) (id : NodeId) (xs : List ℕ) → Lacks id.slot xs → NoneIs id (nodes_of r s xs)
    NoneIs-lacks s id [] h = tt
    NoneIs-lacks s id (x ∷ xs) h = go (get s x) (NoneIs-lacks s id xs h.1)
      where
        go : (o : Option (ℕ × T)) → NoneIs id (nodes_of r s xs) → NoneIs id (with_node r x o (nodes_of r s xs))
        go None more = more
        go (Some v) more = (elim (cases_Bool (same_id (node_of r x v).id id)) [ inl t ↦ absurd (h.0 (same_id-slot (node_of r x v).id id t)) | inr f ↦ f ], more)

    -- nor is a name whose slot has another node
    NoneIs-unlike : (s : Nodes T) (id : NodeId) (xs : List ℕ) → ((v : ℕ × T) → get s id.slot ≡ Some v → same_id (node_of r id.slot v).id id ≡ false) → NoneIs id (nodes_of r s xs)
    NoneIs-unlike s id [] h = tt
    NoneIs-unlike s id (x ∷ xs) h = go (get s x) refl (NoneIs-unlike s id xs h)
      where
        go : (o : Option (ℕ × T)) → get s x ≡ o → NoneIs id (nodes_of r s xs) → NoneIs id (with_node r x o (nodes_of r s xs))
        go None e more = more
        go (Some v) e more = (
          elim (cases_Bool (same_id (node_of r x v).id id)) [
            | inl t ↦
                let slot : x ≡ id.slot = same_id-slot (node_of r x v).id id t in
                absurd (true≢false (sym t ∙ ap (λ i. same_id (node_of r i v).id id) slot ∙ h v (ap (get s) (sym slot) ∙ e)))
            | inr f ↦ f
          ],
          more,
        )

    pub stale_lacked : (s : Nodes T) (id : NodeId) (xs : List ℕ) → Lacks id.slot xs → find id (nodes_of r s xs) ≡ None
    stale_lacked s id xs h = find_none id _ (NoneIs-lacks s id xs h)

    pub stale_other : (s : Nodes T) (id : NodeId) (xs : List ℕ) (v : ℕ × T) → get s id.slot ≡ Some v → same_id (node_of r id.slot v).id id ≡ false → find id (nodes_of r s xs) ≡ None
    stale_other s id xs v e differs = find_none id _ (NoneIs-unlike s id xs (λ w f. ap (λ x. same_id (node_of r id.slot x).id id) (same_Some w v (sym f ∙ e)) ∙ differs))

    -- a slot whose serial no node has is not listed
    pub lacks_serial : (s : Nodes T) (xs : List ℕ) (slot : ℕ) (v : ℕ × T) → AreTaken s xs → get s slot ≡ Some v → LacksSerial v.0 (nodes_of r s xs) → Lacks slot xs
    lacks_serial s [] slot v h e l = tt
    lacks_serial s (x ∷ xs) slot v h e l =
        let w = held s x h.0 in
        let m = subst (LacksSerial v.0) (nodes_at s x w.0 xs w.1) l in
        ((λ f. m.0 (ap (λ (u : ℕ × T). u.0) (same_Some w.0 v (sym w.1 ∙ ap (get s) f ∙ e)))), lacks_serial s xs slot v h.1 e m.1)

    pub slots_apart : (s : Nodes T) (next : ℕ) (xs : List ℕ) → AreTaken s xs → AreNamed r next (nodes_of r s xs) → IndicesDiffer xs
    slots_apart s next [] h n = tt
    slots_apart s next (x ∷ xs) h n =
        let v = held s x h.0 in
        let m = subst (AreNamed r next) (nodes_at s x v.0 xs v.1) n in
        (lacks_serial s xs x v.0 h.1 v.1 m.2, slots_apart s next xs h.1 m.3)

    -- where the node of a name stands
    pub record FoundAt (s : Nodes T) (xs : List ℕ) (id : NodeId) : Type 0 where
      pub before : List ℕ
      pub behind : List ℕ
      pub is : xs ≡ before ++ id.slot ∷ behind
      pub apart : Lacks id.slot before
      pub value : ℕ × T
      pub there : get s id.slot ≡ Some value
      pub same : (node_of r id.slot value).id ≡ id

    pub found_at : (s : Nodes T) (xs : List ℕ) (id : NodeId) → AreTaken s xs → is_some (find id (nodes_of r s xs)) ≡ true → FoundAt s xs id
    found_at s [] id h some = absurd (true≢false (sym some))
    found_at s (x ∷ xs) id h some =
        let v = held s x h.0 in
        let e = nodes_at s x v.0 xs v.1 in
        elim (cases_Bool (same_id (node_of r x v.0).id id)) [
          | inl hit ↦
              let same : (node_of r x v.0).id ≡ id = same_id-equal _ id hit in
              let slot : x ≡ id.slot = ap (λ (i : NodeId). i.slot) same in
              record { before = []; behind = xs; is = ap (λ i. i ∷ xs) slot; apart = tt; value = v.0; there = ap (get s) (sym slot) ∙ v.1; same = ap (λ i. (node_of r i v.0).id) (sym slot) ∙ same }
          | inr miss ↦
              let rest = found_at s xs id h.1 (sym (ap is_some (ap (find id) e ∙ cond-false _ _ _ miss)) ∙ some) in
              let differs : x ≢ id.slot = λ f.
              let w : v.0 ≡ rest.value = same_Some v.0 rest.value (sym v.1 ∙ ap (get s) f ∙ rest.there) in
              true≢false (sym (same_id-refl id) ∙ ap (λ i. same_id i id) (sym rest.same) ∙ ap (λ u. same_id (node_of r id.slot u).id id) (sym w) ∙ ap (λ i. same_id (node_of r i v.0).id id) (sym f) ∙ miss) in
              record { before = x ∷ rest.before; behind = rest.behind; is = ap (λ r'. x ∷ r') rest.is; apart = (differs, rest.apart); value = rest.value; there = rest.there; same = rest.same }
        ]

    module _ (s : Nodes T) (xs : List ℕ) (id : NodeId) (f : FoundAt s xs id) where
      abbrev pub front : List (Node T)
      front = nodes_of r s f.before

      abbrev pub back : List (Node T)
      back = nodes_of r s f.behind

      abbrev pub the_node : Node T
      the_node = record { id = id; element = f.value.1 }

      node_same : node_of r id.slot f.value ≡ the_node
      node_same = ap (λ (i : NodeId). (let n : Node T = record { id = i; element = f.value.1 } in n)) f.same

      pub split : nodes_of r s xs ≡ front ++ the_node ∷ back
      split = ap (nodes_of r s) f.is ∙ nodes_of-append s f.before (id.slot ∷ f.behind) ∙ ap (λ ns. front ++ ns) (nodes_at s id.slot f.value f.behind f.there ∙ ap (λ n. n ∷ back) node_same)

      none_before : NoneIs id front
      none_before = NoneIs-lacks s id f.before f.apart

      pub has_found : has_index id.slot xs ≡ true
      has_found = ap (has_index id.slot) f.is ∙ has_at id.slot f.before f.behind

      pub found : find id (nodes_of r s xs) ≡ Some the_node
      found = ap (find id) split ∙ find_at id front the_node back none_before (same_id-refl id)

      pub found-without : without_node id (nodes_of r s xs) ≡ front ++ back
      found-without = ap (without_node id) split ∙ node_without_at id front the_node back none_before (same_id-refl id)

      pub found-from : from_id id (nodes_of r s xs) ≡ the_node ∷ back
      found-from = ap (from_id id) split ∙ from_id_at id front the_node back none_before (same_id-refl id)

      pub found-behind : tail (from_id id (nodes_of r s xs)) ≡ back
      found-behind = ap tail found-from

      pub found-moved : with_node_at_back id (nodes_of r s xs) ≡ (front ++ back) ++ the_node ∷ []
      found-moved = ap (λ ns. ns ++ option_to_list (find id (nodes_of r s xs))) found-without ∙ ap (λ o. (front ++ back) ++ option_to_list o) found

      pub slots_without : without_index id.slot xs ≡ f.before ++ f.behind
      slots_without = ap (without_index id.slot) f.is ∙ without_at id.slot f.before f.behind f.apart

      pub slots_from-here : from_index id.slot xs ≡ id.slot ∷ f.behind
      slots_from-here = ap (from_index id.slot) f.is ∙ from_at id.slot f.before f.behind f.apart

      pub slots_behind : tail (from_index id.slot xs) ≡ f.behind
      slots_behind = ap tail slots_from-here

      pub nodes_from-here : nodes_of r s (from_index id.slot xs) ≡ from_id id (nodes_of r s xs)
      nodes_from-here = ap (nodes_of r s) slots_from-here ∙ nodes_at s id.slot f.value f.behind f.there ∙ ap (λ n. n ∷ back) node_same ∙ sym found-from

      pub found_there : ContainsKey s id.slot
      found_there = ap is_some f.there

      module _ (taken : AreTaken s xs) where
        all_taken : AreTaken s (f.before ++ id.slot ∷ f.behind)
        all_taken = subst (AreTaken s) f.is taken

        pub taken_behind : AreTaken s f.behind
        taken_behind = (taken_back s f.before (id.slot ∷ f.behind) all_taken).1

        pub taken_others : AreTaken s (f.before ++ f.behind)
        taken_others = taken_both s f.before f.behind (taken_front s f.before (id.slot ∷ f.behind) all_taken) taken_behind

        -- the node moved to the back
        pub nodes_moved : nodes_of r s (index_moved_to_back id.slot xs) ≡ (front ++ back) ++ the_node ∷ []
        nodes_moved =
            nodes_of-append s (without_index id.slot xs) (id.slot ∷ []) ∙ ap (λ ys. nodes_of r s ys ++ nodes_of r s (id.slot ∷ [])) slots_without
            ∙ ap (λ ns. ns ++ nodes_of r s (id.slot ∷ [])) (nodes_of-append s f.before f.behind)
            ∙ ap (λ ns. (front ++ back) ++ ns) (nodes_at s id.slot f.value [] f.there ∙ ap (λ n. n ∷ []) node_same)

        pub taken_moved : AreTaken s (index_moved_to_back id.slot xs)
        taken_moved = taken_both s (without_index id.slot xs) (id.slot ∷ []) (subst (AreTaken s) (sym slots_without) taken_others) (found_there, tt)

        module _ (next : ℕ) (named : AreNamed r next (nodes_of r s xs)) (s' : Nodes T) (u : Updates s s' id.slot None) where
          lacks_others : Lacks id.slot (f.before ++ f.behind)
          lacks_others =
              let serial = LacksSerial-others r next front the_node back (subst (AreNamed r next) split named) in
              let own : id.serial ≡ f.value.0 = sym (ap (λ (i : NodeId). i.serial) f.same) in
              lacks_serial s (f.before ++ f.behind) id.slot f.value taken_others f.there (subst (λ (k : ℕ). LacksSerial k (nodes_of r s (f.before ++ f.behind))) own (subst (LacksSerial id.serial) (sym (nodes_of-append s f.before f.behind)) serial))

          -- the node left
          pub nodes_left : nodes_of r s' (without_index id.slot xs) ≡ front ++ back
          nodes_left = ap (nodes_of r s') slots_without ∙ nodes_of-other s s' id.slot None (f.before ++ f.behind) u lacks_others ∙ nodes_of-append s f.before f.behind

          pub taken_left : AreTaken s' (without_index id.slot xs)
          taken_left = subst (AreTaken s') (sym slots_without) (taken_other s s' id.slot None (f.before ++ f.behind) u lacks_others taken_others)

    -- a name is that of a node where its slot is listed and has the node
    pub holds_is : (s : Nodes T) (xs : List ℕ) (id i : NodeId) → AreTaken s xs → has_index id.slot xs ≡ true → option_map (λ (v : ℕ × T). (node_of r id.slot v).id) (get s id.slot) ≡ Some i → same_id i id ≡ is_some (find id (nodes_of r s xs))
    holds_is s xs id i h has e =
        let v = held s id.slot (taken_has s xs id.slot h has) in
        let named : (node_of r id.slot v.0).id ≡ i = same_Some _ i (sym (ap (option_map (λ (u : ℕ × T). (node_of r id.slot u).id)) v.1) ∙ e) in
        let sp = split_at id.slot xs has in
        elim (cases_Bool (same_id i id)) [
          | inl hit ↦
              let f : FoundAt s xs id = record { before = sp.front; behind = sp.back; is = sp.is; apart = sp.apart; value = v.0; there = v.1; same = named ∙ same_id-equal i id hit } in
              hit ∙ sym (ap is_some (found s xs id f))
          | inr miss ↦ miss ∙ sym (ap is_some (stale_other s id xs v.0 v.1 (ap (λ j. same_id j id) named ∙ miss)))
        ]

    -- a cursor at the first of these slots, which has the node of this name
    pub cursor_slot : (s : Nodes T) (ys : List ℕ) (x : ℕ) (i : NodeId) → head ys ≡ Some x → AreTaken s ys → option_map (λ (v : ℕ × T). (node_of r x v).id) (get s x) ≡ Some i → cursor_at (nodes_of r s ys) ≡ At i
    cursor_slot s [] x i e h named = absurd (none-some x e)
    cursor_slot s (y ∷ ys) x i e h named =
        let v = held s y h.0 in
        let same = same_Some y x e in
        let own : (node_of r y v.0).id ≡ i = same_Some _ i (sym (ap (option_map (λ (u : ℕ × T). (node_of r y u).id)) v.1) ∙ ap (λ z. option_map (λ (u : ℕ × T). (node_of r z u).id) (get s z)) same ∙ named) in
        ap cursor_at (nodes_at s y v.0 ys v.1) ∙ ap At own

    nonempty_slot : (s : Nodes T) (ys : List ℕ) (x : ℕ) → head ys ≡ Some x → AreTaken s ys → is_nonempty (nodes_of r s ys) ≡ true
    nonempty_slot s [] x e h = absurd (none-some x e)
    nonempty_slot s (y ∷ ys) x e h = let v = held s y h.0 in ap is_nonempty (nodes_at s y v.0 ys v.1)

    -- a cursor leaves its node for the next one, or for where it goes behind the last one
    module _ (s : Nodes T) (xs : List ℕ) (id at : NodeId) (last : Cursor) (f : FoundAt s xs id) (same : same_id at id ≡ true) where
      pub off_next : (x : ℕ) (i : NodeId) → AreTaken s xs → head (tail (from_index id.slot xs)) ≡ Some x → option_map (λ (v : ℕ × T). (node_of r x v).id) (get s x) ≡ Some i → At i ≡ cursor_off (At at) id last (tail (from_id id (nodes_of r s xs)))
      off_next x i taken e named =
          let first : head f.behind ≡ Some x = ap head (sym (slots_behind s xs id f)) ∙ e in
          let rest = taken_behind s xs id f taken in
          sym (ap (cursor_off (At at) id last) (found-behind s xs id f) ∙ cond-true _ _ _ same ∙ cond-true _ _ _ (nonempty_slot s f.behind x first rest) ∙ cursor_slot s f.behind x i first rest named)

      pub off_last : head (tail (from_index id.slot xs)) ≡ None → last ≡ cursor_off (At at) id last (tail (from_id id (nodes_of r s xs)))
      off_last e =
          let none = nodes_none s f.behind (ap head (sym (slots_behind s xs id f)) ∙ e) in
          sym (ap (cursor_off (At at) id last) (found-behind s xs id f ∙ none) ∙ cond-true _ _ _ same)

    -- a new node came to the back
    pub nodes_pushed : (s s' : Nodes T) (slot : ℕ) (v : ℕ × T) (xs : List ℕ) → Lacks slot xs → Updates s s' slot (Some v) → nodes_of r s' (xs ++ slot ∷ []) ≡ nodes_of r s xs ++ node_of r slot v ∷ []
    nodes_pushed s s' slot v xs apart u =
        nodes_of-append s' xs (slot ∷ []) ∙ ap (λ ns. ns ++ nodes_of r s' (slot ∷ [])) (nodes_of-other s s' slot (Some v) xs u apart)
        ∙ ap (λ ns. nodes_of r s xs ++ ns) (nodes_at s' slot v [] u.changed)

    pub taken_pushed : (s s' : Nodes T) (slot : ℕ) (v : ℕ × T) (xs : List ℕ) → Lacks slot xs → Updates s s' slot (Some v) → AreTaken s xs → AreTaken s' (xs ++ slot ∷ [])
    taken_pushed s s' slot v xs apart u h = taken_both s' xs (slot ∷ []) (taken_other s s' slot (Some v) xs u apart h) (ap is_some u.changed, tt)

abbrev pub at_cursor : {T : Type 0} → List (Node T) → CacheRegion → ℕ → ℕ → Cursor → Queue T
at_cursor ns r next room cursor = record { region = r; nodes = ns; cursor = cursor; next_serial = next; room = room }

-- where the cursor goes as a node leaves
pub off_leaving : {T : Type 0} (cursor : Cursor) (id : NodeId) (behind : List (Node T)) → cursor_off cursor id Done behind ≡ cursor_moved cursor id behind
off_leaving Unstarted id behind = refl
off_leaving (At at) id [] = refl
off_leaving (At at) id (n ∷ behind) = refl
off_leaving Done id behind = refl

pub off_moving : {T : Type 0} (cursor : Cursor) (id : NodeId) (behind : List (Node T)) → cursor_off cursor id cursor behind ≡ cond (is_nonempty behind) (cursor_moved cursor id behind) cursor
off_moving Unstarted id [] = refl
off_moving Unstarted id (n ∷ behind) = refl
off_moving (At at) id [] = elim (cases_Bool (same_id at id)) [ inl y ↦ cond-true _ _ _ y | inr n ↦ cond-false _ _ _ n ]
off_moving (At at) id (n ∷ behind) = refl
off_moving Done id [] = refl
off_moving Done id (n ∷ behind) = refl
