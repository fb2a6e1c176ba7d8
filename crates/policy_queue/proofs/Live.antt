-- Lemmas on lists of named nodes.
use Rattle.std.proofs.Common.{◌≡◌, true, false, List, [], ◌∷◌, ◌++◌, Some, None, refl, ap, ◌∙◌, arith}
use Rattle.std.proofs.lemmas.Bool.{cond-true, cond-false}
use Rattle.policy_base.specs.declared.name.NodeId.{NodeId}
use Rattle.policy_queue.specs.declared.places.Node.{Node}
use Rattle.policy_base.specs.Region.{same_id}
use Rattle.policy_queue.specs.Queue.{find, without_node, from_id}

module _ {T : Type 0} where
  -- no node of the list has this name
  abbrev pub NoneIs : NodeId → List (Node T) → Type 0
  NoneIs id [] = Unit {0}
  NoneIs id (n ∷ rest) = (same_id n.id id ≡ false) × NoneIs id rest

  pub find_none : (id : NodeId) (ns : List (Node T)) → NoneIs id ns → find id ns ≡ None
  find_none id [] h = refl
  find_none id (n ∷ rest) h = cond-false (same_id n.id id) _ _ h.0 ∙ find_none id rest h.1

  pub find_at : (id : NodeId) (front : List (Node T)) (n : Node T) (back : List (Node T)) → NoneIs id front → same_id n.id id ≡ true → find id (front ++ n ∷ back) ≡ Some n
  find_at id [] n back h s = cond-true (same_id n.id id) _ _ s
  find_at id (m ∷ front) n back h s = cond-false (same_id m.id id) _ _ h.0 ∙ find_at id front n back h.1 s

  pub without_at : (id : NodeId) (front : List (Node T)) (n : Node T) (back : List (Node T)) → NoneIs id front → same_id n.id id ≡ true → without_node id (front ++ n ∷ back) ≡ front ++ back
  without_at id [] n back h s = cond-true (same_id n.id id) _ _ s
  without_at id (m ∷ front) n back h s = cond-false (same_id m.id id) _ _ h.0 ∙ ap (λ r. m ∷ r) (without_at id front n back h.1 s)

  pub from_id_at : (id : NodeId) (front : List (Node T)) (n : Node T) (back : List (Node T)) → NoneIs id front → same_id n.id id ≡ true → from_id id (front ++ n ∷ back) ≡ n ∷ back
  from_id_at id [] n back h s = cond-true (same_id n.id id) _ _ s
  from_id_at id (m ∷ front) n back h s = cond-false (same_id m.id id) _ _ h.0 ∙ from_id_at id front n back h.1 s

  -- a name that is not there has nothing behind it
  pub from_none : (id : NodeId) (ns : List (Node T)) → find id ns ≡ None → from_id id ns ≡ []
  from_none id [] e = refl
  from_none id (n ∷ rest) e = grind (arith, from_none id rest)
