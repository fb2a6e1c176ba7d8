-- Names of nodes, and walks.
use Rattle.std.proofs.Common.{◌≡◌, ◌≢◌, ℕ, suc, ◌+◌, ◌<◌, List, [], ◌∷◌, ◌++◌, length, map, Some, None, refl, sym, ap, ◌∙◌, inl, inr, arith, subst}
use Rattle.std.proofs.lemmas.Bool.{cases_Bool, and_parts, eqb-true, cond-true, cond-false}
use Rattle.std.proofs.lemmas.List.{append_assoc}
use Rattle.policy_base.specs.declared.name.CacheRegion.{CacheRegion}
use Rattle.policy_base.specs.declared.name.NodeId.{NodeId}
use Rattle.policy_queue.specs.declared.places.Node.{Node}
use Rattle.policy_queue.specs.declared.places.Cursor.TheVariants.{Unstarted}
use Rattle.policy_queue.specs.Queue.{find, without_node, StaysStale, head, cursor_at, cursor_past, to_give, given, walked, LacksSerial, AreNamed, WalksOnce}
use Rattle.policy_base.specs.Region.{same_id}
use Rattle.policy_queue.proofs.Live.{NoneIs, find_none, from_id_at}
use Rattle.policy_base.proofs.Names.{same_id-refl}

module _ {T : Type 0} where
  LacksSerial-remove : (s : ℕ) (front : List (Node T)) (n : Node T) (back : List (Node T)) → LacksSerial s (front ++ n ∷ back) → LacksSerial s (front ++ back)
  LacksSerial-remove s [] n back h = h.1
  LacksSerial-remove s (m ∷ front) n back h = (h.0, LacksSerial-remove s front n back h.1)

  LacksSerial-push : (s : ℕ) (ns : List (Node T)) (n : Node T) → LacksSerial s ns → n.id.serial ≢ s → LacksSerial s (ns ++ n ∷ [])
  LacksSerial-push s [] n h d = (d, tt)
  LacksSerial-push s (m ∷ ns) n h d = (h.0, LacksSerial-push s ns n h.1 d)

  LacksSerial-at : (s : ℕ) (front : List (Node T)) (n : Node T) (back : List (Node T)) → LacksSerial s (front ++ n ∷ back) → n.id.serial ≢ s
  LacksSerial-at s [] n back h = h.0
  LacksSerial-at s (m ∷ front) n back h = LacksSerial-at s front n back h.1

  pub AreNamed-remove : (r : CacheRegion) (x : ℕ) (front : List (Node T)) (n : Node T) (back : List (Node T)) → AreNamed r x (front ++ n ∷ back) → AreNamed r x (front ++ back)
  AreNamed-remove r x [] n back h = h.3
  AreNamed-remove r x (m ∷ front) n back h = (h.0, h.1, LacksSerial-remove m.id.serial front n back h.2, AreNamed-remove r x front n back h.3)

  -- a node that is taken out has a serial that no other has
  pub LacksSerial-others : (r : CacheRegion) (x : ℕ) (front : List (Node T)) (n : Node T) (back : List (Node T)) → AreNamed r x (front ++ n ∷ back) → LacksSerial n.id.serial (front ++ back)
  LacksSerial-others r x [] n back h = h.2
  LacksSerial-others r x (m ∷ front) n back h = ((λ e. LacksSerial-at m.id.serial front n back h.2 (sym e)), LacksSerial-others r x front n back h.3)

  pub AreNamed-at : (r : CacheRegion) (x : ℕ) (front : List (Node T)) (n : Node T) (back : List (Node T)) → AreNamed r x (front ++ n ∷ back) → (n.id.queue ≡ r) × (n.id.serial < x)
  AreNamed-at r x [] n back h = (h.0, h.1)
  AreNamed-at r x (m ∷ front) n back h = AreNamed-at r x front n back h.3

  pub AreNamed-push : (r : CacheRegion) (x : ℕ) (ns : List (Node T)) (n : Node T) → AreNamed r x ns → n.id.queue ≡ r → n.id.serial < x → LacksSerial n.id.serial ns → AreNamed r x (ns ++ n ∷ [])
  AreNamed-push r x [] n h q s l = (q, s, tt, tt)
  AreNamed-push r x (m ∷ ns) n h q s l = (h.0, h.1, LacksSerial-push m.id.serial ns n h.2 (λ e. l.0 (sym e)), AreNamed-push r x ns n h.3 q s l.1)

  -- the next serial is new
  pub LacksSerial-next : (r : CacheRegion) (x : ℕ) (ns : List (Node T)) → AreNamed r x ns → LacksSerial x ns
  LacksSerial-next r x [] h = tt
  LacksSerial-next r x (m ∷ ns) h = ((λ e. let lt = h.1 in absurd (omega arith)), LacksSerial-next r x ns h.3)

  pub AreNamed-more : (r : CacheRegion) (x : ℕ) (ns : List (Node T)) → AreNamed r x ns → AreNamed r (x + 1) ns
  AreNamed-more r x [] h = tt
  AreNamed-more r x (m ∷ ns) h = (h.0, (let lt = h.1 in omega arith), h.2, AreNamed-more r x ns h.3)

  -- a node moved to the back
  pub AreNamed-moved : (r : CacheRegion) (x : ℕ) (front : List (Node T)) (n : Node T) (back : List (Node T)) → AreNamed r x (front ++ n ∷ back) → AreNamed r x ((front ++ back) ++ n ∷ [])
  AreNamed-moved r x front n back h =
      let at = AreNamed-at r x front n back h in
      AreNamed-push r x (front ++ back) n (AreNamed-remove r x front n back h) at.0 at.1 (LacksSerial-others r x front n back h)

  NoneIs-serial : (ns : List (Node T)) (id : NodeId) → LacksSerial id.serial ns → NoneIs id ns
  NoneIs-serial [] id h = tt
  NoneIs-serial (m ∷ ns) id h = (
    elim (cases_Bool (same_id m.id id)) [
      | inl t ↦ absurd (h.0 (eqb-true _ _ (and_parts _ _ t).0))
      | inr f ↦ f
    ],
    NoneIs-serial ns id h.1,
  )

  LacksSerial-front : (s : ℕ) (front : List (Node T)) (back : List (Node T)) → LacksSerial s (front ++ back) → LacksSerial s front
  LacksSerial-front s [] back h = tt
  LacksSerial-front s (m ∷ front) back h = (h.0, LacksSerial-front s front back h.1)

  NoneIs-front : (r : CacheRegion) (x : ℕ) (front : List (Node T)) (n : Node T) (back : List (Node T)) → AreNamed r x (front ++ n ∷ back) → NoneIs n.id front
  NoneIs-front r x front n back h = NoneIs-serial front n.id (LacksSerial-front n.id.serial front back (LacksSerial-others r x front n back h))

  -- what is to be given where the walk comes to the last of the nodes
  left : (r : CacheRegion) (x : ℕ) (front back : List (Node T)) → AreNamed r x (front ++ back) → to_give (cursor_at back) (front ++ back) ≡ back
  left r x front [] h = refl
  left r x front (n ∷ back) h = from_id_at n.id front n back (NoneIs-front r x front n back h) (same_id-refl n.id)

  push_front : (front : List (Node T)) (n : Node T) (back : List (Node T)) → (front ++ n ∷ []) ++ back ≡ front ++ n ∷ back
  push_front front n back = append_assoc front (n ∷ []) back

  rest_given : (r : CacheRegion) (x : ℕ) (front back : List (Node T)) → AreNamed r x (front ++ back) → given (suc (length back)) (cursor_at back) (front ++ back) ≡ map (λ (n : Node T). Some n) back ++ None ∷ []
  rest_given r x front [] h = refl
  rest_given r x front (n ∷ back) h =
      let e = left r x front (n ∷ back) h in
      let f = push_front front n back in
      let more = rest_given r x (front ++ n ∷ []) back (subst-named (sym f) h) in
      ap (λ g. head g ∷ given (suc (length back)) (cursor_past g) (front ++ n ∷ back)) e ∙ ap (λ g. Some n ∷ given (suc (length back)) (cursor_at back) g) (sym f) ∙ ap (λ g. Some n ∷ g) more
    where
      subst-named : {ms ns : List (Node T)} → ns ≡ ms → AreNamed r x ns → AreNamed r x ms
      subst-named {ms} {ns} e h = subst (λ ks. AreNamed r x ks) e h

  rest_walked : (r : CacheRegion) (x : ℕ) (front back : List (Node T)) → AreNamed r x (front ++ back) → walked (suc (length back)) (cursor_at back) (front ++ back) ≡ Unstarted
  rest_walked r x front [] h = refl
  rest_walked r x front (n ∷ back) h =
      let e = left r x front (n ∷ back) h in
      let f = push_front front n back in
      let more = rest_walked r x (front ++ n ∷ []) back (subst-named (sym f) h) in
      ap (λ g. walked (suc (length back)) (cursor_past g) (front ++ n ∷ back)) e ∙ ap (λ g. walked (suc (length back)) (cursor_at back) g) (sym f) ∙ more
    where
      subst-named : {ms ns : List (Node T)} → ns ≡ ms → AreNamed r x ns → AreNamed r x ms
      subst-named {ms} {ns} e h = subst (λ ks. AreNamed r x ks) e h

  -- a name that left is gone
  pub find_gone : (r : CacheRegion) (x : ℕ) (id : NodeId) (ns : List (Node T)) → AreNamed r x ns → find id (without_node id ns) ≡ None
  find_gone r x id [] h = refl
  find_gone r x id (n ∷ rest) h = elim (cases_Bool (same_id n.id id)) [
    | inl s ↦
        let serial : n.id.serial ≡ id.serial = eqb-true _ _ (and_parts _ _ s).0 in
        ap (find id) (cond-true (same_id n.id id) _ _ s) ∙ find_none id rest (NoneIs-serial rest id (subst (λ (k : ℕ). LacksSerial k rest) serial h.2))
    | inr s ↦ ap (find id) (cond-false (same_id n.id id) _ _ s) ∙ cond-false (same_id n.id id) _ _ s ∙ find_gone r x id rest h.3
  ]

  -- a push under another serial does not bring it back
  pub find_pushed : (id : NodeId) (ns : List (Node T)) (new : Node T) → find id ns ≡ None → new.id.serial ≢ id.serial → find id (ns ++ new ∷ []) ≡ None
  find_pushed id [] new e d = elim (cases_Bool (same_id new.id id)) [
    | inl t ↦ absurd (d (eqb-true _ _ (and_parts _ _ t).0))
    | inr f ↦ cond-false (same_id new.id id) _ _ f
  ]
  find_pushed id (n ∷ rest) new e d = grind (arith, find_pushed id rest new)

  pub stays_stale : (r : CacheRegion) (id : NodeId) (x : ℕ) (ns : List (Node T)) → AreNamed r x ns → StaysStale id x ns
  stays_stale r id x ns h = record {
    left = find_gone r x id ns h;
    pushed = λ new lt e same. find_pushed id ns new e (λ f. absurd (omega (arith, f, same, lt)));
  }

  -- a walk gives each node once
  pub walks_once : (r : CacheRegion) (x : ℕ) (nodes : List (Node T)) → AreNamed r x nodes → WalksOnce nodes
  walks_once r x [] h = record { gives = refl; starts_again = refl }
  walks_once r x (n ∷ rest) h =
      let one : List (Node T) = n ∷ [] in
      record { gives = ap (λ g. Some n ∷ g) (rest_given r x one rest h); starts_again = rest_walked r x one rest h }
