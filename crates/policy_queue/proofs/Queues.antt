-- A queue that gets room, and one that a node comes to or leaves.
use Rattle.std.proofs.Common.{◌≡◌, ℕ, ◌+◌, ◌<◌, ◌≤◌, false, [], ◌∷◌, ◌++◌, length, max, Some, None, Result, Ok, Err, is_err, OnOk, refl, sym, ap, ◌∙◌, inl, inr, arith, subst}
use Rattle.std.proofs.lemmas.Bool.{cases_lt, true≢false}
use Rattle.std.proofs.lemmas.Option.{none-some}
use Rattle.std.proofs.lemmas.List.{get_or_past, length_push}
use Rattle.slab.specs.Slab.{get, Updates, slab_len}
use Rattle.policy_base.specs.declared.name.CacheRegion.{CacheRegion}
use Rattle.policy_base.specs.declared.name.NodeId.{NodeId}
use Rattle.policy_queue.specs.Indices.{Indices, has_index, without_index, index_moved_to_back, OnlyGainsPlaces}
use Rattle.policy_queue.specs.Places.{Nodes, node_of, nodes_of, AreTaken, IsQueue}
use Rattle.policy_queue.specs.Queue.{AreNamed}
use Rattle.policy_queue.proofs.Listed.{has_lacked}
use Rattle.policy_queue.proofs.Names.{AreNamed-push, AreNamed-more, AreNamed-remove, AreNamed-moved, LacksSerial-next}
use Rattle.policy_queue.proofs.Standing.{FoundAt, split, front, back, the_node, slots_without, nodes_left, taken_left, nodes_moved, taken_moved, lacks_vacant, nodes_pushed, taken_pushed, length-split}

-- what holds where a call came out well
pub on_ok : {A E : Type 0} (r : Result A E) (P : Type 0) → is_err r ≡ false → OnOk r P → P
on_ok (Ok x) P e h = h
on_ok (Err x) P e h = absurd (true≢false e)

module _ {T : Type 0} (r : CacheRegion) where
  module _ (q q' : Indices) (s s' : Nodes T) (next : ℕ) (gains : OnlyGainsPlaces q q') (kept : s' ≡ record s { capacity = s'.capacity }) where
    len_kept : slab_len s' ≡ slab_len s
    len_kept = ap (λ (t : Nodes T). slab_len t) kept

    pub nodes_kept : nodes_of r s' q'.indices ≡ nodes_of r s q.indices
    nodes_kept = ap (nodes_of r s') gains.same ∙ ap (λ (t : Nodes T). nodes_of r t q.indices) kept

    pub taken_kept : AreTaken s q.indices → AreTaken s' q'.indices
    taken_kept h = subst (AreTaken s') (sym gains.same) (subst (λ (t : Nodes T). AreTaken t q.indices) (sym kept) h)

    pub IsQueue-room : IsQueue r q s next → IsQueue r q' s' next
    IsQueue-room h =
        let bound = gains.bound in
        let seats = h.seats in
        let slots = ap (λ (t : Nodes T). length t.slots) kept in
        record {
          taken = taken_kept h.taken;
          counted = len_kept ∙ h.counted ∙ ap length (sym gains.same);
          named = subst (AreNamed r next) (sym nodes_kept) h.named;
          seats = omega arith;
        }

  -- a key that has a value is one of the slots
  slot_within : (s : Nodes T) (slot : ℕ) (v : ℕ × T) → get s slot ≡ Some v → slot < length s.slots
  slot_within s slot v e = elim (cases_lt slot (length s.slots)) [
    | inl lt ↦ lt
    | inr past ↦ absurd (none-some v (sym (get_or_past s.slots slot None past) ∙ e))
  ]

  -- a node comes to the back
  module _ (q : Indices) (s s' : Nodes T) (slot next : ℕ) (element : T) (h : IsQueue r q s next) (vacant : get s slot ≡ None) (u : Updates s s' slot (Some (next, element))) (count : slab_len s' ≡ slab_len s + 1) (slots : length s'.slots ≤ max (length s.slots) (slab_len s')) (room : slab_len s + 1 ≤ q.bound) where
    pub push_new : has_index slot q.indices ≡ false
    push_new = has_lacked slot q.indices (lacks_vacant s q.indices slot h.taken vacant)

    pub push_bound : slot < q.bound
    push_bound = let within = slot_within s' slot (next, element) u.changed in let seats = h.seats in omega arith

    pub nodes_come : nodes_of r s' (q.indices ++ slot ∷ []) ≡ nodes_of r s q.indices ++ node_of r slot (next, element) ∷ []
    nodes_come = nodes_pushed r s s' slot (next, element) q.indices (lacks_vacant s q.indices slot h.taken vacant) u

    pub IsQueue-pushed : (room' : ℕ) → IsQueue r (record { indices = q.indices ++ slot ∷ []; room = room'; bound = q.bound }) s' (next + 1)
    IsQueue-pushed room' =
        let seats = h.seats in
        let was = h.counted in
        record {
          taken = taken_pushed r s s' slot (next, element) q.indices (lacks_vacant s q.indices slot h.taken vacant) u h.taken;
          counted = omega (arith, length_push q.indices slot);
          named = subst (AreNamed r (next + 1)) (sym nodes_come) (AreNamed-push r (next + 1) (nodes_of r s q.indices) (node_of r slot (next, element)) (AreNamed-more r next (nodes_of r s q.indices) h.named) refl (omega arith) (LacksSerial-next r next (nodes_of r s q.indices) h.named));
          seats = omega arith;
        }

  -- the node of a name leaves, or moves to the back
  module _ (q : Indices) (s : Nodes T) (next : ℕ) (id : NodeId) (h : IsQueue r q s next) (f : FoundAt r s q.indices id) where
    named_split : AreNamed r next (front r s q.indices id f ++ the_node r s q.indices id f ∷ back r s q.indices id f)
    named_split = subst (AreNamed r next) (split r s q.indices id f) h.named

    len_split : length (f.before ++ f.behind) + 1 ≡ length q.indices
    len_split = length-split f.before f.behind id.slot ∙ sym (ap length f.is)

    pub IsQueue-left : (s' : Nodes T) (room' : ℕ) → Updates s s' id.slot None → slab_len s' + 1 ≡ slab_len s → length s'.slots ≡ length s.slots → IsQueue r (record { indices = without_index id.slot q.indices; room = room'; bound = q.bound }) s' next
    IsQueue-left s' room' u count slots =
        let was = h.counted in
        let seats = h.seats in
        let len = len_split in
        let now = ap length (slots_without r s q.indices id f) in
        record {
          taken = taken_left r s q.indices id f h.taken next h.named s' u;
          counted = omega arith;
          named = subst (AreNamed r next) (sym (nodes_left r s q.indices id f h.taken next h.named s' u)) (AreNamed-remove r next _ _ _ named_split);
          seats = omega arith;
        }

    pub IsQueue-moved : IsQueue r (record { indices = index_moved_to_back id.slot q.indices; room = q.room; bound = q.bound }) s next
    IsQueue-moved =
        let was = h.counted in
        let len = len_split in
        let now = ap length (slots_without r s q.indices id f) in
        record {
          taken = taken_moved r s q.indices id f h.taken;
          counted = omega (arith, length_push (without_index id.slot q.indices) id.slot);
          named = subst (AreNamed r next) (sym (nodes_moved r s q.indices id f h.taken)) (AreNamed-moved r next _ _ _ named_split);
          seats = h.seats;
        }
