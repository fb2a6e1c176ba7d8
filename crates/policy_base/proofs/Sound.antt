-- How each change of the cells keeps them sound. The lists of vacant entries are those of `slab`.
use Rattle.std.proofs.Common.{◌≡◌, ◌≢◌, ℕ, ◌+◌, ◌-◌, ◌^◌, ◌<◌, ◌≤◌, true, List, [], ◌∷◌, ◌++◌, map, length, max, get_or, set, Some, None, is_some, count_by, slice_get, sym, ap, ◌∙◌, arith, length-set}
use Rattle.std.proofs.lemmas.List.{map-set, map_push, length-map, length_push, get_or-map, get_or_past}
use Rattle.std.proofs.lemmas.Option.{slice_get_within, slice_get-get_or}
use Rattle.slab.specs.Slab.{Slab, Updates}
use Rattle.slab.specs.declared.Entry.{Entry}
use Rattle.slab.specs.declared.Entry.TheVariants.{Vacant, Occupied}
use Rattle.slab.specs.Entry.{value_of}
use Rattle.slab.proofs.EntryLemmas.{full_at_end, next_within, next_is_vacant, next_is_not_occupied, occupied_at, count-set, IsSound-push, IsSound-fill, IsSound-vacate}
use Rattle.slab.proofs.SlabLemmas.{Updates-set}
use Rattle.policy_base.specs.declared.cells.Cell.{Cell}
use Rattle.policy_base.specs.declared.cells.Cell.TheVariants as cell
use Rattle.policy_base.specs.Cells.{slab_entry_of, IsSoundly}

module _ {A B : Type 0} (cs : List (Cell A B)) (len next : ℕ) (h : IsSoundly cs len next) where
  abbrev pub es : List (Entry (A × B))
  es = map slab_entry_of cs

  longs : length es ≡ length cs
  longs = length-map cs slab_entry_of

  pub full : next ≡ length cs → len ≡ length cs
  full at_end = full_at_end es len next h.sound (at_end ∙ sym longs) ∙ longs

  pub before_end : next ≢ length cs → next < length cs
  before_end before = omega (arith, longs, next_within es len next h.sound (λ e. before (e ∙ longs)))

  pub no_more : len ≤ length cs
  no_more = let total = h.sound.total in omega (arith, longs)

  -- what is read at a place within
  pub read_entry : (k : ℕ) (c : Cell A B) → k < length cs → c ≡ get_or cs k c → slice_get es k ≡ Some (slab_entry_of c)
  read_entry k c within read = go
    where
      at : get_or es k (slab_entry_of c) ≡ slab_entry_of c
      at = get_or-map slab_entry_of cs k c (slab_entry_of c) within ∙ ap slab_entry_of (sym read)

      go : slice_get es k ≡ Some (slab_entry_of c)
      go = slice_get-get_or es k (slab_entry_of c) (omega (arith, longs)) ∙ ap Some at

  pub read_value : (k : ℕ) (c : Cell A B) → k < length cs → c ≡ get_or cs k c → get_or (map value_of es) k None ≡ value_of (slab_entry_of c)
  read_value k c within read = get_or-map value_of es k (slab_entry_of c) None (omega (arith, longs)) ∙ ap value_of (get_or-map slab_entry_of cs k c (slab_entry_of c) within ∙ ap slab_entry_of (sym read))

  pub past : (k : ℕ) → length cs ≤ k → get_or (map value_of es) k None ≡ None
  past k le = get_or_past (map value_of es) k None (omega (arith, longs, length-map es value_of))

  pub next_not_taken : (c : Cell A B) (a : A) (b : B) → next ≢ length cs → c ≡ get_or cs next c → c ≡ cell.Taken a b → ⊥
  next_not_taken c a b before read is = next_is_not_occupied es len next (a, b) h.sound (read_entry next c (before_end before) read ∙ ap (λ x. Some (slab_entry_of x)) is)

  pub next_vacant : get_or (map value_of es) next None ≡ None
  next_vacant = next_is_vacant es len next h.sound

  pub pushed : (a : A) (b : B) → next ≡ length cs → length cs < 2 ^ 32 - 2 → IsSoundly (cs ++ cell.Taken a b ∷ []) (len + 1) (next + 1)
  pushed a b at_end room = record {
    sound = rw (map_push slab_entry_of cs (cell.Taken a b)) (IsSound-push es len next (a, b) h.sound (at_end ∙ sym longs));
    fits = omega (arith, length_push cs (cell.Taken a b));
  }

  -- a new cell comes only where all others are taken
  pub pushed_slots : (a : A) (b : B) (m : ℕ) → next ≡ length cs → length cs < 2 ^ 32 - 2 → length (map value_of (map slab_entry_of (cs ++ cell.Taken a b ∷ []))) ≤ max m (count_by is_some (map value_of (map slab_entry_of (cs ++ cell.Taken a b ∷ []))))
  pushed_slots a b m at_end room =
      let now = (pushed a b at_end room).sound.counted in
      let all = full at_end in
      let more = length-map (map slab_entry_of (cs ++ cell.Taken a b ∷ [])) value_of ∙ length-map (cs ++ cell.Taken a b ∷ []) slab_entry_of ∙ length_push cs (cell.Taken a b) in
      omega (arith, now, all, more)

  pub filled : (c : Cell A B) (after : ℕ) (a : A) (b : B) → next ≢ length cs → c ≡ get_or cs next c → c ≡ cell.Vacant after → IsSoundly (set cs next (cell.Taken a b)) (len + 1) after
  filled c after a b before read is = record {
    sound = rw (map-set slab_entry_of cs next (cell.Taken a b)) (IsSound-fill es len next after (a, b) h.sound (read_entry next c (before_end before) read ∙ ap (λ x. Some (slab_entry_of x)) is));
    fits = omega (arith, h.fits, length-set cs next (cell.Taken a b));
  }

  pub filled_len : (c : Cell A B) (after : ℕ) (a : A) (b : B) → next ≢ length cs → c ≡ get_or cs next c → c ≡ cell.Vacant after → count_by is_some (map value_of (map slab_entry_of (set cs next (cell.Taken a b)))) ≡ count_by is_some (map value_of es) + 1
  filled_len c after a b before read is =
      let found = read_entry next c (before_end before) read ∙ ap (λ x. Some (slab_entry_of x)) is in
      rw (map-set slab_entry_of cs next (cell.Taken a b)) (omega (arith, count-set es next (Vacant after) (Occupied (a, b)) found))

  module _ (k : ℕ) (present : is_some (get_or (map value_of es) k None) ≡ true) where
    taken : (value : A × B) × (slice_get es k ≡ Some (Occupied value))
    taken = occupied_at es k present

    pub taken_within : k < length cs
    taken_within = omega (arith, longs, slice_get_within es k _ taken.1)

    pub not_vacant : (c : Cell A B) (after : ℕ) → c ≡ get_or cs k c → c ≡ cell.Vacant after → ⊥
    not_vacant c after read is =
        let found = read_entry k c taken_within read ∙ ap (λ x. Some (slab_entry_of x)) is in
        let other = taken.1 in
        cc

    pub value_at : (c : Cell A B) (a : A) (b : B) → c ≡ get_or cs k c → c ≡ cell.Taken a b → get_or (map value_of es) k None ≡ Some (a, b)
    value_at c a b read is =
        get_or-map value_of es k (slab_entry_of c) None (omega (arith, longs, taken_within)) ∙ ap value_of (get_or-map slab_entry_of cs k c (slab_entry_of c) taken_within ∙ ap slab_entry_of (sym read ∙ is))

    pub vacated : IsSoundly (set cs k (cell.Vacant next)) (len - 1) k
    vacated = record {
      sound = rw (map-set slab_entry_of cs k (cell.Vacant next)) (IsSound-vacate es len next k taken.0 h.sound taken.1);
      fits = omega (arith, h.fits, length-set cs k (cell.Vacant next));
    }

    pub vacated_len : count_by is_some (map value_of (map slab_entry_of (set cs k (cell.Vacant next)))) + 1 ≡ count_by is_some (map value_of es)
    vacated_len = rw (map-set slab_entry_of cs k (cell.Vacant next)) (omega (arith, count-set es k (Occupied taken.0) (Vacant next) taken.1))

  -- a write of one cell changes what its key finds, and no other
  pub updated : (s t : Slab (A × B)) (k : ℕ) (c : Cell A B) → k < length cs → s.slots ≡ map value_of es → t.slots ≡ map value_of (map slab_entry_of (set cs k c)) → Updates s t k (value_of (slab_entry_of c))
  updated s t k c within was is = Updates-set s t k (value_of (slab_entry_of c)) (omega (arith, longs, ap length was, length-map es value_of)) (is ∙ ap (map value_of) (map-set slab_entry_of cs k c) ∙ map-set value_of es k (slab_entry_of c) ∙ ap (λ xs. set xs k (value_of (slab_entry_of c))) (sym was))
