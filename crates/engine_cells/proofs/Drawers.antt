-- How each change of the drawers keeps them sound. The lists of vacant entries are those of `slab`.
use Rattle.std.proofs.Common.{◌≡◌, ◌≢◌, ℕ, ◌+◌, ◌-◌, ◌^◌, ◌<◌, ◌≤◌, true, List, [], ◌∷◌, ◌++◌, map, length, get_or, set, Some, None, is_some, count_by, slice_get, sym, ap, ◌∙◌, arith, length-set}
use Rattle.std.proofs.lemmas.List.{map-set, map_push, length-map, length_push, get_or-map, get_or_past}
use Rattle.std.proofs.lemmas.Option.{slice_get_within, slice_get-get_or}
use Rattle.slab.specs.Slab.{Slab, Updates}
use Rattle.slab.specs.declared.Entry.{Entry}
use Rattle.slab.specs.declared.Entry.TheVariants.{Vacant, Occupied}
use Rattle.slab.specs.Entry.{value_of}
use Rattle.slab.proofs.EntryLemmas.{full_at_end, next_within, next_is_vacant, next_is_not_occupied, occupied_at, count-set, IsSound-push, IsSound-fill, IsSound-vacate, IsSound-rewrite}
use Rattle.slab.proofs.SlabLemmas.{Updates-set}
use Rattle.engine_cells.specs.declared.cell_slab.Drawer.{Drawer}
use Rattle.engine_cells.specs.declared.cell_slab.Drawer.TheVariants as drawer
use Rattle.engine_cells.specs.Drawers.{slab_entry, AreSoundDrawers}

module _ {T : Type 0} (cs : List (Drawer T)) (len next : ℕ) (h : AreSoundDrawers cs len next) where
  abbrev pub es : List (Entry T)
  es = map slab_entry cs

  longs : length es ≡ length cs
  longs = length-map cs slab_entry

  pub full : next ≡ length cs → len ≡ length cs
  full at_end = full_at_end es len next h.sound (at_end ∙ sym longs) ∙ longs

  pub before_end : next ≢ length cs → next < length cs
  before_end before = omega (arith, longs, next_within es len next h.sound (λ e. before (e ∙ longs)))

  pub no_more : len ≤ length cs
  no_more = let total = h.sound.total in omega (arith, longs)

  -- what is read at a place within
  pub read_entry : (k : ℕ) (c : Drawer T) → k < length cs → c ≡ get_or cs k c → slice_get es k ≡ Some (slab_entry c)
  read_entry k c within read = go
    where
      at : get_or es k (slab_entry c) ≡ slab_entry c
      at = get_or-map slab_entry cs k c (slab_entry c) within ∙ ap slab_entry (sym read)

      go : slice_get es k ≡ Some (slab_entry c)
      go = slice_get-get_or es k (slab_entry c) (omega (arith, longs)) ∙ ap Some at

  pub read_value : (k : ℕ) (c : Drawer T) → k < length cs → c ≡ get_or cs k c → get_or (map value_of es) k None ≡ value_of (slab_entry c)
  read_value k c within read = get_or-map value_of es k (slab_entry c) None (omega (arith, longs)) ∙ ap value_of (get_or-map slab_entry cs k c (slab_entry c) within ∙ ap slab_entry (sym read))

  pub past : (k : ℕ) → length cs ≤ k → get_or (map value_of es) k None ≡ None
  past k le = get_or_past (map value_of es) k None (omega (arith, longs, length-map es value_of))

  pub next_not_taken : (c : Drawer T) (v : T) → next ≢ length cs → c ≡ get_or cs next c → c ≡ drawer.Taken v → ⊥
  next_not_taken c v before read is = next_is_not_occupied es len next v h.sound (read_entry next c (before_end before) read ∙ ap (λ x. Some (slab_entry x)) is)

  pub next_vacant : get_or (map value_of es) next None ≡ None
  next_vacant = next_is_vacant es len next h.sound

  pub pushed : (v : T) → next ≡ length cs → length cs < 2 ^ 32 - 1 → AreSoundDrawers (cs ++ drawer.Taken v ∷ []) (len + 1) (next + 1)
  pushed v at_end room = record {
    sound = rw (map_push slab_entry cs (drawer.Taken v)) (IsSound-push es len next v h.sound (at_end ∙ sym longs));
    fits = omega (arith, length_push cs (drawer.Taken v));
  }

  pub filled : (c : Drawer T) (after : ℕ) (v : T) → next ≢ length cs → c ≡ get_or cs next c → c ≡ drawer.Vacant after → AreSoundDrawers (set cs next (drawer.Taken v)) (len + 1) after
  filled c after v before read is = record {
    sound = rw (map-set slab_entry cs next (drawer.Taken v)) (IsSound-fill es len next after v h.sound (read_entry next c (before_end before) read ∙ ap (λ x. Some (slab_entry x)) is));
    fits = omega (arith, h.fits, length-set cs next (drawer.Taken v));
  }

  pub filled_len : (c : Drawer T) (after : ℕ) (v : T) → next ≢ length cs → c ≡ get_or cs next c → c ≡ drawer.Vacant after → count_by is_some (map value_of (map slab_entry (set cs next (drawer.Taken v)))) ≡ count_by is_some (map value_of es) + 1
  filled_len c after v before read is =
      let found = read_entry next c (before_end before) read ∙ ap (λ x. Some (slab_entry x)) is in
      rw (map-set slab_entry cs next (drawer.Taken v)) (omega (arith, count-set es next (Vacant after) (Occupied v) found))

  module _ (k : ℕ) (present : is_some (get_or (map value_of es) k None) ≡ true) where
    taken : (value : T) × (slice_get es k ≡ Some (Occupied value))
    taken = occupied_at es k present

    pub taken_within : k < length cs
    taken_within = omega (arith, longs, slice_get_within es k _ taken.1)

    pub not_vacant : (c : Drawer T) (after : ℕ) → c ≡ get_or cs k c → c ≡ drawer.Vacant after → ⊥
    not_vacant c after read is =
        let found = read_entry k c taken_within read ∙ ap (λ x. Some (slab_entry x)) is in
        let other = taken.1 in
        cc

    pub value_at : (c : Drawer T) (v : T) → c ≡ get_or cs k c → c ≡ drawer.Taken v → get_or (map value_of es) k None ≡ Some v
    value_at c v read is =
        get_or-map value_of es k (slab_entry c) None (omega (arith, longs, taken_within)) ∙ ap value_of (get_or-map slab_entry cs k c (slab_entry c) taken_within ∙ ap slab_entry (sym read ∙ is))

    pub vacated : AreSoundDrawers (set cs k (drawer.Vacant next)) (len - 1) k
    vacated = record {
      sound = rw (map-set slab_entry cs k (drawer.Vacant next)) (IsSound-vacate es len next k taken.0 h.sound taken.1);
      fits = omega (arith, h.fits, length-set cs k (drawer.Vacant next));
    }

    pub vacated_len : count_by is_some (map value_of (map slab_entry (set cs k (drawer.Vacant next)))) + 1 ≡ count_by is_some (map value_of es)
    vacated_len = rw (map-set slab_entry cs k (drawer.Vacant next)) (omega (arith, count-set es k (Occupied taken.0) (Vacant next) taken.1))

    pub rewritten : (v : T) → AreSoundDrawers (set cs k (drawer.Taken v)) len next
    rewritten v = record {
      sound = rw (map-set slab_entry cs k (drawer.Taken v)) (IsSound-rewrite es len next k taken.0 v h.sound taken.1);
      fits = omega (arith, h.fits, length-set cs k (drawer.Taken v));
    }

  -- a write of one cell changes what its key finds, and no other
  pub updated : (s t : Slab T) (k : ℕ) (c : Drawer T) → k < length cs → s.slots ≡ map value_of es → t.slots ≡ map value_of (map slab_entry (set cs k c)) → Updates s t k (value_of (slab_entry c))
  updated s t k c within was is = Updates-set s t k (value_of (slab_entry c)) (omega (arith, longs, ap length was, length-map es value_of)) (is ∙ ap (map value_of) (map-set slab_entry cs k c) ∙ map-set value_of es k (slab_entry c) ∙ ap (λ xs. set xs k (value_of (slab_entry c))) (sym was))
