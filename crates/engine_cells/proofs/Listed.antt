-- Records of a slab of cells, and what stands in its places.
use Rattle.std.proofs.Common.{◌≡◌, ◌≢◌, refl, ap, sym, ◌∙◌, ℕ, zero, suc, ◌<◌, arith, false, cond, List, [], ◌∷◌, ◌++◌, Option, Some, None, eqb}
use Rattle.std.specs.Prelude.{slice_set}
use Rattle.std.proofs.lemmas.Bool.{eq-eqb, ne_eqb}
use Rattle.engine_reference.specs.declared.data.Record.{Record}
use Rattle.engine_reference.specs.Records.{record_at, without_record, changed_at}
use Rattle.engine_cells.specs.Cells.{cell_at, put_among, records_by_number, HaveOwnNumbers}
use Rattle.engine_cells.proofs.Placed.{AllBelow, AreRising, record_at-put_among, changed-placed_here, changed-placed_there, without-placed_here, without-placed_there, put_among-last, put_among-append, rising-put_among, below-put_among}

module _ {K V : Type 0} where
  pub apart-later : (o : Option (Record K V)) (cells : List (Option (Record K V))) → HaveOwnNumbers (o ∷ cells) → HaveOwnNumbers cells
  apart-later o cells h i j c d e f same = let k : suc i ≡ suc j = h (suc i) (suc j) c d e f same in omega arith

  -- a number that no cell has
  pub record_at-none : (cells : List (Option (Record K V))) (n : ℕ) → HaveOwnNumbers cells → ((i : ℕ) (c : Record K V) → cell_at cells i ≡ Some c → c.number ≡ n → ⊥) → record_at (records_by_number cells) n ≡ None
  record_at-none [] n apart h = refl
  record_at-none (None ∷ cells) n apart h = record_at-none cells n (apart-later None cells apart) (λ i c e same. h (suc i) c e same)
  record_at-none (Some x ∷ cells) n apart h =
      let alone = record_at-none cells x.number (apart-later (Some x) cells apart) (λ i d e same. let k : suc i ≡ zero = apart (suc i) zero d x e refl same in absurd (omega arith)) in
      record_at-put_among x (records_by_number cells) n alone
      ∙ ap (λ b. cond b (Some x) (record_at (records_by_number cells) n)) (ne_eqb x.number n (h zero x refl))
      ∙ record_at-none cells n (apart-later (Some x) cells apart) (λ i c e same. h (suc i) c e same)

  -- the first of cells has a number that no later one has
  pub first-alone : (c : Record K V) (cells : List (Option (Record K V))) → HaveOwnNumbers (Some c ∷ cells) → record_at (records_by_number cells) c.number ≡ None
  first-alone c cells apart = record_at-none cells c.number (apart-later (Some c) cells apart) (λ i d e same. let k : suc i ≡ zero = apart (suc i) zero d c e refl same in absurd (omega arith))

  -- another than the first has another number
  first-other : (x : Record K V) (cells : List (Option (Record K V))) (i : ℕ) (c : Record K V) → HaveOwnNumbers (Some x ∷ cells) → cell_at cells i ≡ Some c → eqb x.number c.number ≡ false
  first-other x cells i c apart there = ne_eqb x.number c.number (λ same. let k : zero ≡ suc i = apart zero (suc i) x c refl there same in absurd (omega arith))

  -- the record of a cell is found by its number
  pub record_at-there : (cells : List (Option (Record K V))) (i : ℕ) (c : Record K V) → HaveOwnNumbers cells → cell_at cells i ≡ Some c → record_at (records_by_number cells) c.number ≡ Some c
  record_at-there [] i c apart there = absurd (cc)
  record_at-there (None ∷ cells) zero c apart there = absurd (cc)
  record_at-there (None ∷ cells) (suc i) c apart there = record_at-there cells i c (apart-later None cells apart) there
  record_at-there (Some x ∷ cells) zero c apart there =
      let same : x ≡ c = cc in
      ap (λ y. record_at (put_among x (records_by_number cells)) y.number) (sym same)
      ∙ record_at-put_among x (records_by_number cells) x.number (first-alone x cells apart)
      ∙ ap (λ b. cond b (Some x) (record_at (records_by_number cells) x.number)) (eq-eqb x.number x.number refl)
      ∙ ap (λ y. Some y) same
  record_at-there (Some x ∷ cells) (suc i) c apart there =
      record_at-put_among x (records_by_number cells) c.number (first-alone x cells apart)
      ∙ ap (λ b. cond b (Some x) (record_at (records_by_number cells) c.number)) (first-other x cells i c apart there)
      ∙ record_at-there cells i c (apart-later (Some x) cells apart) there

  -- a cell is changed
  pub records-set : (cells : List (Option (Record K V))) (i : ℕ) (c d : Record K V) (f : Record K V → Record K V) → ((r : Record K V) → (f r).number ≡ r.number) → HaveOwnNumbers cells → cell_at cells i ≡ Some c → d ≡ f c
      → records_by_number (slice_set cells i (Some d)) ≡ changed_at c.number f (records_by_number cells)
  records-set [] i c d f keeps apart there is = absurd (cc)
  records-set (None ∷ cells) zero c d f keeps apart there is = absurd (cc)
  records-set (None ∷ cells) (suc i) c d f keeps apart there is = records-set cells i c d f keeps (apart-later None cells apart) there is
  records-set (Some x ∷ cells) zero c d f keeps apart there is =
      let same : x ≡ c = cc in
      ap (λ r. put_among r (records_by_number cells)) (is ∙ ap (λ y. f y) (sym same))
      ∙ sym (changed-placed_here x (records_by_number cells) f (keeps x) (first-alone x cells apart))
      ∙ ap (λ y. changed_at y.number f (put_among x (records_by_number cells))) same
  records-set (Some x ∷ cells) (suc i) c d f keeps apart there is =
      ap (λ l. put_among x l) (records-set cells i c d f keeps (apart-later (Some x) cells apart) there is)
      ∙ sym (changed-placed_there x (records_by_number cells) c.number f keeps (first-other x cells i c apart there))

  pub records-rising : (cells : List (Option (Record K V))) → HaveOwnNumbers cells → AreRising (records_by_number cells)
  records-rising [] apart = tt
  records-rising (None ∷ cells) apart = records-rising cells (apart-later None cells apart)
  records-rising (Some x ∷ cells) apart = rising-put_among x (records_by_number cells) (first-alone x cells apart) (records-rising cells (apart-later (Some x) cells apart))

  -- a cell goes
  pub records-remove : (cells : List (Option (Record K V))) (i : ℕ) (c : Record K V) → HaveOwnNumbers cells → cell_at cells i ≡ Some c → records_by_number (slice_set cells i None) ≡ without_record c.number (records_by_number cells)
  records-remove [] i c apart there = absurd (cc)
  records-remove (None ∷ cells) zero c apart there = absurd (cc)
  records-remove (None ∷ cells) (suc i) c apart there = records-remove cells i c (apart-later None cells apart) there
  records-remove (Some x ∷ cells) zero c apart there =
      let same : x ≡ c = cc in
      sym (without-placed_here x (records_by_number cells) (first-alone x cells apart))
      ∙ ap (λ y. without_record y.number (put_among x (records_by_number cells))) same
  records-remove (Some x ∷ cells) (suc i) c apart there =
      ap (λ l. put_among x l) (records-remove cells i c (apart-later (Some x) cells apart) there)
      ∙ sym (without-placed_there x (records_by_number cells) c.number (records-rising cells (apart-later (Some x) cells apart)) (first-other x cells i c apart there))

  -- cells of which each place has the same
  records-none : (cells : List (Option (Record K V))) → ((i : ℕ) → cell_at cells i ≡ None) → records_by_number cells ≡ []
  records-none [] h = refl
  records-none (None ∷ cells) h = records-none cells (λ i. h (suc i))
  records-none (Some x ∷ cells) h = absurd (let e : Some x ≡ None = h zero in cc)

  pub records-same : (old new : List (Option (Record K V))) → ((i : ℕ) → cell_at new i ≡ cell_at old i) → records_by_number new ≡ records_by_number old
  records-same [] new h = records-none new h
  records-same (o ∷ old) [] h = sym (records-none (o ∷ old) (λ i. sym (h i)))
  records-same (None ∷ old) (None ∷ new) h = records-same old new (λ i. h (suc i))
  records-same (None ∷ old) (Some y ∷ new) h = absurd (let e : Some y ≡ None = h zero in cc)
  records-same (Some x ∷ old) (None ∷ new) h = absurd (let e : None ≡ Some x = h zero in cc)
  records-same (Some x ∷ old) (Some y ∷ new) h =
      let same : y ≡ x = (let e : Some y ≡ Some x = h zero in cc) in
      ap (λ c. put_among c (records_by_number new)) same ∙ ap (λ l. put_among x l) (records-same old new (λ i. h (suc i)))

  records-below : (cells : List (Option (Record K V))) (n : ℕ) → ((i : ℕ) (c : Record K V) → cell_at cells i ≡ Some c → c.number < n) → AllBelow n (records_by_number cells)
  records-below [] n h = tt
  records-below (None ∷ cells) n h = records-below cells n (λ i c e. h (suc i) c e)
  records-below (Some x ∷ cells) n h = below-put_among n x (records_by_number cells) (h zero x refl) (records-below cells n (λ i c e. h (suc i) c e))

  -- a cell comes, of a number above all others
  pub records-insert : (old new : List (Option (Record K V))) (i : ℕ) (c : Record K V) → ((j : ℕ) (d : Record K V) → cell_at old j ≡ Some d → d.number < c.number)
      → cell_at old i ≡ None → cell_at new i ≡ Some c → ((j : ℕ) → j ≢ i → cell_at new j ≡ cell_at old j) → records_by_number new ≡ records_by_number old ++ c ∷ []
  records-insert old [] i c below vacant there others = absurd (cc)
  records-insert [] (None ∷ new) zero c below vacant there others = absurd (cc)
  records-insert [] (Some y ∷ new) zero c below vacant there others =
      let same : y ≡ c = cc in
      ap (λ d. put_among d (records_by_number new)) same ∙ ap (λ l. put_among c l) (records-none new (λ j. others (suc j) (λ e. absurd (omega arith))))
  records-insert [] (None ∷ new) (suc i) c below vacant there others = records-insert [] new i c below vacant there (λ j d. others (suc j) (λ e. d (omega arith)))
  records-insert [] (Some y ∷ new) (suc i) c below vacant there others = absurd (let e : Some y ≡ None = others zero (λ e. absurd (omega arith)) in cc)
  records-insert (None ∷ old) (None ∷ new) zero c below vacant there others = absurd (cc)
  records-insert (None ∷ old) (Some y ∷ new) zero c below vacant there others =
      let same : y ≡ c = cc in
      ap (λ d. put_among d (records_by_number new)) same
      ∙ ap (λ l. put_among c l) (records-same old new (λ j. others (suc j) (λ e. absurd (omega arith))))
      ∙ put_among-last c (records_by_number old) (records-below old c.number (λ j d e. below (suc j) d e))
  records-insert (Some x ∷ old) new zero c below vacant there others = absurd (cc)
  records-insert (None ∷ old) (None ∷ new) (suc i) c below vacant there others =
      records-insert old new i c (λ j d e. below (suc j) d e) vacant there (λ j d. others (suc j) (λ e. d (omega arith)))
  records-insert (None ∷ old) (Some y ∷ new) (suc i) c below vacant there others = absurd (let e : Some y ≡ None = others zero (λ e. absurd (omega arith)) in cc)
  records-insert (Some x ∷ old) (None ∷ new) (suc i) c below vacant there others = absurd (let e : None ≡ Some x = others zero (λ e. absurd (omega arith)) in cc)
  records-insert (Some x ∷ old) (Some y ∷ new) (suc i) c below vacant there others =
      let same : y ≡ x = (let e : Some y ≡ Some x = others zero (λ e. absurd (omega arith)) in cc) in
      ap (λ d. put_among d (records_by_number new)) same
      ∙ ap (λ l. put_among x l) (records-insert old new i c (λ j d e. below (suc j) d e) vacant there (λ j d. others (suc j) (λ e. d (omega arith))))
      ∙ put_among-append x (records_by_number old) c (below zero x refl)
