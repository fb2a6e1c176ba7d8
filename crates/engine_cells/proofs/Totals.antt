-- Running totals: a sum over the records is a sum over the cells, and changes with one cell.
use Rattle.std.proofs.Common.{◌≡◌, ◌≢◌, refl, ap, sym, subst, ◌∙◌, ℕ, zero, suc, ◌+◌, ◌-◌, ◌*◌, ◌^◌, ◌<◌, ◌≤◌, length, arith, inl, inr, is_some, Bool, true, false, cond, List, [], ◌∷◌, Option, Some, None}
use Rattle.std.specs.Prelude.{nat_lt, sum_by, count_by, slice_set, max, unwrap_or}
use Rattle.std.proofs.lemmas.List.Sums.{sum_by-cons}
use Rattle.engine_reference.specs.declared.data.Entry.{Entry}
use Rattle.engine_reference.specs.declared.data.Record.{Record}
use Rattle.engine_reference.specs.Records.{held_entries, held_weight, weight_at, admitted_weight, admitted_number}
use Rattle.engine_cells.specs.declared.tally.Tally.{Tally}
use Rattle.engine_cells.specs.Cells.{cell_at, put_among, records_by_number, AreListed, has_counts}
use Rattle.slab.specs.Slab.{Slab, slab_len}
use Rattle.policy_queue.specs.Indices.{Indices, has_index, OnlyGainsPlaces}
use Rattle.engine_cells.specs.Fitting.{HasPlacesFor, StepsOut, ComesLast}
use Rattle.engine_cells.specs.Tallying.{held_part, admitted_part, sum_over, IsLightly, IsTallied}
use Rattle.engine_cells.proofs.Changes.{Loses, Gets, was, place_of}
use Rattle.engine_cells.proofs.Counting.{gets-set}
use Rattle.std.proofs.lemmas.Bool.{cond_both, cases_Bool}

-- what is known of totals where there are fewer than 2^32 records
pub record IsFitting (t : Tally) : Type 0 where
  pub held : t.held + 2 ^ 32 ≤ 2 ^ 64
  pub weight : t.weight + 2 ^ 32 ≤ 2 ^ 64
  pub number : t.number + 2 ^ 32 ≤ 2 ^ 64

one-or-none : (b : Bool) → cond b 0 1 + cond b 1 0 ≡ 1
one-or-none true = refl
one-or-none false = refl

module _ {K V : Type 0} where
  pub held-sum : (rs : List (Record K V)) → held_weight rs ≡ sum_by held_part rs
  held-sum [] = refl
  held-sum (r ∷ rs) =
      elim (cases_Bool r.is_held) [
        | inl is ↦ ap (λ b. sum_by (λ x. x.weight) (cond b (r.entry ∷ held_entries rs) (held_entries rs))) is ∙ sum_by-cons (λ x. x.weight) r.entry (held_entries rs) ∙ ap (λ n. r.entry.weight + n) (held-sum rs) ∙ sym (sum_by-cons held_part r rs ∙ ap (λ b. cond b r.entry.weight 0 + sum_by held_part rs) is)
        | inr is ↦ ap (λ b. sum_by (λ x. x.weight) (cond b (r.entry ∷ held_entries rs) (held_entries rs))) is ∙ (held-sum rs) ∙ (let z : sum_by held_part rs ≡ 0 + sum_by held_part rs = omega arith in z) ∙ sym (sum_by-cons held_part r rs ∙ ap (λ b. cond b r.entry.weight 0 + sum_by held_part rs) is)
      ]

  sum-put_among : (f : Record K V → ℕ) (r : Record K V) (xs : List (Record K V)) → sum_by f (put_among r xs) ≡ f r + sum_by f xs
  sum-put_among f r [] = sum_by-cons f r []
  sum-put_among f r (x ∷ xs) =
      elim (cases_Bool (nat_lt r.number x.number)) [
        | inl e ↦ rw e (sum_by-cons f r (x ∷ xs))
        | inr e ↦ let later = sum-put_among f r xs in rw e (let a = sum_by-cons f x (put_among r xs) in let b = sum_by-cons f x xs in omega arith)
      ]

  -- in whatever order
  pub sum_over-is : (f : Record K V → ℕ) (cells : List (Option (Record K V))) → sum_by f (records_by_number cells) ≡ sum_over f cells
  sum_over-is f [] = refl
  sum_over-is f (None ∷ cells) = sum_over-is f cells
  sum_over-is f (Some c ∷ cells) = sum-put_among f c (records_by_number cells) ∙ ap (λ n. f c + n) (sum_over-is f cells)

  -- one cell changes
  pub sum_over-set : (f : Record K V → ℕ) (cells : List (Option (Record K V))) (i : ℕ) (c d : Record K V) → cell_at cells i ≡ Some c → sum_over f (slice_set cells i (Some d)) + f c ≡ sum_over f cells + f d
  sum_over-set f [] i c d there = absurd (cc)
  sum_over-set f (None ∷ cells) zero c d there = absurd (cc)
  sum_over-set f (Some x ∷ cells) zero c d there = let is : x ≡ c = cc in let same : f x ≡ f c = ap (λ y. f y) is in omega arith
  sum_over-set f (None ∷ cells) (suc i) c d there = sum_over-set f cells i c d there
  sum_over-set f (Some x ∷ cells) (suc i) c d there = let later : sum_over f (slice_set cells i (Some d)) + f c ≡ sum_over f cells + f d = sum_over-set f cells i c d there in omega arith

  -- one goes
  pub sum_over-remove : (f : Record K V → ℕ) (cells : List (Option (Record K V))) (i : ℕ) (c : Record K V) → cell_at cells i ≡ Some c → sum_over f (slice_set cells i None) + f c ≡ sum_over f cells
  sum_over-remove f [] i c there = absurd (cc)
  sum_over-remove f (None ∷ cells) zero c there = absurd (cc)
  sum_over-remove f (Some x ∷ cells) zero c there = let is : x ≡ c = cc in let same : f x ≡ f c = ap (λ y. f y) is in omega arith
  sum_over-remove f (None ∷ cells) (suc i) c there = sum_over-remove f cells i c there
  sum_over-remove f (Some x ∷ cells) (suc i) c there = let later : sum_over f (slice_set cells i None) + f c ≡ sum_over f cells = sum_over-remove f cells i c there in omega arith

  sum_over-none : (f : Record K V → ℕ) (cells : List (Option (Record K V))) → ((i : ℕ) → cell_at cells i ≡ None) → sum_over f cells ≡ 0
  sum_over-none f [] h = refl
  sum_over-none f (None ∷ cells) h = sum_over-none f cells (λ i. h (suc i))
  sum_over-none f (Some x ∷ cells) h = absurd (let e : Some x ≡ None = h zero in cc)

  sum_over-same : (f : Record K V → ℕ) (old new : List (Option (Record K V))) → ((i : ℕ) → cell_at new i ≡ cell_at old i) → sum_over f new ≡ sum_over f old
  sum_over-same f [] new h = sum_over-none f new h
  sum_over-same f (o ∷ old) [] h = sym (sum_over-none f (o ∷ old) (λ i. sym (h i)))
  sum_over-same f (None ∷ old) (None ∷ new) h = sum_over-same f old new (λ i. h (suc i))
  sum_over-same f (None ∷ old) (Some y ∷ new) h = absurd (let e : Some y ≡ None = h zero in cc)
  sum_over-same f (Some x ∷ old) (None ∷ new) h = absurd (let e : None ≡ Some x = h zero in cc)
  sum_over-same f (Some x ∷ old) (Some y ∷ new) h =
      let same : y ≡ x = (let e : Some y ≡ Some x = h zero in cc) in
      ap (λ c. f c + sum_over f new) same ∙ ap (λ n. f x + n) (sum_over-same f old new (λ i. h (suc i)))

  -- a cell comes
  sum_over-insert : (f : Record K V → ℕ) (old new : List (Option (Record K V))) (i : ℕ) (c : Record K V) → cell_at old i ≡ None → cell_at new i ≡ Some c → ((j : ℕ) → j ≢ i → cell_at new j ≡ cell_at old j) → sum_over f new ≡ sum_over f old + f c
  sum_over-insert f old [] i c vacant there others = absurd (cc)
  sum_over-insert f [] (None ∷ new) zero c vacant there others = absurd (cc)
  sum_over-insert f [] (Some y ∷ new) zero c vacant there others =
      let same : f y ≡ f c = (let is : y ≡ c = cc in ap (λ x. f x) is) in
      let rest : sum_over f new ≡ 0 = sum_over-none f new (λ j. others (suc j) (λ e. absurd (omega arith))) in omega arith
  sum_over-insert f [] (None ∷ new) (suc i) c vacant there others = sum_over-insert f [] new i c vacant there (λ j d. others (suc j) (λ e. d (omega arith)))
  sum_over-insert f [] (Some y ∷ new) (suc i) c vacant there others = absurd (let e : Some y ≡ None = others zero (λ e. absurd (omega arith)) in cc)
  sum_over-insert f (None ∷ old) (None ∷ new) zero c vacant there others = absurd (cc)
  sum_over-insert f (None ∷ old) (Some y ∷ new) zero c vacant there others =
      let same : f y ≡ f c = (let is : y ≡ c = cc in ap (λ x. f x) is) in
      let rest : sum_over f new ≡ sum_over f old = sum_over-same f old new (λ j. others (suc j) (λ e. absurd (omega arith))) in omega arith
  sum_over-insert f (Some x ∷ old) new zero c vacant there others = absurd (cc)
  sum_over-insert f (None ∷ old) (None ∷ new) (suc i) c vacant there others = sum_over-insert f old new i c vacant there (λ j d. others (suc j) (λ e. d (omega arith)))
  sum_over-insert f (None ∷ old) (Some y ∷ new) (suc i) c vacant there others = absurd (let e : Some y ≡ None = others zero (λ e. absurd (omega arith)) in cc)
  sum_over-insert f (Some x ∷ old) (None ∷ new) (suc i) c vacant there others = absurd (let e : None ≡ Some x = others zero (λ e. absurd (omega arith)) in cc)
  sum_over-insert f (Some x ∷ old) (Some y ∷ new) (suc i) c vacant there others =
      let same : f y ≡ f x = (let is : y ≡ x = (let e : Some y ≡ Some x = others zero (λ e. absurd (omega arith)) in cc) in ap (λ z. f z) is) in
      let rest : sum_over f new ≡ sum_over f old + f c = sum_over-insert f old new i c vacant there (λ j d. others (suc j) (λ e. d (omega arith))) in omega arith

  -- a cell's part is within the sum
  pub part-within : (f : Record K V → ℕ) (cells : List (Option (Record K V))) (i : ℕ) (c : Record K V) → cell_at cells i ≡ Some c → f c ≤ sum_over f cells
  part-within f cells i c there = let e = sum_over-remove f cells i c there in omega (arith, e)

  abbrev none_of : Option (Record K V)
  none_of = None

  -- a sum of parts that are small
  sum_over-below : (f : Record K V → ℕ) (most : ℕ) (cells : List (Option (Record K V))) → ((i : ℕ) (c : Record K V) → cell_at cells i ≡ Some c → f c ≤ most) → sum_over f cells ≤ most * count_by is_some cells
  sum_over-below f most [] h = omega arith
  sum_over-below f most (None ∷ cells) h =
      let rest = sum_over-below f most cells (λ i. h (suc i)) in
      let many = sum_by-cons (λ p. cond (is_some p) 1 0) none_of cells in
      let same : count_by is_some (none_of ∷ cells) ≡ count_by is_some cells = omega (arith, many) in
      subst (λ n. sum_over f cells ≤ most * n) (sym same) rest
  sum_over-below f most (Some x ∷ cells) h =
      let rest = sum_over-below f most cells (λ i. h (suc i)) in
      let first = h zero x refl in
      let many = sum_by-cons (λ p. cond (is_some p) 1 0) (Some x) cells in
      let same : count_by is_some (Some x ∷ cells) ≡ 1 + count_by is_some cells = many in
      subst (λ n. f x + sum_over f cells ≤ most * n) (sym same) (omega (arith, rest, first))

  pub tally-fits : (cells : List (Option (Record K V))) (t : Tally) → IsTallied cells t → count_by is_some cells < 2 ^ 32 → IsFitting t
  tally-fits cells t h few =
      let held : sum_over held_part cells ≤ 4294967295 * count_by is_some cells = sum_over-below held_part 4294967295 cells (λ i c there. (cond_both c.is_held _ _ (λ z. z ≤ 4294967295) (λ _. omega (arith, (h.light i c there).entry)) (λ _. omega arith))) in
      let weight : sum_over weight_at cells ≤ 4294967295 * count_by is_some cells = sum_over-below weight_at 4294967295 cells (λ i c there. let l = (h.light i c there).counted in omega (arith, l)) in
      let number : sum_over admitted_part cells ≤ 1 * count_by is_some cells = sum_over-below admitted_part 1 cells (λ i c there. one (is_some c.counts)) in
      record { held = omega (arith, held, h.held); weight = omega (arith, weight, h.weight); number = omega (arith, number, h.number) }
    where
      one : (b : Bool) → cond b 1 0 ≤ 1
      one true = omega arith
      one false = omega arith

  -- the same totals where a cell's parts stay, other ones where they change
  pub tally-set : (cells : List (Option (Record K V))) (i : ℕ) (c d : Record K V) (t u : Tally) → cell_at cells i ≡ Some c → IsLightly d → IsTallied cells t
      → u.held + held_part c ≡ t.held + held_part d → u.weight + weight_at c ≡ t.weight + weight_at d → u.number + admitted_part c ≡ t.number + admitted_part d
      → IsTallied (slice_set cells i (Some d)) u
  tally-set cells i c d t u there light h held weight number =
      let gets = gets-set cells i c d there in
      let a = sum_over-set held_part cells i c d there in
      let b = sum_over-set weight_at cells i c d there in
      let e = sum_over-set admitted_part cells i c d there in
      record {
        held = omega (arith, a, held, h.held);
        weight = omega (arith, b, weight, h.weight);
        number = omega (arith, e, number, h.number);
        light = λ j x at. elim (place_of cells (slice_set cells i (Some d)) i j d x gets at) [
          | inl p ↦ subst (λ (y : Record K V). IsLightly y) (sym p.1) light
          | inr f ↦ h.light j x f
        ];
      }

  -- a record comes that is held and not admitted
  pub tally-came : (old new : List (Option (Record K V))) (i : ℕ) (d : Record K V) (t u : Tally) → cell_at old i ≡ None → Gets old new i d → d.is_held ≡ true → d.counts ≡ None → d.entry.weight < 2 ^ 32 → IsTallied old t
      → u ≡ record t { held = t.held - 0 + d.entry.weight } → IsTallied new u
  tally-came old new i d t u vacant gets held uncounted light h is =
      let a = sum_over-insert held_part old new i d vacant gets.there gets.others in
      let b = sum_over-insert weight_at old new i d vacant gets.there gets.others in
      let e = sum_over-insert admitted_part old new i d vacant gets.there gets.others in
      let mine : held_part d ≡ d.entry.weight = ap (λ b. cond b d.entry.weight 0) held in
      let none : weight_at d ≡ 0 = ap (λ o. unwrap_or o 0) uncounted in
      let out : admitted_part d ≡ 0 = ap (λ o. cond {A = ℕ} (is_some o) 1 0) uncounted in
      let x = ap (λ v. v.held) is in
      let y = ap (λ v. v.weight) is in
      let z = ap (λ v. v.number) is in
      record {
        held = omega (arith, a, mine, x, h.held);
        weight = omega (arith, b, none, y, h.weight);
        number = omega (arith, e, out, z, h.number);
        light = λ j r at. elim (place_of old new i j d r gets at) [
          | inl p ↦ subst (λ (q : Record K V). IsLightly q) (sym p.1) (record { entry = light; counted = omega (arith, none) })
          | inr f ↦ h.light j r f
        ];
      }

  pub tally-remove : (old new : List (Option (Record K V))) (i : ℕ) (c : Record K V) (t u : Tally) → cell_at old i ≡ Some c → Loses old new i → new ≡ slice_set old i None → IsTallied old t
      → u ≡ record { held = t.held - held_part c; weight = t.weight - weight_at c; number = t.number - admitted_part c } → IsTallied new u
  tally-remove old new i c t u there loses is h less =
      let a = sum_over-remove held_part old i c there in
      let b = sum_over-remove weight_at old i c there in
      let e = sum_over-remove admitted_part old i c there in
      let held : sum_over held_part (slice_set old i None) ≡ t.held - held_part c = omega (arith, a, h.held) in
      let weight : sum_over weight_at (slice_set old i None) ≡ t.weight - weight_at c = omega (arith, b, h.weight) in
      let number : sum_over admitted_part (slice_set old i None) ≡ t.number - admitted_part c = omega (arith, e, h.number) in
      record {
        held = ap (λ l. sum_over held_part l) is ∙ held ∙ sym (ap (λ v. v.held) less);
        weight = ap (λ l. sum_over weight_at l) is ∙ weight ∙ sym (ap (λ v. v.weight) less);
        number = ap (λ l. sum_over admitted_part l) is ∙ number ∙ sym (ap (λ v. v.number) less);
        light = λ j x at. h.light j x (was old new i j x loses at);
      }

  -- a record of the cells has its parts in the totals
  pub record Has (t : Tally) (r : Record K V) : Type 0 where
    pub held : held_part r ≤ t.held
    pub weight : weight_at r ≤ t.weight
    pub number : admitted_part r ≤ t.number

  pub tally-has : (cells : List (Option (Record K V))) (i : ℕ) (c : Record K V) (t : Tally) → cell_at cells i ≡ Some c → IsTallied cells t → Has t c
  tally-has cells i c t there h =
      let a = part-within held_part cells i c there in
      let b = part-within weight_at cells i c there in
      let e = part-within admitted_part cells i c there in
      record { held = omega (arith, a, h.held); weight = omega (arith, b, h.weight); number = omega (arith, e, h.number) }

  -- totals without a record
  abbrev pub less_one : Tally → Record K V → Tally
  less_one t r = record { held = t.held - held_part r; weight = t.weight - weight_at r; number = t.number - admitted_part r }

  -- a held record has another entry
  pub tally-rewritten : (cells : List (Option (Record K V))) (i : ℕ) (c : Record K V) (e : Entry K V) (writes : ℕ) (t u : Tally) → cell_at cells i ≡ Some c → c.is_held ≡ true → e.weight < 2 ^ 32 → IsTallied cells t
      → u ≡ record t { held = t.held - c.entry.weight + e.weight } → IsTallied (slice_set cells i (Some (record c { entry = e; writes = writes }))) u
  tally-rewritten cells i c e writes t u there held light h is =
      let d : Record K V = record c { entry = e; writes = writes } in
      let before : held_part c ≡ c.entry.weight = ap (λ b. cond b c.entry.weight 0) held in
      let after : held_part d ≡ e.weight = ap (λ b. cond b e.weight 0) held in
      let within = (tally-has cells i c t there h).held in
      let x = ap (λ v. v.held) is in
      tally-set cells i c d t u there (record { entry = light; counted = (h.light i c there).counted }) h
      (omega (arith, before, after, within, x)) (ap (λ v. v.weight + weight_at c) is) (ap (λ v. v.number + admitted_part c) is)

  -- it is no longer held
  pub tally-unheld : (cells : List (Option (Record K V))) (i : ℕ) (c : Record K V) (writes : ℕ) (t u : Tally) → cell_at cells i ≡ Some c → IsTallied cells t
      → u ≡ record t { held = t.held - held_part c } → IsTallied (slice_set cells i (Some (record c { is_held = false; writes = writes }))) u
  tally-unheld cells i c writes t u there h is =
      let d : Record K V = record c { is_held = false; writes = writes } in
      let none : held_part d ≡ 0 = refl in
      let within = (tally-has cells i c t there h).held in
      let x = ap (λ v. v.held) is in
      let light = h.light i c there in
      tally-set cells i c d t u there (record { entry = light.entry; counted = light.counted }) h
      (omega (arith, none, within, x)) (ap (λ v. v.weight + weight_at c) is) (ap (λ v. v.number + admitted_part c) is)

  -- it counts with a weight
  pub number-counted : (c : Record K V) (t u : Tally) → u.number ≡ t.number + cond (is_some c.counts) 0 1 → u.number + admitted_part c ≡ t.number + 1
  number-counted c t u is = let one = one-or-none (is_some c.counts) in omega (arith, one, is)

  pub tally-counted : (cells : List (Option (Record K V))) (i : ℕ) (c : Record K V) (write weight : ℕ) (t u : Tally) → cell_at cells i ≡ Some c → weight < 2 ^ 32 → IsTallied cells t
      → u ≡ record t { weight = t.weight - weight_at c + weight; number = t.number + cond (is_some c.counts) 0 1 } → IsTallied (slice_set cells i (Some (record c { applied = write; counts = Some weight }))) u
  tally-counted cells i c write weight t u there light h is =
      let within = (tally-has cells i c t there h).weight in
      let x = ap (λ v. v.weight) is in
      tally-set cells i c (record c { applied = write; counts = Some weight }) t u there (record { entry = (h.light i c there).entry; counted = light }) h
      (ap (λ v. v.held + held_part c) is) (omega (arith, within, x)) (number-counted c t u (ap (λ v. v.number) is))

  pub number-left : (t u : Tally) (r : Record K V) → Has t r → u ≡ less_one t r → u.number + admitted_part r ≡ t.number
  number-left t u r has less =
      let a = ap (λ v. v.number) less in
      let e = has.number in
      omega (arith, a, e)

  -- what totals are of the records
  pub held-is : (cells : List (Option (Record K V))) (t : Tally) → IsTallied cells t → held_weight (records_by_number cells) ≡ t.held
  held-is cells t h = held-sum (records_by_number cells) ∙ sum_over-is held_part cells ∙ h.held

  pub weight-is : (cells : List (Option (Record K V))) (t : Tally) → IsTallied cells t → admitted_weight (records_by_number cells) ≡ t.weight
  weight-is cells t h = sum_over-is weight_at cells ∙ h.weight

  pub number-is : (cells : List (Option (Record K V))) (t : Tally) → IsTallied cells t → admitted_number (records_by_number cells) ≡ t.number
  number-is cells t h = sum_over-is admitted_part cells ∙ h.number

  one_more : (x : Record K V) (cells : List (Option (Record K V))) → count_by is_some (Some x ∷ cells) ≡ 1 + count_by is_some cells
  one_more x cells = sum_by-cons (λ p. cond (is_some p) 1 0) (Some x) cells

  no_more : (cells : List (Option (Record K V))) → count_by is_some (none_of ∷ cells) ≡ count_by is_some cells
  no_more cells = let e = sum_by-cons (λ p. cond (is_some p) 1 0) none_of cells in omega (arith, e)

  -- there are no more admitted records than records
  pub number-below : (cells : List (Option (Record K V))) (t : Tally) → IsTallied cells t → t.number ≤ count_by is_some cells
  number-below cells t h =
      let number : sum_over admitted_part cells ≤ 1 * count_by is_some cells = sum_over-below admitted_part 1 cells (λ i c there. (cond_both (is_some c.counts) _ _ (λ z. z ≤ 1) (λ _. omega arith) (λ _. omega arith))) in
      omega (arith, number, h.number)

  -- there are fewer where one is not admitted
  admitted-below : (cells : List (Option (Record K V))) → sum_over admitted_part cells ≤ count_by is_some cells
  admitted-below [] = omega arith
  admitted-below (None ∷ cells) = let later = admitted-below cells in let many = no_more cells in omega (arith, later, many)
  admitted-below (Some x ∷ cells) =
      cond_both (is_some x.counts) _ _ (λ z. z + sum_over admitted_part cells ≤ count_by is_some (Some x ∷ cells)) (λ _. let many = one_more x cells in omega (arith, (admitted-below cells), many)) (λ _. let many = one_more x cells in omega (arith, (admitted-below cells), many))

  fewer-admitted : (cells : List (Option (Record K V))) (i : ℕ) (c : Record K V) → cell_at cells i ≡ Some c → is_some c.counts ≡ false → sum_over admitted_part cells < count_by is_some cells
  fewer-admitted [] i c there off = absurd (cc)
  fewer-admitted (None ∷ cells) zero c there off = absurd (cc)
  fewer-admitted (None ∷ cells) (suc i) c there off = let later = fewer-admitted cells i c there off in let many = no_more cells in omega (arith, later, many)
  fewer-admitted (Some x ∷ cells) zero c there off =
      let is : x ≡ c = cc in
      let none : admitted_part x ≡ 0 = ap admitted_part is ∙ ap (λ b. cond {A = ℕ} b 1 0) off in
      let later = admitted-below cells in
      let many = one_more x cells in
      omega (arith, none, later, many)
  fewer-admitted (Some x ∷ cells) (suc i) c there off =
      cond_both (is_some x.counts) _ _ (λ z. z + sum_over admitted_part cells < count_by is_some (Some x ∷ cells)) (λ _. let many = one_more x cells in omega (arith, (fewer-admitted cells i c there off), many)) (λ _. let many = one_more x cells in omega (arith, (fewer-admitted cells i c there off), many))

  pub number-fewer : (cells : List (Option (Record K V))) (t : Tally) (i : ℕ) (c : Record K V) → IsTallied cells t → cell_at cells i ≡ Some c → is_some c.counts ≡ false → t.number < count_by is_some cells
  number-fewer cells t i c h there off = let fewer = fewer-admitted cells i c there off in omega (arith, fewer, h.number)

  -- ---- room in a queue

  listed-as : (cells : List (Option (Record K V))) (places : List ℕ) (i : ℕ) (c : Record K V) → AreListed cells places → cell_at cells i ≡ Some c → has_index i places ≡ is_some c.counts
  listed-as cells places i c h there = h.listed i ∙ ap has_counts there

  -- a record that is not there has room
  pub has-place : (cells : Slab (Record K V)) (t : Tally) (more i : ℕ) (c : Record K V) (queue : Indices) → IsTallied cells.slots t → AreListed cells.slots queue.indices → HasPlacesFor cells t.number more queue → cell_at cells.slots i ≡ Some c → i < length cells.slots
      → has_index i queue.indices ≡ false → (0 < queue.room) × (i < queue.bound)
  has-place cells t more i c queue h listed fits there within off =
      let fewer = number-fewer cells.slots t i c h there (sym (listed-as cells.slots queue.indices i c listed there) ∙ off) in
      (omega (arith, fewer, fits.room), omega (arith, within, fits.taken))

  -- it comes to the back
  pub places-counted : (old new : Slab (Record K V)) (m n more i : ℕ) (c d : Record K V) (before after : Indices) → HasPlacesFor old m more before → AreListed old.slots before.indices → cell_at old.slots i ≡ Some c
      → is_some d.counts ≡ true → slab_len new ≡ slab_len old → length new.slots ≡ length old.slots → n + admitted_part c ≡ m + admitted_part d → ComesLast i before after → HasPlacesFor new n more after
  places-counted old new m n more i c d before after fits listed there counts len long number comes = record {
    room = go (is_some c.counts) number (ap (λ b. after.room + cond {A = ℕ} b 0 1) (sym (listed-as old.slots before.indices i c listed there)) ∙ comes.room);
    taken = omega (arith, long, fits.taken, comes.bound);
    coming = omega (arith, len, fits.coming, comes.bound);
  }
    where
      one : admitted_part d ≡ 1
      one = ap (λ b. cond {A = ℕ} b 1 0) counts

      go : (b : Bool) → n + cond b 1 0 ≡ m + admitted_part d → after.room + cond b 0 1 ≡ before.room → slab_len new + more ≤ n + after.room
      go true e r = omega (arith, e, r, one, len, fits.room)
      go false e r = omega (arith, e, r, one, len, fits.room)

  -- it goes
  pub places-left : (old new : Slab (Record K V)) (m n more i : ℕ) (c : Record K V) (before after : Indices) → HasPlacesFor old m more before → AreListed old.slots before.indices → cell_at old.slots i ≡ Some c
      → slab_len new + 1 ≡ slab_len old → length new.slots ≡ length old.slots → n + admitted_part c ≡ m → StepsOut i before after → HasPlacesFor new n more after
  places-left old new m n more i c before after fits listed there len long number steps = record {
    room = go (is_some c.counts) number (steps.room ∙ ap (λ b. before.room + cond {A = ℕ} b 1 0) (listed-as old.slots before.indices i c listed there));
    taken = omega (arith, long, fits.taken, steps.bound);
    coming = omega (arith, len, fits.coming, steps.bound);
  }
    where
      go : (b : Bool) → n + cond b 1 0 ≡ m → after.room ≡ before.room + cond b 1 0 → slab_len new + more ≤ n + after.room
      go true e r = omega (arith, e, r, len, fits.room)
      go false e r = omega (arith, e, r, len, fits.room)

  -- a record changes, and is as admitted as it was
  pub places-alike : (old new : Slab (Record K V)) (m n more fewer : ℕ) (c d : Record K V) (queue : Indices) → HasPlacesFor old m more queue → slab_len new ≡ slab_len old → length new.slots ≡ length old.slots
      → n + admitted_part c ≡ m + admitted_part d → is_some d.counts ≡ is_some c.counts → fewer ≤ more → HasPlacesFor new n fewer queue
  places-alike old new m n more fewer c d queue fits len long number same less =
      let alike : admitted_part d ≡ admitted_part c = ap (λ b. cond {A = ℕ} b 1 0) same in
      record {
        room = omega (arith, len, number, alike, less, fits.room);
        taken = omega (arith, long, fits.taken);
        coming = omega (arith, len, less, fits.coming);
      }

  -- a record comes that is not admitted, in room that was kept for it
  pub places-inserted : (old new : Slab (Record K V)) (m n more : ℕ) (queue : Indices) → HasPlacesFor old m more queue → slab_len new ≡ slab_len old + 1 → length new.slots ≤ max (length old.slots) (slab_len old + 1)
      → n ≡ m → 0 < more → HasPlacesFor new n (more - 1) queue
  places-inserted old new m n more queue fits len long number some = record {
    room = omega (arith, len, number, some, fits.room);
    taken = omega (arith, long, len, some, fits.taken, fits.coming);
    coming = omega (arith, len, some, fits.coming);
  }

  -- the queue gains room
  pub places-gained : (old new : Slab (Record K V)) (m more : ℕ) (before after : Indices) → HasPlacesFor old m more before → new.slots ≡ old.slots → OnlyGainsPlaces before after → HasPlacesFor new m more after
  places-gained old new m more before after fits same gains =
      let len : slab_len new ≡ slab_len old = ap (λ l. count_by is_some l) same in
      let long : length new.slots ≡ length old.slots = ap length same in
      record {
        room = omega (arith, len, gains.room, fits.room);
        taken = omega (arith, long, gains.bound, fits.taken);
        coming = omega (arith, len, gains.bound, fits.coming);
      }

  pub places-grown : (cells : Slab (Record K V)) (m more fewer waiting : ℕ) (queue : Indices) → slab_len cells ≤ m + waiting → waiting + more ≤ queue.room → slab_len cells + more ≤ cells.capacity → length cells.slots ≤ cells.capacity → cells.capacity ≤ queue.bound
      → fewer ≤ more → HasPlacesFor cells m fewer queue
  places-grown cells m more fewer waiting queue wait room fit long reach less = record {
    room = omega (arith, wait, room, less);
    taken = omega (arith, long, reach);
    coming = omega (arith, fit, reach, less);
  }
