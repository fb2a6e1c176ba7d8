-- Places show their first expiries, as these come, change and go.
use Rattle.std.proofs.Common.{◌≡◌, ◌≢◌, refl, ap, sym, ◌∙◌, subst, ℕ, zero, suc, ◌*◌, ◌/◌, ◌<◌, ◌≤◌, arith, length, Bool, true, false, cond, List, [], ◌∷◌, ◌++◌, Option, Some, None, inl, inr, ◌⊎◌, get_or, get_or-set_same, get_or-set_other}
use Rattle.std.specs.Prelude.{slice_set}
use Rattle.std.proofs.lemmas.Bool.{cases_eq, cases_lt}
use Rattle.std.proofs.lemmas.List.{get_or_past, get_or_default, length-append, length-set}
use Rattle.engine_pending.specs.Timers.Awaited.{Awaited, never, expiry_at, IsTimed, IsAwaited, IsSet, KeepsOthers}
use Rattle.engine_pending.specs.Timers.Firsts.{LiesBelow, first_at, IsFirstBelow, IsFirstExpiry, ShowsFirst, ShowFirstsBut, AreFirsts}

-- no place lies below itself
pub not-self : (below place : ℕ) → LiesBelow below place → below ≢ place
not-self below place lies same = let positive = lies.positive in let from = lies.from in omega (arith, positive, from, same)

-- each place but 0 lies below one
pub lies-eighth : (place : ℕ) → 0 < place → LiesBelow place (place / 8)
lies-eighth place positive = record { positive = positive; from = omega arith; to = omega arith }

pub only-eighth : (below place : ℕ) → LiesBelow below place → place ≡ below / 8
only-eighth below place lies = let from = lies.from in let to = lies.to in omega (arith, from, to)

-- what is past both lists never expires
pub first-past : (e f : List ℕ) (place : ℕ) → length e ≤ place → length f ≤ place → first_at e f place ≡ never
first-past e f place pe pf = get_or_past f place (expiry_at e place) pf ∙ get_or_past e place never pe

-- lists alike at a place and right below it
pub first-alike : (e f after shown : List ℕ) (place first : ℕ) → expiry_at after place ≡ expiry_at e place
    → ((below : ℕ) → LiesBelow below place → first_at after shown below ≡ first_at e f below) → IsFirstExpiry e f place first → IsFirstExpiry after shown place first
first-alike e f after shown place first own below h = record {
  own = subst (λ n. first ≤ n) (sym own) h.own;
  others = λ b lies. subst (λ n. first ≤ n) (sym (below b lies)) (h.others b lies);
  one = go h.one;
}
  where
    go : (expiry_at e place ≡ first) ⊎ IsFirstBelow e f place first → (expiry_at after place ≡ first) ⊎ IsFirstBelow after shown place first
    go (inl is) = inl (own ∙ is)
    go (inr some) = inr (record { below = some.below; lies = some.lies; is = below some.below some.lies ∙ some.is })

pub shows-alike : (e f after shown : List ℕ) (place : ℕ) → expiry_at after place ≡ expiry_at e place → first_at after shown place ≡ first_at e f place
    → ((below : ℕ) → LiesBelow below place → first_at after shown below ≡ first_at e f below) → ShowsFirst e f place → ShowsFirst after shown place
shows-alike e f after shown place own here below h = subst (λ n. IsFirstExpiry after shown place n) (sym here) (first-alike e f after shown place (first_at e f place) own below h)

-- ---- the first of a place and all below it, as more of those right below are read

pub record IsFirstSoFar (e f : List ℕ) (place end first : ℕ) : Type 0 where
  pub own : first ≤ expiry_at e place
  pub others : (below : ℕ) → LiesBelow below place → below < end → first ≤ first_at e f below
  pub one : (expiry_at e place ≡ first) ⊎ IsFirstBelow e f place first

-- ---- a place comes to show its first expiry

-- then all but the one that it lies below do
pub shown-above : (e f : List ℕ) (place : ℕ) (stays : Bool) → ShowsFirst e f place → ((k : ℕ) → k ≢ place → (LiesBelow place k → stays ≡ false) → ShowsFirst e f k) → ShowFirstsBut e f (place / 8)
shown-above e f place stays own others k apart = go (cases_eq k place)
  where
    go : (k ≡ place) ⊎ (k ≢ place) → ShowsFirst e f k
    go (inl same) = subst (λ n. ShowsFirst e f n) (sym same) own
    go (inr other) = others k other (λ lies. absurd (apart (only-eighth place k lies)))

-- ---- a place comes

longer : (e : List ℕ) (k : ℕ) → expiry_at (e ++ never ∷ []) k ≡ expiry_at e k
longer [] zero = refl
longer [] (suc k) = refl
longer (n ∷ e) zero = refl
longer (n ∷ e) (suc k) = longer e k

same-firsts : (e f after shown : List ℕ) → ((k : ℕ) → expiry_at after k ≡ expiry_at e k) → ((k : ℕ) → first_at e shown k ≡ first_at e f k) → length after ≤ 8 * length shown → AreFirsts e f → AreFirsts after shown
same-firsts e f after shown same first enough h = record {
  covering = record { bounded = λ k. subst (λ n. n ≤ never) (sym (same k)) (h.covering.bounded k); enough = enough };
  show = λ k. shows-alike e f after shown k (same k) (is k) (λ b lies. is b) (h.show k);
}
  where
    is : (k : ℕ) → first_at after shown k ≡ first_at e f k
    is k = ap (λ d. get_or shown k d) (same k) ∙ first k

pub added : (b : Bool) (e f after shown : List ℕ) → after ≡ cond b (e ++ never ∷ []) e → ((k : ℕ) → first_at e shown k ≡ first_at e f k) → length e < 8 * length shown → AreFirsts e f → AreFirsts after shown
added true e f after shown is first enough h =
    let many = length-append e (never ∷ []) in
    let long = ap length is in
    same-firsts e f after shown (λ k. ap (λ ns. expiry_at ns k) is ∙ longer e k) first (omega (arith, enough, many, long)) h
added false e f after shown is first enough h =
    let long = ap length is in
    same-firsts e f after shown (λ k. ap (λ ns. expiry_at ns k) is) first (omega (arith, enough, long)) h

-- ---- a place gets another expiry

module _ (e f : List ℕ) (place expiry : ℕ) (h : AreFirsts e f) (within : place < length e) (low : expiry ≤ never) where
  abbrev after : List ℕ
  after = slice_set e place expiry

  other : (k : ℕ) → k ≢ place → expiry_at after k ≡ expiry_at e k
  other k apart = get_or-set_other e place k expiry never apart

  first-other : (k : ℕ) → k ≢ place → first_at after f k ≡ first_at e f k
  first-other k apart = ap (λ d. get_or f k d) (other k apart)

  first-inner : place < length f → (b : ℕ) → first_at after f b ≡ first_at e f b
  first-inner kept b = go (cases_eq b place)
    where
      go : (b ≡ place) ⊎ (b ≢ place) → first_at after f b ≡ first_at e f b
      go (inl same) = get_or_default f b (expiry_at after b) (expiry_at e b) (omega (arith, same, kept))
      go (inr apart) = first-other b apart

  -- a place with others below it
  inner : place < length f → ShowFirstsBut after f place
  inner kept k apart = shows-alike e f after f k (other k apart) (first-other k apart) (λ b lies. first-inner kept b) (h.show k)

  -- a place with none below it
  leaf : length f ≤ place → ShowsFirst after f place
  leaf past =
      let is : first_at after f place ≡ expiry_at after place = get_or_past f place (expiry_at after place) past in
      let own : expiry_at after place ≡ expiry = get_or-set_same e place expiry never within in
      let long = length-set e place expiry in
      let enough = h.covering.enough in
      record {
        own = omega (arith, is);
        others = λ b lies.
            let from = lies.from in
            let never-below = first-past after f b (omega (arith, long, enough, past, from)) (omega (arith, past, from)) in
            omega (arith, is, own, low, never-below);
        one = inl (sym is);
      }

  outer : length f ≤ place → ShowFirstsBut after f (place / 8)
  outer past k apart = go (cases_eq k place)
    where
      below : (b : ℕ) → LiesBelow b k → b ≢ place
      below b lies same = apart (only-eighth b k lies ∙ ap (λ n. n / 8) same)

      go : (k ≡ place) ⊎ (k ≢ place) → ShowsFirst after f k
      go (inl same) = subst (λ n. ShowsFirst after f n) (sym same) (leaf past)
      go (inr differs) = shows-alike e f after f k (other k differs) (first-other k differs) (λ b lies. first-other b (below b lies)) (h.show k)

  pub put-others : (shown : ℕ) → (place < length f → shown ≡ place) → (length f ≤ place → shown ≡ place / 8) → ShowFirstsBut after f shown
  put-others shown kept past = go (cases_lt place (length f))
    where
      go : (place < length f) ⊎ (length f ≤ place) → ShowFirstsBut after f shown
      go (inl less) = subst (λ n. ShowFirstsBut after f n) (sym (kept less)) (inner less)
      go (inr more) = subst (λ n. ShowFirstsBut after f n) (sym (past more)) (outer more)

  own-after : expiry_at after place ≡ expiry
  own-after = get_or-set_same e place expiry never within

  -- what a place shows is another's, and no later than its own
  stays-inner : place < length f → expiry_at e place ≢ first_at e f place → first_at e f place ≤ expiry → ShowsFirst after f place
  stays-inner kept apart less = subst (λ n. IsFirstExpiry after f place n) (sym (first-inner kept place)) (record {
    own = subst (λ n. first_at e f place ≤ n) (sym own-after) less;
    others = λ b lies. subst (λ n. first_at e f place ≤ n) (sym (first-inner kept b)) ((h.show place).others b lies);
    one = go (h.show place).one;
  })
    where
      go : (expiry_at e place ≡ first_at e f place) ⊎ IsFirstBelow e f place (first_at e f place) → (expiry_at after place ≡ first_at e f place) ⊎ IsFirstBelow after f place (first_at e f place)
      go (inl is) = absurd (apart is)
      go (inr some) = inr (record { below = some.below; lies = some.lies; is = first-inner kept some.below ∙ some.is })

  stays-outer : length f ≤ place → (above : ℕ) → LiesBelow place above → expiry_at e place ≢ first_at e f above → first_at e f above ≤ expiry → ShowsFirst after f above
  stays-outer past above lies apart less = subst (λ n. IsFirstExpiry after f above n) (sym (first-other above differs)) (record {
    own = subst (λ n. first_at e f above ≤ n) (sym (other above differs)) (h.show above).own;
    others = λ b below. at b below (cases_eq b place);
    one = go (h.show above).one;
  })
    where
      differs : above ≢ place
      differs same = not-self place above lies (sym same)

      here : first_at after f place ≡ expiry
      here = get_or_past f place (expiry_at after place) past ∙ own-after

      at : (b : ℕ) → LiesBelow b above → (b ≡ place) ⊎ (b ≢ place) → first_at e f above ≤ first_at after f b
      at b below (inl same) = subst (λ n. first_at e f above ≤ n) (sym (ap (first_at after f) same ∙ here)) less
      at b below (inr apart) = subst (λ n. first_at e f above ≤ n) (sym (first-other b apart)) ((h.show above).others b below)

      pick : (some : IsFirstBelow e f above (first_at e f above)) → (some.below ≡ place) ⊎ (some.below ≢ place) → IsFirstBelow after f above (first_at e f above)
      pick some (inl same) = absurd (apart (sym (get_or_past f place (expiry_at e place) past) ∙ ap (first_at e f) (sym same) ∙ some.is))
      pick some (inr other) = record { below = some.below; lies = some.lies; is = first-other some.below other ∙ some.is }

      go : (expiry_at e above ≡ first_at e f above) ⊎ IsFirstBelow e f above (first_at e f above) → (expiry_at after above ≡ first_at e f above) ⊎ IsFirstBelow after f above (first_at e f above)
      go (inl is) = inl (other above differs ∙ is)
      go (inr some) = inr (pick some (cases_eq some.below place))

  lies-past : length f ≤ place → LiesBelow place (place / 8)
  lies-past past = let enough = h.covering.enough in lies-eighth place (omega (arith, past, within, enough))

  stays : (shown : ℕ) → (place < length f → shown ≡ place) → (length f ≤ place → shown ≡ place / 8) → expiry_at e place ≢ first_at e f shown → first_at e f shown ≤ expiry → ShowsFirst after f shown
  stays shown kept past apart less = go (cases_lt place (length f))
    where
      go : (place < length f) ⊎ (length f ≤ place) → ShowsFirst after f shown
      go (inl in-firsts) = subst (λ n. ShowsFirst after f n) (sym (kept in-firsts)) (stays-inner in-firsts (subst (λ n. expiry_at e place ≢ first_at e f n) (kept in-firsts) apart) (subst (λ n. first_at e f n ≤ expiry) (kept in-firsts) less))
      go (inr behind) = stays-outer behind shown (subst (λ n. LiesBelow place n) (sym (past behind)) (lies-past behind)) apart less

  bounded-after : (k : ℕ) → expiry_at after k ≤ never
  bounded-after k = go (cases_eq k place)
    where
      go : (k ≡ place) ⊎ (k ≢ place) → expiry_at after k ≤ never
      go (inl same) = subst (λ n. n ≤ never) (sym (ap (expiry_at after) same ∙ own-after)) low
      go (inr apart) = subst (λ n. n ≤ never) (sym (other k apart)) (h.covering.bounded k)

  pub put-stays : (shown : ℕ) → (place < length f → shown ≡ place) → (length f ≤ place → shown ≡ place / 8) → expiry_at e place ≢ first_at e f shown → first_at e f shown ≤ expiry → AreFirsts after f
  put-stays shown kept past apart less = record {
    covering = record { bounded = bounded-after; enough = let long = length-set e place expiry in let enough = h.covering.enough in omega (arith, long, enough) };
    show = λ k. go k (cases_eq k shown);
  }
    where
      go : (k : ℕ) → (k ≡ shown) ⊎ (k ≢ shown) → ShowsFirst after f k
      go k (inl same) = subst (λ n. ShowsFirst after f n) (sym same) (stays shown kept past apart less)
      go k (inr other) = put-others shown kept past k other

-- ---- what is awaited

pub timed : (e : List ℕ) (place time : ℕ) → expiry_at e place < never → expiry_at e place ≤ time → IsTimed e place time
unfolding IsTimed
timed e place time comes by = (comes, by)

timed-parts : (e : List ℕ) (place time : ℕ) → IsTimed e place time → (expiry_at e place < never) × (expiry_at e place ≤ time)
unfolding IsTimed
timed-parts e place time h = h

pub keeps_others : (place : ℕ) (e new : List ℕ) → ((k : ℕ) → k ≢ place → expiry_at new k ≡ expiry_at e k) → KeepsOthers place e new
keeps_others place e new same = record {
  others = λ k time apart h.
      let parts = timed-parts e k time h in
      timed new k time (subst (λ n. n < never) (sym (same k apart)) parts.0) (subst (λ n. n ≤ time) (sym (same k apart)) parts.1);
}

pub is-set : (a : Awaited) (place : ℕ) (time : Option ℕ) → ((t : ℕ) → time ≡ Some t → a.is_whole ≡ true → IsAwaited a place t) → IsSet a place time
is-set a place None f = tt
is-set a place (Some t) f = f t refl

-- ---- the first of all

pub first-least : (e f : List ℕ) → AreFirsts e f → (bound place : ℕ) → place ≤ bound → first_at e f 0 ≤ first_at e f place
first-least e f h bound zero within = omega arith
first-least e f h zero (suc k) within = absurd (omega (arith, within))
first-least e f h (suc bound) (suc k) within =
    let place = suc k in
    let above = place / 8 in
    let lies = lies-eighth place (omega arith) in
    let less = first-least e f h bound above (omega (arith, within)) in
    let shown = (h.show above).others place lies in
    omega (arith, less, shown)

-- before the first moment no place expires
pub none-due : (e f : List ℕ) (now : ℕ) → AreFirsts e f → now < first_at e f 0 → (place time : ℕ) → IsTimed e place time → now < time
none-due e f now h early place time awaited =
    let less = first-least e f h place place (omega arith) in
    let own = (h.show place).own in
    let by = (timed-parts e place time awaited).1 in
    omega (arith, early, less, own, by)

-- ---- down to the place that expires first

-- a place right below this one shows the moment, here or later
pub record IsAhead (e f : List ℕ) (place moment here : ℕ) : Type 0 where
  pub positive : 0 < here
  pub from : 8 * place ≤ here
  pub ahead : ℕ
  pub lies : LiesBelow ahead place
  pub is : first_at e f ahead ≡ moment
  pub least : here ≤ ahead
