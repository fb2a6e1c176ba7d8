-- An uncut run leaves the access list in the order of uses, but for 300 milliseconds.
use Rattle.std.proofs.Common.{◌≡◌, refl, ap, sym, ◌∙◌, subst, ℕ, ◌+◌, ◌<◌, ◌≤◌, arith, Bool, true, false, true≢false, not, cond, List, [], ◌∷◌, ◌++◌, Option, Some, None, is_some, inl, inr, ◌⊎◌, eqb, ◌==◌}
use Rattle.std.specs.Prelude.{nat_lt}
use Rattle.std.proofs.lemmas.Bool.{cases_Bool, eqb-true, eqb-false, eq-eqb, ltb-true}
use Rattle.policy_base.specs.Counts.{incremented}
use Rattle.engine_reference.specs.declared.rules.causes.RemovalCause.{RemovalCause}
use Rattle.engine_reference.specs.declared.rules.causes.RemovalCause.TheVariants as cause
use Rattle.engine_reference.specs.declared.data.Record.{Record}
use Rattle.engine_reference.specs.declared.data.Read.{Read}
use Rattle.engine_reference.specs.declared.data.Read.TheVariants.{Hit, Miss}
use Rattle.engine_reference.specs.declared.data.Upsert.{Upsert}
use Rattle.engine_reference.specs.declared.data.Write.{Write}
use Rattle.engine_reference.specs.declared.data.Write.TheVariants.{Put, Removed}
use Rattle.engine_reference.specs.Records.{record_at, without_record, changed_at, without, moved_to_back, is_settled}
use Rattle.engine_reference.specs.Runs.{Step, reads, writes, grows, leaves, evicts, ends, Steps, Runs, with_left, left, all_left, after_read, after_hit, after_write, after_put, after_removal, counting, put_off, judged, is_overtaken}
use Rattle.engine_reference.specs.Soundness.{IsIn, Each, AreNumbered}
use Rattle.engine_reference.specs.State.{State, Answers}
use Rattle.engine_reference.proofs.Accounts.{in_pushed, not_in-without, IsIn-without_from, each-changed, each-without, each-map, each-both, numbered-changed, numbered-without}
use Rattle.engine_reference.proofs.HeldRecords.{record_at-number}
use Rattle.engine_reference.proofs.SoundSteps.{left-frame, after_write-frame}
use Rattle.engine_reference.specs.RunLaws.Sweeping.{InOrderBy, IsUsedBefore}
use Rattle.engine_reference.specs.Admission.{Verdict, admit, displace, refuse, verdict}
use Rattle.engine_reference.specs.Soundness.{IsSound, IsAccounted}
use Rattle.engine_reference.proofs.SoundSteps.{step-sound, IsCounted}
use Rattle.engine_reference.proofs.run_laws.Swept.{run-leaves, changed-from, changed-other}
use Rattle.engine_reference.proofs.run_laws.Rising.{each-own}
use Rattle.engine_reference.proofs.run_laws.Fronting.{each-at, there-before}
use Rattle.front_reference.specs.Closeness.{hits, IsWaiting, IsCloseTo, IsSince}

-- ---- lists in order

module _ {K V : Type 0} (Rel Rel' : Record K V → Record K V → Type 0) (rs rs' : List (Record K V)) where
  -- two records stand so now, if those that were found under their numbers before did
  abbrev pub Still : ℕ → ℕ → Record K V → Record K V → Type 0
  Still k m y x = ((y0 x0 : Record K V) → record_at rs k ≡ Some y0 → record_at rs m ≡ Some x0 → Rel y0 x0) → Rel' y x

  pub order-map : ((k m : ℕ) (y x : Record K V) → record_at rs' k ≡ Some y → record_at rs' m ≡ Some x → Still k m y x) → (ns : List ℕ) → InOrderBy Rel rs ns → InOrderBy Rel' rs' ns
  order-map still [] h = tt
  order-map still (n ∷ ns) h = ((λ m y x i here there. still n m y x here there (λ y0 x0 one two. h.0 m y0 x0 i one two)), order-map still ns h.1)

  order-moved : (n : ℕ) → ((k m : ℕ) (y x : Record K V) → (k ≡ n → ⊥) → (m ≡ n → ⊥) → record_at rs' k ≡ Some y → record_at rs' m ≡ Some x → Still k m y x)
      → ((k : ℕ) (y x : Record K V) → (k ≡ n → ⊥) → record_at rs' k ≡ Some y → record_at rs' n ≡ Some x → Rel' y x)
      → (ns : List ℕ) → InOrderBy Rel rs ns → InOrderBy Rel' rs' (moved_to_back n ns)
  order-moved n still last [] h = ((λ m y x i here there. elim i [ ]), tt)
  order-moved n still last (k ∷ ns) h =
      elim (cases_Bool (k == n)) [ inl e ↦ rw e (order-moved n still last ns h.1) | inr e ↦ rw e (let other : (k ≡ n → ⊥) = eqb-false k n e in ((λ m y x i here there. elim (in_pushed n m (without n ns) i) [ inl j ↦ still k m y x other (λ same. not_in-without n ns (subst (λ z. IsIn z (without n ns)) same j)) here there (λ y0 x0 one two. h.0 m y0 x0 (IsIn-without_from n m ns j) one two) | inr same ↦ last k y x other here (ap (λ z. record_at rs' z) same ∙ there) ]), (order-moved n still last ns h.1))) ]

module _ {K V : Type 0} where
  order-without : (Rel : Record K V → Record K V → Type 0) (rs : List (Record K V)) (n : ℕ) (ns : List ℕ) → InOrderBy Rel rs ns → InOrderBy Rel rs (without n ns)
  order-without Rel rs n [] h = tt
  order-without Rel rs n (k ∷ ns) h =
      elim (cases_Bool (k == n)) [
        | inl e ↦ rw e (order-without Rel rs n ns h.1)
        | inr e ↦ rw e ((λ m y x i here there. h.0 m y x (IsIn-without_from n m ns i) here there), (order-without Rel rs n ns h.1))
      ]

  -- the last write of a record used so late is the last write of all
  abbrev pub LateIsLast : ℕ → List Write → List (Record K V) → Type 0
  LateIsLast b [] rs = Unit {0}
  LateIsLast b (Put u ∷ ws) rs = ((r : Record K V) → record_at rs u.number ≡ Some r → u.write ≡ r.writes → (r.entry.used < b + 300000000) ⊎ (ws ≡ [])) × LateIsLast b ws rs
  LateIsLast b (Removed number ∷ ws) rs = LateIsLast b ws rs

  -- what waits for no write was used less than 300 milliseconds later
  abbrev pub IsSettledNear : ℕ → Record K V → Type 0
  IsSettledNear b r = is_settled r ≡ true → r.entry.used < b + 300000000

  -- the same writes and uses, perhaps of fewer records
  late-map : (b : ℕ) (rs rs' : List (Record K V)) → ((n : ℕ) (r : Record K V) → record_at rs' n ≡ Some r → (o : Record K V) × (record_at rs n ≡ Some o) × (o.writes ≡ r.writes) × (o.entry ≡ r.entry))
      → (ws : List Write) → LateIsLast b ws rs → LateIsLast b ws rs'
  late-map b rs rs' back [] h = tt
  late-map b rs rs' back (Put u ∷ ws) h = (
    (λ r there same.
        let o = back u.number r there in
        elim (h.0 o.0 o.1 (same ∙ sym o.2)) [ inl low ↦ inl (omega (arith, low, ap (λ e. e.used) o.3)) | inr none ↦ inr none ]),
    late-map b rs rs' back ws h.1,
  )
  late-map b rs rs' back (Removed n ∷ ws) h = late-map b rs rs' back ws h

-- ---- what goes on while a run applies

module _ {K V P S R : Type 0} (b : ℕ) where
  -- of the records and the access list, where these reads and writes are left to apply
  pub record Closing (rs : List Read) (ws : List Write) (s : State K V P S R) : Type 0 where
    pub numbered : AreNumbered s.records
    pub listed : InOrderBy (IsCloseTo rs) s.records s.access
    pub waiting : Each (IsSince b rs) s.records
    pub near : Each (IsSettledNear b) s.records ⊎ ((rs ≡ []) × (ws ≡ []))
    pub late : LateIsLast b ws s.records

  -- a record leaves
  closing-with_left : (rs : List Read) (ws : List Write) (why : RemovalCause) (s : State K V P S R) (o : Option (Record K V)) → Closing rs ws s → Closing rs ws (with_left why s o)
  closing-with_left rs ws why s None h = h
  closing-with_left rs ws why s (Some r) h =
      let later = λ (m : ℕ) (x : Record K V) (there : record_at (without_record r.number s.records) m ≡ Some x). there-before r.number m s.records x h.numbered there in
      record {
        numbered = numbered-without r.number s.records h.numbered;
        listed = order-map (IsCloseTo rs) (IsCloseTo rs) s.records (without_record r.number s.records)
            (λ k m y x here there rel. rel y x (later k y here) (later m x there)) (without r.number s.access) (order-without (IsCloseTo rs) s.records r.number s.access h.listed);
        waiting = each-without r.number (IsSince b rs) (IsSince b rs) (λ x other k. k) s.records h.numbered h.waiting;
        near = elim h.near [
          | inl near ↦ inl (each-without r.number (IsSettledNear b) (IsSettledNear b) (λ x other k. k) s.records h.numbered near)
          | inr none ↦ inr none
        ];
        late = late-map b s.records (without_record r.number s.records) (λ m x there. (x, later m x there, refl, refl)) ws h.late;
      }

  closing-left : (rs : List Read) (ws : List Write) (why : RemovalCause) (n : ℕ) (s : State K V P S R) → Closing rs ws s → Closing rs ws (left why n s)
  closing-left rs ws why n s h = closing-with_left rs ws why s (record_at s.records n) h

  closing-all_left : (rs : List Read) (ws : List Write) (why : RemovalCause) (vs : List (Record K V)) (s : State K V P S R) → Closing rs ws s → Closing rs ws (all_left why vs s)
  closing-all_left rs ws why [] s h = h
  closing-all_left rs ws why (v ∷ vs) s h = closing-all_left rs ws why vs (left why v.number s) (closing-left rs ws why v.number s h)

  -- what was there after records left was there before
  left-back : (why : RemovalCause) (n : ℕ) (s : State K V P S R) → AreNumbered s.records → (m : ℕ) (r : Record K V) → record_at (left why n s).records m ≡ Some r → record_at s.records m ≡ Some r
  left-back why n s numbered m r e = go (record_at s.records n) e
    where
      go : (o : Option (Record K V)) → record_at (with_left why s o).records m ≡ Some r → record_at s.records m ≡ Some r
      go None e = e
      go (Some x) e = there-before x.number m s.records r numbered e

  all_left-back : (rs : List Read) (ws : List Write) (why : RemovalCause) (vs : List (Record K V)) (s : State K V P S R) → Closing rs ws s → (m : ℕ) (r : Record K V) → record_at (all_left why vs s).records m ≡ Some r → record_at s.records m ≡ Some r
  all_left-back rs ws why [] s h m r e = e
  all_left-back rs ws why (v ∷ vs) s h m r e = left-back why v.number s h.numbered m r (all_left-back rs ws why vs (left why v.number s) (closing-left rs ws why v.number s h) m r e)

  -- a hit is counted
  closing-hit : (n hash : ℕ) (rest : List Read) (ws : List Write) (s : State K V P S R) → Closing (Hit n hash ∷ rest) ws s → Closing rest ws (after_read (Hit n hash) s)
  closing-hit n hash rest ws s h = go (record_at s.records n) refl
    where
      t : State K V P S R
      t = record s { sketch = incremented s.sketch hash }

      fewer : (x : Record K V) → IsWaiting rest x → IsWaiting (Hit n hash ∷ rest) x
      fewer x w = elim w [ inl e ↦ inl e | inr i ↦ inr (inr i) ]

      -- one that is not this record waits as before
      as_before : (x : Record K V) → (x.number ≡ n → ⊥) → (IsWaiting rest x → ⊥) → IsWaiting (Hit n hash ∷ rest) x → ⊥
      as_before x other none w = elim w [ inl e ↦ none (inl e) | inr j ↦ elim j [ inl same ↦ other (sym same) | inr i ↦ none (inr i) ] ]

      waiting : Each (IsSince b rest) s.records
      waiting = each-map (IsSince b (Hit n hash ∷ rest)) (IsSince b rest) (λ x k held w. k held (fewer x w)) s.records h.waiting

      near : Each (IsSettledNear b) s.records
      near = elim h.near [ inl low ↦ low | inr none ↦ absurd (let both : Hit n hash ∷ rest ≡ [] = none.0 in cc) ]

      settled : (x : Record K V) → (IsWaiting rest x → ⊥) → is_settled x ≡ true
      settled x none = pick (is_settled x) refl
        where
          pick : (c : Bool) → is_settled x ≡ c → c ≡ true
          pick true e = refl
          pick false e = absurd (none (inl e))

      kept : (k m : ℕ) (y x : Record K V) → (k ≡ n → ⊥) → record_at s.records k ≡ Some y → record_at s.records m ≡ Some x → Still (IsCloseTo (Hit n hash ∷ rest)) (IsCloseTo rest) s.records s.records k m y x
      kept k m y x other here there rel = λ held one two none. rel y x here there held one two (as_before y (λ same. other (sym (record_at-number s.records k y here) ∙ same)) none)

      go : (o : Option (Record K V)) → record_at s.records n ≡ o → Closing rest ws (after_hit o t)
      go None absent = record {
        numbered = h.numbered;
        listed = order-map (IsCloseTo (Hit n hash ∷ rest)) (IsCloseTo rest) s.records s.records (λ k m y x here there. kept k m y x (λ same. absurd (let both : Some y ≡ None = sym here ∙ ap (λ z. record_at s.records z) same ∙ absent in cc)) here there) s.access h.listed;
        waiting = waiting;
        near = inl near;
        late = h.late;
      }
      go (Some r) here = by_counts (is_some r.counts) refl
        where
          number : r.number ≡ n
          number = record_at-number s.records n r here

          by_counts : (c : Bool) → is_some r.counts ≡ c → Closing rest ws (cond c (record t { access = moved_to_back r.number t.access }) t)
          by_counts true counts = record {
            numbered = h.numbered;
            listed = order-moved (IsCloseTo (Hit n hash ∷ rest)) (IsCloseTo rest) s.records s.records r.number
                (λ k m y x other also one two. kept k m y x (λ same. other (same ∙ sym number)) one two)
                (λ k y x other one two. λ held ya xa none.
                let same : Some r ≡ Some x = sym (ap (λ z. record_at s.records z) number ∙ here) ∙ two in
                let it : r ≡ x = cc in
                let low = each-at (IsSettledNear b) s.records k y near one (settled y none) in
                let high = each-at (IsSince b (Hit n hash ∷ rest)) s.records n r h.waiting here (ap (λ z. z.is_held) it ∙ held) (inr (inl (sym number))) in
                let used = ap (λ z. z.entry.used) it in
                omega (arith, low, high, used)) s.access h.listed;
            waiting = waiting;
            near = inl near;
            late = h.late;
          }
          by_counts false counts = record {
            numbered = h.numbered;
            listed = order-map (IsCloseTo (Hit n hash ∷ rest)) (IsCloseTo rest) s.records s.records
                (λ k m y x one two rel. λ held ya xa none. rel y x one two held ya xa (as_before y (λ same.
                let both : Some r ≡ Some y = sym here ∙ ap (λ z. record_at s.records z) (sym same ∙ record_at-number s.records k y one) ∙ one in
                let it : r ≡ y = cc in
                absurd (true≢false (sym ya ∙ ap (λ z. is_some z.counts) (sym it) ∙ counts))) none)) s.access h.listed;
            waiting = waiting;
            near = inl near;
            late = h.late;
          }

  closing-miss : (hash : ℕ) (rest : List Read) (ws : List Write) (s : State K V P S R) → Closing (Miss hash ∷ rest) ws s → Closing rest ws (after_read (Miss hash) s)
  closing-miss hash rest ws s h = record {
    numbered = h.numbered;
    listed = h.listed;
    waiting = h.waiting;
    near = elim h.near [ inl low ↦ inl low | inr none ↦ absurd (let both : Miss hash ∷ rest ≡ [] = none.0 in cc) ];
    late = h.late;
  }

  -- ---- writes

  near_all : (w : Write) (rest : List Write) (s : State K V P S R) → Closing [] (w ∷ rest) s → Each (IsSettledNear b) s.records
  near_all w rest s h = elim h.near [ inl low ↦ low | inr none ↦ absurd (let both : w ∷ rest ≡ [] = none.1 in cc) ]

  -- a write that changes nothing
  closing-skip : (u : Upsert) (rest : List Write) (s : State K V P S R) → Closing [] (Put u ∷ rest) s → Closing [] rest s
  closing-skip u rest s h = record { numbered = h.numbered; listed = h.listed; waiting = h.waiting; near = inl (near_all (Put u) rest s h); late = h.late.1 }

  module _ (u : Upsert) (rest : List Write) (s : State K V P S R) (h : Closing [] (Put u ∷ rest) s) (low : (x : Record K V) → record_at s.records u.number ≡ Some x → is_settled x ≡ false) (c : Record K V → Option ℕ) where
    abbrev f : Record K V → Record K V
    f x = record x { applied = u.write; counts = c x }

    abbrev applied_to : List (Record K V)
    applied_to = changed_at u.number f s.records

    own : Each (λ x. record_at s.records x.number ≡ Some x) s.records
    own = each-own s.records h.numbered

    applied-waiting : Each (IsSince b []) applied_to
    applied-waiting = each-changed u.number f (λ x. IsSince b [] x × (record_at s.records x.number ≡ Some x)) (IsSince b [])
        (λ x same k held w. k.0 held (inl (low x (ap (λ n. record_at s.records n) (sym same) ∙ k.1)))) (λ x other k. k.0) s.records h.numbered
        (each-both (IsSince b []) (λ x. record_at s.records x.number ≡ Some x) s.records h.waiting own)

    bounded : ((x : Record K V) → record_at s.records u.number ≡ Some x → u.write ≡ x.writes → x.entry.used < b + 300000000) ⊎ (rest ≡ [])
    bounded = go (record_at s.records u.number) refl
      where
        go : (o : Option (Record K V)) → record_at s.records u.number ≡ o → ((x : Record K V) → record_at s.records u.number ≡ Some x → u.write ≡ x.writes → x.entry.used < b + 300000000) ⊎ (rest ≡ [])
        go None absent = inl (λ x there e. absurd (let both : None ≡ Some x = sym absent ∙ there in cc))
        go (Some r) here = by_write (u.write == r.writes) refl
          where
            by_write : (t : Bool) → eqb u.write r.writes ≡ t → ((x : Record K V) → record_at s.records u.number ≡ Some x → u.write ≡ x.writes → x.entry.used < b + 300000000) ⊎ (rest ≡ [])
            by_write true t = elim (h.late.0 r here (eqb-true u.write r.writes t)) [
              | inl less ↦ inl (λ x there e. let both : Some r ≡ Some x = sym here ∙ there in let it : r ≡ x = cc in let used = ap (λ z. z.entry.used) it in omega (arith, less, used))
              | inr none ↦ inr none
            ]
            by_write false t = inl (λ x there e. let both : Some r ≡ Some x = sym here ∙ there in let it : r ≡ x = cc in absurd (eqb-false u.write r.writes t (e ∙ ap (λ z. z.writes) (sym it))))

    applied-near : Each (IsSettledNear b) applied_to ⊎ (rest ≡ [])
    applied-near = elim bounded [
      | inl less ↦ inl (each-changed u.number f (λ x. IsSettledNear b x × (record_at s.records x.number ≡ Some x)) (IsSettledNear b)
          (λ x same k e. less x (ap (λ n. record_at s.records n) (sym same) ∙ k.1) (sym (eqb-true x.writes u.write e))) (λ x other k. k.0) s.records h.numbered
          (each-both (IsSettledNear b) (λ x. record_at s.records x.number ≡ Some x) s.records (near_all (Put u) rest s h) own))
      | inr none ↦ inr none
    ]

    applied-late : LateIsLast b rest applied_to
    applied-late = late-map b s.records applied_to (λ n r there.
        let o = changed-from u.number n f (λ x. refl) s.records r there in
        elim o.2 [ inl same ↦ (o.0, o.1, ap (λ z. z.writes) (sym same), ap (λ z. z.entry) (sym same)) | inr made ↦ (o.0, o.1, ap (λ z. z.writes) (sym made), ap (λ z. z.entry) (sym made)) ]) rest h.late.1

    same_there : (k : ℕ) (y : Record K V) → (k ≡ u.number → ⊥) → record_at applied_to k ≡ Some y → record_at s.records k ≡ Some y
    same_there k y other here = sym (changed-other u.number k f (λ x. refl) s.records other) ∙ here

    applied-moved : InOrderBy (IsCloseTo []) applied_to (moved_to_back u.number s.access)
    applied-moved = order-moved (IsCloseTo []) (IsCloseTo []) s.records applied_to u.number
        (λ k m y x other also here there rel. rel y x (same_there k y other here) (same_there m x also there))
        (λ k y x other here there. λ held ya xa none.
        let o = changed-from u.number u.number f (λ z. refl) s.records x there in
        let used : o.0.entry ≡ x.entry = elim o.2 [ inl same ↦ ap (λ z. z.entry) (sym same) | inr made ↦ ap (λ z. z.entry) (sym made) ] in
        let also : o.0.is_held ≡ x.is_held = elim o.2 [ inl same ↦ ap (λ z. z.is_held) (sym same) | inr made ↦ ap (λ z. z.is_held) (sym made) ] in
        let settled : is_settled y ≡ true = pick y none (is_settled y) refl in
        let less = each-at (IsSettledNear b) s.records k y (near_all (Put u) rest s h) (same_there k y other here) settled in
        let high = each-at (IsSince b []) s.records u.number o.0 h.waiting o.1 (also ∙ held) (inl (low o.0 o.1)) in
        omega (arith, less, high, ap (λ e. e.used) used)) s.access h.listed
      where
        pick : (y : Record K V) → (IsWaiting [] y → ⊥) → (t : Bool) → is_settled y ≡ t → t ≡ true
        pick y none true e = refl
        pick y none false e = absurd (none (inl e))

    applied-close : (ns os : List ℕ) → InOrderBy (IsCloseTo []) applied_to ns → Closing [] rest (record s { records = applied_to; access = ns; order = os })
    applied-close ns os listed = record {
      numbered = numbered-changed u.number f (λ x. refl) s.records h.numbered;
      listed = listed;
      waiting = applied-waiting;
      near = elim applied-near [ inl less ↦ inl less | inr none ↦ inr (refl, none) ];
      late = applied-late;
    }

  closing-counting : (u : Upsert) (rest : List Write) (s : State K V P S R) → Closing [] (Put u ∷ rest) s → ((x : Record K V) → record_at s.records u.number ≡ Some x → is_settled x ≡ false) → Closing [] rest (counting u s)
  closing-counting u rest s h low = applied-close u rest s h low (λ x. Some u.weight) (moved_to_back u.number s.access) (moved_to_back u.number s.order) (applied-moved u rest s h low (λ x. Some u.weight))

  module _ (u : Upsert) (rest : List Write) (s : State K V P S R) (h : Closing [] (Put u ∷ rest) s) (low : (x : Record K V) → record_at s.records u.number ≡ Some x → is_settled x ≡ false)
      (out : (x : Record K V) → record_at s.records u.number ≡ Some x → is_some x.counts ≡ false) where
    abbrev put_off_in : List (Record K V)
    put_off_in = applied_to u rest s h low (λ x. x.counts)

    -- an admitted one is not this record
    put_off-apart : (k : ℕ) (y : Record K V) → record_at put_off_in k ≡ Some y → is_some y.counts ≡ true → k ≡ u.number → ⊥
    put_off-apart k y here ya same =
        let o = changed-from u.number u.number (f u rest s h low (λ x. x.counts)) (λ x. refl) s.records y (ap (λ n. record_at put_off_in n) (sym same) ∙ here) in
        let counts : o.0.counts ≡ y.counts = elim o.2 [ inl e ↦ ap (λ z. z.counts) (sym e) | inr e ↦ ap (λ z. z.counts) (sym e) ] in
        true≢false (sym ya ∙ ap (λ c. is_some c) (sym counts) ∙ out o.0 o.1)

    put_off-there : (k : ℕ) (y : Record K V) → record_at put_off_in k ≡ Some y → is_some y.counts ≡ true → record_at s.records k ≡ Some y
    put_off-there k y here ya = same_there u rest s h low (λ x. x.counts) k y (put_off-apart k y here ya) here

    closing-put_off : Closing [] rest (put_off u s)
    closing-put_off = applied-close u rest s h low (λ x. x.counts) s.access s.order (order-map (IsCloseTo []) (IsCloseTo []) s.records put_off_in
        (λ k m y x here there rel. λ held ya xa none. rel y x (put_off-there k y here ya) (put_off-there m x there xa) held ya xa none) s.access h.listed)

  closing-either : (t : Bool) (rs : List Read) (ws : List Write) (x y : State K V P S R) → Closing rs ws x → Closing rs ws y → Closing rs ws (cond t x y)
  closing-either true rs ws x y p q = p
  closing-either false rs ws x y p q = q

  closing-judged : (u : Upsert) (rest : List Write) (s : State K V P S R) (r : Record K V) (v : Verdict K V) → Closing [] (Put u ∷ rest) s → ((x : Record K V) → record_at s.records u.number ≡ Some x → is_settled x ≡ false)
      → ((x : Record K V) → record_at s.records u.number ≡ Some x → is_some x.counts ≡ false) → Closing [] rest (judged u r s v)
  closing-judged u rest s r admit h low out = closing-counting u rest s h low
  closing-judged u rest s r (displace vs) h low out = closing-counting u rest (all_left cause.Size vs s) (closing-all_left [] (Put u ∷ rest) cause.Size vs s h) (λ x there. low x (all_left-back [] (Put u ∷ rest) cause.Size vs s h u.number x there))
  closing-judged u rest s r refuse h low out =
      closing-either (is_overtaken u r) [] rest (put_off u s) (left cause.Size u.number s) (closing-put_off u rest s h low out)
      (closing-skip u rest (left cause.Size u.number s) (closing-left [] (Put u ∷ rest) cause.Size u.number s h))

  closing-put : (u : Upsert) (rest : List Write) (s : State K V P S R) → Closing [] (Put u ∷ rest) s → ((x : Record K V) → record_at s.records u.number ≡ Some x → u.write ≤ x.writes) → Closing [] rest (after_put u (record_at s.records u.number) s)
  closing-put u rest s h earlier = go (record_at s.records u.number) refl
    where
      go : (o : Option (Record K V)) → record_at s.records u.number ≡ o → Closing [] rest (after_put u o s)
      go None absent = closing-skip u rest s h
      go (Some r) here = by_applied (nat_lt r.applied u.write) refl
        where
          one : (x : Record K V) → record_at s.records u.number ≡ Some x → r ≡ x
          one x there = let both : Some r ≡ Some x = sym here ∙ there in cc

          by_applied : (t : Bool) → nat_lt r.applied u.write ≡ t → Closing [] rest (cond t (cond (is_some r.counts) (counting u s) (judged u r s (verdict s u))) s)
          by_applied false t = closing-skip u rest s h
          by_applied true t =
              let below = ltb-true r.applied u.write t in
              let most = earlier r here in
              let low = λ (x : Record K V) (there : record_at s.records u.number ≡ Some x). subst (λ z. is_settled z ≡ false) (one x there) (unsettled (is_settled r) refl) in
              by_counts low (is_some r.counts) refl
            where
              unsettled : (c : Bool) → is_settled r ≡ c → c ≡ false
              unsettled false e = refl
              unsettled true e = absurd (let same = eqb-true r.writes r.applied e in let below = ltb-true r.applied u.write t in let most = earlier r here in omega (arith, same, below, most))

              by_counts : ((x : Record K V) → record_at s.records u.number ≡ Some x → is_settled x ≡ false) → (c : Bool) → is_some r.counts ≡ c → Closing [] rest (cond c (counting u s) (judged u r s (verdict s u)))
              by_counts low true e = closing-counting u rest s h low
              by_counts low false e = closing-judged u rest s r (verdict s u) h low (λ x there. subst (λ z. is_some z.counts ≡ false) (one x there) e)

  closing-removal : (n : ℕ) (rest : List Write) (s : State K V P S R) (o : Option (Record K V)) → Closing [] (Removed n ∷ rest) s → Closing [] rest (after_removal o s)
  closing-removal n rest s o h = go o
    where
      less : Closing [] rest s
      less = record { numbered = h.numbered; listed = h.listed; waiting = h.waiting; near = inl (near_all (Removed n) rest s h); late = h.late }

      go : (o : Option (Record K V)) → Closing [] rest (after_removal o s)
      go None = less
      go (Some r) = let k = closing-with_left [] rest cause.Size s (Some r) less in
          closing-either r.is_held [] rest s (record s { records = without_record r.number s.records; access = without r.number s.access; order = without r.number s.order }) less
          (record { numbered = k.numbered; listed = k.listed; waiting = k.waiting; near = k.near; late = k.late })

  -- ---- whole runs

  read-queues : (r : Read) (s : State K V P S R) → ((after_read r s).reads ≡ s.reads) × ((after_read r s).writes ≡ s.writes)
  read-queues (Miss hash) s = (refl, refl)
  read-queues (Hit n hash) s = by_record (record_at s.records n)
    where
      t : State K V P S R
      t = record s { sketch = incremented s.sketch hash }

      by_counts : (m : ℕ) (c : Bool) → ((cond c (record t { access = moved_to_back m t.access }) t).reads ≡ s.reads) × ((cond c (record t { access = moved_to_back m t.access }) t).writes ≡ s.writes)
      by_counts m true = (refl, refl)
      by_counts m false = (refl, refl)

      by_record : (o : Option (Record K V)) → ((after_hit o t).reads ≡ s.reads) × ((after_hit o t).writes ≡ s.writes)
      by_record None = (refl, refl)
      by_record (Some r) = by_counts r.number (is_some r.counts)

  -- only the records and the access list matter
  closing-same : (rs : List Read) (ws : List Write) (s t : State K V P S R) → t.records ≡ s.records → t.access ≡ s.access → Closing rs ws s → Closing rs ws t
  closing-same rs ws s t same order h = record {
    numbered = subst (λ l. AreNumbered l) (sym same) h.numbered;
    listed = subst (λ l. InOrderBy (IsCloseTo rs) l t.access) (sym same) (subst (λ l. InOrderBy (IsCloseTo rs) s.records l) (sym order) h.listed);
    waiting = subst (λ l. Each (IsSince b rs) l) (sym same) h.waiting;
    near = subst (λ l. Each (IsSettledNear b) l ⊎ ((rs ≡ []) × (ws ≡ []))) (sym same) h.near;
    late = subst (λ l. LateIsLast b ws l) (sym same) h.late;
  }

  closing-read : (r : Read) (rest : List Read) (ws : List Write) (s : State K V P S R) → Closing (r ∷ rest) ws s → Closing rest ws (after_read r s)
  closing-read (Hit n hash) rest ws s h = closing-hit n hash rest ws s h
  closing-read (Miss hash) rest ws s h = closing-miss hash rest ws s h

  closing-write : (w : Write) (rest : List Write) (s : State K V P S R) → ((u : Upsert) → w ≡ Put u → (x : Record K V) → record_at s.records u.number ≡ Some x → u.write ≤ x.writes) → Closing [] (w ∷ rest) s → Closing [] rest (after_write w s)
  closing-write (Put u) rest s earlier h = closing-put u rest s h (earlier u refl)
  closing-write (Removed n) rest s earlier h = closing-removal n rest s (record_at s.records n) h

  pub Going : State K V P S R → Type 0
  Going s = Closing s.reads s.writes s

  module _ (answers : Answers K V P R) (now : ℕ) where
    closing-step : (s t : State K V P S R) → IsSound s → Closing s.reads s.writes s → Step answers now s t → Closing t.reads t.writes t
    closing-step s t sound h (reads r rest e after) =
        let p = record s { reads = rest } in
        let q = read-queues r p in
        let k = closing-read r rest s.writes p (closing-same (r ∷ rest) s.writes s p refl refl (subst (λ l. Closing l s.writes s) e h)) in
        subst (λ x. Closing x.reads x.writes x) (sym after) (subst (λ l. Closing l (after_read r p).writes (after_read r p)) (sym q.0) (subst (λ l. Closing rest l (after_read r p)) (sym q.1) k))
    closing-step s t sound h (writes w rest none e after) =
        let p = record s { writes = rest } in
        let q = after_write-frame w p in
        let k = closing-write w rest p
        (λ u is x there.
        let a = each-at (IsAccounted s.unsent s.writes) s.records u.number x sound.records.accounted there in
        (a.fits (Put u) (inr (subst (λ l. IsIn (Put u) l) (sym e) (inl is))) (sym (record_at-number s.records u.number x there))).earlier)
        (closing-same [] (w ∷ rest) s p refl refl (subst (λ l. Closing l (w ∷ rest) s) none (subst (λ l. Closing s.reads l s) e h))) in
        subst (λ x. Closing x.reads x.writes x) (sym after) (subst (λ l. Closing l (after_write w p).writes (after_write w p)) (sym (q.reads ∙ none)) (subst (λ l. Closing [] l (after_write w p)) (sym q.writes) k))
    closing-step s t sound h (grows words applied wants capacity is_set size after) = subst (λ x. Closing x.reads x.writes x) (sym after) (closing-same s.reads s.writes s _ refl refl h)
    closing-step s t sound h (leaves r why applied there held due after) = subst (λ x. Closing x.reads x.writes x) (sym after) (left-going why r.number s h)
      where
        left-going : (why : RemovalCause) (n : ℕ) (s : State K V P S R) → Closing s.reads s.writes s → Closing (left why n s).reads (left why n s).writes (left why n s)
        left-going why n s h =
            let q = left-frame why n s in
            subst (λ l. Closing l (left why n s).writes (left why n s)) (sym q.reads) (subst (λ l. Closing s.reads l (left why n s)) (sym q.writes) (closing-left s.reads s.writes why n s h))
    closing-step s t sound h (evicts r applied clean above next after) = subst (λ x. Closing x.reads x.writes x) (sym after) (left-going cause.Size r.number s h)
      where
        left-going : (why : RemovalCause) (n : ℕ) (s : State K V P S R) → Closing s.reads s.writes s → Closing (left why n s).reads (left why n s).writes (left why n s)
        left-going why n s h =
            let q = left-frame why n s in
            subst (λ l. Closing l (left why n s).writes (left why n s)) (sym q.reads) (subst (λ l. Closing s.reads l (left why n s)) (sym q.writes) (closing-left s.reads s.writes why n s h))
    closing-step s t sound h (ends place p applied there none after) = subst (λ x. Closing x.reads x.writes x) (sym after) (closing-same s.reads s.writes s _ refl refl h)

    closing-steps : (stages : List (State K V P S R)) (s t : State K V P S R) → IsSound s → Closing s.reads s.writes s → Steps answers now s stages t → Closing t.reads t.writes t
    closing-steps [] s t sound h e = subst (λ x. Closing x.reads x.writes x) (sym e) h
    closing-steps (mid ∷ stages) s t sound h e = closing-steps stages mid t (step-sound answers now s mid sound e.0) (closing-step s mid sound h e.0) e.1

    -- after a run that began with all tickets sent no record was used 300 milliseconds or more before one in front of it
    pub run-close : (old new : State K V P S R) → IsSound old → old.unsent ≡ [] → Closing old.reads old.writes old → Runs answers now old new → InOrderBy IsUsedBefore new.records new.access
    run-close old new sound sent h run =
        let k = closing-steps run.stages old run.last sound h run.steps in
        let l = run-leaves answers now old new sound sent run in
        let m : Closing run.last.reads run.last.writes new = closing-same run.last.reads run.last.writes run.last new (ap (λ x. x.records) run.after) (ap (λ x. x.access) run.after) k in
        order-map (IsCloseTo run.last.reads) IsUsedBefore new.records new.records
        (λ i j y x here there rel.
        let yc = each-at IsCounted new.records i y l.counted here in
        let xc = each-at IsCounted new.records j x l.counted there in
        rel y x here there xc.held (ap (λ o. is_some o) yc.counts) (ap (λ o. is_some o) xc.counts)
        (λ w. elim w [ inl e ↦ true≢false (sym (eq-eqb y.writes y.applied (sym yc.settled)) ∙ e) | inr i ↦ elim (subst (λ rs. IsIn y.number (hits rs)) run.applied.reads i) [ ] ])) new.access m.listed
