-- Steps in a row, and what the count of a read leaves.
use Rattle.std.proofs.Common.{◌≡◌, refl, ap, sym, ◌∙◌, subst, ℕ, zero, suc, ◌+◌, ◌≤◌, arith, List, [], ◌∷◌, ◌++◌, drop, length, Option, Some, None, is_some, inl, inr}
use Rattle.std.specs.Prelude.{nat_lt, slice_get}
use Rattle.std.proofs.lemmas.Bool.{cases_Bool, cond_both}
use Rattle.engine_reference.specs.Admission.{Verdict, admit, displace, refuse, verdict}
use Rattle.engine_reference.specs.declared.rules.causes.RemovalCause.{RemovalCause}
use Rattle.engine_reference.specs.declared.rules.causes.RemovalCause.TheVariants as cause
use Rattle.engine_reference.specs.declared.data.Upsert.{Upsert}
use Rattle.engine_reference.proofs.SoundSteps.{after_write-frame}
use Rattle.engine_reference.specs.declared.data.Record.{Record}
use Rattle.engine_reference.specs.declared.data.Read.{Read}
use Rattle.engine_reference.specs.declared.data.Read.TheVariants.{Hit, Miss}
use Rattle.engine_reference.specs.Records.{record_at}
use Rattle.engine_reference.specs.Runs.{Step, Steps, reads, writes, all_applied, all_counted, all_written, written_through, after_read, after_hit, after_write, after_put, after_removal, with_left, left, all_left, judged, counting, is_overtaken}
use Rattle.engine_reference.specs.State.{State, Answers}
use Rattle.engine_reference.specs.declared.data.Write.{Write}
use Rattle.engine_reference.specs.declared.data.Write.TheVariants.{Put, Removed}
use Rattle.engine_reference.specs.Soundness.{number_of}
use Rattle.engine_cells.specs.Noting.{number_written}
use Rattle.engine_cells.specs.Stretches.{Stretch}

pub number-is : (w : Write) → number_written w ≡ number_of w
number-is (Put u) = refl
number-is (Removed number) = refl

drop-there : {X : Type 0} (xs : List X) (i : ℕ) (x : X) → slice_get xs i ≡ Some x → drop i xs ≡ x ∷ drop (suc i) xs
drop-there [] i x h = absurd (cc)
drop-there (y ∷ xs) zero x h = let same : y ≡ x = cc in ap (λ z. z ∷ xs) same
drop-there (y ∷ xs) (suc i) x h = drop-there xs i x h

one_more : (i : ℕ) → suc i ≡ i + 1
one_more i = omega arith

pub drop-all : {X : Type 0} (xs : List X) (i : ℕ) → length xs ≤ i → drop i xs ≡ []
drop-all [] zero h = refl
drop-all [] (suc i) h = refl
drop-all (x ∷ xs) zero h = absurd (omega arith)
drop-all (x ∷ xs) (suc i) h = drop-all xs i (omega arith)

module _ {K V P S R : Type 0} where
  reads-hit : (o : Option (Record K V)) (s : State K V P S R) → (after_hit o s).reads ≡ s.reads
  reads-hit None s = refl
  reads-hit (Some r) s = cond_both (is_some r.counts) _ _ (λ (t : State K V P S R). t.reads ≡ s.reads) (λ _. refl) (λ _. refl)

  pub reads-left : (r : Read) (s : State K V P S R) → (after_read r s).reads ≡ s.reads
  reads-left (Hit number hash) s = reads-hit (record_at s.records number) (record s { sketch = (after_read (Miss hash) s).sketch })
  reads-left (Miss hash) s = refl

  -- ---- what waits has no part in what a read or a write does

  reads-apart : (r : Read) (s : State K V P S R) (rs : List Read) → after_read r (record s { reads = rs }) ≡ record (after_read r s) { reads = rs }
  reads-apart (Miss hash) s rs = refl
  reads-apart (Hit number hash) s rs = go (record_at s.records number)
    where
      t : State K V P S R
      t = after_read (Miss hash) s

      go : (o : Option (Record K V)) → after_hit o (record t { reads = rs }) ≡ record (after_hit o t) { reads = rs }
      go None = refl
      go (Some r) = elim (cases_Bool (is_some r.counts)) [ inl e ↦ rw e | inr e ↦ rw e ]

  module _ (ws : List Write) where
    left-apart : (why : RemovalCause) (s : State K V P S R) (o : Option (Record K V)) → with_left why (record s { writes = ws }) o ≡ record (with_left why s o) { writes = ws }
    left-apart why s None = refl
    left-apart why s (Some r) = refl

    all_left-apart : (why : RemovalCause) (rs : List (Record K V)) (s : State K V P S R) → all_left why rs (record s { writes = ws }) ≡ record (all_left why rs s) { writes = ws }
    all_left-apart why [] s = refl
    all_left-apart why (r ∷ rs) s = ap (λ t. all_left why rs t) (left-apart why s (record_at s.records r.number)) ∙ all_left-apart why rs (left why r.number s)

    judged-apart : (u : Upsert) (r : Record K V) (s : State K V P S R) (v : Verdict K V) → judged u r (record s { writes = ws }) v ≡ record (judged u r s v) { writes = ws }
    judged-apart u r s admit = refl
    judged-apart u r s (displace victims) = ap (λ t. counting u t) (all_left-apart cause.Size victims s)
    judged-apart u r s refuse = elim (cases_Bool (is_overtaken u r)) [ inl e ↦ rw e | inr e ↦ rw e (left-apart cause.Size s (record_at s.records u.number)) ]

    put-apart : (u : Upsert) (o : Option (Record K V)) (s : State K V P S R) → after_put u o (record s { writes = ws }) ≡ record (after_put u o s) { writes = ws }
    put-apart u None s = refl
    put-apart u (Some r) s = elim (cases_Bool (nat_lt r.applied u.write)) [
      | inl new ↦ rw new (elim (cases_Bool (is_some r.counts)) [ inl e ↦ rw e | inr e ↦ rw e (judged-apart u r s (verdict s u)) ])
      | inr old ↦ rw old
    ]

    removal-apart : (o : Option (Record K V)) (s : State K V P S R) → after_removal o (record s { writes = ws }) ≡ record (after_removal o s) { writes = ws }
    removal-apart None s = refl
    removal-apart (Some r) s = elim (cases_Bool r.is_held) [ inl e ↦ rw e | inr e ↦ rw e ]

    writes-apart : (w : Write) (s : State K V P S R) → after_write w (record s { writes = ws }) ≡ record (after_write w s) { writes = ws }
    writes-apart (Put u) s = put-apart u (record_at s.records u.number) s
    writes-apart (Removed number) s = removal-apart (record_at s.records number) s

-- ---- a walk over those that wait comes to the one at a place

module _ {K V P S R : Type 0} (mid new : State K V P S R) (i : ℕ) where
  read-first : (r : Read) → slice_get mid.reads i ≡ Some r → drop i mid.reads ≡ r ∷ drop (i + 1) mid.reads
  read-first r at = drop-there mid.reads i r at ∙ ap (λ k. r ∷ drop k mid.reads) (one_more i)

  read-next : (r : Read) → new ≡ after_read r mid → record new { reads = drop (i + 1) new.reads } ≡ after_read r (record mid { reads = drop (i + 1) mid.reads })
  read-next r is =
      ap (λ (s : State K V P S R). record s { reads = drop (i + 1) s.reads }) is ∙ ap (λ rs. record (after_read r mid) { reads = drop (i + 1) rs }) (reads-left r mid) ∙ sym (reads-apart r mid (drop (i + 1) mid.reads))

  write-first : (w : Write) → slice_get mid.writes i ≡ Some w → drop i mid.writes ≡ w ∷ drop (i + 1) mid.writes
  write-first w at = drop-there mid.writes i w at ∙ ap (λ k. w ∷ drop k mid.writes) (one_more i)

  write-next : (w : Write) → new ≡ after_write w mid → record new { writes = drop (i + 1) new.writes } ≡ after_write w (record mid { writes = drop (i + 1) mid.writes })
  write-next w is =
      ap (λ (s : State K V P S R). record s { writes = drop (i + 1) s.writes }) is ∙ ap (λ ws. record (after_write w mid) { writes = drop (i + 1) ws }) (after_write-frame w mid).writes ∙ sym (writes-apart (drop (i + 1) mid.writes) w mid)

-- ---- and what all of them lead to stays the same

module _ {K V P S R : Type 0} where
  -- where no read waits
  written-of : (s : State K V P S R) → s.reads ≡ [] → all_applied s ≡ written_through s
  written-of s none = ap (λ rs. written_through (all_counted rs s)) none

  -- and no write
  pub nothing-left : (s : State K V P S R) → s.reads ≡ [] → s.writes ≡ [] → all_applied s ≡ s
  nothing-left s none empty = written-of s none ∙ ap (λ ws. all_written ws s) empty

  pub read-on : (mid new : State K V P S R) (i : ℕ) (r : Read) → slice_get mid.reads i ≡ Some r → new ≡ after_read r mid
      → all_applied (record new { reads = drop (i + 1) new.reads }) ≡ all_applied (record mid { reads = drop i mid.reads })
  read-on mid new i r at is =
      let rest = drop (i + 1) mid.reads in
      let next = after_read r (record mid { reads = rest }) in
      ap (λ (s : State K V P S R). all_applied s) (read-next mid new i r is) ∙ ap (λ rs. written_through (all_counted rs next)) (reads-left r (record mid { reads = rest }))
      ∙ ap (λ rs. all_applied (record mid { reads = rs })) (sym (read-first mid new i r at))

  pub write-on : (mid new : State K V P S R) (i : ℕ) (w : Write) → mid.reads ≡ [] → slice_get mid.writes i ≡ Some w → new ≡ after_write w mid
      → all_applied (record new { writes = drop (i + 1) new.writes }) ≡ all_applied (record mid { writes = drop i mid.writes })
  write-on mid new i w none at is =
      let rest = drop (i + 1) mid.writes in
      let next = after_write w (record mid { writes = rest }) in
      let frame = after_write-frame w (record mid { writes = rest }) in
      ap (λ (s : State K V P S R). all_applied s) (write-next mid new i w is) ∙ written-of next (frame.reads ∙ none) ∙ ap (λ ws. all_written ws next) frame.writes
      ∙ sym (written-of (record mid { writes = w ∷ rest }) none) ∙ ap (λ ws. all_applied (record mid { writes = ws })) (sym (write-first mid new i w at))

module _ {K V P S R : Type 0} (answers : Answers K V P R) (now : ℕ) where
  pub stretch-start : (s : State K V P S R) → Stretch answers now s s
  stretch-start s = record { stages = []; steps = refl }

  steps-more : (stages : List (State K V P S R)) (old mid new : State K V P S R) → Steps answers now old stages mid → Step answers now mid new → Steps answers now old (stages ++ new ∷ []) new
  steps-more [] old mid new e step = (subst (λ s. Step answers now s new) e step, refl)
  steps-more (t ∷ stages) old mid new h step = (h.0, steps-more stages t mid new h.1 step)

  pub stretch-more : (old mid new : State K V P S R) → Stretch answers now old mid → Step answers now mid new → Stretch answers now old new
  stretch-more old mid new h step = record { stages = h.stages ++ new ∷ []; steps = steps-more h.stages old mid new h.steps step }

  -- the read at a place is counted, and the write at a place applied, as a walk over those that wait comes to it
  pub walk-read : (old mid new : State K V P S R) (i : ℕ) (r : Read) → Stretch answers now old (record mid { reads = drop i mid.reads }) → slice_get mid.reads i ≡ Some r → new ≡ after_read r mid
      → Stretch answers now old (record new { reads = drop (i + 1) new.reads })
  walk-read old mid new i r h at is =
      stretch-more old (record mid { reads = drop i mid.reads }) _ h (reads r (drop (i + 1) mid.reads) (read-first mid new i r at) (read-next mid new i r is))

  pub walk-write : (old mid new : State K V P S R) (i : ℕ) (w : Write) → mid.reads ≡ [] → Stretch answers now old (record mid { writes = drop i mid.writes }) → slice_get mid.writes i ≡ Some w → new ≡ after_write w mid
      → Stretch answers now old (record new { writes = drop (i + 1) new.writes })
  walk-write old mid new i w none h at is =
      stretch-more old (record mid { writes = drop i mid.writes }) _ h (writes w (drop (i + 1) mid.writes) none (write-first mid new i w at) (write-next mid new i w is))
