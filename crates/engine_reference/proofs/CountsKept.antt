-- The sketch's counts, which nothing changes but reads and the making of the table.
use Rattle.std.proofs.Common.{arith, ◌≡◌, refl, ap, sym, ◌∙◌, ℕ, true, true≢false, ◌&&◌, List, [], ◌∷◌, Option, Some, None, is_some, ◌==◌}
use Rattle.std.specs.Prelude.{nat_lt}
use Rattle.std.proofs.lemmas.Bool.{cond_both, eqb-true}
use Rattle.policy_base.specs.Counts.{incremented}
use Rattle.engine_reference.specs.declared.rules.causes.RemovalCause.{RemovalCause}
use Rattle.engine_reference.specs.declared.rules.causes.RemovalCause.TheVariants as cause
use Rattle.engine_reference.specs.declared.data.Record.{Record}
use Rattle.engine_reference.specs.declared.data.Upsert.{Upsert}
use Rattle.engine_reference.specs.declared.data.Read.{Read}
use Rattle.engine_reference.specs.declared.data.Read.TheVariants.{Hit, Miss}
use Rattle.engine_reference.specs.declared.data.Write.{Write}
use Rattle.engine_reference.specs.declared.data.Write.TheVariants.{Put, Removed}
use Rattle.engine_reference.specs.Admission.{Verdict, admit, displace, refuse, verdict, wants_table}
use Rattle.engine_reference.specs.Calls.{with_sent, unsent_at, with_removed}
use Rattle.engine_reference.specs.Laws.{CountsAreKept, SketchStep, kept, counted, made, hash_of}
use Rattle.engine_reference.specs.Records.{record_at, held_at, admitted_weight}
use Rattle.engine_reference.specs.Runs.{Step, reads, writes, grows, leaves, evicts, ends, with_left, left, all_left, after_read, after_hit, after_write, after_put, after_removal, judged, is_overtaken}
use Rattle.engine_reference.specs.State.{State, Answers}
use Rattle.std.specs.Prelude.{nat_le, ◌/◌}
use Rattle.std.proofs.lemmas.Bool.{and_parts}
use Rattle.policy_base.specs.Counts.{Sketch}
use Rattle.std.proofs.lemmas.Bool.Decides.{nat_tests}

module _ {K V P S R : Type 0} where
  with_left-sketch : (why : RemovalCause) (s : State K V P S R) (o : Option (Record K V)) → (with_left why s o).sketch ≡ s.sketch
  with_left-sketch why s None = refl
  with_left-sketch why s (Some r) = refl

  left-sketch : (why : RemovalCause) (number : ℕ) (s : State K V P S R) → (left why number s).sketch ≡ s.sketch
  left-sketch why number s = with_left-sketch why s (record_at s.records number)

  all_left-sketch : (why : RemovalCause) (rs : List (Record K V)) (s : State K V P S R) → (all_left why rs s).sketch ≡ s.sketch
  all_left-sketch why [] s = refl
  all_left-sketch why (r ∷ rs) s = all_left-sketch why rs (left why r.number s) ∙ left-sketch why r.number s

  judged-sketch : (u : Upsert) (r : Record K V) (s : State K V P S R) (v : Verdict K V) → (judged u r s v).sketch ≡ s.sketch
  judged-sketch u r s admit = refl
  judged-sketch u r s (displace victims) = all_left-sketch cause.Size victims s
  judged-sketch u r s refuse = cond_both (is_overtaken u r) _ _ (λ (t : State K V P S R). t.sketch ≡ s.sketch) (λ _. refl) (λ _. left-sketch cause.Size u.number s)

  after_put-sketch : (u : Upsert) (o : Option (Record K V)) (s : State K V P S R) → (after_put u o s).sketch ≡ s.sketch
  after_put-sketch u None s = refl
  after_put-sketch u (Some r) s =
      cond_both (nat_lt r.applied u.write) _ _ (λ (t : State K V P S R). t.sketch ≡ s.sketch)
      (λ _. cond_both (is_some r.counts) _ _ (λ (t : State K V P S R). t.sketch ≡ s.sketch) (λ _. refl) (λ _. judged-sketch u r s (verdict s u))) (λ _. refl)

  after_removal-sketch : (o : Option (Record K V)) (s : State K V P S R) → (after_removal o s).sketch ≡ s.sketch
  after_removal-sketch None s = refl
  after_removal-sketch (Some r) s = grind (arith, nat_tests)

  after_write-sketch : (w : Write) (s : State K V P S R) → (after_write w s).sketch ≡ s.sketch
  after_write-sketch (Put u) s = after_put-sketch u (record_at s.records u.number) s
  after_write-sketch (Removed number) s = after_removal-sketch (record_at s.records number) s

  after_hit-sketch : (o : Option (Record K V)) (s : State K V P S R) → (after_hit o s).sketch ≡ s.sketch
  after_hit-sketch None s = refl
  after_hit-sketch (Some r) s = grind (arith, nat_tests)

  after_read-sketch : (r : Read) (s : State K V P S R) → (after_read r s).sketch ≡ incremented s.sketch (hash_of r)
  after_read-sketch (Hit number hash) s = after_hit-sketch (record_at s.records number) (record s { sketch = incremented s.sketch hash })
  after_read-sketch (Miss hash) s = refl

  with_sent-sketch : (ticket : ℕ) (o : Option Write) (s : State K V P S R) → (with_sent ticket o s).sketch ≡ s.sketch
  with_sent-sketch ticket None s = refl
  with_sent-sketch ticket (Some w) s = refl

  with_removed-sketch : (o : Option (Record K V)) (s : State K V P S R) → (with_removed o s).sketch ≡ s.sketch
  with_removed-sketch None s = refl
  with_removed-sketch (Some r) s = refl

no_table : (capacity : Option ℕ) (words : ℕ) (weight : ℕ) (sketch : Sketch) → wants_table capacity sketch weight ≡ true → sketch.words ≡ 0
no_table None words weight sketch h = absurd (true≢false (sym h))
no_table (Some capacity) words weight sketch h =
    eqb-true sketch.words 0 (and_parts (nat_lt 0 capacity) (sketch.words == 0) (and_parts (nat_lt 0 capacity && (sketch.words == 0)) (nat_le (capacity / 2) weight) h).0).1

module _ (K V P S R : Type 0) where
  step-sketch : (answers : Answers K V P R) (now : ℕ) (old new : State K V P S R) → Step answers now old new → SketchStep K V P S R old new
  step-sketch answers now old new (reads r rest e after) = counted r rest e (ap (λ s. s.sketch) after ∙ after_read-sketch r (record old { reads = rest }))
  step-sketch answers now old new (writes w rest none e after) = kept (ap (λ s. s.sketch) after ∙ after_write-sketch w (record old { writes = rest }))
  step-sketch answers now old new (grows words applied wants capacity is_set size after) = made (no_table old.settings.capacity words (admitted_weight old.records) old.sketch wants)
  step-sketch answers now old new (leaves r why applied there held due after) = kept (ap (λ s. s.sketch) after ∙ left-sketch why r.number old)
  step-sketch answers now old new (evicts r applied clean above next after) = kept (ap (λ s. s.sketch) after ∙ left-sketch cause.Size r.number old)
  step-sketch answers now old new (ends place p applied there none after) = kept (ap (λ s. s.sketch) after)

  pub counts_are_kept : CountsAreKept K V P S R
  counts_are_kept = record {
    steps = step-sketch;
    written = after_write-sketch;
    left = left-sketch;
    removed = λ eq key s. with_removed-sketch (held_at eq s.records key) s;
    cleared = λ step s. refl;
    covered = λ p s. refl;
    sent = λ ticket s. with_sent-sketch ticket (unsent_at s.unsent ticket) s;
  }
