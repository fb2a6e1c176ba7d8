-- What maintenance has no part in, which no run changes.
use Rattle.std.proofs.Common.{◌≡◌, refl, ap, ◌∙◌, ℕ, List, [], ◌∷◌, Option, Some, None, is_some}
use Rattle.std.specs.Prelude.{nat_lt}
use Rattle.std.proofs.lemmas.Bool.{cond_both}
use Rattle.policy_base.specs.Counts.{incremented}
use Rattle.engine_reference.specs.declared.rules.causes.RemovalCause.{RemovalCause}
use Rattle.engine_reference.specs.declared.rules.causes.RemovalCause.TheVariants as cause
use Rattle.engine_reference.specs.declared.data.Record.{Record}
use Rattle.engine_reference.specs.declared.data.Upsert.{Upsert}
use Rattle.engine_reference.specs.declared.data.Read.{Read}
use Rattle.engine_reference.specs.declared.data.Read.TheVariants.{Hit, Miss}
use Rattle.engine_reference.specs.declared.data.Write.{Write}
use Rattle.engine_reference.specs.declared.data.Write.TheVariants.{Put, Removed}
use Rattle.engine_reference.specs.Admission.{Verdict, admit, displace, refuse, verdict}
use Rattle.engine_reference.specs.Laws.{rest_of, RunsKeepRest}
use Rattle.engine_reference.specs.Records.{record_at}
use Rattle.engine_reference.specs.Runs.{Step, Steps, Runs, reads, writes, grows, leaves, evicts, ends, with_left, left, all_left, after_read, after_hit, after_write, after_put, after_removal, judged, is_overtaken}
use Rattle.engine_reference.specs.State.{State, Answers}

module _ {K V P S R : Type 0} where
  with_left-rest : (why : RemovalCause) (s : State K V P S R) (o : Option (Record K V)) → rest_of (with_left why s o) ≡ rest_of s
  with_left-rest why s None = refl
  with_left-rest why s (Some r) = refl

  left-rest : (why : RemovalCause) (number : ℕ) (s : State K V P S R) → rest_of (left why number s) ≡ rest_of s
  left-rest why number s = with_left-rest why s (record_at s.records number)

  all_left-rest : (why : RemovalCause) (rs : List (Record K V)) (s : State K V P S R) → rest_of (all_left why rs s) ≡ rest_of s
  all_left-rest why [] s = refl
  all_left-rest why (r ∷ rs) s = all_left-rest why rs (left why r.number s) ∙ left-rest why r.number s

  judged-rest : (u : Upsert) (r : Record K V) (s : State K V P S R) (v : Verdict K V) → rest_of (judged u r s v) ≡ rest_of s
  judged-rest u r s admit = refl
  judged-rest u r s (displace victims) = all_left-rest cause.Size victims s
  judged-rest u r s refuse = cond_both (is_overtaken u r) _ _ (λ (t : State K V P S R). rest_of t ≡ rest_of s) (λ _. refl) (λ _. left-rest cause.Size u.number s)

  after_put-rest : (u : Upsert) (o : Option (Record K V)) (s : State K V P S R) → rest_of (after_put u o s) ≡ rest_of s
  after_put-rest u None s = refl
  after_put-rest u (Some r) s =
      cond_both (nat_lt r.applied u.write) _ _ (λ (t : State K V P S R). rest_of t ≡ rest_of s)
      (λ _. cond_both (is_some r.counts) _ _ (λ (t : State K V P S R). rest_of t ≡ rest_of s) (λ _. refl) (λ _. judged-rest u r s (verdict s u))) (λ _. refl)

  after_removal-rest : (o : Option (Record K V)) (s : State K V P S R) → rest_of (after_removal o s) ≡ rest_of s
  after_removal-rest None s = refl
  after_removal-rest (Some r) s = cond_both r.is_held _ _ (λ (t : State K V P S R). rest_of t ≡ rest_of s) (λ _. refl) (λ _. refl)

  after_write-rest : (w : Write) (s : State K V P S R) → rest_of (after_write w s) ≡ rest_of s
  after_write-rest (Put u) s = after_put-rest u (record_at s.records u.number) s
  after_write-rest (Removed number) s = after_removal-rest (record_at s.records number) s

  after_hit-rest : (o : Option (Record K V)) (s : State K V P S R) → rest_of (after_hit o s) ≡ rest_of s
  after_hit-rest None s = refl
  after_hit-rest (Some r) s = cond_both (is_some r.counts) _ _ (λ (t : State K V P S R). rest_of t ≡ rest_of s) (λ _. refl) (λ _. refl)

  after_read-rest : (r : Read) (s : State K V P S R) → rest_of (after_read r s) ≡ rest_of s
  after_read-rest (Hit number hash) s = after_hit-rest (record_at s.records number) (record s { sketch = incremented s.sketch hash })
  after_read-rest (Miss hash) s = refl

  step-rest : (answers : Answers K V P R) (now : ℕ) (old new : State K V P S R) → Step answers now old new → rest_of new ≡ rest_of old
  step-rest answers now old new (reads r rest e after) = ap (λ s. rest_of s) after ∙ after_read-rest r (record old { reads = rest })
  step-rest answers now old new (writes w rest none e after) = ap (λ s. rest_of s) after ∙ after_write-rest w (record old { writes = rest })
  step-rest answers now old new (grows words applied wants capacity is_set size after) = ap (λ s. rest_of s) after
  step-rest answers now old new (leaves r why applied there held due after) = ap (λ s. rest_of s) after ∙ left-rest why r.number old
  step-rest answers now old new (evicts r applied clean above next after) = ap (λ s. rest_of s) after ∙ left-rest cause.Size r.number old
  step-rest answers now old new (ends place p applied there none after) = ap (λ s. rest_of s) after

  steps-rest : (answers : Answers K V P R) (now : ℕ) (old : State K V P S R) (mids : List (State K V P S R)) (new : State K V P S R) → Steps answers now old mids new → rest_of new ≡ rest_of old
  steps-rest answers now old [] new e = ap (λ s. rest_of s) e
  steps-rest answers now old (mid ∷ mids) new h = steps-rest answers now mid mids new h.1 ∙ step-rest answers now old mid h.0

  pub run-rest : (answers : Answers K V P R) (now : ℕ) (old new : State K V P S R) → Runs answers now old new → rest_of new ≡ rest_of old
  run-rest answers now old new h = ap (λ s. rest_of s) h.after ∙ steps-rest answers now old h.stages h.last h.steps

module _ (K V P S R : Type 0) where
  pub runs_keep_rest : RunsKeepRest K V P S R
  runs_keep_rest = run-rest
