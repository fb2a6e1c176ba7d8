-- What no step of a run changes, among it what a run that goes on has to know of where it began.
use Rattle.std.proofs.Common.{◌≡◌, refl, ap, ◌∙◌, ℕ, List, [], ◌∷◌, Option, Some, None, is_some}
use Rattle.std.specs.Prelude.{nat_lt}
use Rattle.std.proofs.lemmas.Bool.{cond_both}
use Rattle.policy_base.specs.Counts.{incremented}
use Rattle.engine_reference.specs.declared.rules.causes.RemovalCause.{RemovalCause}
use Rattle.engine_reference.specs.declared.rules.causes.RemovalCause.TheVariants as cause
use Rattle.engine_reference.specs.declared.data.Record.{Record}
use Rattle.engine_reference.specs.declared.data.Settings.{Settings}
use Rattle.engine_reference.specs.declared.data.Unsent.{Unsent}
use Rattle.engine_reference.specs.declared.data.Upsert.{Upsert}
use Rattle.engine_reference.specs.declared.data.Read.{Read}
use Rattle.engine_reference.specs.declared.data.Read.TheVariants.{Hit, Miss}
use Rattle.engine_reference.specs.declared.data.Write.{Write}
use Rattle.engine_reference.specs.declared.data.Write.TheVariants.{Put, Removed}
use Rattle.engine_reference.specs.Admission.{Verdict, admit, displace, refuse, verdict}
use Rattle.engine_reference.specs.Records.{record_at}
use Rattle.engine_reference.specs.Runs.{Step, Steps, reads, writes, grows, leaves, evicts, ends, with_left, left, all_left, after_read, after_hit, after_write, after_put, after_removal, judged, is_overtaken}
use Rattle.engine_reference.specs.State.{State, Answers}

pub record Constant : Type 0 where
  pub unsent : List Unsent
  pub settings : Settings
  pub ran : ℕ

module _ {K V P S R : Type 0} where
  abbrev pub constant_of : State K V P S R → Constant
  constant_of s = record { unsent = s.unsent; settings = s.settings; ran = s.ran }

  with_left-constant : (why : RemovalCause) (s : State K V P S R) (o : Option (Record K V)) → constant_of (with_left why s o) ≡ constant_of s
  with_left-constant why s None = refl
  with_left-constant why s (Some r) = refl

  left-constant : (why : RemovalCause) (number : ℕ) (s : State K V P S R) → constant_of (left why number s) ≡ constant_of s
  left-constant why number s = with_left-constant why s (record_at s.records number)

  all_left-constant : (why : RemovalCause) (rs : List (Record K V)) (s : State K V P S R) → constant_of (all_left why rs s) ≡ constant_of s
  all_left-constant why [] s = refl
  all_left-constant why (r ∷ rs) s = all_left-constant why rs (left why r.number s) ∙ left-constant why r.number s

  judged-constant : (u : Upsert) (r : Record K V) (s : State K V P S R) (v : Verdict K V) → constant_of (judged u r s v) ≡ constant_of s
  judged-constant u r s admit = refl
  judged-constant u r s (displace victims) = all_left-constant cause.Size victims s
  judged-constant u r s refuse = cond_both (is_overtaken u r) _ _ (λ (t : State K V P S R). constant_of t ≡ constant_of s) (λ _. refl) (λ _. left-constant cause.Size u.number s)

  after_put-constant : (u : Upsert) (o : Option (Record K V)) (s : State K V P S R) → constant_of (after_put u o s) ≡ constant_of s
  after_put-constant u None s = refl
  after_put-constant u (Some r) s =
      cond_both (nat_lt r.applied u.write) _ _ (λ (t : State K V P S R). constant_of t ≡ constant_of s)
      (λ _. cond_both (is_some r.counts) _ _ (λ (t : State K V P S R). constant_of t ≡ constant_of s) (λ _. refl) (λ _. judged-constant u r s (verdict s u))) (λ _. refl)

  after_removal-constant : (o : Option (Record K V)) (s : State K V P S R) → constant_of (after_removal o s) ≡ constant_of s
  after_removal-constant None s = refl
  after_removal-constant (Some r) s = cond_both r.is_held _ _ (λ (t : State K V P S R). constant_of t ≡ constant_of s) (λ _. refl) (λ _. refl)

  after_write-constant : (w : Write) (s : State K V P S R) → constant_of (after_write w s) ≡ constant_of s
  after_write-constant (Put u) s = after_put-constant u (record_at s.records u.number) s
  after_write-constant (Removed number) s = after_removal-constant (record_at s.records number) s

  after_hit-constant : (o : Option (Record K V)) (s : State K V P S R) → constant_of (after_hit o s) ≡ constant_of s
  after_hit-constant None s = refl
  after_hit-constant (Some r) s = cond_both (is_some r.counts) _ _ (λ (t : State K V P S R). constant_of t ≡ constant_of s) (λ _. refl) (λ _. refl)

  after_read-constant : (r : Read) (s : State K V P S R) → constant_of (after_read r s) ≡ constant_of s
  after_read-constant (Hit number hash) s = after_hit-constant (record_at s.records number) (record s { sketch = incremented s.sketch hash })
  after_read-constant (Miss hash) s = refl

  step-constant : (answers : Answers K V P R) (now : ℕ) (old new : State K V P S R) → Step answers now old new → constant_of new ≡ constant_of old
  step-constant answers now old new (reads r rest e after) = ap (λ s. constant_of s) after ∙ after_read-constant r (record old { reads = rest })
  step-constant answers now old new (writes w rest none e after) = ap (λ s. constant_of s) after ∙ after_write-constant w (record old { writes = rest })
  step-constant answers now old new (grows words applied wants capacity is_set size after) = ap (λ s. constant_of s) after
  step-constant answers now old new (leaves r why applied there held due after) = ap (λ s. constant_of s) after ∙ left-constant why r.number old
  step-constant answers now old new (evicts r applied clean above next after) = ap (λ s. constant_of s) after ∙ left-constant cause.Size r.number old
  step-constant answers now old new (ends place p applied there none after) = ap (λ s. constant_of s) after

  pub steps-constant : (answers : Answers K V P R) (now : ℕ) (old : State K V P S R) (mids : List (State K V P S R)) (new : State K V P S R) → Steps answers now old mids new → constant_of new ≡ constant_of old
  steps-constant answers now old [] new e = ap (λ s. constant_of s) e
  steps-constant answers now old (mid ∷ mids) new h = steps-constant answers now mid mids new h.1 ∙ step-constant answers now old mid h.0
