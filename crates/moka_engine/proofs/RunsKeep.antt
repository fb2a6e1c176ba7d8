-- A run takes records away and counts them, and changes nothing else of them.
use Rattle.std.proofs.Common.{◌≡◌, refl, sym, ◌∙◌, subst, ℕ, Bool, true, false, cond, List, [], ◌∷◌, Option, Some, None, is_some, inl, inr}
use Rattle.std.specs.Prelude.{nat_lt}
use Rattle.policy_base.specs.Counts.{incremented}
use Rattle.engine_reference.specs.declared.rules.causes.RemovalCause.{RemovalCause}
use Rattle.engine_reference.specs.declared.rules.causes.RemovalCause.TheVariants as cause
use Rattle.engine_reference.specs.declared.data.Record.{Record}
use Rattle.engine_reference.specs.declared.data.Upsert.{Upsert}
use Rattle.engine_reference.specs.declared.data.Read.{Read}
use Rattle.engine_reference.specs.declared.data.Read.TheVariants.{Hit, Miss}
use Rattle.engine_reference.specs.declared.data.Write.{Write}
use Rattle.engine_reference.specs.declared.data.Write.TheVariants.{Put, Removed}
use Rattle.engine_reference.specs.Admission.{Verdict, admit, displace, refuse, verdict}
use Rattle.engine_reference.specs.Records.{record_at, changed_at, without_record, without, moved_to_back}
use Rattle.engine_reference.specs.Runs.{Step, Steps, Runs, reads, writes, grows, leaves, evicts, ends, with_left, left, all_left, after_read, after_hit, after_write, after_put, after_removal, counting, put_off, judged, is_overtaken}
use Rattle.engine_reference.specs.Soundness.{AreNumbered}
use Rattle.engine_reference.specs.State.{State, Answers}
use Rattle.engine_reference.proofs.Accounts.{numbered-changed, numbered-without}
use Rattle.engine_reference.proofs.run_laws.Fronting.{there-before}
use Rattle.engine_reference.proofs.run_laws.Swept.{changed-from}

module _ {K V : Type 0} where
  -- a record as it was, but for what maintenance notes of it
  pub record IsSame (old new : Record K V) : Type 0 where
    pub number : new.number ≡ old.number
    pub hash : new.hash ≡ old.hash
    pub held : new.is_held ≡ old.is_held
    pub entry : new.entry ≡ old.entry
    pub writes : new.writes ≡ old.writes

  same-refl : (r : Record K V) → IsSame r r
  same-refl r = record { number = refl; hash = refl; held = refl; entry = refl; writes = refl }

  same-trans : (a b c : Record K V) → IsSame a b → IsSame b c → IsSame a c
  same-trans a b c h k = record { number = k.number ∙ h.number; hash = k.hash ∙ h.hash; held = k.held ∙ h.held; entry = k.entry ∙ h.entry; writes = k.writes ∙ h.writes }

  -- each record was there before
  abbrev pub ComeFrom : List (Record K V) → List (Record K V) → Type 0
  ComeFrom old new = (n : ℕ) (r : Record K V) → record_at new n ≡ Some r → (o : Record K V) × (record_at old n ≡ Some o) × IsSame o r

  abbrev KeepNumbered : List (Record K V) → List (Record K V) → Type 0
  KeepNumbered old new = AreNumbered old → ComeFrom old new × AreNumbered new

  keep-same : (rs : List (Record K V)) → KeepNumbered rs rs
  keep-same rs h = (λ n r e. (r, e, same-refl r), h)

  keep-both : (a b c : List (Record K V)) → KeepNumbered a b → KeepNumbered b c → KeepNumbered a c
  keep-both a b c h k numbered =
      let p = h numbered in
      let q = k p.1 in (
        λ n r e.
            let y = q.0 n r e in
            let x = p.0 n y.0 y.1 in
            (x.0, x.1, same-trans x.0 y.0 r x.2 y.2),
        q.1,
      )

  keep-changed : (m : ℕ) (change : Record K V → Record K V) → ((x : Record K V) → IsSame x (change x)) → (rs : List (Record K V)) → KeepNumbered rs (changed_at m change rs)
  keep-changed m change same rs numbered = (
    λ n r e.
        let p = changed-from m n change (λ x. (same x).number) rs r e in (
          p.0,
          p.1,
          elim p.2 [
            | inl is ↦ subst (λ y. IsSame p.0 y) (sym is) (same-refl p.0)
            | inr is ↦ subst (λ y. IsSame p.0 y) (sym is) (same p.0)
          ],
        ),
    numbered-changed m change (λ x. (same x).number) rs numbered,
  )

  keep-without : (m : ℕ) (rs : List (Record K V)) → KeepNumbered rs (without_record m rs)
  keep-without m rs numbered = (λ n r e. (r, there-before m n rs r numbered e, same-refl r), numbered-without m rs numbered)

module _ {K V P S R : Type 0} where
  abbrev Keep : State K V P S R → State K V P S R → Type 0
  Keep s t = KeepNumbered s.records t.records

  with_left-keep : (why : RemovalCause) (s : State K V P S R) (o : Option (Record K V)) → Keep s (with_left why s o)
  with_left-keep why s None = keep-same s.records
  with_left-keep why s (Some r) = keep-without r.number s.records

  left-keep : (why : RemovalCause) (number : ℕ) (s : State K V P S R) → Keep s (left why number s)
  left-keep why number s = with_left-keep why s (record_at s.records number)

  all_left-keep : (why : RemovalCause) (rs : List (Record K V)) (s : State K V P S R) → Keep s (all_left why rs s)
  all_left-keep why [] s = keep-same s.records
  all_left-keep why (r ∷ rs) s = keep-both s.records (left why r.number s).records (all_left why rs (left why r.number s)).records (left-keep why r.number s) (all_left-keep why rs (left why r.number s))

  either-keep : (b : Bool) (s t u : State K V P S R) → Keep s t → Keep s u → Keep s (cond b t u)
  either-keep true s t u h k = h
  either-keep false s t u h k = k

  counting-keep : (u : Upsert) (s : State K V P S R) → Keep s (counting u s)
  counting-keep u s = keep-changed u.number (λ r. record r { applied = u.write; counts = Some u.weight }) (λ x. record { number = refl; hash = refl; held = refl; entry = refl; writes = refl }) s.records

  put_off-keep : (u : Upsert) (s : State K V P S R) → Keep s (put_off u s)
  put_off-keep u s = keep-changed u.number (λ r. record r { applied = u.write }) (λ x. record { number = refl; hash = refl; held = refl; entry = refl; writes = refl }) s.records

  judged-keep : (u : Upsert) (r : Record K V) (s : State K V P S R) (v : Verdict K V) → Keep s (judged u r s v)
  judged-keep u r s admit = counting-keep u s
  judged-keep u r s (displace victims) =
      keep-both s.records (all_left cause.Size victims s).records (counting u (all_left cause.Size victims s)).records (all_left-keep cause.Size victims s) (counting-keep u (all_left cause.Size victims s))
  judged-keep u r s refuse = either-keep (is_overtaken u r) s (put_off u s) (left cause.Size u.number s) (put_off-keep u s) (left-keep cause.Size u.number s)

  after_put-keep : (u : Upsert) (o : Option (Record K V)) (s : State K V P S R) → Keep s (after_put u o s)
  after_put-keep u None s = keep-same s.records
  after_put-keep u (Some r) s =
      either-keep (nat_lt r.applied u.write) s (cond (is_some r.counts) (counting u s) (judged u r s (verdict s u))) s
      (either-keep (is_some r.counts) s (counting u s) (judged u r s (verdict s u)) (counting-keep u s) (judged-keep u r s (verdict s u))) (keep-same s.records)

  after_removal-keep : (o : Option (Record K V)) (s : State K V P S R) → Keep s (after_removal o s)
  after_removal-keep None s = keep-same s.records
  after_removal-keep (Some r) s =
      either-keep r.is_held s s (record s { records = without_record r.number s.records; access = without r.number s.access; order = without r.number s.order }) (keep-same s.records) (keep-without r.number s.records)

  after_write-keep : (w : Write) (s : State K V P S R) → Keep s (after_write w s)
  after_write-keep (Put u) s = after_put-keep u (record_at s.records u.number) s
  after_write-keep (Removed number) s = after_removal-keep (record_at s.records number) s

  after_hit-keep : (o : Option (Record K V)) (s : State K V P S R) → Keep s (after_hit o s)
  after_hit-keep None s = keep-same s.records
  after_hit-keep (Some r) s = either-keep (is_some r.counts) s (record s { access = moved_to_back r.number s.access }) s (keep-same s.records) (keep-same s.records)

  after_read-keep : (r : Read) (s : State K V P S R) → Keep s (after_read r s)
  after_read-keep (Hit number hash) s = after_hit-keep (record_at s.records number) (record s { sketch = incremented s.sketch hash })
  after_read-keep (Miss hash) s = keep-same s.records

  step-keep : (answers : Answers K V P R) (now : ℕ) (old new : State K V P S R) → Step answers now old new → Keep old new
  step-keep answers now old new (reads r rest e after) = subst (λ (s : State K V P S R). Keep old s) (sym after) (after_read-keep r (record old { reads = rest }))
  step-keep answers now old new (writes w rest none e after) = subst (λ (s : State K V P S R). Keep old s) (sym after) (after_write-keep w (record old { writes = rest }))
  step-keep answers now old new (grows words applied wants capacity is_set size after) = subst (λ (s : State K V P S R). Keep old s) (sym after) (keep-same old.records)
  step-keep answers now old new (leaves r why applied there held due after) = subst (λ (s : State K V P S R). Keep old s) (sym after) (left-keep why r.number old)
  step-keep answers now old new (evicts r applied clean above next after) = subst (λ (s : State K V P S R). Keep old s) (sym after) (left-keep cause.Size r.number old)
  step-keep answers now old new (ends place p applied there none after) = subst (λ (s : State K V P S R). Keep old s) (sym after) (keep-same old.records)

  steps-keep : (answers : Answers K V P R) (now : ℕ) (old : State K V P S R) (mids : List (State K V P S R)) (new : State K V P S R) → Steps answers now old mids new → Keep old new
  steps-keep answers now old [] new e = subst (λ (s : State K V P S R). Keep old s) (sym e) (keep-same old.records)
  steps-keep answers now old (mid ∷ mids) new h = keep-both old.records mid.records new.records (step-keep answers now old mid h.0) (steps-keep answers now mid mids new h.1)

  pub run-keeps : (answers : Answers K V P R) (now : ℕ) (old new : State K V P S R) → AreNumbered old.records → Runs answers now old new → ComeFrom old.records new.records
  run-keeps answers now old new numbered h = (subst (λ (s : State K V P S R). Keep old s) (sym h.after) (steps-keep answers now old h.stages h.last h.steps) numbered).0
