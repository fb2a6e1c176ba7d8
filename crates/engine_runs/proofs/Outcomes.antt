-- What is decided about a write is what the reference cache says.
use Rattle.std.proofs.Common.{◌≡◌, refl, ap, sym, ◌∙◌, ◌+◌, Bool, true, false, cond, List, Option, Some, None, inl, inr}
use Rattle.std.specs.Prelude.{nat_lt, is_some}
use Rattle.std.proofs.lemmas.Bool.{cases_Bool, cond_both}
use Rattle.policy_base.specs.Counts.{frequency_of}
use Rattle.engine_reference.specs.declared.rules.causes.RemovalCause.TheVariants as cause
use Rattle.engine_reference.specs.declared.rules.settings.EvictionPolicy.{EvictionPolicy}
use Rattle.engine_reference.specs.declared.rules.settings.EvictionPolicy.TheVariants.{TinyLfu, Lru}
use Rattle.engine_reference.specs.declared.data.Record.{Record}
use Rattle.engine_reference.specs.declared.data.Upsert.{Upsert}
use Rattle.engine_reference.specs.Admission.{Verdict, admit, displace, refuse, verdict, verdict_of_full, is_above, contest, frequencies}
use Rattle.engine_reference.specs.Records.{admitted_weight, record_at, settled_in}
use Rattle.engine_reference.specs.Runs.{after_put, counting, judged, put_off, left, is_overtaken}
use Rattle.engine_reference.specs.State.{State}
use Rattle.engine_runs.specs.declared.deciding.Decision.{Decision}
use Rattle.engine_runs.specs.declared.deciding.Decision.TheVariants as decide
use Rattle.engine_runs.specs.Deciding.{decided, decision, refused_as}
use Rattle.engine_runs.specs.Displacing.{without_victims, front_of, displaced}

module _ {K V P S R : Type 0} where
  -- what a decision does
  abbrev pub carried : Decision → Upsert → State K V P S R → State K V P S R
  carried decide.Skip u s = s
  carried decide.Count u s = counting u s
  carried decide.Displace u s = counting u (displaced u.weight s)
  carried decide.PutOff u s = put_off u s
  carried decide.Refuse u s = left cause.Size u.number s

module _ {K V P S R : Type 0} (s : State K V P S R) (u : Upsert) (r : Record K V) where
  as_refused : judged u r s refuse ≡ carried (refused_as u r) u s
  as_refused = elim (cases_Bool (is_overtaken u r)) [ inl e ↦ rw e | inr e ↦ rw e ]

  as_contested : (o : Option (List (Record K V))) → front_of u.weight s ≡ o → judged u r s (contest s.sketch u.hash o) ≡ carried (decided (refused_as u r) (contest s.sketch u.hash o)) u s
  as_contested None e = as_refused
  as_contested (Some victims) e =
      cond_both (nat_lt (frequencies s.sketch victims) (frequency_of s.sketch u.hash)) (displace victims) refuse
      (λ v. judged u r s v ≡ carried (decided (refused_as u r) v) u s) (λ _. ap (λ o. counting u (without_victims o s)) (sym e)) (λ _. as_refused)

  as_full : (policy : EvictionPolicy) → judged u r s (verdict_of_full policy s.sketch u (settled_in s.records s.access)) ≡ carried (decided (refused_as u r) (verdict_of_full policy s.sketch u (settled_in s.records s.access))) u s
  as_full Lru = refl
  as_full TinyLfu = as_contested (front_of u.weight s) refl

  as_judged : judged u r s (verdict s u) ≡ carried (decided (refused_as u r) (verdict s u)) u s
  as_judged = go (is_above s.settings.capacity (admitted_weight s.records + u.weight)) (is_above s.settings.capacity u.weight)
    where
      full : Verdict K V
      full = verdict_of_full s.settings.policy s.sketch u (settled_in s.records s.access)

      go : (a b : Bool) → judged u r s (cond a (cond b refuse full) admit) ≡ carried (decided (refused_as u r) (cond a (cond b refuse full) admit)) u s
      go false b = refl
      go true true = as_refused
      go true false = as_full s.settings.policy

  pub outcome : after_put u (Some r) s ≡ carried (decision s u r) u s
  outcome = go (nat_lt r.applied u.write) (is_some r.counts)
    where
      go : (a b : Bool) → cond a (cond b (counting u s) (judged u r s (verdict s u))) s ≡ carried (cond a (cond b decide.Count (decided (refused_as u r) (verdict s u))) decide.Skip) u s
      go false b = refl
      go true true = refl
      go true false = as_judged

-- where others go, there is a front of them, and the record does not count
module _ {K V P S R : Type 0} (s : State K V P S R) (u : Upsert) (r : Record K V) where
  not_refused : refused_as u r ≡ decide.Displace → ⊥
  not_refused e = elim (cases_Bool (is_overtaken u r)) [ inl t ↦ let no = rw t at e in cc | inr t ↦ let no = rw t at e in cc ]

  front_contested : (o : Option (List (Record K V))) → decided (refused_as u r) (contest s.sketch u.hash o) ≡ decide.Displace → is_some o ≡ true
  front_contested None e = absurd (not_refused e)
  front_contested (Some victims) e = refl

  front_full : (policy : EvictionPolicy) → decided (refused_as u r) (verdict_of_full policy s.sketch u (settled_in s.records s.access)) ≡ decide.Displace → is_some (front_of u.weight s) ≡ true
  front_full Lru e = absurd (cc)
  front_full TinyLfu e = front_contested (front_of u.weight s) e

  front_judged : decided (refused_as u r) (verdict s u) ≡ decide.Displace → is_some (front_of u.weight s) ≡ true
  front_judged e = go (is_above s.settings.capacity (admitted_weight s.records + u.weight)) (is_above s.settings.capacity u.weight) e
    where
      full : Verdict K V
      full = verdict_of_full s.settings.policy s.sketch u (settled_in s.records s.access)

      go : (a b : Bool) → decided (refused_as u r) (cond a (cond b refuse full) admit) ≡ decide.Displace → is_some (front_of u.weight s) ≡ true
      go false b e = absurd (cc)
      go true true e = absurd (not_refused e)
      go true false e = front_full s.settings.policy e

  pub front_there : decision s u r ≡ decide.Displace → is_some (front_of u.weight s) ≡ true
  front_there e = go (nat_lt r.applied u.write) (is_some r.counts) e
    where
      go : (a b : Bool) → cond a (cond b decide.Count (decided (refused_as u r) (verdict s u))) decide.Skip ≡ decide.Displace → is_some (front_of u.weight s) ≡ true
      go false b e = absurd (cc)
      go true true e = absurd (cc)
      go true false e = front_judged e

  pub not_counted : decision s u r ≡ decide.Displace → is_some r.counts ≡ false
  not_counted e = go (nat_lt r.applied u.write) (is_some r.counts) e
    where
      go : (a b : Bool) → cond a (cond b decide.Count (decided (refused_as u r) (verdict s u))) decide.Skip ≡ decide.Displace → b ≡ false
      go false b e = absurd (cc)
      go true true e = absurd (cc)
      go true false e = refl

module _ {K V P S R : Type 0} where
  -- where a write of a record leads that is there
  pub leads : (d : Decision) (s : State K V P S R) (u : Upsert) (r : Record K V) → record_at s.records u.number ≡ Some r → d ≡ decision s u r → after_put u (record_at s.records u.number) s ≡ carried d u s
  leads d s u r found e = ap (λ o. after_put u o s) found ∙ outcome s u r ∙ ap (λ x. carried x u s) (sym e)
