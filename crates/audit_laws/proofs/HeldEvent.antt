-- Events leave the values held as they were.
use Rattle.std.proofs.Common.{◌≡◌, refl, ap, sym, subst, ℕ, Bool, false, ◌||◌, List, [], ◌∷◌, map, Option, Some, None, nat_lt, arith}
use Rattle.audit_model.specs.History.{Value, History, share}
use Rattle.audit_model.specs.Notes.{is_over}
use Rattle.audit_model.specs.Places.{happening_of}
use Rattle.audit_model.specs.Seen.{was_over}
use Rattle.audit_model.specs.Situation.{HeldValue}
use Rattle.audit_model.specs.Summary.{held_from}
use Rattle.audit_model.specs.Values.{is_key_covered, held_values, last_use}
use Rattle.std.proofs.Math.Path.{fun_ext}
use Rattle.audit_model.specs.declared.config.Config.{Config}
use Rattle.audit_model.specs.declared.event.Event.{Event}
use Rattle.audit_model.specs.declared.event.Event.TheVariants as event
use Rattle.audit_laws.proofs.Told.{Each, each-more}
use Rattle.audit_laws.proofs.HeldStep.{Stands}

none_less : (n : ℕ) → nat_lt n 0 ≡ false
none_less n = grind (arith)

twice : (a b : Bool) → (a || (a || b)) ≡ (a || b)
twice a b = grind arith

never_over : (config : Config) (part : ℕ) → is_over config part [] ≡ false
never_over config part = go config.capacity
  where
    go : (capacity : Option ℕ) → is_over (record config { capacity = capacity }) part [] ≡ false
    go None = refl
    go (Some capacity) = none_less (share config capacity)

pub over_already : (config : Config) (key : List ℕ) (part : ℕ) (past : History)
    → (is_over config part (held_values past) || was_over config key part past) ≡ was_over config key part past
over_already config key part [] = ap (λ b. b || false) (never_over config part)
over_already config key part (h ∷ past) = twice (is_over config part (held_values (h ∷ past))) _

abbrev with_evictable : Config → History → Value → Bool → HeldValue
with_evictable config past v b = record { value = v; last_use = last_use config v.key past; covered = is_key_covered v.key past; evictable = b }

pub held_from-event : (config : Config) (past : History) (e : Event) → map (held_from config (happening_of e ∷ past)) (held_values past) ≡ map (held_from config past) (held_values past)
held_from-event config past e = ap (λ f. map f (held_values past)) (fun_ext (one e))
  where
    one : (e : Event) (v : Value) → held_from config (happening_of e ∷ past) v ≡ held_from config past v
    one (event.Open conn) v = ap (with_evictable config past v) (over_already config v.key v.part past)
    one (event.Close conn) v = ap (with_evictable config past v) (over_already config v.key v.part past)
    one (event.Feed conn piece moment) v = ap (with_evictable config past v) (over_already config v.key v.part past)
    one (event.Answer load outcome moment) v = ap (with_evictable config past v) (over_already config v.key v.part past)
    one (event.GiveUp load moment) v = ap (with_evictable config past v) (over_already config v.key v.part past)

pub held-event : (past : History) (e : Event) → held_values (happening_of e ∷ past) ≡ held_values past
held-event past (event.Open conn) = refl
held-event past (event.Close conn) = refl
held-event past (event.Feed conn piece moment) = refl
held-event past (event.Answer load outcome moment) = refl
held-event past (event.GiveUp load moment) = refl

one-stands : (past : History) (e : Event) (v : Value) → Stands past v → Stands (happening_of e ∷ past) v
one-stands past (event.Open conn) v st = record { last = st.last; kept = st.kept }
one-stands past (event.Close conn) v st = record { last = st.last; kept = st.kept }
one-stands past (event.Feed conn piece moment) v st = record { last = st.last; kept = st.kept }
one-stands past (event.Answer load outcome moment) v st = record { last = st.last; kept = st.kept }
one-stands past (event.GiveUp load moment) v st = record { last = st.last; kept = st.kept }

pub stand-event : (past : History) (e : Event) → Each (Stands past) (held_values past) → Each (Stands (happening_of e ∷ past)) (held_values (happening_of e ∷ past))
stand-event past e h =
    subst (Each (Stands (happening_of e ∷ past))) (sym (held-event past e)) (each-more _ _ (held_values past) (one-stands past e) h)
