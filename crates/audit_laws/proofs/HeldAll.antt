-- All the values that a step leaves, as the history says; and they stand after it.
use Rattle.std.proofs.Common.{◌≡◌, refl, ap, ◌∙◌, sym, subst, ℕ, Bool, true, false, not, ◌||◌, cond, List, [], ◌∷◌, ◌++◌, map, Option, Some, None}
use Rattle.std.specs.Prelude.{IsTrue}
use Rattle.std.specs.Bool.{MatchBool}
use Rattle.std.specs.List.{list_all, list_any}
use Rattle.std.specs.Option.{option_map, option_to_list}
use Rattle.std.proofs.lemmas.Bool.{and_parts, not-true, or_parts}
use Rattle.std.proofs.lemmas.List.{map-append, map-id}
use Rattle.std.proofs.lemmas.Simd.{map-map}
use Rattle.std.proofs.Math.Bool.{or-true}
use Rattle.audit_model.specs.Bytewise.{same}
use Rattle.audit_model.specs.Changes.{newly_held, left_held, held_after, all_held_after}
use Rattle.audit_model.specs.Commands.{Deed, deed_of, deletes, covers}
use Rattle.audit_model.specs.History.{Value, Effect, Happening, History, latest_moment}
use Rattle.audit_model.specs.Notes.{candidates_of, is_succeeded, are_true_notes}
use Rattle.audit_model.specs.Seen.{was_over, view_of}
use Rattle.audit_model.specs.Situation.{HeldValue, Situation}
use Rattle.audit_model.specs.Summary.{held_from, situation_of}
use Rattle.audit_model.specs.Values.{deadline, deadline_has_come, is_value_of, accepts, is_key_covered, without_key, untold, held_values, is_told, last_use}
use Rattle.audit_model.specs.View.{Candidate, View}
use Rattle.audit_model.specs.declared.config.Config.{Config}
use Rattle.audit_model.specs.declared.transcript.Note.{Note}
use Rattle.audit_laws.proofs.Told.{Each, each-append, each-map, each_of_map, each-more, each-both, each_passing, map-same, each-untold, untold-map}
use Rattle.audit_laws.proofs.StepReads.{Reads}
use Rattle.audit_laws.proofs.HeldStep.{Stands, same-refl, old-held, new-held, old-stands, new-stands}

-- a value that was held, or that the step accepts
pub record Tagged : Type 0 where
  pub new : Bool
  pub value : Value

abbrev pub old_tag : Value → Tagged
old_tag v = record { new = false; value = v }

abbrev pub new_tag : Value → Tagged
new_tag v = record { new = true; value = v }

abbrev pub tagged : List Value → Option Value → List Tagged
tagged held o = map old_tag held ++ option_to_list (option_map new_tag o)

newest : {X : Type 0} (f : Tagged → X) (o : Option Value) → map f (option_to_list (option_map new_tag o)) ≡ option_to_list (option_map (λ v. f (new_tag v)) o)
newest f None = refl
newest f (Some v) = refl

pub map-tagged : {X : Type 0} (f : Tagged → X) (held : List Value) (o : Option Value)
    → map f (tagged held o) ≡ map (λ v. f (old_tag v)) held ++ option_to_list (option_map (λ v. f (new_tag v)) o)
map-tagged f held o =
    map-append f (map old_tag held) (option_to_list (option_map new_tag o))
    ∙ ap (λ xs. xs ++ map f (option_to_list (option_map new_tag o))) (map-map f old_tag held)
    ∙ ap (λ xs. map (λ v. f (old_tag v)) held ++ xs) (newest f o)

each-new : (P : Tagged → Type 0) (o : Option Value) → ((v : Value) → o ≡ Some v → P (new_tag v)) → Each P (option_to_list (option_map new_tag o))
each-new P None f = tt
each-new P (Some v) f = (f v refl, tt)

pub each-tagged : (P : Tagged → Type 0) (held : List Value) (o : Option Value)
    → Each (λ v. P (old_tag v)) held → ((v : Value) → o ≡ Some v → P (new_tag v)) → Each P (tagged held o)
each-tagged P held o h f = each-append P (map old_tag held) _ (each-map P old_tag held h) (each-new P o f)

as_list : (o : Option Value) → option_to_list (option_map (λ v. v) o) ≡ option_to_list o
as_list None = refl
as_list (Some v) = refl

-- each value held finds itself
listed : (vs : List Value) → Each (λ v. list_any (λ w. same v.key w.key) vs ≡ true) vs
listed [] = tt
listed (v ∷ vs) =
    (ap (λ b. b || list_any (λ w. same v.key w.key) vs) (same-refl v.key), each-more _ _ vs (λ w e. ap (λ b. same w.key v.key || b) e ∙ or-true (same w.key v.key)) (listed vs))

pub none_told : (past : History) → Each (λ v. is_told v.key past ≡ false) (held_values past)
none_told past = each-more _ _ (held_values past) (λ v e. ap not e) (listed (held_values past))

-- what the notes leave is of no key that the step writes or deletes, but for what it accepts
pub none_succeeded : (config : Config) (held : List Candidate) (deed : Deed) (cs : List Candidate) (notes : List Note)
    → IsTrue (are_true_notes config held deed cs notes) → IsTrue (list_all (λ c. not (is_succeeded deed c)) (untold (λ c. c.value.key) notes cs))
none_succeeded config held deed cs [] h = h
none_succeeded config held deed cs (note ∷ notes) h =
    none_succeeded config held deed (without_key (λ c. c.value.key) note.key cs) notes (and_parts _ _ h).1

module _ (config : Config) (made : ℕ) (past : History) (h : Happening) (effect : Effect) (reads : Reads h effect) (at_now : effect.at ≡ latest_moment made past)
    (stand : Each (Stands past) (held_values past)) (fresh : (v : Value) → effect.value ≡ Some v → (covers v.key effect ≡ false) × (v.accepted_at ≡ effect.at)) where
  abbrev now : ℕ
  now = latest_moment made past

  abbrev seen : View
  seen = view_of config past now

  abbrev s : Situation
  s = situation_of config made past

  abbrev deed : Deed
  deed = deed_of effect

  abbrev cand : Tagged → Candidate
  cand t =
      record {
        value = t.value;
        dead = cond t.new (deadline_has_come (deadline config t.value t.value.accepted_at) t.value.accepted_at) (deadline_has_come (deadline config t.value (last_use config t.value.key past)) now);
        covered = cond t.new false (is_key_covered t.value.key past);
        evictable = cond t.new false (was_over config t.value.key t.value.part past);
        new = t.new;
      }

  abbrev as_held : Tagged → HeldValue
  as_held t =
      record {
        value = t.value;
        last_use = cond t.new t.value.accepted_at (last_use config t.value.key past);
        covered = cond t.new false (is_key_covered t.value.key past);
        evictable = cond t.new false (was_over config t.value.key t.value.part past);
      }

  abbrev all : List Tagged
  all = tagged (held_values past) effect.value

  abbrev left : List Tagged
  left = untold (λ t. t.value.key) effect.notes all

  all-candidates : candidates_of config seen.held deed ≡ map cand all
  all-candidates = sym (map-tagged cand (held_values past) effect.value)

  all-held : held_values past ++ option_to_list effect.value ≡ map (λ t. t.value) all
  all-held =
      ap (λ vs. vs ++ option_to_list effect.value) (sym (map-id (held_values past))) ∙ ap (λ vs. map (λ v. v) (held_values past) ++ vs) (sym (as_list effect.value))
      ∙ sym (map-tagged (λ t. t.value) (held_values past) effect.value)

  all-as_held : s.held ++ option_to_list (option_map newly_held effect.value) ≡ map as_held all
  all-as_held =
      sym (map-tagged as_held (held_values past) effect.value)

  pub left-held : held_values (h ∷ past) ≡ map (λ t. t.value) left
  left-held = reads.held past ∙ ap (untold (λ v. v.key) effect.notes) all-held ∙ untold-map (λ t. t.value) (λ v. v.key) effect.notes all

  pub left-as_held : left_held s.held deed effect.notes ≡ map as_held left
  left-as_held = ap (untold (λ k. k.value.key) effect.notes) all-as_held ∙ untold-map as_held (λ k. k.value.key) effect.notes all

  pub left-candidates : untold (λ c. c.value.key) effect.notes (candidates_of config seen.held deed) ≡ map cand left
  left-candidates = ap (untold (λ c. c.value.key) effect.notes) all-candidates ∙ untold-map cand (λ c. c.value.key) effect.notes all

  -- the values that the placed step holds
  pub same-held : map (λ k. k.value) (left_held s.held deed effect.notes) ≡ held_values (h ∷ past)
  same-held = ap (map (λ k. k.value)) left-as_held ∙ map-map (λ k. k.value) as_held left ∙ sym left-held

  abbrev Known : Tagged → Type 0
  Known t = MatchBool t.new (effect.value ≡ Some t.value) (Stands past t.value × (is_told t.value.key past ≡ false))

  known : Each Known left
  known =
      each-untold Known (λ t. t.value.key) effect.notes all
      (each-tagged Known (held_values past) effect.value (each-both _ _ (held_values past) stand (none_told past)) (λ v e. e))

  module _ (true_notes : IsTrue (are_true_notes config seen.held deed (candidates_of config seen.held deed) effect.notes)) where
    spared : Each (λ t. IsTrue (not (is_succeeded deed (cand t)))) left
    spared =
        each_of_map (λ c. IsTrue (not (is_succeeded deed c))) cand left
        (each_passing _ (map cand left) (subst (λ cs. IsTrue (list_all (λ c. not (is_succeeded deed c)) cs)) left-candidates (none_succeeded config seen.held deed (candidates_of config seen.held deed) effect.notes true_notes)))

    not_written : (key : List ℕ) → IsTrue (not (is_value_of key effect.value || deletes key effect))
        → (accepts key h ≡ false) × (deletes key effect ≡ false)
    not_written key e = let parts = or_parts _ _ (not-true _ e) in (ap (is_value_of key) reads.value ∙ parts.0, parts.1)

    one-held : (new : Bool) (v : Value) (held : List Value) → held ≡ held_values (h ∷ past) → Known (record { new = new; value = v })
        → IsTrue (not (is_succeeded deed (cand (record { new = new; value = v }))))
        → held_after config now s.held deed effect.notes held (as_held (record { new = new; value = v })) ≡ held_from config (h ∷ past) v
    one-held true v held e k n = new-held config made past h effect reads at_now v k (fresh v k).0 (fresh v k).1 held e
    one-held false v held e k n = old-held config made past h effect reads at_now v k.0 k.1 (not_written v.key n).0 held e

    one-stands : (new : Bool) (v : Value) → Known (record { new = new; value = v })
        → IsTrue (not (is_succeeded deed (cand (record { new = new; value = v })))) → Stands (h ∷ past) v
    one-stands true v k n = new-stands config made past h effect reads at_now v k (fresh v k).0 (fresh v k).1
    one-stands false v k n = old-stands config made past h effect reads at_now v k.0 k.1 (not_written v.key n).0 (not_written v.key n).1

    -- the component of the situation
    pub all_held-step : all_held_after config now s.held deed effect.notes ≡ map (held_from config (h ∷ past)) (held_values (h ∷ past))
    all_held-step =
        ap (λ ks. map (held_after config now s.held deed effect.notes (map (λ k. k.value) (left_held s.held deed effect.notes))) ks) left-as_held
        ∙ map-map (held_after config now s.held deed effect.notes (map (λ k. k.value) (left_held s.held deed effect.notes))) as_held left
        ∙ map-same _ (λ t. held_from config (h ∷ past) t.value) left
        (each-more _ _ left (λ t both. one-held t.new t.value _ same-held both.0 both.1) (each-both _ _ left known spared))
        ∙ sym (ap (map (held_from config (h ∷ past))) left-held ∙ map-map (held_from config (h ∷ past)) (λ t. t.value) left)

    -- the invariant
    pub stand-step : Each (Stands (h ∷ past)) (held_values (h ∷ past))
    stand-step =
        subst (Each (Stands (h ∷ past))) (sym left-held)
        (each-map (Stands (h ∷ past)) (λ t. t.value) left (each-more _ _ left (λ t both. one-stands t.new t.value both.0 both.1) (each-both _ _ left known spared)))
