-- The values that a step leaves, as the history says.
use Rattle.std.proofs.Common.{inr, inl, arith, ◌≡◌, refl, ap, ◌∙◌, sym, ℕ, Bool, true, false, not, ◌&&◌, ◌||◌, cond, List, [], ◌∷◌, ◌++◌, map, Option, Some, None}
use Rattle.std.specs.Prelude.{is_some}
use Rattle.std.specs.List.{find, list_any}
use Rattle.std.specs.Option.{option_map, option_to_list}
use Rattle.std.proofs.Math.Bool.{or_comm, and-true, and-false}
use Rattle.std.proofs.lemmas.List.{map-append, map-id}
use Rattle.std.proofs.lemmas.Simd.{map-map}
use Rattle.std.proofs.lemmas.Slice.Eq.{bytes_eq-Decides}
use Rattle.audit_model.specs.Bytewise.{same}
use Rattle.audit_model.specs.Changes.{newly_held, held_after}
use Rattle.audit_model.specs.Commands.{deed_of, looks_up, deletes, covers, syncs, is_step_that}
use Rattle.audit_model.specs.History.{Value, Effect, Happening, History, latest_moment, value_of}
use Rattle.audit_model.specs.Notes.{is_over, newcomer, candidates_of, tells_size}
use Rattle.audit_model.specs.Seen.{step_tells_size, was_over}
use Rattle.audit_model.specs.Situation.{Situation, is_live_at, candidate_at}
use Rattle.audit_model.specs.Summary.{held_from, situation_of}
use Rattle.audit_model.specs.Values.{deadline, deadline_has_come, is_value_of, accepts, last_accepted, is_key_covered, is_deleted, held_values, is_told, lives, if_lives, moment_of, last_use}
use Rattle.audit_model.specs.View.{Candidate}
use Rattle.audit_model.specs.declared.config.Config.{Config}
use Rattle.audit_laws.proofs.StepReads.{Reads}
use Rattle.std.proofs.lemmas.Bool.{cases_Bool, cond_both}

-- a value held is its key's last accepted one, and no `DEL` of the key came since
pub record Stands (past : History) (v : Value) : Type 0 where
  pub last : last_accepted v.key past ≡ Some v
  pub kept : is_deleted v.key past ≡ false

pub same-refl : (key : List ℕ) → same key key ≡ true
same-refl key = (bytes_eq-Decides key key).1 refl

-- ---- small facts on tests

anew : (s t w : Bool) → (not (s || t) && w) ≡ (not false && not s && not t && w)
anew s t w = grind arith

pub find-map : {X Y : Type 0} (f : X → Y) (p : Y → Bool) (xs : List X) → find p (map f xs) ≡ option_map f (find (λ x. p (f x)) xs)
find-map f p [] = refl
find-map f p (x ∷ xs) = elim (cases_Bool (p (f x))) [ inl e ↦ rw e | inr e ↦ rw e (find-map f p xs) ]

pub list_any-same : {X : Type 0} (p q : X → Bool) (xs : List X) → ((x : X) → p x ≡ q x) → list_any p xs ≡ list_any q xs
list_any-same p q [] e = refl
list_any-same p q (x ∷ xs) e = ap (λ b. b || list_any p xs) (e x) ∙ ap (λ b. q x || b) (list_any-same p q xs e)

-- ---- what a step tells `Size`

newly : (config : Config) (o : Option Value) → map (λ c. c.value) (option_to_list (option_map (newcomer config) o)) ≡ option_to_list o
newly config None = refl
newly config (Some v) = refl

module _ (config : Config) (made : ℕ) (past : History) (h : Happening) (effect : Effect) (reads : Reads h effect) (at_now : effect.at ≡ latest_moment made past) where
  abbrev now : ℕ
  now = latest_moment made past

  abbrev s : Situation
  s = situation_of config made past

  abbrev candidates : List Candidate
  candidates = map (candidate_at config now) s.held

  values-candidates : map (λ c. c.value) (candidates_of config candidates (deed_of effect)) ≡ held_values past ++ option_to_list effect.value
  values-candidates =
      map-append (λ c. c.value) candidates _
      ∙ ap (λ vs. vs ++ map (λ c. c.value) (option_to_list (option_map (newcomer config) effect.value)))
      (map-map (λ c. c.value) (candidate_at config now) s.held ∙ map-map (λ k. k.value) (held_from config past) (held_values past) ∙ map-id (held_values past))
      ∙ ap (λ vs. held_values past ++ vs) (newly config effect.value)

  sizes : (part : ℕ) → tells_size part (map (λ c. c.value) (candidates_of config candidates (deed_of effect))) effect.notes ≡ step_tells_size part h past
  sizes part = ap (λ vs. tells_size part vs effect.notes) values-candidates ∙ sym (reads.tells part past)

  module _ (v : Value) where
    abbrev key : List ℕ
    key = v.key

    abbrev used : ℕ
    used = last_use config key past

    abbrev use_by : Bool → Bool → ℕ → Option Value → ℕ
    use_by acc looks m la = cond acc m (cond (looks && is_some (if_lives config key past used m la)) m used)

    -- ---- a value that was held already

    module _ (stands : Stands past v) (there : is_told key past ≡ false) (other : accepts key h ≡ false) where
      lives-now : lives config key past used now v ≡ is_live_at config now (held_from config past v)
      lives-now =
          ap (λ d. not d && not (is_key_covered key past) && not (is_told key past) && not (deadline_has_come (deadline config v used) now)) stands.kept
          ∙ ap (λ t. true && not (is_key_covered key past) && not t && not (deadline_has_come (deadline config v used) now)) there
          ∙ ap (λ b. b && not (deadline_has_come (deadline config v used) now)) (and-true (not (is_key_covered key past)))

      old-use : last_use config key (h ∷ past) ≡ cond (looks_up key effect && is_live_at config now (held_from config past v)) now used
      old-use =
          let found : is_some (if_lives config key past used now (Some v)) ≡ lives config key past used now v = grind arith in
          ap (λ b. use_by b (is_step_that (looks_up key) h) (moment_of h) (last_accepted key past)) other
          ∙ ap (λ b. use_by false b (moment_of h) (last_accepted key past)) (reads.looks key)
          ∙ ap (λ m. use_by false (looks_up key effect) m (last_accepted key past)) (reads.moment ∙ at_now)
          ∙ ap (λ l. use_by false (looks_up key effect) now l) stands.last
          ∙ ap (λ b. cond (looks_up key effect && b) now used) (found ∙ lives-now)

      old-covered : is_key_covered key (h ∷ past) ≡ (is_key_covered key past || covers key effect)
      old-covered =
          ap (λ b. cond b false (is_step_that (covers key) h || is_key_covered key past)) other
          ∙ ap (λ b. b || is_key_covered key past) (reads.covers key) ∙ or_comm (covers key effect) (is_key_covered key past)

      abbrev starts_anew : Bool
      starts_anew = syncs effect || tells_size v.part (map (λ c. c.value) (candidates_of config candidates (deed_of effect))) effect.notes

      old-evictable : (held : List Value) → held ≡ held_values (h ∷ past)
          → was_over config key v.part (h ∷ past) ≡ (is_over config v.part held || (not starts_anew && was_over config key v.part past))
      old-evictable held e =
          ap (λ vs. is_over config v.part vs || (not (accepts key h) && not (is_step_that syncs h) && not (step_tells_size v.part h past) && was_over config key v.part past)) (sym e)
          ∙ ap (λ b. is_over config v.part held || b)
          (ap (λ b. not b && not (is_step_that syncs h) && not (step_tells_size v.part h past) && was_over config key v.part past) other
          ∙ ap (λ b. not false && not b && not (step_tells_size v.part h past) && was_over config key v.part past) reads.synced
          ∙ ap (λ b. not false && not (syncs effect) && not b && was_over config key v.part past) (sym (sizes v.part))
          ∙ sym (anew (syncs effect) (tells_size v.part (map (λ c. c.value) (candidates_of config candidates (deed_of effect))) effect.notes) (was_over config key v.part past)))

      pub old-held : (held : List Value) → held ≡ held_values (h ∷ past)
          → held_after config now s.held (deed_of effect) effect.notes held (held_from config past v) ≡ held_from config (h ∷ past) v
      old-held held e =
          ap (λ u. record { value = v; last_use = u; covered = is_key_covered key past || covers key effect; evictable = is_over config v.part held || (not starts_anew && was_over config key v.part past) }) (sym old-use)
          ∙ ap (λ b. record { value = v; last_use = last_use config key (h ∷ past); covered = b; evictable = is_over config v.part held || (not starts_anew && was_over config key v.part past) }) (sym old-covered)
          ∙ ap (λ b. record { value = v; last_use = last_use config key (h ∷ past); covered = is_key_covered key (h ∷ past); evictable = b }) (sym (old-evictable held e))

      pub old-stands : deletes key effect ≡ false → Stands (h ∷ past) v
      old-stands spared =
          record {
            last = ap (λ b. cond b (value_of h) (last_accepted key past)) other ∙ stands.last;
            kept = ap (λ b. cond b false (is_step_that (deletes key) h || is_deleted key past)) other ∙ ap (λ b. b || is_deleted key past) (reads.deleted key ∙ spared) ∙ stands.kept;
          }

    -- ---- the value that the step accepts

    module _ (new : effect.value ≡ Some v) (uncovered : covers key effect ≡ false) (dated : v.accepted_at ≡ effect.at) where
      accepted : accepts key h ≡ true
      accepted = ap (is_value_of key) (reads.value ∙ new) ∙ same-refl key

      pub new-held : (held : List Value) → held ≡ held_values (h ∷ past)
          → held_after config now s.held (deed_of effect) effect.notes held (newly_held v) ≡ held_from config (h ∷ past) v
      new-held held e =
          ap (λ u. record { value = v; last_use = u; covered = covers key effect; evictable = is_over config v.part held || (not (syncs effect || tells_size v.part (map (λ c. c.value) (candidates_of config candidates (deed_of effect))) effect.notes) && false) })
          (ap (cond (looks_up key effect && is_live_at config now (newly_held v)) now) (dated ∙ at_now)
          ∙ cond_both (looks_up key effect && is_live_at config now (newly_held v)) now now (λ n. n ≡ now) (λ _. refl) (λ _. refl)
          ∙ sym at_now
          ∙ sym (ap (λ b. use_by b (is_step_that (looks_up key) h) (moment_of h) (last_accepted key past)) accepted ∙ reads.moment))
          ∙ ap (λ b. record { value = v; last_use = last_use config key (h ∷ past); covered = b; evictable = is_over config v.part held || (not (syncs effect || tells_size v.part (map (λ c. c.value) (candidates_of config candidates (deed_of effect))) effect.notes) && false) })
          (uncovered ∙ sym (ap (λ b. cond b false (is_step_that (covers key) h || is_key_covered key past)) accepted))
          ∙ ap (λ b. record { value = v; last_use = last_use config key (h ∷ past); covered = is_key_covered key (h ∷ past); evictable = b })
          (ap (λ b. is_over config v.part held || b) (and-false (not (syncs effect || tells_size v.part (map (λ c. c.value) (candidates_of config candidates (deed_of effect))) effect.notes)))
          ∙ ap (λ vs. is_over config v.part vs || false) e
          ∙ sym (ap (λ b. is_over config v.part (held_values (h ∷ past)) || (not b && not (is_step_that syncs h) && not (step_tells_size v.part h past) && was_over config key v.part past)) accepted))

      pub new-stands : Stands (h ∷ past) v
      new-stands =
          record {
            last = ap (λ b. cond b (value_of h) (last_accepted key past)) accepted ∙ reads.value ∙ new;
            kept = ap (λ b. cond b false (is_step_that (deletes key) h || is_deleted key past)) accepted;
          }
