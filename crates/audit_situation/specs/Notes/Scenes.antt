-- By what a step's notes are judged.
use Rattle.std.specs.Prelude.{◌≡◌, ℕ, Bool, true, List, [], ◌++◌, map, Option, if◌then◌else◌}
use Rattle.std.specs.Option.{option_map, option_to_list}
use Rattle.audit_model.specs.Commands.{Deed}
use Rattle.audit_model.specs.Situation.{HeldValue, candidate_at}
use Rattle.audit_model.specs.Notes.{are_true_notes, is_true_note}
use Rattle.audit_model.specs.Values.{untold, without_key}
use Rattle.audit_model.specs.View.{Candidate}
use Rattle.audit_model.specs.declared.config.Config.{Config}
use Rattle.audit_model.specs.declared.transcript.Note.{Note}
use Rattle.audit_situation.specs.Held.Seeing.{held_of}
use Rattle.audit_situation.specs.Notes.Deeds.{deed_with}
use Rattle.audit_situation.specs.Notes.Weights.{AreOverfilled}
use Rattle.audit_situation.specs.declared.notes.deed.Deed.{Deed as Done}
use Rattle.audit_situation.specs.declared.notes.notes.Scene.{Scene}
use Rattle.audit_situation.specs.declared.notes.notes.Candidate.{Candidate as Told}

-- what is true of a value that may be reported
abbrev pub told_candidate : Config → ℕ → Told → Candidate
told_candidate config now c = record (candidate_at config now (held_of c.seen)) { new = c.new }

-- what is true of a value that the step accepts
abbrev pub new_candidate_at : Config → ℕ → HeldValue → Candidate
new_candidate_at config now h = record (candidate_at config now h) { new = true }

-- the value that the step accepts
abbrev pub newcomer_in : Scene → Option HeldValue
newcomer_in scene = option_map (λ h. h.now) scene.newcomer

abbrev pub deed_in : Scene → Deed
deed_in scene = deed_with scene.deed (option_map (λ h. h.value) (newcomer_in scene))

abbrev pub candidate_in : Scene → Told → Candidate
candidate_in scene c = told_candidate scene.config.now scene.moment c

-- the value that the step accepts, as long as no note has reported it
abbrev pub newcomer_left : Bool → Option HeldValue → List HeldValue
newcomer_left left newcomer = if left then option_to_list newcomer else []

-- the values that may still be reported
abbrev pub may_be_told : Config → ℕ → List HeldValue → List HeldValue → List Candidate
may_be_told config now held rest =
    map (candidate_at config now) held ++ map (new_candidate_at config now) rest

-- the same in a scene
abbrev pub candidates_in : Scene → List HeldValue → Bool → List Candidate
candidates_in scene held left =
    may_be_told scene.config.now scene.moment held (newcomer_left left (newcomer_in scene))

-- these were the values held before the step
abbrev pub IsBefore : Scene → List Candidate → Type 0
IsBefore scene before = AreOverfilled scene.config.now before (deed_in scene) scene.overfilled.now

-- the value that the step accepts, as long as no note has reported it, as one that may be reported
abbrev pub new_candidates_in : Scene → Bool → List Candidate
new_candidates_in scene left =
    map (new_candidate_at scene.config.now scene.moment) (newcomer_left left (newcomer_in scene))

-- whether the note is true, if this is the value that it names, is the result
abbrev pub IsTrueNoteOf : Scene → Note → Option Candidate → Bool → Type 0
IsTrueNoteOf scene note told answer =
    (before : List Candidate) → IsBefore scene before
    → answer ≡ is_true_note scene.config.now before (deed_in scene) note told

-- the notes of a step are true that does this and accepts this value
abbrev pub are_told_rightly : Config → ℕ → List HeldValue → Done → Option HeldValue → List Note
    → Bool
are_told_rightly config now held done newcomer notes =
    are_true_notes config (map (candidate_at config now) held)
    (deed_with done (option_map (λ h. h.value) newcomer))
    (may_be_told config now held (option_to_list newcomer)) notes

-- the values that no note reports are left
abbrev pub LeavesUntold : List Note → Option HeldValue → List HeldValue → List HeldValue → Bool
    → Type 0
LeavesUntold notes newcomer old new left =
    new ++ newcomer_left left newcomer ≡ untold (λ h. h.value.key) notes (old ++ option_to_list newcomer)

-- the key's first value was taken
pub record TakesFirstValue (scene : Scene) (key : List ℕ) (held : List HeldValue) (left : Bool)
    (others : List HeldValue) (leaves : Bool) : Type 0 where
  pub told : candidates_in scene others leaves
      ≡ without_key (λ c. c.value.key) key (candidates_in scene held left)
  pub all : others ++ newcomer_left leaves (newcomer_in scene)
      ≡ without_key (λ h. h.value.key) key (held ++ newcomer_left left (newcomer_in scene))
