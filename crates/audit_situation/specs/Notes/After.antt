-- What a step leaves held.
use Rattle.std.specs.Prelude.{◌≡◌, ℕ, Bool, not, ◌&&◌, ◌||◌, ◌==◌, ◌++◌, List, map, Option, None, if◌then◌else◌}
use Rattle.std.specs.List.{list_any, find}
use Rattle.std.specs.Option.{option_map, option_to_list}
use Rattle.audit_model.specs.Changes.{newly_held, use_after}
use Rattle.audit_model.specs.Commands.{Deed, Covering, covers_key, is_this}
use Rattle.audit_model.specs.History.{Value}
use Rattle.audit_model.specs.Notes.{is_over, same_cause, tells_size, candidates_of, are_true_notes}
use Rattle.audit_model.specs.Situation.{HeldValue, candidate_at, is_live_at}
use Rattle.audit_model.specs.declared.config.Config.{Config}
use Rattle.audit_model.specs.Bytewise.{same}
use Rattle.audit_model.specs.declared.transcript.Note.{Note}
use Rattle.audit_model.specs.declared.transcript.RemovalCause.TheVariants.{Size}
use Rattle.audit_situation.specs.Held.Weights.{values_of}

-- the values that may be reported: those held, and the newcomer
abbrev pub values_to_tell : List HeldValue → Option HeldValue → List Value
values_to_tell held newcomer = values_of (held ++ option_to_list newcomer)

-- the part of which the note reports a value as `Size`
abbrev pub sized_part : List Value → Note → Option ℕ
sized_part values note =
    if same_cause note.cause Size
    then option_map (λ v. v.part) (find (λ v. same note.key v.key) values) else None

-- one of these parts
abbrev pub is_among : List ℕ → ℕ → Bool
is_among parts part = list_any (λ p. p == part) parts

-- a value that is used if it is live and of the key that is looked up
abbrev pub used_in : Config → ℕ → Option (List ℕ) → HeldValue → HeldValue
used_in config now uses h =
    record h {
      last_use = if is_this h.value.key uses && is_live_at config now h then now else h.last_use;
    }

-- a value that is covered if its key is
abbrev pub covered_in : Covering → HeldValue → HeldValue
covered_in covering h = record h { covered = h.covered || covers_key h.value.key covering }

-- a value whose part exceeds its share or not, among these values, if earlier points no longer count or still do
abbrev pub marked_by : Config → Bool → List ℕ → List Value → HeldValue → HeldValue
marked_by config syncs sized values h =
    record h {
      evictable = is_over config h.value.part values || (not (syncs || is_among sized h.value.part) && h.evictable);
    }

-- a value that stays, by the parts of which a value was reported as `Size`
abbrev pub passed_on_by : Config → ℕ → Deed → List ℕ → List Value → HeldValue → HeldValue
passed_on_by config now deed sized values h =
    record {
      value = h.value;
      last_use = use_after config now deed h;
      covered = h.covered || covers_key h.value.key deed.covers;
      evictable = is_over config h.value.part values || (not (deed.syncs || is_among sized h.value.part) && h.evictable);
    }

-- it was accepted in this step
pub record IsJustAccepted (now : ℕ) (h : HeldValue) : Type 0 where
  pub held : h ≡ newly_held h.value
  pub moment : h.value.accepted_at ≡ now

-- the notes of a step that does this are true
abbrev pub has_true_notes : Config → ℕ → List HeldValue → Deed → List Note → Bool
has_true_notes config now held deed notes =
    let cs = map (candidate_at config now) held in are_true_notes config cs deed (candidates_of config cs deed) notes

-- the parts are those of which the notes report a value as `Size`
abbrev pub AreSized : Config → ℕ → List HeldValue → Deed → List Note → List ℕ → Type 0
AreSized config now held deed notes parts =
    (part : ℕ) → is_among parts part ≡ tells_size part
    (map (λ c. c.value) (candidates_of config (map (candidate_at config now) held) deed)) notes
