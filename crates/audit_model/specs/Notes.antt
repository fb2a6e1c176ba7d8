-- Which values a step reports, and with which causes.
use Rattle.std.specs.Prelude.{ℕ, Bool, true, false, not, ◌&&◌, ◌||◌, ◌==◌, nat_lt, List, [], ◌∷◌, ◌++◌, map, Option, Some, None, if◌then◌else◌, is_some, is_none, codes}
use Rattle.std.specs.List.{list_all, list_any, find, filter, sum_by}
use Rattle.std.specs.Option.{option_to_list, option_map, option_map_or}
use Rattle.audit_model.specs.Bytewise.{same}
use Rattle.audit_model.specs.History.{Action, Running, Holding, Abandoning, Value, share}
use Rattle.audit_model.specs.Values.{deadline, deadline_has_come, without_key, is_value_of}
use Rattle.audit_model.specs.Commands.{Deed, is_this}
use Rattle.audit_model.specs.View.{Candidate}
use Rattle.audit_model.specs.declared.config.Config.{Config}
use Rattle.audit_model.specs.declared.command.Command.TheVariants as says
use Rattle.audit_model.specs.declared.transcript.Note.{Note}
use Rattle.audit_model.specs.declared.transcript.RemovalCause.{RemovalCause}
use Rattle.audit_model.specs.declared.transcript.RemovalCause.TheVariants.{Expired, Explicit, Replaced, Size}

-- the word of a cause
abbrev pub cause_word : RemovalCause → List ℕ
cause_word Expired = codes "Expired"
cause_word Explicit = codes "Explicit"
cause_word Replaced = codes "Replaced"
cause_word Size = codes "Size"

-- the line of a note
abbrev pub note_text : Note → List ℕ
note_text note =
    codes "NOTE " ++ cause_word note.cause ++ 32 ∷ [] ++ note.key ++ 32 ∷ [] ++ note.value ++ 10
    ∷ []

-- the two are the same cause
abbrev pub same_cause : RemovalCause → RemovalCause → Bool
same_cause Expired Expired = true
same_cause Explicit Explicit = true
same_cause Replaced Replaced = true
same_cause Size Size = true
same_cause a b = false

-- the values of a part weigh more than its share
abbrev pub is_over : Config → ℕ → List Value → Bool
is_over config part values = go config.capacity
  where
    go : Option ℕ → Bool
    go None = false
    go (Some capacity) =
        nat_lt (share config capacity)
        (sum_by (λ v. v.weight) (filter (λ v. v.part == part) values))

-- each part weighs at most its share
abbrev pub is_within : Config → List Value → Bool
is_within config values = list_all (λ v. not (is_over config v.part values)) values

-- the values held right after the step's acceptance: the key's older value is gone
abbrev pub just_accepted : List Value → Option Value → List Value
just_accepted values None = values
just_accepted values (Some value) = without_key (λ v. v.key) value.key values ++ value ∷ []

-- the step may report the value that it accepts itself
abbrev pub newcomer : Config → Value → Candidate
newcomer config value =
    record {
      value = value;
      dead = deadline_has_come (deadline config value value.accepted_at) value.accepted_at;
      covered = false;
      evictable = false;
      new = true;
    }

-- the values that a step may report: those held before it, oldest first, and the one that it accepts
abbrev pub candidates_of : Config → List Candidate → Deed → List Candidate
candidates_of config held deed = held ++ option_to_list (option_map (newcomer config) deed.value)

-- the part exceeds its share right after the step's acceptance
abbrev pub overfills : Config → List Candidate → Deed → ℕ → Bool
overfills config held deed part =
    is_some deed.value && is_over config part (just_accepted (map (λ c. c.value) held) deed.value)

-- the step writes the key of this older value
abbrev pub is_rewritten : Deed → Candidate → Bool
is_rewritten deed c = not c.new && is_value_of c.value.key deed.value

-- the step writes or deletes the key of this older value
abbrev pub is_succeeded : Deed → Candidate → Bool
is_succeeded deed c = is_rewritten deed c || is_this c.value.key deed.deletes

-- a cause is true of a value
abbrev pub is_true_cause : Config → List Candidate → Deed → Candidate → RemovalCause → Bool
is_true_cause config held deed c Expired = c.dead
is_true_cause config held deed c Explicit =
    c.covered || (is_this c.value.key deed.deletes && not c.dead)
is_true_cause config held deed c Replaced = is_rewritten deed c && not c.dead && not c.covered
is_true_cause config held deed c Size = c.evictable || overfills config held deed c.value.part

-- the first of `Expired`, `Explicit`, `Replaced` that is true of an older value that the step overwrites or deletes
abbrev pub first_cause : Config → List Candidate → Deed → Candidate → RemovalCause
first_cause config held deed c =
    if is_true_cause config held deed c Expired then Expired
    else (if is_true_cause config held deed c Explicit then Explicit else Replaced)

-- a write or a removal reports the older value of its key with the first cause that is true; this does not apply to one that looks the
-- value up before it writes
abbrev pub is_told_first : Deed → Candidate → Bool
is_told_first deed c = is_succeeded deed c && is_none deed.uses

-- the note has the bytes of the value, and a cause that it may have
abbrev pub is_true_note : Config → List Candidate → Deed → Note → Option Candidate → Bool
is_true_note config held deed note None = false
is_true_note config held deed note (Some c) =
    same note.value c.value.bytes
    && (if is_told_first deed c then same_cause note.cause (first_cause config held deed c)
    else is_true_cause config held deed c note.cause)

-- the first value of the key among these
abbrev pub first_with_key : List ℕ → List Candidate → Option Candidate
first_with_key key cs = find (λ c. same key c.value.key) cs

-- each note reports the first value of its key that is not reported yet, with a true cause; and no older value of a written or deleted key
-- is left
abbrev pub are_true_notes : Config → List Candidate → Deed → List Candidate → List Note → Bool
are_true_notes config held deed cs [] = list_all (λ c. not (is_succeeded deed c)) cs
are_true_notes config held deed cs (note ∷ notes) =
    is_true_note config held deed note (first_with_key note.key cs)
    && are_true_notes config held deed (without_key (λ c. c.value.key) note.key cs) notes

-- one of the notes reports one of these values, in this part, as `Size`
abbrev pub tells_size : ℕ → List Value → List Note → Bool
tells_size part values notes =
    list_any (λ n. same_cause n.cause Size && option_map_or (λ v. v.part == part)
    (find (λ v. same n.key v.key) values) false) notes

-- steps that report nothing
abbrev pub is_silent : Action → Bool
is_silent (Running (says.Has key)) = true
is_silent (Running says.Keys) = true
is_silent (Running says.Clear) = true
is_silent (Running (says.DropIf prefix)) = true
is_silent (Running says.Quit) = true
is_silent Holding = true
is_silent Abandoning = true
is_silent action = false
