-- The text of notes.
use Rattle.std.specs.Prelude.{◌≡◌, ◌≤◌, ◌⊎◌, ◌-◌, ◌^◌, ℕ, List, [], length}
use Rattle.std.specs.List.{flat_map, slice_get}
use Rattle.std.specs.Option.{option_map_or}
use Rattle.audit_model.specs.declared.transcript.Note.{Note}
use Rattle.audit_model.specs.Notes.{note_text}
use Rattle.cache_run.specs.Devices.Failures.{HasFailed}
use Rattle.cache_run.specs.declared.devices.errors.RunError.{RunError}
use Rattle.cache_run.specs.declared.devices.errors.RunError.TheVariants as error
use Rattle.cache_spaces.specs.Services.{BareSpace}
use Rattle.cache_spaces.specs.Spaces.{untaken_notes}

-- the lines of notes, in order
abbrev pub notes_text : List Note → List ℕ
notes_text notes = flat_map note_text notes

-- the notes of a namespace that were reported and not taken
abbrev pub notices_at : List BareSpace → ℕ → List Note
notices_at spaces namespace = option_map_or untaken_notes (slice_get spaces namespace) []

-- why reporting notes stops: the writer failed, or there were as many notes as are counted
abbrev pub StopsTelling : (before after : ℕ) → List Note → RunError → Type 0
StopsTelling before after notes e =
    ((e ≡ error.Write) × HasFailed before after)
    ⊎ ((e ≡ error.UsedUp) × (2 ^ 64 - 1 ≤ length notes))
