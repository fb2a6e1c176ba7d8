-- What records contain, and how far they were read.
use Rattle.std.specs.Prelude.{◌≡◌, ℕ, ◌+◌, ◌≤◌, Option, List, [], ◌∷◌, ◌++◌, length, map, get_or, take, drop, ◌==◌, unwrap_or, if◌then◌else◌}
use Rattle.std.specs.List.{flat_map, slice_get}
use Rattle.std.specs.Option.{option_map_or, option_to_list}
use Rattle.audit_model.specs.declared.transcript.Note.{Note}
use Rattle.audit_model.specs.declared.transcript.Record.{Record}
use Rattle.audit_model.specs.declared.transcript.Step.{Step}
use Rattle.audit_model.specs.declared.transcript.Transcript.{Transcript}
use Rattle.cache_core.specs.State.{at_number}
use Rattle.cache_spaces.specs.declared.cursors.Cursors.{Cursors}
use Rattle.cache_spaces.specs.declared.replies.LentReplies.{LentReplies}
use Rattle.cache_spaces.specs.declared.told.Told.{Told}

-- lists, concatenated
abbrev pub lists_joined : {X : Type 0} → List (List X) → List X
lists_joined lists = flat_map (λ list. list) lists

-- the lists of notes in a record: that of an answer's value, and that of each step
abbrev pub lists_of : Record → List (List Note)
lists_of entry = entry.notices ∷ map (λ step. step.notices) entry.steps

-- the notes of records, in order
abbrev pub notes_of_records : List Record → List Note
notes_of_records records = flat_map (λ entry. lists_joined (lists_of entry)) records

module _ {X : Type 0} where
  -- what is in lists before a place in one of them
  abbrev pub before_in : List (List X) → ℕ → ℕ → List X
  before_in lists list place = lists_joined (take list lists) ++ take place (get_or lists list [])

  -- what is in lists from a place in one of them on
  abbrev pub rest_in : List (List X) → ℕ → ℕ → List X
  rest_in lists list place =
      drop place (get_or lists list []) ++ lists_joined (drop (list + 1) lists)

-- the lists of the record at a place
abbrev pub lists_at : List Record → ℕ → List (List Note)
lists_at records place = option_map_or lists_of (slice_get records place) []

-- the notes before a place
abbrev pub notes_before : List Record → Told → List Note
notes_before records told =
    notes_of_records (take told.entry records)
    ++ before_in (lists_at records told.entry) told.list told.note

-- the notes from a place on
abbrev pub notes_from : List Record → Told → List Note
notes_from records told =
    rest_in (lists_at records told.entry) told.list told.note
    ++ notes_of_records (drop (told.entry + 1) records)

-- a place is in the records, or right after them: the notes of each record that is added come after it
pub record IsPlaceIn (records : List Record) (told : Told) : Type 0 where
  pub within : told.entry ≤ length records
  pub behind : length records ≤ told.entry → (told.list ≡ 0) × (told.note ≡ 0)

-- the first of the notes from one place on is taken, if there is one, and those from another place on are left
abbrev pub TakesFrom : List Record → Told → Told → Option Note → Type 0
TakesFrom records was is note =
    notes_from records was ≡ option_to_list note ++ notes_from records is

-- The replies that records contain.

-- the reply of a step, if the step is of this connection
abbrev pub reply_for : ℕ → Step → List ℕ
reply_for number step = if step.conn == number then unwrap_or step.reply [] else []

-- the replies of a connection, in order
abbrev pub replies_for : ℕ → List Record → List ℕ
replies_for number records = flat_map (λ entry. flat_map (reply_for number) entry.steps) records

-- the records of a namespace
abbrev pub records_at : List Transcript → ℕ → List Record
records_at journals namespace =
    option_map_or (λ journal. journal.records) (slice_get journals namespace) []

-- bytes, followed by some more
pub record Lengthens (old new : List ℕ) : Type 0 where
  pub more : List ℕ
  pub is : new ≡ old ++ more

-- Replies that are lent from records.

-- the replies
abbrev pub lent_replies : LentReplies → List ℕ
lent_replies replies = replies_for replies.number replies.records.now

-- How far a namespace was read.

-- of a namespace: for each connection that was opened, in the order of their numbers, through how many records its replies were taken; and
-- where the first note stands that was not taken
pub record Cursor : Type 0 where
  pub replies : List ℕ
  pub notes : Told

-- nothing was taken, and no connection was opened
abbrev pub cursor_at_start : Cursor
cursor_at_start = record { replies = []; notes = record { entry = 0; list = 0; note = 0 } }

abbrev pub cursor_of : Cursors → Cursor
cursor_of cursors = record { replies = cursors.replies.items; notes = cursors.notes }

-- through how many records the replies of a connection were taken
abbrev pub taken_through : Cursor → ℕ → ℕ
taken_through cursor number = at_number 0 cursor.replies number
