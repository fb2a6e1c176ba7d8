-- A recording service, and how far it was read.
use Rattle.std.specs.Prelude.{◌≡◌, ◌≢◌, ℕ, ◌≤◌, ◌==◌, ◌++◌, Option, Some, Result, Ok, Err, List, [], drop, get_or, length, map, IsNone, if◌then◌else◌}
use Rattle.std.specs.Borrow.{Bor}
use Rattle.std.specs.List.{slice_get}
use Rattle.std.specs.Option.{option_copied, option_to_list}
use Rattle.audit_model.specs.declared.input.Conn.{Conn}
use Rattle.audit_model.specs.declared.input.ServiceError.{ServiceError}
use Rattle.audit_model.specs.declared.transcript.Note.{Note}
use Rattle.audit_model.specs.declared.transcript.Record.{Record}
use Rattle.cache_spaces.specs.Calls.{InSpace, IsOpened}
use Rattle.cache_spaces.specs.Cursors.{Cursor, cursor_at_start, cursor_of, taken_through, lent_replies, IsPlaceIn, notes_before, notes_from, notes_of_records, records_at, replies_for}
use Rattle.cache_spaces.specs.Journals.{journals_of}
use Rattle.cache_spaces.specs.Spaces.{Space}
use Rattle.cache_spaces.specs.declared.cursors.Cursors.{Cursors}
use Rattle.cache_spaces.specs.declared.replies.LentReplies.{LentReplies}
use Rattle.cache_lines.specs.Tape.Taped.{Taped}

-- the namespaces, each with its journal on its tape, and how far each was read
pub record Recorded : Type 0 where
  pub spaces : List (Space Taped)
  pub cursors : List Cursor

abbrev pub recorded_of : List (Space Taped) → List Cursors → Recorded
recorded_of spaces read = record { spaces = spaces; cursors = map cursor_of read }

abbrev pub cursor_in : Recorded → ℕ → Cursor
cursor_in recorded namespace = get_or recorded.cursors namespace cursor_at_start

-- the records of a namespace's journal
abbrev pub records_in : Recorded → ℕ → List Record
records_in recorded namespace = records_at (journals_of recorded.spaces) namespace

-- the replies of a connection in the records after the last taking
abbrev pub untaken_in : Recorded → Conn → List ℕ
untaken_in recorded conn =
    replies_for conn.number (drop (taken_through (cursor_in recorded conn.namespace) conn.number)
    (records_in recorded conn.namespace))

-- the notes of a namespace's records that were taken
abbrev pub notes_taken : Recorded → ℕ → List Note
notes_taken recorded namespace =
    notes_before (records_in recorded namespace) (cursor_in recorded namespace).notes

-- those that were not taken
abbrev pub untold_in : Recorded → ℕ → List Note
untold_in recorded namespace =
    notes_from (records_in recorded namespace) (cursor_in recorded namespace).notes

-- nothing of it was read
abbrev pub IsUnread : Recorded → Type 0
IsUnread recorded = (namespace : ℕ) → cursor_in recorded namespace ≡ cursor_at_start

-- nothing was read beyond the records
pub record ReadsWithin (records : List Record) (cursor : Cursor) : Type 0 where
  pub replies : (number : ℕ) → taken_through cursor number ≤ length records
  pub notes : IsPlaceIn records cursor.notes

-- this is so for each namespace and its journal
abbrev pub ReadsJournals : Recorded → Type 0
ReadsJournals recorded =
    (namespace : ℕ) → ReadsWithin (records_in recorded namespace) (cursor_in recorded namespace)

-- of each connection and of each namespace as much was taken as before
abbrev pub KeepsTaken : Recorded → Recorded → Type 0
KeepsTaken was is = (namespace : ℕ)
    → ((number : ℕ) → taken_through (cursor_in is namespace) number
    ≡ taken_through (cursor_in was namespace) number)
    × ((cursor_in is namespace).notes ≡ (cursor_in was namespace).notes)

-- the records that the journal of a namespace gained
abbrev pub gained_in : Recorded → Recorded → ℕ → List Record
gained_in was is namespace = drop (length (records_in was namespace)) (records_in is namespace)

-- The journal of this namespace gained a record, and no other did. The replies of each connection in it come after those that were not
-- taken, and so do the notes of each namespace; and nothing else is left to be taken, including of a connection that is not open yet.
pub record GainsRecord (namespace : ℕ) (was is : Recorded) : Type 0 where
  pub one : (other : ℕ) → length (gained_in was is other) ≡ (if other == namespace then 1 else 0)
  pub journals : (other : ℕ) → records_in is other ≡ records_in was other ++ gained_in was is other
  pub replies : (conn : Conn) → untaken_in is conn ≡ untaken_in was conn
      ++ replies_for conn.number (gained_in was is conn.namespace)
  pub notes : (other : ℕ) → untold_in is other ≡ untold_in was other
      ++ notes_of_records (gained_in was is other)

-- the replies of a connection that was opened were taken: those since they were last taken, to the end of the journal; nothing else changed
pub record TakesReplies (was is : Recorded) (conn : Conn) (text : List ℕ) : Type 0 where
  pub known : InSpace was.spaces conn.namespace (λ space. IsOpened space conn.number)
  pub text_is : text ≡ untaken_in was conn
  pub none : untaken_in is conn ≡ []
  pub reached : taken_through (cursor_in is conn.namespace) conn.number
      ≡ length (records_in is conn.namespace)
  pub others : (other : Conn) → other ≢ conn → untaken_in is other ≡ untaken_in was other
  pub notes : (namespace : ℕ) → (notes_taken is namespace ≡ notes_taken was namespace)
      × (untold_in is namespace ≡ untold_in was namespace)
  pub spaces : is.spaces ≡ was.spaces

-- The first note of a namespace that was not taken was taken, if there is one. Those that were taken and those that were not are all that
-- its journal contains, in order; nothing else changed.
pub record TakesNote (was is : Recorded) (namespace : ℕ) (note : Option Note) : Type 0 where
  pub grows : notes_taken is namespace ≡ notes_taken was namespace ++ option_to_list note
  pub left : untold_in was namespace ≡ option_to_list note ++ untold_in is namespace
  pub none : IsNone note → untold_in was namespace ≡ []
  pub place : IsPlaceIn (records_in is namespace) (cursor_in is namespace).notes
  pub all : notes_of_records (records_in is namespace) ≡ notes_taken is namespace
      ++ untold_in is namespace
  pub others : (other : ℕ) → other ≢ namespace → (notes_taken is other ≡ notes_taken was other)
      × (untold_in is other ≡ untold_in was other)
  pub replies : (conn : Conn) → untaken_in is conn ≡ untaken_in was conn
  pub spaces : is.spaces ≡ was.spaces

-- in each namespace there are as many cursors as connections were opened
abbrev pub HaveCursors : List (Space Taped) → List Cursors → Type 0
HaveCursors spaces read =
    map (λ cursors. length cursors.replies.items) read ≡ map (λ space. length space.closings) spaces

-- what was lent was taken; or nothing changed
abbrev pub LendsReplies : Recorded → Conn → Result LentReplies ServiceError → Recorded → Type 0
LendsReplies was conn (Ok replies) is = TakesReplies was is conn (lent_replies replies)
LendsReplies was conn (Err e) is = is ≡ was

abbrev pub LendsNote : Recorded → ℕ → Result (Option (Bor Note)) ServiceError → Recorded → Type 0
LendsNote was namespace (Ok note) is = TakesNote was is namespace (option_copied note)
LendsNote was namespace (Err e) is = is ≡ was

-- this many namespaces, of which nothing was read, and in which no connection was opened
pub record AreAtStart (read : List Cursors) (count : ℕ) : Type 0 where
  pub counted : length read ≡ count
  pub none : (namespace : ℕ) (cursors : Cursors) → slice_get read namespace ≡ Some cursors
      → (cursors.replies.items ≡ []) × (cursors.notes ≡ record { entry = 0; list = 0; note = 0 })
