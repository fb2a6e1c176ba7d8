-- A record in the middle of its steps.
use Rattle.std.specs.Prelude.{◌≡◌, ℕ, ◌≤◌, ◌++◌, true, false, List, [], length, map, Option, Some, None, MatchOption, is_some, if◌then◌else◌}
use Rattle.std.specs.List.{flat_map}
use Rattle.std.specs.Option.{option_map}
use Rattle.audit_model.specs.Bytewise.{is_empty}
use Rattle.audit_model.specs.Situation.{HeldValue, Situation}
use Rattle.audit_model.specs.Steps.{Task}
use Rattle.audit_model.specs.declared.command.Closing.{Closing}
use Rattle.audit_model.specs.declared.config.Config.{Config}
use Rattle.audit_model.specs.declared.transcript.Step.{Step}
use Rattle.cache_commands.specs.Right.{KeepsFrame}
use Rattle.cache_commands.specs.declared.loads.standing.Standing.{Standing}
use Rattle.cache_lines.specs.Ended.{ends_silent}
use Rattle.cache_lines.specs.Gathered.{adds, written_in}
use Rattle.cache_lines.specs.Leading.{TasksLead}
use Rattle.cache_lines.specs.Lines.{ends_quit}
use Rattle.cache_lines.specs.Making.{Making, making_of}
use Rattle.cache_lines.specs.Tape.Taped.{Taped}
use Rattle.cache_lines.specs.Waiting.{UnderWay, under_way}
use Rattle.cache_lines.specs.declared.base.Base.{Base}
use Rattle.cache_commands.specs.Values.{IsMoment, Values}
use Rattle.audit_model.specs.declared.command.Closing.TheVariants as by
use Rattle.cache_commands.specs.declared.loads.standing.Standing.TheVariants as now_is
use Rattle.cache_core.specs.Connection.Fed.{EndsCalm, closing_by}
use Rattle.cache_core.specs.State.{at_number}
use Rattle.cache_core.specs.Turned.{own_steps, replies_to}
use Rattle.cache_core.specs.Connections.Presence.{Gone, Here, Out, Presence, closing_of_presence, open_from, reply_text_of}

-- ---- the state of a connection

-- it was not opened; or is closed; or runs lines; or has a line that is held back, or waits
pub data Course : Type 0 where
  Absent : Course
  Closed : (why : Closing) → Course
  Running : Course
  Resting : Course

abbrev pub course_of : Option Closing → Standing → Course
course_of (Some why) standing = Closed why
course_of None now_is.Ready = Running
course_of None now_is.Held = Resting
course_of None now_is.Waiting = Resting

-- the state of one that was opened
abbrev pub course_in : Presence → Course
course_in (Here c) = course_of c.closing c.standing
course_in Out = Closed by.Asked
course_in (Gone why) = Closed why

-- the state of the connection with a number
abbrev pub course_at : List Presence → ℕ → Course
course_at connections number = at_number Absent (map course_in connections) number

-- why these steps of its own close it
abbrev pub closing_of_steps : Config → List Step → Closing
closing_of_steps config own = closing_by false (ends_quit config own) (ends_silent own)

-- Its state changes from one to the other by these steps of its own: it closes for the reason that they give; and if it runs lines, the
-- last of them was neither a `QUIT` nor a `LOAD` that waits.
abbrev pub MovesCourse : Config → List Step → Course → Course → Type 0
MovesCourse config own Absent new = new ≡ Absent
MovesCourse config own (Closed why) new = (new ≡ Closed why) × (own ≡ [])
MovesCourse config own Running Absent = ⊥
MovesCourse config own Running (Closed why) = why ≡ closing_of_steps config own
MovesCourse config own Running Running = EndsCalm config own
MovesCourse config own Running Resting = Unit {0}
MovesCourse config own Resting Absent = ⊥
MovesCourse config own Resting (Closed why) = (why ≡ closing_of_steps config own) × (is_empty own ≡ false)
MovesCourse config own Resting Running = EndsCalm config own × (is_empty own ≡ false)
MovesCourse config own Resting Resting = Unit {0}

-- ---- a piece of a record

-- the situation at this moment, by what lines run over, and the connections
abbrev pub middle_of : Values → ℕ → UnderWay → List Presence → List HeldValue → Situation
middle_of v now l cs held =
    record {
      latest = now;
      opened = length (map closing_of_presence cs);
      sent = l.sent;
      connections = open_from 1 cs;
      pending = l.pending;
      held = held;
      dropped = v.frame.dropped;
    }

-- If these values were held, steps for these tasks ran to their end. If a record is made, they are in it; otherwise their
-- replies and notes are appended to those that were not taken. Each connection went on by its own steps.
pub record Piece {S T : Type 0} (view : S → Values) (tape : T → Option Taped) (making : Making)
    (now : ℕ) (was is : Base S T) (old new : List Presence) (tasks : List Task)
    (held : List HeldValue) : Type 0 where
  pub steps : List Step
  pub left : List HeldValue
  pub stands : (view is.store).Stands left
  pub leads : TasksLead making (middle_of (view was.store) now (under_way was.loads) old held) tasks
      steps (middle_of (view is.store) now (under_way is.loads) new left) [] (view was.store)
      (view is.store)
  pub outputs : (n : ℕ) → at_number [] (map reply_text_of new) n ≡ at_number []
      (map reply_text_of old) n ++ (if is_some (tape was.tape) then [] else replies_to n steps)
  pub kept : option_map written_in (tape is.tape)
      ≡ option_map (adds steps) (option_map written_in (tape was.tape))
  pub notes : (view is.store).untaken ≡ (view was.store).untaken
      ++ (if is_some (tape was.tape) then [] else flat_map (λ step. step.notices) steps)
  pub moves : (n : ℕ) → MovesCourse making.config (own_steps n steps) (course_at old n) (course_at new n)

-- if a record is made, so many steps can still be held back
abbrev pub HasSpareFor : ℕ → Option Taped → Type 0
HasSpareFor lines tape = MatchOption tape (Unit {0}) (λ t. lines ≤ t.spare)

-- what is kept through a record: this moment, nothing outside the record, and this many lines of room
pub record IsAmid {S T : Type 0} (view : S → Values) (tape : T → Option Taped) (now : ℕ)
    (base : Base S T) (connections : List Presence) (lines : ℕ) : Type 0 where
  pub in_time : IsMoment (view base.store) now
  pub untaken : is_some (tape base.tape) ≡ true → (view base.store).untaken ≡ []
  pub outputs : is_some (tape base.tape) ≡ true → (n : ℕ)
      → at_number [] (map reply_text_of connections) n ≡ []
  pub room : HasSpareFor lines (tape base.tape)

-- a part of a record: from whatever values were held
pub record Parts {S T : Type 0} (view : S → Values) (tape : T → Option Taped) (now : ℕ)
    (was is : Base S T) (old new : List Presence) (tasks : List Task) : Type 0 where
  pub ran : (held : List HeldValue) → (view was.store).Stands held
      → Piece view tape (making_of (view was.store).frame) now was is old new tasks held
  pub frame : KeepsFrame (view was.store).frame (view is.store).frame now
