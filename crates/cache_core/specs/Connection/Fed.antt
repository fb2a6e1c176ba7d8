-- A step of a `LOAD` that waited: it runs again, or receives its load's outcome.
use Rattle.std.specs.Prelude.{◌≡◌, ℕ, ◌++◌, true, false, List, [], ◌∷◌, Option, Some, None, Bool, ◌||◌, if◌then◌else◌}
use Rattle.std.specs.Option.{option_map}
use Rattle.audit_model.specs.Grammar.{reading}
use Rattle.audit_model.specs.Places.{tasks_to_feed}
use Rattle.audit_model.specs.Situation.{HeldValue, Situation, connection_in}
use Rattle.audit_model.specs.Steps.{Task}
use Rattle.audit_model.specs.Stream.{behind_lines}
use Rattle.audit_model.specs.declared.command.Closing.{Closing}
use Rattle.audit_model.specs.declared.config.Config.{Config}
use Rattle.audit_model.specs.declared.transcript.Step.{Step}
use Rattle.cache_commands.specs.Values.{Values}
use Rattle.cache_commands.specs.Answered.{Agrees}
use Rattle.cache_commands.specs.Loads.Standings.{holds_line, waits_for_load}
use Rattle.cache_commands.specs.Right.{KeepsFrame, step_saying}
use Rattle.cache_commands.specs.declared.loads.standing.Standing.{Standing}
use Rattle.cache_lines.specs.Bases.{Seen, seen_on}
use Rattle.cache_lines.specs.Ended.{ends_silent, RanTasks, RunsReady, left_by, ends_by_quit, holds_back, ends_waiting}
use Rattle.cache_lines.specs.Gathered.{HasNothingOutside, gather, gathered}
use Rattle.cache_lines.specs.Leading.{TasksLead}
use Rattle.cache_lines.specs.Lines.{ends_quit, with_drops, IsThere, set_in, situation_behind}
use Rattle.cache_lines.specs.Making.{Making, making_of}
use Rattle.cache_lines.specs.Tape.Taped.{Taped, spends, text_left}
use Rattle.cache_lines.specs.Waiting.{is_load, loads_in, with_under_way}
use Rattle.cache_lines.specs.Whole.{held_line}
use Rattle.cache_lines.specs.declared.base.Base.{Base}
use Rattle.cache_lines.specs.declared.looping.End.{End}
use Rattle.cache_core.specs.Connection.Fits.{ClosesFor, RunsOn}
use Rattle.cache_core.specs.Connection.Shown.{put_in, shown_connection, with_piece}
use Rattle.cache_core.specs.declared.connection.connection.Connection.{Connection}
use Rattle.cache_commands.specs.declared.loads.standing.Standing.TheVariants as now_is
use Rattle.audit_model.specs.declared.command.Closing.TheVariants as by

-- it is open, and its first unread line is a `LOAD` that waits
pub record AwaitsLoad (config : Config) (c : Connection) : Type 0 where
  pub waits : c.standing ≡ now_is.Waiting
  pub is_open : c.closing ≡ None
  pub load : is_load (reading config (held_line c.unread.bytes)) ≡ true

-- the last of these steps is neither a `QUIT` nor a `LOAD` that waits
pub record EndsCalm (config : Config) (steps : List Step) : Type 0 where
  pub quits : ends_quit config steps ≡ false
  pub silent : ends_silent steps ≡ false

-- the waiting `LOAD` got this reply, in reserved room
pub record IsReplied (reply : List ℕ) (number : ℕ) (tape new_tape : Option Taped)
    (old new : Connection) : Type 0 where
  pub said : new_tape ≡ option_map (spends
      (step_saying number (held_line old.unread.bytes) (old.output.text.items ++ reply) None []))
      tape
  pub text : new.output.text.items ≡ text_left tape (old.output.text.items ++ reply)
  pub bytes : new.unread.bytes ≡ behind_lines 1 old.unread.bytes
  pub standing : new.standing ≡ now_is.Ready
  pub closing : new.closing ≡ old.closing

-- the task of a connection's waiting `LOAD` was done in this situation, in one step
pub record RanStep (making : Making) (s : Situation) (number : ℕ) (task : Task) (new : Connection)
    (was is : Seen) : Type 0 where
  pub step : Step
  pub left : List HeldValue
  pub stands : is.stage.values.Stands left
  pub leads : TasksLead making s (task ∷ []) (step ∷ [])
      (put_in (with_under_way is.loads (with_drops is.stage.values.frame.dropped s)) left number
      new) [] was.stage.values is.stage.values
  pub own : step.conn ≡ number
  pub gathered_is : gathered is.stage ≡ gather (gathered was.stage) (step ∷ [])
  pub calm : new.standing ≡ now_is.Ready → EndsCalm making.config (step ∷ [])

-- this happened in each situation that the values and the loads stood for
pub record StepRan (now number : ℕ) (task : Task) (old new : Connection) (was is : Seen) :
    Type 0 where
  pub ran : (s : Situation) → Agrees was.stage.values now s
      → loads_in s ≡ was.loads → connection_in number s ≡ Some (shown_connection number old)
      → RanStep (making_of was.stage.values.frame) s number task new was is
  pub is_open : new.closing ≡ None
  pub frame : KeepsFrame was.stage.values.frame is.stage.values.frame now
  pub fresh : HasNothingOutside (gathered is.stage)

-- What a feed does to a connection.

-- why a connection is closed by what it was fed: a `QUIT` ran last; or its `LOAD` waited, or waits; or a line is too long
abbrev pub closing_by : (waited quit silent : Bool) → Closing
closing_by waited quit silent =
    if quit then by.Quit else (if waited || silent then by.Behind else by.Long)

-- Steps of an open connection's feed ran, all that were due; the connection is as they left it, and may be closed.
pub record FedRan (now number : ℕ) (old : Connection) (piece : List ℕ) (new : Connection)
    (is_held : Bool) (was is : Seen) : Type 0 where
  pub quit : Bool
  pub silent : Bool
  pub ran : (s : Situation) → Agrees was.stage.values now s → IsThere number s
      → loads_in s ≡ was.loads
      → RanTasks (making_of was.stage.values.frame)
      (set_in s s.held (with_piece piece (shown_connection number old)))
      (tasks_to_feed number (holds_line old.standing)) [] quit is_held silent
      (λ left. put_in (with_under_way is.loads (with_drops is.stage.values.frame.dropped s)) left
      number new) was.stage is.stage
  pub closing : ClosesFor (closing_by (waits_for_load old.standing) quit silent) new.closing
  pub runs : RunsOn new.closing new.standing quit silent
  pub frame : KeepsFrame was.stage.values.frame is.stage.values.frame now
  pub fresh : HasNothingOutside (gathered is.stage)

-- the bytes that contain its next lines: those after a line that was held back, otherwise all
abbrev pub unread_behind : Standing → List ℕ → List ℕ
unread_behind standing bytes = if holds_line standing then behind_lines 1 bytes else bytes

-- Lines of a connection in these bytes ran; it is as they left it, and may be closed.
pub record LinesLeft (now number : ℕ) (bytes : List ℕ) (new : Connection) (was is : Seen) :
    Type 0 where
  pub rest : List ℕ
  pub end : End
  pub ran : RunsReady now number bytes rest end was is
  pub put : (base : Situation) (values : List HeldValue) (n : ℕ) → situation_behind
      (ends_by_quit end) base values (left_by n end 1 rest) ≡ put_in base values n new
  pub closing : ClosesFor (closing_by false (ends_by_quit end) (ends_waiting end)) new.closing
  pub runs : RunsOn new.closing new.standing (ends_by_quit end) (ends_waiting end)
  pub held : holds_line new.standing ≡ holds_back end

-- the connection looks the same
pub record LooksAsBefore (old new : Connection) : Type 0 where
  pub bytes : new.unread.bytes ≡ old.unread.bytes
  pub standing : new.standing ≡ old.standing
  pub waited : new.waited ≡ old.waited
  pub closing : new.closing ≡ old.closing
  pub text : new.output.text.items ≡ old.output.text.items

-- a piece was appended after a `LOAD` that waits, and the connection closes if too many bytes come after it
pub record TakesWaiting (old : Connection) (piece : List ℕ) (new : Connection) : Type 0 where
  pub put : (base : Situation) (values : List HeldValue) (number : ℕ)
      → set_in base values (with_piece piece (shown_connection number old)) ≡ put_in base values number new
  pub closing : ClosesFor by.Behind new.closing

-- what the lines of a connection run over
abbrev pub seen_by : {S T : Type 0} → (S → Values) → (T → Option Taped) → Base S T → Connection
    → Seen
seen_by view tape base connection = seen_on view tape base connection.output

-- the same over a base as it was and as it is
abbrev pub FedOver : {S T : Type 0} → (S → Values) → (T → Option Taped) → (now number : ℕ)
    → (base left : Base S T) → (old : Connection) → (piece : List ℕ) → (new : Connection)
    → (is_held : Bool) → Type 0
FedOver view tape now number base left old piece new is_held =
    FedRan now number old piece new is_held (seen_by view tape base old)
    (seen_by view tape left new)
