-- Where lines stop.
use Rattle.std.specs.Prelude.{◌≡◌, ℕ, ◌<◌, Bool, true, false, List, [], ◌∷◌, length, take, Result, Ok, Err, ◌++◌, not, ◌&&◌, Option, IsTrue, is_none, unwrap_or}
use Rattle.audit_model.specs.Bytewise.{cut_at}
use Rattle.audit_model.specs.Situation.{Situation, Connection, HeldValue}
use Rattle.audit_model.specs.Steps.{Task, RunLines}
use Rattle.audit_model.specs.Stream.{without_return, behind_lines}
use Rattle.audit_model.specs.declared.transcript.Step.{Step}
use Rattle.audit_lines.specs.Next.{IsLine, IsPartial}
use Rattle.cache_commands.specs.Answered.{Agrees}
use Rattle.cache_commands.specs.Right.{KeepsFrame}
use Rattle.cache_lines.specs.Bases.{Seen}
use Rattle.cache_lines.specs.Gathered.{gather, gathered, HasNothingOutside, LineStage, spare_in}
use Rattle.cache_lines.specs.Leading.{TasksLead}
use Rattle.cache_lines.specs.Lines.{IsThere, ends_quit, holding, ready, set_in, situation_behind, with_drops}
use Rattle.cache_lines.specs.Making.{Making, making_of}
use Rattle.cache_lines.specs.Ran.{RunsAs}
use Rattle.cache_lines.specs.Tape.Taped.{step_held, Taped}
use Rattle.cache_lines.specs.Waiting.{holding_load, loads_in, waiting_with, with_under_way}
use Rattle.cache_lines.specs.Whole.{has_line, held_line}
use Rattle.cache_lines.specs.declared.looping.End.{End}
use Rattle.cache_lines.specs.declared.running.LineOutcome.TheVariants.{Stays, Quits, Waits}
use Rattle.cache_lines.specs.declared.looping.End.TheVariants as at

-- the line with this many bytes at the front, without one carriage return
abbrev pub line_in_front : List ℕ → ℕ → List ℕ
line_in_front bytes n = without_return (take n bytes)

-- these steps ran, and no load was joined
pub record AddsSteps (steps : List Step) (old new : Seen) : Type 0 where
  pub gathered_is : gathered new.stage ≡ gather (gathered old.stage) steps
  pub loads_are : new.loads ≡ old.loads

abbrev pub ends_by_quit : End → Bool
ends_by_quit at.More = false
ends_by_quit at.TooLong = false
ends_by_quit at.Held = false
ends_by_quit at.Waits = false
ends_by_quit at.Quit = true

abbrev pub holds_back : End → Bool
holds_back at.More = false
holds_back at.TooLong = false
holds_back at.Held = true
holds_back at.Waits = false
holds_back at.Quit = false

abbrev pub ends_waiting : End → Bool
ends_waiting at.More = false
ends_waiting at.TooLong = false
ends_waiting at.Held = false
ends_waiting at.Waits = true
ends_waiting at.Quit = false

-- Lines stop at these bytes: less than a line is left, or more than a line may have; or a line is held back, or is a `LOAD` that begins to
-- wait; or it is a `QUIT`, and has run.
abbrev pub StopsBy : (now number : ℕ) (bytes : List ℕ) → End → (old new : Seen) → Type 0
StopsBy now number bytes at.More old new = IsPartial bytes × AddsSteps [] old new
StopsBy now number bytes at.TooLong old new =
    (8192 < length (cut_at 10 bytes).0) × AddsSteps [] old new
StopsBy now number bytes at.Held old new =
    (n : ℕ) × IsLine bytes n × AddsSteps (step_held number (line_in_front bytes n) ∷ []) old new
StopsBy now number bytes at.Waits old new =
    (n : ℕ) × IsLine bytes n × RunsAs now number (line_in_front bytes n) Waits old new
StopsBy now number bytes at.Quit old new =
    (n : ℕ) × IsLine bytes n × RunsAs now number (line_in_front bytes n) Quits old new

-- the first line of the bytes ran, and has this many bytes, or lines stop at it
abbrev pub RunsFirst : (now number : ℕ) (bytes : List ℕ) → Result ℕ End → (old new : Seen) → Type 0
RunsFirst now number bytes (Ok n) old new =
    IsLine bytes n × RunsAs now number (line_in_front bytes n) Stays old new
RunsFirst now number bytes (Err end) old new = StopsBy now number bytes end old new

-- a line ran
abbrev pub has_run : Result ℕ End → Bool
has_run (Ok n) = true
has_run (Err end) = ends_by_quit end

-- How a connection's lines end.

-- how many lines can be added to the record without allocating; none if none is made
abbrev pub spare_of : Option Taped → ℕ
spare_of tape = unwrap_or (spare_in tape) 0

-- the last step is held back
abbrev pub ends_held : List Step → Bool
ends_held [] = false
ends_held (step ∷ []) = step.held
ends_held (step ∷ next ∷ steps) = ends_held (next ∷ steps)

-- the last step is of a `LOAD` that waits: it is not held back, and has no reply
abbrev pub ends_silent : List Step → Bool
ends_silent [] = false
ends_silent (step ∷ []) = is_none step.reply && not step.held
ends_silent (step ∷ next ∷ steps) = ends_silent (next ∷ steps)

-- the connection then, with these bytes left: it runs lines, or its first line is held back, or is a `LOAD` that has begun to wait this
-- often
abbrev pub left_by : ℕ → End → (times : ℕ) → List ℕ → Connection
left_by number at.More times rest = ready number rest
left_by number at.TooLong times rest = ready number rest
left_by number at.Held times rest = holding number (held_line rest) (behind_lines 1 rest)
left_by number at.Waits times rest = waiting_with number (held_line rest) (behind_lines 1 rest) times
left_by number at.Quit times rest = ready number rest

-- Steps ran from this situation for these tasks, of which those are left; the last one may be held back, a `QUIT`, or a `LOAD` that waits.
-- What they leave stands for this situation.
pub record RanTasks (making : Making) (s : Situation) (tasks behind : List Task)
    (quit is_held is_silent : Bool) (target : List HeldValue → Situation) (old new : LineStage) :
    Type 0 where
  pub steps : List Step
  pub left : List HeldValue
  pub stands : new.values.Stands left
  pub leads : TasksLead making s tasks steps (target left) behind old.values new.values
  pub ends : ends_held steps ≡ is_held
  pub quits : ends_quit making.config steps ≡ quit
  pub silent : ends_silent steps ≡ is_silent
  pub gathered_is : gathered new ≡ gather (gathered old) steps

-- lines of a connection that is ready ran
abbrev pub RanReady : (making : Making) (number : ℕ) (base : Situation) (held : List HeldValue)
    (bytes : List ℕ) (quit is_held is_silent : Bool) (target : List HeldValue → Situation)
    (old new : LineStage) → Type 0
RanReady making number base held bytes quit is_held is_silent target old new =
    RanTasks making (set_in base held (ready number bytes)) (RunLines number ∷ []) [] quit is_held
    is_silent target old new

-- Less than a line is left, or more than a line may have; or a line that is held back, or a `LOAD` that waits; or a `QUIT` ran.
abbrev pub EndsFor : End → List ℕ → Type 0
EndsFor at.More rest = IsPartial rest
EndsFor at.TooLong rest = 8192 < length (cut_at 10 rest).0
EndsFor at.Held rest = IsTrue (has_line rest)
EndsFor at.Waits rest = IsTrue (has_line rest)
EndsFor at.Quit rest = Unit {0}

-- Lines of a connection that is ready ran until these bytes were left, and ended like this, in each situation that the values and the loads
-- stood for.
pub record RunsReady (now number : ℕ) (bytes rest : List ℕ) (end : End) (old new : Seen) :
    Type 0 where
  pub ran : (s : Situation) → Agrees old.stage.values now s → IsThere number s
      → loads_in s ≡ old.loads
      → RanReady (making_of old.stage.values.frame) number s s.held bytes (ends_by_quit end)
      (holds_back end) (ends_waiting end) (λ left. situation_behind (ends_by_quit end)
      (with_under_way new.loads (with_drops new.stage.values.frame.dropped s)) left
      (left_by number end 1 rest)) old.stage new.stage
  pub ends : EndsFor end rest
  pub frame : KeepsFrame old.stage.values.frame new.stage.values.frame now
  pub fresh : HasNothingOutside (gathered new.stage)

-- the connection with this number, which holds its first line back and began to wait for it this often, with these bytes and one more piece
abbrev pub held_with : ℕ → ℕ → List ℕ → List ℕ → Connection
held_with number times bytes piece =
    holding_load number (held_line bytes) (behind_lines 1 bytes ++ piece) times
