-- What lines did.
use Rattle.std.specs.Prelude.{◌≡◌, ℕ, suc, Bool, true, false, not, ◌||◌, List, [], ◌∷◌, Option, Ok, None, IsTrue}
use Rattle.std.specs.List.{list_all}
use Rattle.audit_model.specs.Commands.{is_sync}
use Rattle.audit_model.specs.Grammar.{reading}
use Rattle.audit_model.specs.Situation.{Situation, HeldValue, live_at, view_in}
use Rattle.audit_model.specs.Steps.{action_by, effect_in}
use Rattle.audit_model.specs.declared.config.Config.{Config}
use Rattle.audit_model.specs.declared.transcript.Accepted.{Accepted}
use Rattle.audit_model.specs.declared.transcript.Note.{Note}
use Rattle.cache_commands.specs.Answered.{Agrees}
use Rattle.cache_commands.specs.Loading.{step_silent}
use Rattle.cache_commands.specs.Order.{Order, AgreesWith, order_by}
use Rattle.cache_commands.specs.Right.{DoesRight, KeepsFrame, step_saying, held_when_run, dropped_when_run}
use Rattle.cache_commands.specs.Recency.{IsPlainLru}
use Rattle.cache_commands.specs.Running.{is_timely}
use Rattle.audit_model.specs.declared.command.Command.TheVariants as says
use Rattle.cache_lines.specs.Bases.{Seen}
use Rattle.cache_lines.specs.Drawing.{StepDraws, identifiers_in}
use Rattle.cache_lines.specs.Gathered.{HasNothingOutside, LineStage, gather, gathered}
use Rattle.cache_lines.specs.Lines.{TouchesOnlyValues, has_its_part, says_quit}
use Rattle.cache_lines.specs.Making.{Making, making_of}
use Rattle.cache_lines.specs.Waiting.{load_sent_for, when_waiting}
use Rattle.cache_lines.specs.Ordered.{HasKeys}
use Rattle.cache_lines.specs.declared.running.LineOutcome.{LineOutcome}
use Rattle.cache_lines.specs.declared.running.LineOutcome.TheVariants.{Stays, Quits, Waits}

-- The line's step was right except for its turn, its values are held, and its reply and notes were gathered.
pub record RanOne (making : Making) (number : ℕ) (s : Situation) (line : List ℕ) (quit : Bool)
    (old new : LineStage) : Type 0 where
  pub reply : List ℕ
  pub accepted : Option Accepted
  pub told : List Note
  pub right : DoesRight making.config s (action_by (reading making.config line))
      (step_saying 0 [] reply accepted told)
  pub plain : TouchesOnlyValues (effect_in making.config (view_in making.config s)
      (action_by (reading making.config line)) (step_saying number line reply accepted told)) quit
  pub says : says_quit (reading making.config line) ≡ quit
  pub parted : IsTrue
      (has_its_part making.part_of (effect_in making.config (view_in making.config s)
      (action_by (reading making.config line)) (step_saying number line reply accepted told)))
  pub left : new.values.Stands (held_when_run making.config s
      (action_by (reading making.config line)) (step_saying 0 [] reply accepted told))
  pub timely : IsTrue (not (is_sync (action_by (reading making.config line)))
      || list_all (is_timely making.config making.made s.latest) (held_when_run making.config s
      (action_by (reading making.config line)) (step_saying 0 [] reply accepted told)))
  pub dropped_is : new.values.frame.dropped ≡ dropped_when_run making.config s
      (action_by (reading making.config line)) (step_saying 0 [] reply accepted told)
  pub draws : StepDraws making.config (step_saying number line reply accepted told)
      (identifiers_in old.values) (identifiers_in new.values)
  pub ordered : (places : ℕ) (order : Order) → IsPlainLru making.config places
      → AgreesWith old.values.Used places order
      → AgreesWith new.values.Used places (order_by (suc places) (reading making.config line) order)
      × HasKeys (order_by (suc places) (reading making.config line) order)
      (held_when_run making.config s (action_by (reading making.config line))
      (step_saying 0 [] reply accepted told))
  pub gathered_is : gathered new
      ≡ gather (gathered old) (step_saying number line reply accepted told ∷ [])

-- the line ran in each situation that the values stood for
pub record RanLine (now number : ℕ) (line : List ℕ) (quit : Bool) (old new : LineStage) : Type 0 where
  pub frame : KeepsFrame old.values.frame new.values.frame now
  pub fresh : HasNothingOutside (gathered new)
  pub ran : (s : Situation) → Agrees old.values now s
      → RanOne (making_of old.values.frame) number s line quit old new

-- the line is a `LOAD` of a key that has no live value
pub record IsMiss (config : Config) (now : ℕ) (line : List ℕ) (Stands : List HeldValue → Type 0) :
    Type 0 where
  pub key : List ℕ
  pub reads : reading config line ≡ Ok (says.Load key)
  pub none : (held : List HeldValue) → Stands held → live_at config now held key ≡ None

-- such a line begins to wait for its key's load, which it sends if none is under way
pub record WaitsLine (now number : ℕ) (line : List ℕ) (old new : Seen) : Type 0 where
  pub is_miss : IsMiss old.stage.values.frame.config now line old.stage.values.Stands
  pub gathered_is : gathered new.stage ≡ gather (gathered old.stage)
      (step_silent number line (load_sent_for is_miss.key old.loads) None [] ∷ [])
  pub loads_are : new.loads ≡ when_waiting number is_miss.key old.loads

-- the line ran, and may have closed its connection, or it begins to wait
abbrev pub RunsAs : (now number : ℕ) (line : List ℕ) → LineOutcome → (old new : Seen) → Type 0
RunsAs now number line Stays old new =
    RanLine now number line false old.stage new.stage × (new.loads ≡ old.loads)
RunsAs now number line Quits old new =
    RanLine now number line true old.stage new.stage × (new.loads ≡ old.loads)
RunsAs now number line Waits old new = WaitsLine now number line old new

-- the line waits
abbrev pub begins_to_wait : LineOutcome → Bool
begins_to_wait Stays = false
begins_to_wait Quits = false
begins_to_wait Waits = true
