-- What makes one command right, apart from whose turn it is and which line is due.
use Rattle.std.specs.Prelude.{◌≡◌, ℕ, ◌≤◌, ◌||◌, Bool, false, List, [], ◌++◌, map, Option, Some, None, IsTrue}
use Rattle.audit_model.specs.Commands.{deed_of, drops}
use Rattle.audit_model.specs.History.{Action}
use Rattle.audit_model.specs.Situation.{Situation, HeldValue, view_in}
use Rattle.audit_model.specs.Steps.{Task, PlacedStep, effect_in, has_right_reply, has_right_load, has_right_acceptance, has_right_notes, is_quiet_where_silent, keeps_shares}
use Rattle.audit_model.specs.declared.config.Config.{Config}
use Rattle.audit_model.specs.declared.transcript.Accepted.{Accepted}
use Rattle.audit_model.specs.declared.transcript.Note.{Note}
use Rattle.audit_model.specs.declared.transcript.Step.{Step}
use Rattle.audit_model.specs.Changes.{left_held, all_held_after}
use Rattle.cache_commands.specs.Promises.{Frame}

-- a step with a reply, of this connection and line
abbrev pub step_saying : ℕ → List ℕ → List ℕ → Option Accepted → List Note → Step
step_saying conn line reply accepted told =
    record {
      conn = conn;
      line = line;
      held = false;
      reply = Some reply;
      load = None;
      accepted = accepted;
      notices = told;
    }

-- the step in its place, doing this
abbrev pub placed_doing : Config → Situation → Option Task → Option (List ℕ) → Action → Step
    → PlacedStep
placed_doing config s task line action step =
    let effect = effect_in config (view_in config s) action step in
    record {
      task = task;
      line = line;
      seen = view_in config s;
      step = step;
      effect = effect;
      held = map (λ h. h.value) (left_held s.held (deed_of effect) effect.notes);
    }

-- the values held after the step has run
abbrev pub held_when_run : Config → Situation → Action → Step → List HeldValue
held_when_run config s action step =
    all_held_after config s.latest s.held
    (deed_of (effect_in config (view_in config s) action step)) step.notices

-- whether a `DROPIF` was accepted, after the step has run
abbrev pub dropped_when_run : Config → Situation → Action → Step → Bool
dropped_when_run config s action step =
    s.dropped || drops (effect_in config (view_in config s) action step)

-- the step is right except for its turn and its line
pub record DoesRight (config : Config) (s : Situation) (action : Action) (step : Step) :
    Type 0 where
  pub replies : IsTrue (has_right_reply config (placed_doing config s None None action step))
  pub loads : IsTrue (has_right_load (placed_doing config s None None action step))
  pub accepts : IsTrue (has_right_acceptance config (placed_doing config s None None action step))
  pub tells : IsTrue (has_right_notes config (placed_doing config s None None action step))
  pub silent : IsTrue (is_quiet_where_silent (placed_doing config s None None action step))
  pub within : IsTrue (keeps_shares config (placed_doing config s None None action step))

-- the reply was appended to what was written, and its step, with these notes, is right
pub record RepliesRightly (config : Config) (s : Situation) (action : Action)
    (accepted : Option Accepted) (Stands : List HeldValue → Type 0) (dropped : Bool)
    (Handed : List Note → Type 0) (old new : List ℕ) : Type 0 where
  pub told : List Note
  pub reply : List ℕ
  pub written : new ≡ old ++ reply
  pub right : DoesRight config s action (step_saying 0 [] reply accepted told)
  pub left : Stands (held_when_run config s action (step_saying 0 [] reply accepted told))
  pub dropped_is : dropped ≡ dropped_when_run config s action (step_saying 0 [] reply accepted told)
  pub handed : Handed told

-- the latest moment is this one or an earlier one, a `DROPIF` may have been accepted, and the rest is as it was
pub record KeepsFrame (old new : Frame) (now : ℕ) : Type 0 where
  pub rest : new ≡ record old { dropped = new.dropped; latest = new.latest }
  pub latest : new.latest ≤ now
