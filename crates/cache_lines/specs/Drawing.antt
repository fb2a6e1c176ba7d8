-- The identifiers that steps draw, one step after another.
use Rattle.std.specs.Prelude.{◌≡◌, Bool, true, ◌&&◌, List, [], ◌∷◌, Some, codes}
use Rattle.std.specs.Option.{option_eq}
use Rattle.audit_model.specs.Bytewise.{same}
use Rattle.audit_model.specs.Grammar.{reading}
use Rattle.audit_model.specs.History.{part_count}
use Rattle.audit_model.specs.declared.config.Config.{Config}
use Rattle.audit_model.specs.declared.transcript.Step.{Step}
use Rattle.cache_commands.specs.Answered.{says_drop}
use Rattle.cache_commands.specs.Values.{Values}
use Rattle.rand_core.specs.Stream.{Stream}
use Rattle.cache_commands.specs.Identifiers.{DrawsAlone, Register, AreUsedUp}
use Rattle.cache_commands.specs.Drawing.{DrawsForParts}

-- what a generator of identifiers will give, and which of them are registered in each part
pub record Identifiers : Type 0 where
  pub stream : Stream
  pub registered : Register

abbrev pub identifiers : Stream → Register → Identifiers
identifiers stream registered = record { stream = stream; registered = registered }

abbrev pub identifiers_in : Values → Identifiers
identifiers_in v = identifiers v.stream v.registered

-- a `DROPIF` that is refused with `ERR id`
abbrev pub refuses_id : Config → Step → Bool
refuses_id config step =
    says_drop (reading config step.line) && option_eq same step.reply (Some (codes "ERR id\n"))

-- some are drawn, and none is registered that was not before
abbrev pub Spends : Identifiers → Identifiers → Type 0
Spends old new = DrawsAlone old.stream new.stream old.registered new.registered

-- The step draws some, and each part registers one of them at most; if it is refused for its identifier, one part drew a thousand, each of
-- which was registered there.
pub record StepDraws (config : Config) (step : Step) (old new : Identifiers) : Type 0 where
  pub draws : DrawsForParts old.stream new.stream old.registered new.registered
  pub used_up : refuses_id config step ≡ true
      → AreUsedUp (part_count config) old.stream new.stream old.registered

-- the steps draw identifiers one after another; what is drawn for a line that is held back registers none
abbrev pub StepsDraw : Config → List Step → Identifiers → Identifiers → Type 0
StepsDraw config [] old new = Spends old new
StepsDraw config (step ∷ steps) old new =
    (before : Identifiers) × (behind : Identifiers) × Spends old before
    × StepDraws config step before behind × StepsDraw config steps behind new
