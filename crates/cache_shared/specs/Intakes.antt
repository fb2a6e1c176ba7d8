-- What a shared service takes in.
use Rattle.audit_model.specs.declared.input.Input.{Input}
use Rattle.audit_model.specs.declared.input.Input.TheVariants as input
use Rattle.cache_shared.specs.declared.intake.Intake.{Intake}
use Rattle.cache_shared.specs.declared.intake.Intake.TheVariants as intake

-- the input, whose piece may be lent
abbrev pub input_in : Intake → Input
input_in (intake.Piece conn piece moment) = input.Feed conn piece.now moment
input_in (intake.Input i) = i
