-- What those that wait for a turn are told when it ends.
use Rattle.std.proofs.Common.{◌≡◌, ℕ, Bool, true, false, Result, Ok, Err, refl, subst, if◌then◌else◌}
use Rattle.std.specs.Prelude.{is_ok}
use Rattle.front_reference.specs.declared.data.Made.{Made}
use Rattle.front_reference.specs.declared.data.TurnKind.{TurnKind}
use Rattle.sync_desk.specs.Drawing.{told_at_end}
use Rattle.sync_desk.specs.Slots.Waiting.{ChangesTurnAt, IsPutAt, SlotsByNumber, changed, ended_with, turn_by_number}
use Rattle.sync_desk.specs.declared.slots.slot.Ending.{Ending}
use Rattle.sync_desk.specs.declared.slots.slot.Ending.TheVariants.{Done, GivenUp}

module _ {V F : Type 0} (kind : TurnKind) (number : ℕ) (old new : SlotsByNumber V F) where
  -- they are told the same whether the turn ended or not
  pub told_given_up : (is_ended : Bool) → ChangesTurnAt kind number (ended_with (if is_ended then GivenUp else GivenUp)) old new
      → ChangesTurnAt kind number (ended_with GivenUp) old new
  told_given_up true told = told
  told_given_up false told = told

  -- they are told what was made if the turn ended, where its ending means that to them
  pub told_made : {E : Type 0} (ending : Ending V F) (made : Made V F) (r : Result (Unit {0}) E)
      → changed kind (ended_with ending) (turn_by_number number old) ≡ changed kind (ended_with (Done made)) (turn_by_number number old)
      → ChangesTurnAt kind number (ended_with (if is_ok r then ending else GivenUp)) old new
      → ChangesTurnAt kind number (ended_with (told_at_end made r)) old new
  told_made ending made (Ok done) same told = subst (λ turn. IsPutAt number turn old new) same told
  told_made ending made (Err e) same told = told
