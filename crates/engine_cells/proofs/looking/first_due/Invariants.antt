use Rattle.std.proofs.Common.{◌≡◌, ◌<◌, ℕ, false, Some}
use Rattle.engine_reference.specs.declared.data.Record.{Record}
use Rattle.engine_cells.specs.Cells.{cell_at}
use Rattle.engine_cells.specs.Looking.{is_expired}
use Rattle.engine_cells.proofs.looking.first_due.Given as goal

abbrev pub invariant-loop-place : goal.invariant-loop-place
invariant-loop-place g l = (i : ℕ) → i < l.place → (c : Record g.row.K.Denot g.row.V.Denot) → cell_at l.cells.slots i ≡ Some c → is_expired l.now c ≡ false
