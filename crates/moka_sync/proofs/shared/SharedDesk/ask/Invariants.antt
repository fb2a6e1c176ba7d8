use Rattle.std.proofs.Common.{Bool}
use Rattle.std.specs.Fn.{FnReturnsAt}
use Rattle.moka_sync.specs.Making.{MayPass}
use Rattle.moka_sync.proofs.shared.SharedDesk.ask.Given as goal

abbrev pub invariant-loop : goal.invariant-loop
invariant-loop g l = record {
  runs : (goal.iterator-loop g).can_next l.iterator' × (goal.iterator-loop g).is_finite l.iterator';
  still : (passed : Bool) → MayPass l.passing (FnReturnsAt g.P.Fn l.replace_if) passed → MayPass l.fn.passing (FnReturnsAt g.P.Fn l.replace_if) passed;
}
