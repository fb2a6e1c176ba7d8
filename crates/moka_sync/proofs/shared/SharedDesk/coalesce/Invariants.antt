use Rattle.std.proofs.Common.{◌≡◌, Bool}
use Rattle.std.specs.Fn.{FnReturnsAt}
use Rattle.moka_sync.specs.Making.{MayPass}
use Rattle.moka_sync.proofs.shared.SharedDesk.coalesce.Given as goal

abbrev pub invariant-loop : goal.invariant-loop
invariant-loop g l = record {
  named : g.A.Names.named_key l.asked ≡ g.A.Names.named_key l.fn.asked;
  may : (passed : Bool) → MayPass l.passing (FnReturnsAt g.P.Fn l.replace_if) passed → MayPass l.fn.passing (FnReturnsAt g.P.Fn l.replace_if) passed;
}
