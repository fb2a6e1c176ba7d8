use Rattle.std.proofs.Common.{◌≡◌, drop}
use Rattle.engine_reference.specs.Identifiers.Drawing.{is_registered}
use Rattle.engine_reference.proofs.identifiers.is_registered.Given as goal

abbrev pub invariant-loop-p : goal.invariant-loop-p
invariant-loop-p g l = is_registered (drop l.p-index l.registered) l.id ≡ is_registered l.registered l.id
