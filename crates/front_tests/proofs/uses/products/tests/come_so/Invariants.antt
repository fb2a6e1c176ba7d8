use Rattle.std.proofs.Common.{◌≡◌, []}
use Rattle.front_tests.proofs.uses.products.tests.come_so.Given as goal

abbrev pub invariant-loop-deed : goal.invariant-loop-deed
invariant-loop-deed l = l.products.cache.turns ≡ []
