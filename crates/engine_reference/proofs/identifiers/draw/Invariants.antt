use Rattle.engine_reference.specs.Identifiers.Drawing.{DrawsSome, is_registered}
use Rattle.engine_reference.proofs.identifiers.draw.Given as goal

abbrev pub invariant-loop-try : goal.invariant-loop-try
invariant-loop-try g l = DrawsSome l._try (g.G.Rng.stream l.fn.generator) (g.G.Rng.stream l.generator) (is_registered l.registered)
