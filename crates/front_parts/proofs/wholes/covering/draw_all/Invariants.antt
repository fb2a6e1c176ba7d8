use Rattle.std.proofs.Common.{◌+◌, ◌≤◌, ◌++◌, List, ℕ, length, vec_len}
use Rattle.std.specs.Vec.{vec_capacity}
use Rattle.rand_core.specs.Stream.{Stream}
use Rattle.front_reference.specs.Wholes.{DrawAll, DrawsInVain}
use Rattle.front_parts.proofs.wholes.covering.draw_all.Given as goal

abbrev pub invariant-loop-part : goal.invariant-loop-part
invariant-loop-part g l = record {
  draws : (new : Stream) (more : List ℕ) → DrawAll l.rest (g.G.Rng.stream l.generator) new more → DrawAll l.fn.parts (g.G.Rng.stream l.fn.generator) new (l.ids.items ++ more);
  in_vain : (new : Stream) → DrawsInVain l.rest (g.G.Rng.stream l.generator) new → DrawsInVain l.fn.parts (g.G.Rng.stream l.fn.generator) new;
  room : vec_len l.ids + length l.rest ≤ vec_capacity l.ids;
}

abbrev pub decreases-loop-part : goal.decreases-loop-part
decreases-loop-part g l = length l.rest
