use Rattle.front_parts.proofs.places.Searching.{Rest}
use Rattle.front_parts.proofs.places.turns.Turns.find.Given as goal

abbrev pub invariant-loop-pair : goal.invariant-loop-pair
invariant-loop-pair g l = Rest g.K.PartialEq.eq l.kind (g.Q.Names.named_key l.key) l.hash l.self l.pair-iterator
