use Rattle.cache_loop.proofs.Goings.{goes-same}
use Rattle.cache_loop.specs.Turns.{begins}
use Rattle.cache_loop.proofs.hall.Hall.note.Goals as goal

pub returns-then-eq : goal.returns-then-eq
returns-then-eq g c = goes-same g.S.Steward c.args.self.now.served c.knock.new.self.served c.args.steward.now c.knock.ensures

pub returns-then-eq-3 : goal.returns-then-eq-3
returns-then-eq-3 g c = begins

pub returns-else-not-note : goal.returns-else-not-note
returns-else-not-note g c = begins
