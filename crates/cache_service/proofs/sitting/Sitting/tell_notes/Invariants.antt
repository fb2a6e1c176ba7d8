use Rattle.std.proofs.Common.{◌≡◌}
use Rattle.cache_service.specs.Exchanged.{WereTaken}
use Rattle.cache_service.specs.Telling.{TellsAll}
use Rattle.cache_service.proofs.sitting.Sitting.tell_notes.Given as goal

abbrev pub invariant-loop-turn : goal.invariant-loop-turn
invariant-loop-turn g l = record {
  same : l.self.teller.ghost_name ≡ l.fn.self.teller.ghost_name;
  told : (after : g.row.T.Denot) → TellsAll g.T.Teller.tells (WereTaken g.L.Seating.configs g.C.Shareable.spaces g.C.Shareable.untaken g.C.Shareable.untold l.namespace) l.self.teller.now after l.self.notes.items
      → TellsAll g.T.Teller.tells (WereTaken g.L.Seating.configs g.C.Shareable.spaces g.C.Shareable.untaken g.C.Shareable.untold l.namespace) l.fn.self.teller.now after l.fn.self.notes.items;
}
