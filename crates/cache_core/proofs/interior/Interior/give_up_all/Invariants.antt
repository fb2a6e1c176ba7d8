use Rattle.std.proofs.Common.{drop, ◌≡◌, ◌+◌, ℕ, length, take}
use Rattle.audit_model.specs.Places.{tasks_to_give_up}
use Rattle.cache_commands.specs.Loads.Pending.{SameTaken}
use Rattle.cache_core.specs.Settled.{IsAmid, Parts}
use Rattle.cache_core.specs.Settling.{AreWaiting}
use Rattle.cache_core.proofs.interior.Interior.give_up_all.Given as goal

abbrev pub invariant-loop-number : goal.invariant-loop-number
invariant-loop-number g l = record {
  ran : Parts g.S.Store.view g.T.Tape.view l.now l.fn.self.base l.self.base l.fn.self.connections l.self.connections (tasks_to_give_up (take l.number-index l.waiting));
  amid : (lines : ℕ) → IsAmid g.S.Store.view g.T.Tape.view l.now l.fn.self.base l.fn.self.connections ((length l.waiting + length l.waiting) + lines) → IsAmid g.S.Store.view g.T.Tape.view l.now l.self.base l.self.connections ((length (drop l.number-index l.waiting) + length (drop l.number-index l.waiting)) + lines);
  waits : AreWaiting (g.S.Store.view l.fn.self.base.store).frame.config l.self.connections (drop l.number-index l.waiting);
  count : length l.self.connections ≡ length l.fn.self.connections;
  goes : SameTaken l.fn.self.base.loads l.self.base.loads;
}
