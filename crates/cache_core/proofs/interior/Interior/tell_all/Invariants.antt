use Rattle.std.proofs.Common.{drop, ◌≡◌, ◌+◌, ℕ, length, map, take}
use Rattle.audit_model.specs.Replies.{outcome_text}
use Rattle.audit_model.specs.Steps.{Deliver}
use Rattle.cache_commands.specs.Loads.Pending.{SameTaken}
use Rattle.cache_core.specs.Settled.{HasSpareFor, IsAmid, Parts}
use Rattle.cache_core.specs.Settling.{AreWaiting, HaveReplyRoom}
use Rattle.cache_core.proofs.interior.Interior.tell_all.Given as goal

abbrev pub invariant-loop-number : goal.invariant-loop-number
invariant-loop-number g l = record {
  ran : (now : ℕ) → IsAmid g.S.Store.view g.T.Tape.view now l.fn.self.base l.fn.self.connections (length l.waiting) → Parts g.S.Store.view g.T.Tape.view now l.fn.self.base l.self.base l.fn.self.connections l.self.connections (map (λ conn. Deliver conn l.outcome) (take l.number-index l.waiting));
  amid : (now lines : ℕ) → IsAmid g.S.Store.view g.T.Tape.view now l.fn.self.base l.fn.self.connections (length l.waiting + lines) → IsAmid g.S.Store.view g.T.Tape.view now l.self.base l.self.connections (length (drop l.number-index l.waiting) + lines);
  spare : HasSpareFor (length (drop l.number-index l.waiting)) (g.T.Tape.view l.self.base.tape);
  store : l.self.base.store ≡ l.fn.self.base.store;
  waits : AreWaiting (g.S.Store.view l.fn.self.base.store).frame.config l.self.connections (drop l.number-index l.waiting);
  room : HaveReplyRoom l.self.connections (length (outcome_text l.outcome)) (drop l.number-index l.waiting);
  count : length l.self.connections ≡ length l.fn.self.connections;
  goes : SameTaken l.fn.self.base.loads l.self.base.loads;
}
