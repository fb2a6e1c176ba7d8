use Rattle.std.proofs.Common.{◌≡◌, take, map, reverse}
use Rattle.audit_model.specs.Situation.{live_keys_at}
use Rattle.audit_situation.specs.Held.Seeing.{held_of}
use Rattle.moka_audit.proofs.steps.Sorting.{texts}
use Rattle.moka_audit.proofs.steps.keys.live_keys.Given as goal

abbrev pub invariant-loop-at : goal.invariant-loop-at
invariant-loop-at l = texts l.keys.entries ≡ live_keys_at l.config l.now (reverse (map held_of (take l.at l.held)))
