use Rattle.std.proofs.Common.{◌≡◌, length}
use Rattle.memcache_model.specs.Bytes.{tokens}
use Rattle.memcache_model.specs.Meta.{flags_fault}
use Rattle.memcache_service.proofs.stock.flags.flags_fault.Given as goal

abbrev pub invariant-loop-word : goal.invariant-loop-word
invariant-loop-word l =
    flags_fault (tokens l.rest) ≡ flags_fault (tokens l.words)

abbrev pub decreases-loop-word : goal.decreases-loop-word
decreases-loop-word l = length l.rest
