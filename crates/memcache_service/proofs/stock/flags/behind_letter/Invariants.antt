use Rattle.std.proofs.Common.{◌≡◌, length}
use Rattle.memcache_model.specs.Bytes.{tokens}
use Rattle.memcache_model.specs.Meta.{behind_letter}
use Rattle.memcache_service.proofs.stock.flags.behind_letter.Given as goal

abbrev pub invariant-loop-word : goal.invariant-loop-word
invariant-loop-word l =
    behind_letter l.letter (tokens l.rest) ≡ behind_letter l.letter (tokens l.words)

abbrev pub decreases-loop-word : goal.decreases-loop-word
decreases-loop-word l = length l.rest
