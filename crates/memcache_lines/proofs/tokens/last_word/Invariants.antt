use Rattle.std.proofs.Common.{◌≡◌, length}
use Rattle.memcache_model.specs.Bytes.{tokens}
use Rattle.memcache_model.specs.Grammar.{last_word}
use Rattle.memcache_lines.proofs.tokens.last_word.Given as goal

abbrev pub invariant-loop-next : goal.invariant-loop-next
invariant-loop-next l = last_word l.last (tokens l.rest) ≡ last_word l.fn.word (tokens l.fn.rest)

abbrev pub decreases-loop-next : goal.decreases-loop-next
decreases-loop-next l = length l.rest
