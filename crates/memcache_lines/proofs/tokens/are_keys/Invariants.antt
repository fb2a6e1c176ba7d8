use Rattle.std.proofs.Common.{◌≡◌, length}
use Rattle.std.specs.List.{list_all}
use Rattle.memcache_model.specs.Bytes.{is_item_key, tokens}
use Rattle.memcache_lines.proofs.tokens.are_keys.Given as goal

abbrev pub invariant-loop-word : goal.invariant-loop-word
invariant-loop-word l = list_all is_item_key (tokens l.rest) ≡ list_all is_item_key (tokens l.line)

abbrev pub decreases-loop-word : goal.decreases-loop-word
decreases-loop-word l = length l.rest
