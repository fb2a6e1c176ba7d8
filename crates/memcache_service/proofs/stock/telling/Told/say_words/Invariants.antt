use Rattle.std.proofs.Common.{◌≡◌, ◌≤◌, ◌++◌, length, map, take, vec_capacity}
use Rattle.std.specs.List.{concat}
use Rattle.memcache_model.specs.Bytes.{tokens}
use Rattle.memcache_model.specs.Meta.{told_of_item}
use Rattle.memcache_service.specs.Told.{told_item}
use Rattle.memcache_service.proofs.stock.telling.Told.say_words.Given as goal

abbrev pub invariant-loop-word : goal.invariant-loop-word
invariant-loop-word l = record {
  told : l.output.items ++ concat (map (told_of_item l.self.letters.now l.self.moment l.self.key.now (told_item l.self)) (tokens l.rest))
      ≡ l.initial.output.items ++ concat (map (told_of_item l.self.letters.now l.self.moment l.self.key.now (told_item l.self)) (tokens l.flags));
  longer : length l.initial.output.items ≤ length l.output.items;
  begun : take (length l.initial.output.items) l.output.items ≡ l.initial.output.items;
  capacity : vec_capacity l.initial.output ≤ vec_capacity l.output;
}

abbrev pub decreases-loop-word : goal.decreases-loop-word
decreases-loop-word l = length l.rest
