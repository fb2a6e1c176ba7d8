use Rattle.std.proofs.Common.{◌≡◌, ◌≤◌, ◌++◌, length, take, vec_capacity}
use Rattle.memcache_model.specs.Answers.{tells_items}
use Rattle.memcache_model.specs.Bytes.{tokens}
use Rattle.memcache_model.specs.Counts.{no_looks}
use Rattle.memcache_model.specs.Statistics.{sought}
use Rattle.memcache_service.specs.Shelves.{live_on}
use Rattle.memcache_service.proofs.stock.reading.say_live.Given as goal

abbrev pub invariant-loop-word : goal.invariant-loop-word
invariant-loop-word g l = record {
  told : l.output.items ++ tells_items l.uniques (tokens l.rest) (live_on (g.T.Shelf.view l.shelf) l.moment)
      ≡ l.initial.output.items
      ++ tells_items l.uniques (tokens l.keys) (live_on (g.T.Shelf.view l.shelf) l.moment);
  looks : sought (live_on (g.T.Shelf.view l.shelf) l.moment) (tokens l.rest) l.looks
      ≡ sought (live_on (g.T.Shelf.view l.shelf) l.moment) (tokens l.keys) no_looks;
  longer : length l.initial.output.items ≤ length l.output.items;
  begun : take (length l.initial.output.items) l.output.items ≡ l.initial.output.items;
  capacity : vec_capacity l.initial.output ≤ vec_capacity l.output;
}

abbrev pub decreases-loop-word : goal.decreases-loop-word
decreases-loop-word g l = length l.rest
