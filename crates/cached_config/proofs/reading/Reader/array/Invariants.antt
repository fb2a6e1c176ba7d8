use Rattle.std.proofs.Common.{◌≤◌, take, vec_len}
use Rattle.toml.specs.View.{items_view}
use Rattle.cached_config.specs.Said.{SayEach}
use Rattle.cached_config.proofs.reading.Reader.array.Given as goal

abbrev pub invariant-loop-place : goal.invariant-loop-place
invariant-loop-place l = record {
  kept : vec_len l.fn.self.faults ≤ vec_len l.self.faults;
  said : vec_len l.self.faults ≤ vec_len l.fn.self.faults → SayEach (items_view (take l.place l.values.items)) l.spaces.items;
}
