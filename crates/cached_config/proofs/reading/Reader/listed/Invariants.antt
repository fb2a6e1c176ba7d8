use Rattle.std.proofs.Common.{◌≡◌, ◌≤◌, List, ◌++◌, vec_len}
use Rattle.toml.specs.View.{members_view}
use Rattle.toml.proofs.Views.{Entry}
use Rattle.cached_config.specs.Said.{loads_table}
use Rattle.cached_config.proofs.reading.Reader.listed.Given as goal

abbrev pub invariant-loop-key : goal.invariant-loop-key
invariant-loop-key l = record {
  kept : vec_len l.fn.self.faults ≤ vec_len l.self.faults;
  done : List Entry;
  left : l.table.entries ≡ done ++ l.key-iterator;
  said : vec_len l.self.faults ≤ vec_len l.fn.self.faults → members_view done ≡ loads_table l.loads.items;
}
