use Rattle.std.proofs.Common.{◌≡◌, ◌≤◌, ◌++◌, length, vec_len, vec_capacity}
use Rattle.std.specs.Vec.Iter.{into_iter_items, into_iter_len}
use Rattle.cache_spaces.specs.Journals.{journals_of}
use Rattle.cache_spaces.proofs.journals.RecordedService.into_journals.Given as goal

abbrev pub invariant-loop-space : goal.invariant-loop-space
invariant-loop-space l = record {
  split : l.yielded ++ into_iter_items l.space-iterator ≡ l.fn.self.spaces;
  len : into_iter_len l.space-iterator ≡ length (into_iter_items l.space-iterator);
  journals : l.journals.items ≡ journals_of l.yielded;
  many : vec_len l.journals ≡ length l.yielded;
  room : length l.fn.self.spaces ≤ vec_capacity l.journals;
}
