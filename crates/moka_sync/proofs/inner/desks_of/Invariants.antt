use Rattle.std.proofs.Common.{◌≡◌, ◌++◌, length, vec_len}
use Rattle.std.specs.Vec.Iter.{into_iter_items, into_iter_len}
use Rattle.crossbeam_utils.specs.Padded.{padded_value}
use Rattle.moka_sync.specs.Holding.{BearTheirPlaces}
use Rattle.moka_sync.proofs.inner.desks_of.Given as goal

abbrev pub invariant-loop-state : goal.invariant-loop-state
invariant-loop-state g l = record {
  split : l.yielded ++ into_iter_items l.state-iterator ≡ l.fn.states.items;
  len : into_iter_len l.state-iterator ≡ length (into_iter_items l.state-iterator);
  many : vec_len l.desks ≡ length l.yielded;
  numbered : BearTheirPlaces l.desks.items (λ d. (padded_value d).number);
}
