use Rattle.std.proofs.Common.{◌≡◌, ◌≤◌, [], vec_capacity}
use Rattle.cached_server.proofs.announcing.Scribe.write_all.Given as goal

abbrev pub invariant-loop : goal.invariant-loop
invariant-loop g l = record {
  goes : (goal.iterator-loop g).can_next l.iterator';
  ends : (goal.iterator-loop g).is_finite l.iterator';
  empty : l.taken.items ≡ [];
  room : 1048576 ≤ vec_capacity l.taken;
}
