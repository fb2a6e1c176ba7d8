use Rattle.std.proofs.Common.{◌≡◌, ◌≤◌, length}
use Rattle.std.specs.Prelude.{vec_capacity}
use Rattle.front_parts.specs.Wholes.Firsts.{changed_first}
use Rattle.moka_sync.specs.Covering.{MayCoverEach, prepared}
use Rattle.moka_sync.proofs.covering.AllDesks.prepare_all.Given as goal

abbrev pub invariant-loop-number : goal.invariant-loop-number
invariant-loop-number g l = record {
  far : l.self ≡ changed_first (λ k. prepared) l.number l.fn.self;
  same : length l.self ≡ length l.fn.self;
  drawn : length l.ids.items ≡ l.number;
  may : MayCoverEach l.ids.items l.fn.self;
  room : length l.fn.self ≤ vec_capacity l.ids;
  count : l.count ≡ length l.fn.self;
}
