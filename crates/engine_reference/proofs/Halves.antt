-- Calls in two halves.
use Rattle.std.proofs.Common.{◌≡◌, ap, ℕ, ◌+◌, ◌-◌, arith, Option, Some, None, refl}
use Rattle.engine_reference.specs.declared.data.Record.{Record}
use Rattle.engine_reference.specs.Calls.{removal_rooms, with_removed, with_removal_room, with_reserved_removal, with_predicate}
use Rattle.engine_reference.specs.Laws.{HalvesAreWhole}
use Rattle.engine_reference.specs.Records.{held_at}
use Rattle.engine_reference.specs.State.{State}

given_back : (n by : ℕ) → (n + by) - by ≡ n
given_back n by = omega arith

module _ {K V P S R : Type 0} where
  removal-whole : (o : Option (Record K V)) (s : State K V P S R) → with_reserved_removal o (with_removal_room o s) ≡ with_removed o s
  removal-whole None s = refl
  removal-whole (Some r) s = ap (λ n. with_removed (Some r) (record s { reserved = n })) (given_back s.reserved (removal_rooms s.settings))

module _ (K V P S R : Type 0) where
  pub halves_are_whole : HalvesAreWhole K V P S R
  halves_are_whole = record {
    predicate = λ p s. ap (λ n. with_predicate p (record s { reserved = n })) (given_back s.reserved 1);
    removal = λ eq key s. removal-whole (held_at eq s.records key) s;
    room = λ s. ap (λ n. record s { reserved = n }) (given_back s.reserved 1);
  }
