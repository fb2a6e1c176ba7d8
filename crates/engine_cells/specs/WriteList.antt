-- The write list: the places of admitted records by their last writes.
use Rattle.std.specs.Prelude.{ℕ, ◌-◌, ◌^◌, Bool, List, [], ◌∷◌, length, if◌then◌else◌}
use Rattle.policy_queue.specs.Indices.{Indices, without_index, index_moved_to_back}

-- the places, and whether they are kept in memory
pub record WriteList : Type 0 where
  pub places : Indices
  pub is_kept : Bool

-- a place was put last, or taken off
abbrev pub after_move : List ℕ → ℕ × Bool → List ℕ
after_move places m =
    if m.1 then index_moved_to_back m.0 places else without_index m.0 places

-- places were put last or taken off, one after another
abbrev pub after_moves : List ℕ → List (ℕ × Bool) → List ℕ
after_moves places [] = places
after_moves places (m ∷ rest) = after_moves (after_move places m) rest

-- a list that is not kept has room for all places that there are
abbrev pub unkept : List ℕ → Indices
unkept places = record {
  indices = places;
  room = 2 ^ 32 - 2 - length places;
  bound = 2 ^ 32 - 1;
}
