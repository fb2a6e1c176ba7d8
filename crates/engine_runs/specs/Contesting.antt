-- The contest of a newcomer, as a walk along the access list sees it.
use Rattle.std.specs.Prelude.{◌≡◌, ℕ, nat_lt, Bool, true, false, List, [], ◌∷◌, Option, Some, None, is_some, IfSome}
use Rattle.policy_base.specs.Counts.{Sketch}
use Rattle.engine_reference.specs.declared.data.Record.{Record}
use Rattle.engine_reference.specs.Admission.{shortest_front, frequencies}
use Rattle.engine_reference.specs.Records.{settled_in, with_settled}
use Rattle.engine_cells.specs.Kept.{Kept, kept_at}
use Rattle.engine_cells.specs.Looking.{behind}
use Rattle.engine_runs.specs.declared.contesting.Contest.{Contest}

module _ {K V : Type 0} where
  -- there are victims, and they were requested less often in all
  abbrev pub is_won : Sketch → ℕ → Option (List (Record K V)) → Bool
  is_won sketch ahead None = false
  is_won sketch ahead (Some victims) = nat_lt (frequencies sketch victims) ahead

  -- what is left to reach and how far the newcomer is ahead, after a record was looked at, decide in the same way about the records after
  -- it
  abbrev pub GoesPast : Sketch → ℕ → ℕ → Record K V → ℕ × ℕ → Type 0
  GoesPast sketch left ahead r after =
      (rest : List (Record K V)) → is_won sketch after.1 (shortest_front after.0 rest)
      ≡ is_won sketch ahead (shortest_front left (with_settled (Some r) rest))

  -- a list of numbers from that of a record on
  abbrev pub on_from : Option (Record K V) → List ℕ → List ℕ
  on_from None ns = []
  on_from (Some r) ns = r.number ∷ behind r.number ns

module _ {K V P S R : Type 0} where
  -- the access list from the record in a place on
  abbrev pub from_place : Kept K V P S R → Option ℕ → List ℕ
  from_place t None = []
  from_place t (Some place) = on_from (kept_at t place) t.state.access

  -- the place, if there is one, has an admitted record
  abbrev pub IsOnList : Kept K V P S R → Option ℕ → Type 0
  IsOnList t next =
      IfSome next
      (λ place. (r : Record K V) × (kept_at t place ≡ Some r) × (is_some r.counts ≡ true))

  -- the result of a contest that is under way
  abbrev pub outcome : Kept K V P S R → Contest → Bool
  outcome t c =
      is_won t.state.sketch c.ahead
      (shortest_front c.left (settled_in t.state.records (from_place t c.next)))

-- it is decided: the weight is reached, the newcomer lost, or no record is left
pub data IsDecided (c : Contest) : Type 0 where
  reached : c.left ≡ 0 → IsDecided c
  lost : c.ahead ≡ 0 → IsDecided c
  ended : c.next ≡ None → IsDecided c
