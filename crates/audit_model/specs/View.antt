-- What a step sees: everything that its reply, its load, its value and its notes depend on.
use Rattle.std.specs.Prelude.{ℕ, Bool, List, Option}
use Rattle.audit_model.specs.History.{Value}

-- a held value with what is true of it at the step's moment: whether its deadline has come; whether it is covered; whether, since it was
-- accepted, its part exceeded its share at a point that still counts; whether this very step accepted it
pub record Candidate : Type 0 where
  pub value : Value
  pub dead : Bool
  pub covered : Bool
  pub evictable : Bool
  pub new : Bool

-- the step's moment, the live value and the load under way of each key, the live keys in byte order, the number of the next load, whether a
-- `DROPIF` was accepted, and the values held, oldest first
pub record View : Type 0 where
  pub now : ℕ
  pub live : List ℕ → Option Value
  pub live_keys : List (List ℕ)
  pub load_of_key : List ℕ → Option ℕ
  pub next_load : ℕ
  pub dropped : Bool
  pub held : List Candidate
