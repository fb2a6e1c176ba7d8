-- The reference cache: everything that a contract sees of a cache of one part.
use Rattle.std.specs.Prelude.{ℕ, Bool, Option, List}
use Rattle.policy_base.specs.Counts.{Sketch}
use Rattle.engine_reference.specs.declared.data.Settings.{Settings}
use Rattle.engine_reference.specs.declared.data.Record.{Record}
use Rattle.engine_reference.specs.declared.data.Registered.{Registered}
use Rattle.engine_reference.specs.declared.data.Unsent.{Unsent}
use Rattle.engine_reference.specs.declared.data.Read.{Read}
use Rattle.engine_reference.specs.declared.data.Write.{Write}
use Rattle.engine_reference.specs.declared.data.Notice.{Notice}

-- the results of the rules: each is a function of its arguments
pub record Answers (K V P R : Type 0) : Type 0 where
  pub weight_of : R → K → V → ℕ
  -- the own expiration of a new value, by the moment: this long after it, or none
  pub created : R → K → V → ℕ → Option ℕ
  -- how a look-up or an update changes it, by the moment and the remaining time: nothing, or what it becomes
  pub found : R → K → V → ℕ → Option ℕ → ℕ → Option (Option ℕ)
  pub updated : R → K → V → ℕ → Option ℕ → Option (Option ℕ)
  pub covers : R → P → K → V → Bool

pub record State (K V P S R : Type 0) : Type 0 where
  -- the records: those of keys that are held, and those of removed keys whose removal is still to be applied
  pub records : List (Record K V)
  -- the access list: the numbers of admitted records, the one used longest ago first
  pub access : List ℕ
  -- the write list: the same numbers, the one whose write was applied longest ago first
  pub order : List ℕ
  -- the step of the last clear, or 0
  pub cleared : ℕ
  pub predicates : List (Registered P)
  -- writes that were made and not sent yet
  pub unsent : List Unsent
  -- what maintenance still has to apply, the oldest first
  pub reads : List Read
  pub writes : List Write
  -- what was reported and not taken, the oldest first
  pub notices : List (Notice K V)
  -- how often hashes were requested
  pub sketch : Sketch
  -- the number and the weight of admitted records at the end of the last run, and its moment
  pub number : ℕ
  pub weight : ℕ
  pub ran : ℕ
  -- whether the last run wanted the sketch's table and there was no memory for it
  pub table_refused : Bool
  pub next_number : ℕ
  pub next_ticket : ℕ
  -- how many writes there is room for
  pub reserved : ℕ
  -- the name, as the bytes of a text, if it was given one
  pub name : Option (List ℕ)
  pub settings : Settings
  pub hasher : S
  pub rules : R
