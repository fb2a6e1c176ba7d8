-- What is looked at without a read, and look-ups that pass over values.
use Rattle.std.specs.Prelude.{◌≡◌, ℕ, Bool, true, false, List, Option, Some, None, map, filter, is_some, option_map}
use Rattle.engine_reference.specs.declared.data.Record.{Record}
use Rattle.engine_reference.specs.Calls.{MaintainsIfDue, with_read}
use Rattle.engine_reference.specs.Records.{held_entries}
use Rattle.engine_reference.specs.State.{State, Answers}
use Rattle.engine_reference.specs.Visible.{visible_record, visible_value}

-- a value that is not passed over
abbrev pub past : {X : Type 0} → Bool → Option X → Option X
past true o = None
past false o = o

-- the keys of everything that is held, including what is dead or covered
abbrev pub held_keys : {K V : Type 0} → List (Record K V) → List K
held_keys rs = map (λ e. e.key) (held_entries rs)

module _ {K V P S R : Type 0} (answers : Answers K V P R) where
  -- the held keys that have a visible value
  abbrev pub visible_keys : (K → K → Bool) → State K V P S R → ℕ → List K
  visible_keys eq s now =
      filter (λ key. is_some (visible_value answers eq s now key)) (held_keys s.records)

  -- the second half of a look-up, which is not refused: maintenance runs if it is due, and then the read of what was visible is noted,
  -- unless that was passed over
  pub record NotesLookUp (eq : K → K → Bool) (key : K) (hash now : ℕ) (ignored : Bool)
      (old new : State K V P S R) : Type 0 where
    pub mid : State K V P S R
    pub maintains : MaintainsIfDue answers now old mid
    pub reads : new ≡ with_read answers (past ignored (visible_record answers eq old now key)) hash
        now mid

  -- such a look-up with its read: what is passed over counts as not found, and is not used
  pub record LooksUpPast (eq : K → K → Bool) (key : K) (hash now : ℕ) (Ignores : V → Bool → Type 0)
      (old new : State K V P S R) (found : Option V) : Type 0 where
    pub ignored : Bool
    pub asked : (r : Record K V) → visible_record answers eq old now key ≡ Some r
        → Ignores r.entry.value ignored
    pub answer : found
        ≡ option_map (λ r. r.entry.value) (past ignored (visible_record answers eq old now key))
    pub mid : State K V P S R
    pub maintains : MaintainsIfDue answers now old mid
    pub reads : new ≡ with_read answers (past ignored (visible_record answers eq old now key)) hash
        now mid
