-- Turns: what `begin`, `finish` and `abandon` do.
use Rattle.std.specs.Prelude.{◌≡◌, ℕ, ◌+◌, Bool, [], ◌∷◌, ◌++◌, Option, Some, None}
use Rattle.engine_reference.specs.Scanning.{past, NotesLookUp}
use Rattle.engine_reference.specs.State.{State, Answers}
use Rattle.engine_reference.specs.Visible.{visible_value}
use Rattle.front_reference.specs.declared.data.Made.{Made}
use Rattle.front_reference.specs.declared.data.OpenTurn.{OpenTurn}
use Rattle.front_reference.specs.declared.data.TurnKind.{TurnKind}
use Rattle.front_reference.specs.declared.data.TurnKind.TheVariants as turns
use Rattle.front_reference.specs.declared.data.TurnStart.{TurnStart}
use Rattle.front_reference.specs.declared.data.TurnStart.TheVariants.{Found, Wait, Lead}
use Rattle.front_reference.specs.Fronts.{Front, CallsPart, part_by_hash, turn_of, without_turn, passed}
use Rattle.front_reference.specs.Parts.{Operates, op_of_made}

module _ {K V P S R : Type 0} where
  -- a turn begins
  abbrev pub with_turn : TurnKind → K → ℕ → Front K V P S R → Front K V P S R
  with_turn kind key hash f = record f {
    turns = f.turns ++ (record { number = f.next_turn; kind = kind; key = key; hash = hash }) ∷ [];
    next_turn = f.next_turn + 1;
  }

  -- the turn with a number ends
  abbrev pub turn_ended : ℕ → Front K V P S R → Front K V P S R
  turn_ended number f = record f { turns = without_turn number f.turns }

  -- the turn that is under way is waited for; if there is none, one begins
  abbrev pub wait_or_lead : Option (OpenTurn K) → TurnKind → K → ℕ → Front K V P S R
      → TurnStart V × Front K V P S R
  wait_or_lead (Some t) kind key hash f = (Wait t.number, f)
  wait_or_lead None kind key hash f = (Lead f.next_turn, with_turn kind key hash f)

  -- if a value is found, no turn matters
  abbrev pub found_or : Option V → TurnStart V × Front K V P S R → Front K V P S R
      → TurnStart V × Front K V P S R
  found_or (Some v) other f = (Found v, f)
  found_or None other f = other

  -- a compute call begins: it looks nothing up
  abbrev pub begun_compute : (K → K → Bool) → K → (hash now step : ℕ) → Front K V P S R
      → TurnStart V × Front K V P S R
  begun_compute eq key hash now step f =
      wait_or_lead (turn_of eq f.turns turns.Compute key) turns.Compute key hash
      (passed now step f)

  -- a turn is given up
  abbrev pub abandoned : (number now step : ℕ) → Front K V P S R → Front K V P S R
  abandoned number now step f = turn_ended number (passed now step f)

module _ {K V P S R : Type 0} (answers : Answers K V P R) where
  -- a coalesced call begins: it looks up, as a read, and if nothing is visible that is not passed over, it waits or leads
  pub record Begins (eq : K → K → Bool) (kind : TurnKind) (key : K) (hash now step : ℕ)
      (Ignores : V → Bool → Type 0) (old new : Front K V P S R) (start : TurnStart V) : Type 0 where
    pub part : State K V P S R
    pub there : part_by_hash old hash ≡ Some part
    pub ignored : Bool
    pub asked : (value : V) → visible_value answers eq part now key ≡ Some value
        → Ignores value ignored
    pub mid : Front K V P S R
    pub looks : CallsPart hash now step (NotesLookUp answers eq key hash now ignored) old mid
    pub ends : (start, new) ≡ found_or (past ignored (visible_value answers eq part now key))
        (wait_or_lead (turn_of eq mid.turns kind key) kind key hash mid) mid

  -- a turn ends with what was made: a value is inserted under its key, whatever happened to the key in the meantime
  pub record Finishes {
      F : Type 0} (eq : K → K → Bool) (turn : OpenTurn K) (end : Made V F) (now step : ℕ) (old new : Front K V P S R) : Type 0 where
    pub mid : Front K V P S R
    pub writes : CallsPart turn.hash now step
        (Operates answers eq turn.key turn.hash now step (op_of_made end)) old mid
    pub ends : new ≡ turn_ended turn.number mid
