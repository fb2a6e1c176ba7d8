-- Who waits for which turn, and what they are told.
use Rattle.std.specs.Prelude.{◌≡◌, ℕ, nat_eq, nat_le, nat_lt, ◌==◌, ◌+◌, ◌-◌, Option, Some, None, if◌then◌else◌, option_map}
use Rattle.std.specs.Option.{option_map_or}
use Rattle.std.specs.HashMap.{HashMap, get}
use Rattle.std.specs.declared.hash.FoldHasher.{FoldHasher}
use Rattle.std.specs.declared.hash.BuildHasherDefault.{BuildHasherDefault}
use Rattle.front_reference.specs.Fronts.{same_kind}
use Rattle.front_reference.specs.declared.data.TurnKind.{TurnKind}
use Rattle.sync_desk.specs.declared.slots.slot.Ending.{Ending}
use Rattle.sync_desk.specs.declared.slots.slot.Ending.TheVariants.{Underway, GivenUp}
use Rattle.sync_desk.specs.declared.slots.slot.TurnSlot.{TurnSlot}

-- slots by the numbers of their turns
abbrev pub SlotsByNumber : (V F : Type 0) → Type 0
SlotsByNumber V F = HashMap ℕ (TurnSlot V F) (BuildHasherDefault FoldHasher)

-- a turn that is led, or that some wait for: the hash of its key, how many callers wait for it, and how it ended
pub record Turn (V F : Type 0) : Type 0 where
  pub kind : TurnKind
  pub hash : ℕ
  pub waiting : ℕ
  pub ending : Ending V F

module _ {V F : Type 0} where
  -- the turn of a slot
  abbrev pub turn_in : TurnSlot V F → Turn V F
  turn_in slot = record {
    kind = slot.kind;
    hash = slot.hash;
    waiting = slot.waiting;
    ending = slot.ending;
  }

  -- the turn with a number
  abbrev pub turn_by_number : ℕ → SlotsByNumber V F → Option (Turn V F)
  turn_by_number number slots = option_map turn_in (get nat_eq slots number)

  -- how many callers wait for the turn with a number
  abbrev pub waiters_at : ℕ → SlotsByNumber V F → ℕ
  waiters_at number slots = option_map_or (λ turn. turn.waiting) (turn_by_number number slots) 0

  -- a turn, if it is of a kind
  abbrev pub if_of : TurnKind → Option (Turn V F) → Option (Turn V F)
  if_of kind (Some turn) = if same_kind turn.kind kind then Some turn else None
  if_of kind None = None

  -- the hash of a turn's key, if it is of a kind
  abbrev pub turn_hash : TurnKind → Option (Turn V F) → Option ℕ
  turn_hash kind turn = option_map (λ t. t.hash) (if_of kind turn)

  -- what those that wait for a turn are told: its ending, or that it was given up if there is none
  abbrev pub told_of : Option (Turn V F) → Ending V F
  told_of (Some turn) = turn.ending
  told_of None = GivenUp

  -- a turn of a key of this hash that is under way, and for which nobody waits
  abbrev pub fresh_turn : TurnKind → (hash : ℕ) → Turn V F
  fresh_turn kind hash = record { kind = kind; hash = hash; waiting = 0; ending = Underway }

  -- one caller more waits
  abbrev pub joined_by_one : Turn V F → Option (Turn V F)
  joined_by_one turn = Some (record turn { waiting = turn.waiting + 1 })

  -- a turn ends so, and is kept only if some wait for it
  abbrev pub ended_with : Ending V F → Turn V F → Option (Turn V F)
  ended_with ending turn =
      if nat_lt 0 turn.waiting then Some (record turn { ending = ending }) else None

  -- one caller less waits
  abbrev pub with_one_less : Turn V F → Turn V F
  with_one_less turn = record turn { waiting = turn.waiting - 1 }

  -- a caller leaves a turn, which the last of them removes
  abbrev pub left_by_one : Turn V F → Option (Turn V F)
  left_by_one turn = if nat_le turn.waiting 1 then None else Some (with_one_less turn)

  -- a turn is looked at: one that ended is left
  abbrev pub seen_with : Ending V F → Turn V F → Option (Turn V F)
  seen_with Underway turn = Some turn
  seen_with ending turn = left_by_one turn

  -- what becomes of a turn if it is of a kind
  abbrev pub changed : TurnKind → (Turn V F → Option (Turn V F)) → Option (Turn V F)
      → Option (Turn V F)
  changed kind becomes (Some turn) =
      if same_kind turn.kind kind then becomes turn else Some turn
  changed kind becomes None = None

  -- every turn stays
  abbrev pub SlotsStay : (old new : SlotsByNumber V F) → Type 0
  SlotsStay old new = (n : ℕ) → turn_by_number n new ≡ turn_by_number n old

  -- the turn with a number is this, and the others stay
  abbrev pub IsPutAt : (number : ℕ) → Option (Turn V F) → (old new : SlotsByNumber V F) → Type 0
  IsPutAt number turn old new =
      (n : ℕ) → turn_by_number n new ≡ (if number == n then turn else turn_by_number n old)

  -- this becomes of the turn with a number if it is of a kind, and the others stay
  abbrev pub ChangesTurnAt : TurnKind → (number : ℕ) → (Turn V F → Option (Turn V F))
      → (old new : SlotsByNumber V F) → Type 0
  ChangesTurnAt kind number becomes old new =
      IsPutAt number (changed kind becomes (turn_by_number number old)) old new
