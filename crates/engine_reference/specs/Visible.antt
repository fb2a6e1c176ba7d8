-- Which values a look-up sees, and what a write or a removal reports of the value that leaves.
use Rattle.std.specs.Prelude.{ℕ, nat_lt, Bool, not, ◌&&◌, ◌||◌, if◌then◌else◌, List, [], ◌∷◌, ◌++◌, Option, Some, None, option_map}
use Rattle.std.specs.List.{list_any}
use Rattle.engine_reference.specs.declared.rules.causes.RemovalCause.{RemovalCause}
use Rattle.engine_reference.specs.declared.rules.causes.RemovalCause.TheVariants as cause
use Rattle.engine_reference.specs.declared.data.Entry.{Entry}
use Rattle.engine_reference.specs.declared.data.Registered.{Registered}
use Rattle.engine_reference.specs.declared.data.Notice.{Notice}
use Rattle.engine_reference.specs.declared.data.Record.{Record}
use Rattle.engine_reference.specs.Records.{held_at}
use Rattle.engine_reference.specs.State.{State, Answers}
use Rattle.engine_reference.specs.Times.{has_come}

-- a value, if it passes a test
abbrev pub passing : {X : Type 0} → (X → Bool) → Option X → Option X
passing test None = None
passing test (Some x) = if test x then Some x else None

module _ {K V : Type 0} where
  abbrev pub notice_of : RemovalCause → Entry K V → Notice K V
  notice_of why e = record { cause = why; key = e.key; value = e.value }

  -- the notices with one more, if removals are reported
  abbrev pub told : Bool → RemovalCause → Entry K V → List (Notice K V) → List (Notice K V)
  told tells why e notices = if tells then notices ++ notice_of why e ∷ [] else notices

module _ {K V P R : Type 0} (answers : Answers K V P R) where
  -- a predicate that was registered at a later step than the entry's write covers it
  abbrev pub is_covered_by : R → Registered P → Entry K V → Bool
  is_covered_by rules p e = nat_lt e.step p.step && answers.covers rules p.predicate e.key e.value

module _ {K V P S R : Type 0} (answers : Answers K V P R) where
  -- a clear of a later step than the write, or such a predicate, covers the entry: steps decide, never moments
  abbrev pub is_covered : State K V P S R → Entry K V → Bool
  is_covered s e =
      nat_lt e.step s.cleared || list_any (λ p. is_covered_by answers s.rules p e) s.predicates

  abbrev pub is_visible : State K V P S R → ℕ → Entry K V → Bool
  is_visible s now e = not (has_come s.settings now e) && not (is_covered s e)

  -- the one formula: the key's record is held, its deadline is after the moment, and nothing covers it
  abbrev pub visible_record : (K → K → Bool) → State K V P S R → ℕ → K → Option (Record K V)
  visible_record eq s now key = passing (λ r. is_visible s now r.entry) (held_at eq s.records key)

  abbrev pub visible : (K → K → Bool) → State K V P S R → ℕ → K → Option (Entry K V)
  visible eq s now key = option_map (λ r. r.entry) (visible_record eq s now key)

  -- what a look-up returns
  abbrev pub visible_value : (K → K → Bool) → State K V P S R → ℕ → K → Option V
  visible_value eq s now key = option_map (λ e. e.value) (visible eq s now key)

  -- what a write reports of the value that it replaces: the first of three causes that is true
  abbrev pub cause_of_write : State K V P S R → ℕ → Entry K V → RemovalCause
  cause_of_write s now e =
      if has_come s.settings now e then cause.Expired
      else (if is_covered s e then cause.Explicit else cause.Replaced)

  -- what a removal by key reports
  abbrev pub cause_of_removal : State K V P S R → ℕ → Entry K V → RemovalCause
  cause_of_removal s now e = if has_come s.settings now e then cause.Expired else cause.Explicit
