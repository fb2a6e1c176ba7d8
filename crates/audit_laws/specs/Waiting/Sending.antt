-- Which loads a record sends and settles.
use Rattle.std.specs.Prelude.{◌≡◌, ℕ, ◌≤◌, ◌==◌, ◌||◌, not, nat_lt, Bool, List, IsTrue}
use Rattle.std.specs.List.{list_all, list_any}
use Rattle.audit_model.specs.Follows.{Follows}
use Rattle.audit_model.specs.Situation.{Situation, PendingLoad}
use Rattle.audit_model.specs.declared.config.Config.{Config}
use Rattle.audit_model.specs.declared.event.Event.{Event}
use Rattle.audit_model.specs.declared.event.Event.TheVariants as event
use Rattle.audit_model.specs.declared.transcript.Record.{Record}

-- the number of each of these loads has this property
abbrev pub are_all : (ℕ → Bool) → List PendingLoad → Bool
are_all passes loads = list_all (λ load. passes load.number) loads

-- a load with this number is one of these
abbrev pub is_under_way : ℕ → List PendingLoad → Bool
is_under_way number loads = list_any (λ load. load.number == number) loads

-- no load with this number is one of these
abbrev pub are_others : ℕ → List PendingLoad → Bool
are_others number loads = are_all (λ n. not (n == number)) loads

-- each of these loads was under way before, or has a number above those that were sent
abbrev pub are_old_or_later : List PendingLoad → ℕ → List PendingLoad → Bool
are_old_or_later before sent loads = are_all (λ n. is_under_way n before || nat_lt sent n) loads

-- the event answers this load, or gives it up
abbrev pub IsSettlingOf : ℕ → Event → Type 0
IsSettlingOf number (event.Open conn) = ⊥
IsSettlingOf number (event.Close conn) = ⊥
IsSettlingOf number (event.Feed conn piece moment) = ⊥
IsSettlingOf number (event.Answer load outcome moment) = load ≡ number
IsSettlingOf number (event.GiveUp load moment) = load ≡ number

-- a load that a record sends has a number above those that were sent before
abbrev pub RecordsSendLater : Type 0
RecordsSendLater =
    (config : Config) (s t : Situation) (entry : Record) → Follows config s entry t
    → IsTrue (are_old_or_later s.pending s.sent t.pending)

-- a load that was sent is not under way after the record that settles it
abbrev pub RecordsSettle : Type 0
RecordsSettle =
    (config : Config) (s t : Situation) (entry : Record) (number : ℕ) → Follows config s entry t
    → IsSettlingOf number entry.event → number ≤ s.sent → IsTrue (are_others number t.pending)
