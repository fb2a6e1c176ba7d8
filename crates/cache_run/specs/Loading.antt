-- The loads of a connection's namespace: what happens to them, and what giving them up does.
use Rattle.std.specs.Prelude.{◌≡◌, ℕ, ◌≤◌, ◌==◌, Bool, false, List, IsTrue, ◌≢◌, ◌++◌, Some, None}
use Rattle.std.specs.List.{list_any, flat_map}
use Rattle.audit_model.specs.Follows.{after_records}
use Rattle.audit_model.specs.Situation.{PendingLoad, Situation}
use Rattle.audit_model.specs.declared.config.Config.{Config}
use Rattle.audit_model.specs.declared.input.LoadId.{LoadId}
use Rattle.audit_model.specs.declared.transcript.Note.{Note}
use Rattle.audit_model.specs.declared.transcript.Record.{Record}
use Rattle.audit_laws.specs.Waiting.Closed.{NobodyWaits}
use Rattle.audit_laws.specs.Waiting.Keys.{IsKnown}
use Rattle.audit_laws.specs.Waiting.Sending.{are_all, is_under_way}
use Rattle.cache_core.specs.Turned.{notes_in}
use Rattle.cache_spaces.specs.Calls.{TakesLoads}
use Rattle.cache_spaces.specs.Services.{BareSpace, bare_tape, IsSoundSpace}
use Rattle.cache_spaces.specs.Spaces.{taken_of, closing_of, config_of, untaken_notes}
use Rattle.cache_run.specs.Driver.Exchanges.{EachOut}
use Rattle.cache_run.specs.Worlds.{LeadsOnAlone}
use Rattle.cache_run.specs.Happened.{AreDrops}

-- the loads under way
abbrev pub loads_under_way_in : BareSpace → List PendingLoad
loads_under_way_in space = space.pending

-- no load is under way that was not under way before
abbrev pub AddsNoLoads : BareSpace → BareSpace → Type 0
AddsNoLoads was is = IsTrue (are_all (λ n. is_under_way n (loads_under_way_in was)) (loads_under_way_in is))

-- a load with this number is under way
abbrev pub IsUnderWay : BareSpace → ℕ → Type 0
IsUnderWay space number = IsTrue (is_under_way number (loads_under_way_in space))

-- a load with this number is one of those that were taken and are left
abbrev pub is_left : ℕ → List (LoadId × List ℕ) → Bool
is_left number outs = list_any (λ out. out.0.number == number) outs

-- nobody waits for a load, none was taken, and each load under way was under way before and was not dropped
pub record DropsLoads (is_dropped : ℕ → Bool) (was is : BareSpace) : Type 0 where
  pub taken : taken_of is ≡ taken_of was
  pub nobody : NobodyWaits (loads_under_way_in is)
  pub loads : (number : ℕ) → IsUnderWay is number
      → IsUnderWay was number × (is_dropped number ≡ false)

-- if nobody waits for a load, these loads are dropped
abbrev pub DropsUnwaited : (ℕ → Bool) → BareSpace → BareSpace → Type 0
DropsUnwaited is_dropped was is = NobodyWaits (loads_under_way_in was) → DropsLoads is_dropped was is

-- if nobody waits for a load, each load under way was under way before, is none of these, and had been taken
abbrev pub DropsAll : List (LoadId × List ℕ) → BareSpace → BareSpace → Type 0
DropsAll outs was is =
    NobodyWaits (loads_under_way_in was) → (number : ℕ) → IsUnderWay is number
    → IsUnderWay was number × (is_left number outs ≡ false) × (number ≤ taken_of was)

-- The loads of a connection's namespace, and what giving them up does.

-- loads may have been taken, and nothing else changed
abbrev pub SameButLoads : BareSpace → BareSpace → Type 0
SameButLoads was is = is ≡ record was { outgoing = is.outgoing }

-- loads that had gone out were moved out of a namespace that was sound
abbrev pub GivesLoads : List (LoadId × List ℕ) → BareSpace → BareSpace → Type 0
GivesLoads loads was is = IsSoundSpace bare_tape was × TakesLoads was is loads

-- each of the loads that were taken was sent, and if it is under way it has the key that it was taken with
abbrev pub AreKnown : List (LoadId × List ℕ) → Situation → Type 0
AreKnown outs s = EachOut (λ number key. IsKnown number key s) outs

-- loads were given up at moment 0, and nothing else happened
pub record OnlyGivesUp (config : Config) (s t : Situation) (before after : List Note) : Type 0 where
  pub drops : List Record
  pub dropped : AreDrops drops
  pub follows : after_records config s drops ≡ Some t
  pub notices : after ≡ before ++ flat_map notes_in drops

-- loads of a connection's namespace were given up, and the connection stays closed if it was
abbrev pub GivesUpLoads : ℕ → BareSpace → BareSpace → Type 0
GivesUpLoads number was is =
    LeadsOnAlone number was is (λ s t. OnlyGivesUp (config_of was) s t (untaken_notes was) (untaken_notes is))
    × (closing_of was number ≢ None → closing_of is number ≢ None)
