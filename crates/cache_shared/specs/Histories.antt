-- What one hold of the lock does to the service that it guards, and the history of all of them.
use Rattle.std.specs.Prelude.{◌⊎◌, ℕ, Bool, List}
use Rattle.audit_laws.specs.declared.receipts.output.Output.{Output}
use Rattle.audit_model.specs.declared.config.Config.{Config}
use Rattle.audit_model.specs.declared.input.Conn.{Conn}
use Rattle.audit_model.specs.declared.input.Input.{Input}
use Rattle.audit_model.specs.declared.input.LoadId.{LoadId}
use Rattle.audit_model.specs.declared.transcript.Note.{Note}
use Rattle.cache_core.specs.declared.owing.Owed.{Owed}
use Rattle.cache_history.specs.Histories.{AreAllOf, ClaimsOne, IsHistory, IsLatest}
use Rattle.cache_history.specs.declared.known.Own.{Own}
use Rattle.cache_shared.specs.Events.{IsReachedFrom}
use Rattle.cache_shared.specs.Looked.{MovesNotes}
use Rattle.cache_shared.specs.Taken.{MovesAll, MovesLoads, MovesNotesOf, MovesReplies, TakesInput, TakesInputWhole}
use Rattle.cache_shared.specs.declared.turning.Turn.{Turn}
use Rattle.cache_spaces.specs.Journals.{IsReached}
use Rattle.cache_spaces.specs.Spaces.{Shown}

module _ {C : Type 0} (spaces : C → List Shown) where
  -- no input was taken yet: journals without records lead to the service
  abbrev pub Starts : C → Type 0
  Starts core = ∥ IsReached (spaces core) 0 ∥₁

  module _ (untaken : C → Conn → List ℕ) (untold : C → ℕ → List Note) where
    -- oldest notes of a namespace, and nothing else, were moved out
    abbrev pub MovesSome : C → C → Type 0
    MovesSome old new =
        (namespace : ℕ) × (behind : List Note) × (behind' : List Note)
        × MovesNotes behind behind' (untold old namespace) (untold new namespace)
        × MovesNotesOf spaces untaken untold old new namespace

    -- An input was taken, and what a connection was owed was moved out, or not; or what a connection was owed was, or its replies, or
    -- loads, or notes.
    abbrev pub IsHold : C → C → Type 0
    IsHold old new =
        ((i : Input) × (output : Output) × TakesInput spaces untaken untold i output old new)
        ⊎ ((conn : Conn) × (i : Input) × (wants_loads : Bool) × (turn : Turn) × (behind : List Note) × (behind' : List Note) × TakesInputWhole spaces untaken untold old new conn i wants_loads turn behind behind')
        ⊎ ((conn : Conn) × (wants_loads : Bool) × (owed : Owed) × (behind : List Note) × (behind' : List Note) × MovesAll spaces untaken untold old new conn wants_loads owed behind behind')
        ⊎ ((conn : Conn) × (text : List ℕ) × MovesReplies spaces untaken untold old new conn text)
        ⊎ ((namespace : ℕ) × (loads : List (LoadId × List ℕ)) × MovesLoads spaces untaken untold old new namespace loads)
        ⊎ MovesSome old new

    -- There is a history that led to this service, and all that these seats claim are of it.
    pub record HasHistory {X : Type 0} (core : C) (own : X → Own C) (seats : List X) : Type 0 where
      pub values : List C
      pub history : IsHistory Starts IsHold values
      pub latest : IsLatest core values
      pub all : AreAllOf values own seats

    -- In one hold of the lock this was done to a service of these configurations, to which some journals that obey lead. The hold is claimed,
    -- and it and all that were claimed before are, one after the other, of one history of the service.
    pub record HappenedInHistory (configs : List Config) (p q : Own C) (Fact : C → C → Type 0) :
        Type 0 where
      pub old : C
      pub new : C
      pub events : ℕ
      pub reached : IsReachedFrom configs (spaces old) events
      pub fact : Fact old new
      pub claims : ClaimsOne Starts IsHold p q old new
