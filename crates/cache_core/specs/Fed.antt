-- What a feed does to the connection at a place.
use Rattle.std.specs.Prelude.{◌≡◌, ℕ, ◌+◌, Bool, true, List, [], Option, Some, None, ◌⊎◌, slice_set}
use Rattle.std.specs.List.{slice_get}
use Rattle.std.specs.Option.{option_map}
use Rattle.audit_model.specs.declared.input.ServiceError.{ServiceError}
use Rattle.cache_commands.specs.Loads.Pending.{SameLoads}
use Rattle.cache_lines.specs.Bases.{Seen}
use Rattle.cache_lines.specs.Gathered.{HasNothingOutside, gathered, stage}
use Rattle.cache_lines.specs.Tape.Taped.{IsAtRest, Taped, finishes, started}
use Rattle.cache_lines.specs.Waiting.{under_way}
use Rattle.cache_lines.specs.declared.base.Base.{Base}
use Rattle.cache_commands.specs.Values.{IsMoment, Values}
use Rattle.audit_model.specs.declared.event.Event.TheVariants as event
use Rattle.audit_model.specs.declared.input.ServiceError.TheVariants as error
use Rattle.cache_core.specs.declared.connection.connection.Connection.{Connection}
use Rattle.cache_core.specs.Connection.Fed.{FedRan}
use Rattle.cache_core.specs.Connections.Presence.{Here, Presence, text_at}

-- such lines, but where the tape shows that
abbrev pub with_tape : Option Taped → Seen → Seen
with_tape t x = record { stage = stage x.stage.values x.stage.text t; loads = x.loads }

-- An open connection took a piece: steps of it ran in a record that was begun, and that has ended.
pub record FedTurn (now number moment : ℕ) (old : Connection) (piece : List ℕ) (new : Connection)
    (is_held : Bool) (was is : Seen) : Type 0 where
  pub middle : Option Taped
  pub ran : FedRan now number old piece new is_held
      (with_tape (option_map (started 1) was.stage.tape) was) (with_tape middle is)
  pub ended : is.stage.tape ≡ option_map (finishes (event.Feed number piece (record {
    nanos = moment;
  })) None []) middle

-- the store, the tape and the loads are the same
pub record BaseStays {S T : Type 0} (old new : Base S T) : Type 0 where
  pub store_is : new.store ≡ old.store
  pub tape_is : new.tape ≡ old.tape
  pub loads_are : SameLoads old.loads new.loads

-- a turn may begin: at this moment, with no record under way
pub record CanTurn (now : ℕ) (x : Seen) : Type 0 where
  pub in_time : IsMoment x.stage.values now
  pub clear : HasNothingOutside (gathered x.stage)
  pub rests : IsAtRest x.stage.tape

-- memory was lacking, again only if a line is held back
abbrev pub WantsMemory : (held : Bool) → ServiceError → Type 0
WantsMemory held e = (e ≡ error.OutOfMemory) ⊎ ((e ≡ error.HeldAgain) × (held ≡ true))

-- one connection that is here replaced another
pub record ReplacedAt (old new : List Presence) (index : ℕ) : Type 0 where
  pub was : Connection
  pub is : Connection
  pub at : slice_get old index ≡ Some (Here was)
  pub set : new ≡ slice_set old index (Here is)

-- what the lines of the connection at a place run over
abbrev pub seen_at : {S T : Type 0} → (S → Values) → (T → Option Taped) → Base S T → List Presence
    → ℕ → Seen
seen_at view tape base connections index =
    record {
      stage = stage (view base.store) (text_at connections index) (tape base.tape);
      loads = under_way base.loads;
    }

-- the open connection at a place took a piece
abbrev pub FeedsAt : {S T : Type 0} → (S → Values) → (T → Option Taped) → (now moment index : ℕ)
    → List ℕ → Bool → (old new : Base S T) → (were are : List Presence) → Type 0
FeedsAt view tape now moment index piece is_held old new were are =
    (p : ReplacedAt were are index) × FedTurn now (index + 1) moment p.was piece p.is is_held
    (seen_at view tape old were index) (seen_at view tape new are index)
