-- What a look at a shared service saw, and what nobody had taken then.
use Rattle.std.specs.Prelude.{◌≡◌, ◌⊎◌, ℕ, List, ◌++◌, Bool, false, Option, [], None, IfSome, IsNone, is_some}
use Rattle.std.specs.Option.{option_to_list}
use Rattle.audit_model.specs.declared.config.Config.{Config}
use Rattle.audit_model.specs.declared.input.Conn.{Conn}
use Rattle.audit_model.specs.declared.input.LoadId.{LoadId}
use Rattle.audit_model.specs.declared.input.ServiceError.{ServiceError}
use Rattle.audit_model.specs.declared.transcript.Note.{Note}
use Rattle.cache_spaces.specs.Calls.{InSpace, IsOpened, IsUnknown, Refuses}
use Rattle.cache_shared.specs.Events.{IsReachedFrom}
use Rattle.cache_spaces.specs.Spaces.{Shown, Space, outgoing_of, closing_of, is_waiting_for}
use Rattle.cache_core.specs.declared.owing.Owed.{Owed}
use Rattle.audit_model.specs.declared.input.ServiceError.TheVariants as error

-- the connection was never opened; or it was, and there is no memory for a copy
abbrev pub RefusesCopy : {T : Type 0} → Space T → ℕ → ServiceError → Type 0
RefusesCopy space number e =
    IsUnknown space number e ⊎ (IsOpened space number × (e ≡ error.OutOfMemory))

-- the oldest of some notes were appended to others, in order
pub record MovesNotes (behind behind' notes notes' : List Note) : Type 0 where
  pub moved : List Note
  pub gained : behind' ≡ behind ++ moved
  pub left : notes ≡ moved ++ notes'

-- this is what a connection of a namespace, which was opened, is owed: loads where they are requested, and only there
pub record IsWhatIsOwed {T : Type 0} (space : Space T) (number : ℕ) (wants_loads : Bool) (owed : Owed) :
    Type 0 where
  pub opened : IsOpened space number
  pub loads : IfSome owed.loads (λ loads. loads.items ≡ outgoing_of space)
  pub wanted : is_some owed.loads ≡ wants_loads
  pub closing : owed.closing ≡ closing_of space number
  pub waits : owed.waits ≡ is_waiting_for space number

-- nothing is
abbrev pub nothing_owed : Owed
nothing_owed = record { replies = None; loads = None; closing = None; waits = false }

-- this is what a connection is owed in these namespaces: nothing, if it is unknown
abbrev pub IsOwedIn : Conn → (wants_loads : Bool) → Owed → List Shown → Type 0
IsOwedIn conn wants_loads owed spaces =
    InSpace spaces conn.namespace (λ space. IsWhatIsOwed space conn.number wants_loads owed)
    ⊎ ((e : ServiceError) × Refuses spaces conn.namespace e (λ space. IsUnknown space conn.number e)
    × (owed ≡ nothing_owed))

-- at some moment this was true of what a lock guards
pub record WasGuarded {B : Type 0} (Fact : B → Type 0) : Type 0 where
  pub value : B
  pub fact : Fact value

-- What was so at some moment, in a service of these configurations to which some journals that obey lead.
module _ {C : Type 0} (configs : List Config) (spaces : C → List Shown) where
  -- these were the replies of the connection that were not taken
  pub record WereUntaken (untaken : C → Conn → List ℕ) (conn : Conn) (text : List ℕ) : Type 0 where
    pub core : C
    pub events : ℕ
    pub reached : IsReachedFrom configs (spaces core) events
    pub same : text ≡ untaken core conn

  -- these were the loads of the namespace that had been sent and not taken, with their keys, in the order in which they were sent
  pub record WereOut (namespace : ℕ) (loads : List (LoadId × List ℕ)) : Type 0 where
    pub core : C
    pub events : ℕ
    pub reached : IsReachedFrom configs (spaces core) events
    pub out : InSpace (spaces core) namespace (λ space. loads ≡ outgoing_of space)

  -- this was true of its namespaces
  pub record HeldAtSomeMoment (Fact : List Shown → Type 0) : Type 0 where
    pub core : C
    pub events : ℕ
    pub reached : IsReachedFrom configs (spaces core) events
    pub fact : Fact (spaces core)

  -- this was true of it and of what a call made of it
  pub record HappenedAtSomeMoment (Fact : C → C → Type 0) : Type 0 where
    pub old : C
    pub new : C
    pub events : ℕ
    pub reached : IsReachedFrom configs (spaces old) events
    pub fact : Fact old new

  -- this was the oldest note of the namespace that was reported and not taken; none if there was none
  pub record WasOldestNote (untold : C → ℕ → List Note) (namespace : ℕ) (note : Option Note) :
      Type 0 where
    pub core : C
    pub events : ℕ
    pub reached : IsReachedFrom configs (spaces core) events
    pub rest : List Note
    pub same : untold core namespace ≡ option_to_list note ++ rest
    pub none : IsNone note → untold core namespace ≡ []

  -- the oldest notes of the namespace that were reported and not taken were appended to others, in order
  pub record WereMoved (untold : C → ℕ → List Note) (namespace : ℕ) (behind behind' : List Note) :
      Type 0 where
    pub core : C
    pub events : ℕ
    pub reached : IsReachedFrom configs (spaces core) events
    pub left : List Note
    pub moved : MovesNotes behind behind' (untold core namespace) left

  -- What a connection is owed: its replies, and the loads of its namespace where they are requested, why it is closed and whether it waits;
  -- the replies at a moment of their own. Nothing, if it was unknown.
  pub record Owes (untaken : C → Conn → List ℕ) (conn : Conn) (wants_loads : Bool) (owed : Owed) :
      Type 0 where
    pub replies : IfSome owed.replies (λ text. WereUntaken untaken conn text.items)
    pub told : HeldAtSomeMoment (IsOwedIn conn wants_loads owed)
