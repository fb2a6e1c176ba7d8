-- What a call of a seat did to the service under the lock, in one hold of it.
use Rattle.std.specs.Prelude.{◌≡◌, ◌≢◌, ℕ, ◌≤◌, ◌⊎◌, Bool, true, false, List, [], Option, None, Some, length}
use Rattle.audit_model.specs.declared.config.Config.{Config}
use Rattle.audit_model.specs.declared.input.Conn.{Conn}
use Rattle.audit_model.specs.declared.input.Input.{Input}
use Rattle.audit_model.specs.declared.input.Input.TheVariants as input
use Rattle.audit_model.specs.declared.input.ServiceError.{ServiceError}
use Rattle.audit_model.specs.declared.input.ServiceError.TheVariants as error
use Rattle.audit_model.specs.declared.transcript.Note.{Note}
use Rattle.audit_laws.specs.declared.receipts.output.Output.{Output}
use Rattle.audit_laws.specs.declared.receipts.output.Output.TheVariants.{Held, Opened}
use Rattle.cache_run.specs.Devices.Sources.{Asking}
use Rattle.cache_run.specs.Driver.Exchanges.{Answered, Doing, Dropped, Exchange, Fed, GivenUp, Looked, Settled, Settling}
use Rattle.cache_run.specs.Driver.Hosting.{exchange_of}
use Rattle.cache_run.specs.declared.driver.host.Given.{Given}
use Rattle.cache_service.specs.Asked.{answer_input, feed_input, give_up_input}
use Rattle.cache_shared.specs.Events.{IsUnfitAnswer, is_of_outcome}
use Rattle.cache_history.specs.declared.known.Own.{Own}
use Rattle.cache_shared.specs.Histories.{HappenedInHistory}
use Rattle.cache_shared.specs.Looked.{HappenedAtSomeMoment, HeldAtSomeMoment, MovesNotes}
use Rattle.cache_shared.specs.Taken.{MovesAll, MovesNotesOf, TakesInput, TakesInputWhole}
use Rattle.cache_shared.specs.declared.turning.Turn.{Turn}
use Rattle.cache_spaces.specs.Calls.{InSpace}
use Rattle.cache_spaces.specs.Spaces.{Shown, known_of}

-- a command is held back for lack of memory
abbrev pub is_held_by : Output → Bool
is_held_by Held = true
is_held_by output = false

-- there is no such namespace, or the load is not under way there
abbrev pub IsNotUnderWay : ℕ → ℕ → List Shown → Type 0
IsNotUnderWay namespace load spaces =
    (length spaces ≤ namespace)
    ⊎ InSpace spaces namespace (λ space. (known_of space).is_under_way load ≡ false)

-- how a load was settled if it was to be given up: it was if something is given
abbrev pub given_up_or_left : ℕ → Asking → Option Given → Settling
given_up_or_left load asking None = Dropped load asking
given_up_or_left load asking (Some given) = GivenUp load asking

module _ {C : Type 0} (configs : List Config) (spaces : C → List Shown)
    (untaken : C → Conn → List ℕ) (untold : C → ℕ → List Note) where
  -- in one hold of the lock, which was claimed, a connection of the namespace was opened, which is this
  abbrev pub WasOpened : ℕ → Conn → Own C → Own C → Type 0
  WasOpened namespace conn p q =
      ∥ HappenedInHistory spaces untaken untold configs p q
      (TakesInput spaces untaken untold (input.Open namespace) (Opened conn)) ∥₁

  -- at some moment the load was not under way
  abbrev pub WasNotUnderWay : ℕ → ℕ → Type 0
  WasNotUnderWay namespace load = ∥ HeldAtSomeMoment configs spaces (IsNotUnderWay namespace load) ∥₁

  -- In one hold of the lock, which was claimed, the input was taken, and what the connection was owed then, which is what is given, was
  -- moved out, with notes of its namespace, of which this is true.
  pub record GivesTurn (conn : Conn) (i : Input) (wants_loads : Bool) (Told : List Note → Type 0)
      (p q : Own C) (given : Given) : Type 0 where
    pub turn : Turn
    pub behind : List Note
    pub behind' : List Note
    pub happened : HappenedInHistory spaces untaken untold configs p q (λ old new. TakesInputWhole
        spaces untaken untold old new conn i wants_loads turn behind behind')
    pub owed : given.owed ≡ turn.owed
    pub held : given.held ≡ is_held_by turn.output
    pub told : Told behind'

  -- In one hold of the lock, which was claimed, what the connection was owed, which is what is given, was moved out, with notes of its
  -- namespace, of which this is true.
  pub record GivesLook (conn : Conn) (wants_loads : Bool) (Told : List Note → Type 0)
      (p q : Own C) (given : Given) : Type 0 where
    pub behind : List Note
    pub behind' : List Note
    pub happened : HappenedInHistory spaces untaken untold configs p q (λ old new.
        MovesAll spaces untaken untold old new conn wants_loads given.owed behind behind')
    pub held : given.held ≡ false
    pub told : Told behind'

  -- the notes were moved out in one hold of the lock
  abbrev pub WereTaken : ℕ → List Note → Type 0
  WereTaken namespace notes =
      ∥ HappenedAtSomeMoment configs spaces (λ old new.
      MovesNotes [] notes (untold old namespace) (untold new namespace)
      × MovesNotesOf spaces untaken untold old new namespace) ∥₁

  -- What an exchange gave is what one turn of the connection gave, in which this input was taken; or what one look gave.
  abbrev pub ComesOfTurn : Conn → Input → (Given → Type 0) → Own C → Exchange → Own C → Type 0
  ComesOfTurn conn i Fact p exchange q =
      ∥ ((given : Given) × (wants_loads : Bool) × (exchange ≡ exchange_of exchange.doing given)
      × Fact given × GivesTurn conn i wants_loads (λ notes. Unit {0}) p q given) ∥₁

  abbrev pub ComesOfLook : Conn → Own C → Exchange → Own C → Type 0
  ComesOfLook conn p exchange q =
      ∥ ((given : Given) × (wants_loads : Bool) × (exchange ≡ exchange_of exchange.doing given)
      × GivesLook conn wants_loads (λ notes. Unit {0}) p q given) ∥₁

  -- The exchange is that of one hold of the lock, which was claimed, in which this was done: its piece was taken, its load was answered or
  -- given up, or nothing was asked. A load is dropped only if it was not under way at some moment.
  abbrev pub CameSo : Conn → Own C → Exchange → Own C → Doing → Type 0
  CameSo conn p exchange q (Fed piece moment held) =
      ComesOfTurn conn (feed_input conn piece moment) (λ given. given.held ≡ held) p exchange q
  CameSo conn p exchange q (Settled (Answered load key outcome) moment) = ComesOfTurn conn
      (answer_input conn.namespace moment load outcome) (λ given. Unit {0}) p exchange q
  CameSo conn p exchange q (Settled (GivenUp load asking) moment) =
      ComesOfTurn conn (give_up_input conn.namespace moment load) (λ given. Unit {0}) p exchange q
  CameSo conn p exchange q (Settled (Dropped load asking) moment) =
      WasNotUnderWay conn.namespace load × ComesOfLook conn p exchange q
  CameSo conn p exchange q Looked = ComesOfLook conn p exchange q

  -- nothing was asked of the service for the load, which was not under way at some moment
  abbrev pub IsLeft : Conn → Settling → Type 0
  IsLeft conn (Answered load key outcome) = ⊥
  IsLeft conn (GivenUp load asking) = ⊥
  IsLeft conn (Dropped load asking) = WasNotUnderWay conn.namespace load

  -- a load was settled by a turn, which gave this; or, if nothing is given, it was left, and no hold was claimed
  abbrev pub SettledSo : Conn → Settling → ℕ → Own C → Option Given → Own C → Type 0
  SettledSo conn settling moment p None q = IsLeft conn settling × (q ≡ p)
  SettledSo conn settling moment p (Some given) q =
      CameSo conn p (exchange_of (Settled settling moment) given) q (Settled settling moment)

  -- the load of the input was not under way at some moment
  abbrev pub LacksItsLoad : Input → Type 0
  LacksItsLoad (input.Open namespace) = Unit {0}
  LacksItsLoad (input.Close conn) = Unit {0}
  LacksItsLoad (input.Feed conn piece moment) = Unit {0}
  LacksItsLoad (input.Answer load outcome moment) = WasNotUnderWay load.namespace load.number
  LacksItsLoad (input.GiveUp load moment) = WasNotUnderWay load.namespace load.number

  -- Why an input was refused: for its outcome; or else for lack of memory, for its moment, because the seat's count is used up, or because
  -- its load is not under way.
  pub record IsRefusedFor (i : Input) (e : ServiceError) : Type 0 where
    pub unfit : is_of_outcome e ≡ true → IsUnfitAnswer i
    pub left : e ≢ error.OutOfMemory → e ≢ error.UsedUp → e ≢ error.Moment → is_of_outcome e ≡ false
        → LacksItsLoad i
