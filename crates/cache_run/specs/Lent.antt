-- The result of an exchange if a service is lent to the driver, in terms of the service's own calls.
use Rattle.std.specs.Prelude.{◌≡◌, ℕ, Bool, true, false, is_some, List, [], Option, None, Some, ◌⊎◌}
use Rattle.std.specs.Option.{option_map}
use Rattle.audit_model.specs.Belongs.{refusal_of, refusal_of_outcome}
use Rattle.audit_model.specs.declared.event.Event.TheVariants as event
use Rattle.audit_model.specs.declared.event.Outcome.{Outcome}
use Rattle.audit_model.specs.declared.input.Conn.{Conn}
use Rattle.audit_model.specs.declared.input.ServiceError.{ServiceError}
use Rattle.cache_core.specs.Settling.{answering, giving_up}
use Rattle.cache_core.specs.Turned.{feeding}
use Rattle.cache_spaces.specs.Services.{BareSpace, bare_tape, IsSoundSpace}
use Rattle.cache_spaces.specs.Calls.{At, InSpace, IsOpened, OpensNext, ServesEvent, Settled, TakesOutput}
use Rattle.cache_spaces.specs.Spaces.{closing_of, config_of, known_of}
use Rattle.cache_run.specs.Devices.Sources.{Asking}
use Rattle.cache_run.specs.Driver.Exchanges as did
use Rattle.cache_run.specs.Driver.Exchanges.{Answered, Doing, Dropped, Exchange, Fed, GivenUp, Looked, Outs}
use Rattle.cache_run.specs.Driver.Hosting.{SettlesBy}
use Rattle.cache_run.specs.declared.driver.host.Given.{Given}
use Rattle.cache_run.specs.Loading.{DropsAll, DropsUnwaited, GivesLoads, GivesUpLoads}
use Rattle.cache_run.specs.Happened.{IsGivenUpFor}

-- ---- of one namespace

-- a load was given up, or was not under way
abbrev pub GivesUpOr : ℕ → ℕ → BareSpace → BareSpace → Type 0
GivesUpOr load moment was is =
    Settled bare_tape was is (giving_up load moment)
    ⊎ ((is ≡ was) × ((known_of was).is_under_way load ≡ false))

-- it was answered, or was not under way
abbrev pub AnswersOr : ℕ → Outcome → ℕ → BareSpace → BareSpace → Type 0
AnswersOr load outcome moment was is =
    Settled bare_tape was is (answering load outcome moment)
    ⊎ ((is ≡ was) × ((known_of was).is_under_way load ≡ false))

-- This was done. A load is given up only if the loader returned nothing, or an outcome that is refused for its bytes or its time; it is
-- dropped only if it is not under way.
abbrev pub WasDone : ℕ → Doing → BareSpace → BareSpace → Type 0
WasDone number (Fed piece moment held) was is =
    ServesEvent bare_tape was is (feeding number piece moment) held
WasDone number (did.Settled (Answered load key outcome) moment) was is =
    Settled bare_tape was is (answering load outcome moment)
WasDone number (did.Settled (GivenUp load asking) moment) was is =
    Settled bare_tape was is (giving_up load moment) × IsGivenUpFor (config_of was) asking.answer
WasDone number (did.Settled (Dropped load asking) moment) was is =
    (is ≡ was) × ((known_of was).is_under_way load ≡ false)
WasDone number Looked was is = is ≡ was

-- loads were taken out of a sound namespace, or nothing was
abbrev pub MayGiveLoads : Option Outs → BareSpace → BareSpace → Type 0
MayGiveLoads None was is = is ≡ was
MayGiveLoads (Some loads) was is = GivesLoads loads was is

-- this was done, then the replies of the connection were taken, and then loads, if they were requested
pub record ExchangeCame (number : ℕ) (was : BareSpace) (exchange : Exchange) (is : BareSpace) :
    Type 0 where
  pub done : BareSpace
  pub told : BareSpace
  pub text : List ℕ
  pub does : WasDone number exchange.doing was done
  pub texts : exchange.text ≡ Some text
  pub replies : TakesOutput done told number text
  pub gives : MayGiveLoads exchange.loads told is
  pub closing : exchange.closing ≡ closing_of is number

-- its replies were taken, and then loads, if they were requested
pub record WereGiven (number : ℕ) (given : Given) (was is : BareSpace) : Type 0 where
  pub told : BareSpace
  pub text : List ℕ
  pub texts : option_map (λ t. t.items) given.owed.replies ≡ Some text
  pub replies : TakesOutput was told number text
  pub gives : MayGiveLoads (option_map (λ l. l.items) given.owed.loads) told is
  pub closing : given.owed.closing ≡ closing_of is number

-- the definition refuses to close the connection, and nothing changed
abbrev pub IsClosedBefore : ℕ → BareSpace → BareSpace → Type 0
IsClosedBefore number was is =
    (is ≡ was) × (e : ServiceError)
    × (refusal_of (config_of was) (known_of was) (event.Close number) ≡ Some e)

-- the connection of a sound namespace was closed, or had closed
pub record ClosesIt (number : ℕ) (was is : BareSpace) : Type 0 where
  pub sound : IsSoundSpace bare_tape was
  pub closes : ServesEvent bare_tape was is (event.Close number) false
      ⊎ IsClosedBefore number was is
  pub behind : IsSoundSpace bare_tape is

-- loads were given up, and if nobody waits for a load, these are gone
pub record Drops (number : ℕ) (is_dropped : ℕ → Bool) (was is : BareSpace) : Type 0 where
  pub gives : GivesUpLoads number was is
  pub gone : DropsUnwaited is_dropped was is

-- loads were given up, those in hand and those that had gone out
pub record DropsBoth (number : ℕ) (hand : Outs) (was is : BareSpace) : Type 0 where
  pub gives : GivesUpLoads number was is
  pub gone : DropsAll hand was is

-- ---- of a service

-- there is such a connection
abbrev pub IsConnection : Conn → List BareSpace → Type 0
IsConnection conn spaces = InSpace spaces conn.namespace (λ space. IsOpened space conn.number)

-- a sound namespace opened a connection, which has the next number
abbrev pub OpensAt : ℕ → Conn → List BareSpace → List BareSpace → Type 0
OpensAt namespace conn old new =
    (conn.namespace ≡ namespace) × At old new namespace
    (λ was is. IsSoundSpace bare_tape was × OpensNext bare_tape was is conn.number)

abbrev pub ComesAt : Conn → List BareSpace → Exchange → List BareSpace → Type 0
ComesAt conn old exchange new =
    At old new conn.namespace (λ was is. ExchangeCame conn.number was exchange is)

-- an outcome is refused for its bytes or its time, and nothing changed
abbrev pub RefusesOutcome : Conn → Outcome → List BareSpace → List BareSpace → Type 0
RefusesOutcome conn outcome old new =
    (new ≡ old) × InSpace old conn.namespace
    (λ was. is_some (refusal_of_outcome (config_of was) outcome) ≡ true)

-- whatever the key, a load was settled by what the loader returned
abbrev pub SettlesAt : Conn → ℕ → Option Outcome → ℕ → List BareSpace → List BareSpace → Type 0
SettlesAt conn load said moment old new =
    (key : List ℕ) → (doing : Doing) × SettlesBy load moment (record {
      key = key;
      answer = said;
    }) doing × At old new conn.namespace (WasDone conn.number doing)

abbrev pub ClosesAt : Conn → List BareSpace → List BareSpace → Type 0
ClosesAt conn old new = At old new conn.namespace (ClosesIt conn.number)

-- no loader is asked for them
abbrev pub DropsAt : Conn → Outs → List BareSpace → List Asking → List BareSpace → Type 0
DropsAt conn hand old askings new =
    At old new conn.namespace (DropsBoth conn.number hand) × (askings ≡ [])
