-- The result of serving a connection, and what is written to it.
use Rattle.std.specs.Prelude.{◌≡◌, ℕ, ◌+◌, ◌++◌, ◌∷◌, ◌≤◌, List, length, Option, Bool, true, [], Vec, Result, ◌⊎◌, MatchResult}
use Rattle.std.specs.Io.KnownBytes.{Consumes}
use Rattle.std.specs.List.{All, concat, Contains}
use Rattle.std.specs.declared.alloc.Global.{Global}
use Rattle.audit_model.specs.declared.config.Config.{Config}
use Rattle.audit_model.specs.declared.event.Outcome.{Outcome}
use Rattle.audit_model.specs.declared.input.Conn.{Conn}
use Rattle.audit_model.specs.declared.input.LoadId.{LoadId}
use Rattle.audit_model.specs.declared.transcript.Note.{Note}
use Rattle.audit_laws.specs.declared.receipts.receipt.Receipt.{Receipt}
use Rattle.cache_spaces.specs.Spaces.{Shown}
use Rattle.cache_run.specs.Devices.Sent.{SentBut}
use Rattle.cache_run.specs.Devices.Sources.{Asking, Askings, Readings}
use Rattle.cache_run.specs.Devices.Watched.{device}
use Rattle.cache_run.specs.Driver.Exchanges.{EachOut, Exchange, moments_in, pieces_in, replies_in}
use Rattle.cache_run.specs.declared.devices.watched.Watched.{Watched}
use Rattle.cache_shared.specs.Events.{IsUnfit}
use Rattle.cache_shared.specs.Looked.{WereUntaken, WereOut}
use Rattle.cache_shared.specs.Seats.{SameReceipts}
use Rattle.cache_shared.specs.declared.seat.Seat.{Seat}
use Rattle.cache_history.specs.declared.known.Naming.{Ghosts as Names}
use Rattle.cache_shared.specs.declared.seat.Seating.{Ghosts as Ledgers}
use Rattle.cache_history.specs.declared.known.Own.{Own}
use Rattle.cache_service.specs.Exchanged.{CameSo, WasOpened}
use Rattle.cache_service.specs.Asked.{Grows, OpensConnection, ServesConnection, ServesConnectionOrNot}

module _ {C : Type 0} (configs : List Config) (spaces : C → List Shown)
    (untaken : C → Conn → List ℕ) where
  -- Texts were taken, and written one after the other, except for the rest. They are the replies of one connection of this namespace, each
  -- taken from a service of these configurations to which some journals that obey lead. There is at least one for each input that the seat
  -- counts, less the number that is spared. This was asked for the connection.
  pub record Serves (namespace : ℕ) (Asked : Conn → Type 0) (inputs later spared : ℕ)
      (before after : Option (List ℕ)) (rest : List ℕ) : Type 0 where
    pub conn : Conn
    pub here : conn.namespace ≡ namespace
    pub asked : Asked conn
    pub texts : List (List ℕ)
    pub taken : All (λ text. ∥ WereUntaken configs spaces untaken conn text ∥₁) texts
    pub counted : later ≤ inputs + length texts + spared
    pub sent : SentBut rest (concat texts) before after

-- Loads that had been sent, with their keys.

-- At some moment, in a service of these configurations to which some journals that obey lead, the load with this number was among those of
-- the namespace that had been sent and not taken, with this key.
pub record WasOut {C : Type 0} (configs : List Config) (spaces : C → List Shown)
    (namespace number : ℕ) (key : List ℕ) : Type 0 where
  pub loads : List (LoadId × List ℕ)
  pub out : WereOut configs spaces namespace loads
  pub load : LoadId
  pub among : Contains loads (load, key)
  pub same : number ≡ load.number

abbrev pub HadGoneOut : {C : Type 0} → List Config → (C → List Shown) → ℕ → ℕ → List ℕ → Type 0
HadGoneOut configs spaces namespace number key = ∥ WasOut configs spaces namespace number key ∥₁

-- each of these loads had been sent
abbrev pub AreOut : {C : Type 0} → List Config → (C → List Shown) → ℕ
    → List (LoadId × List ℕ) → Type 0
AreOut configs spaces namespace loads = EachOut (HadGoneOut configs spaces namespace) loads

-- The turns in which a connection was served.

-- exchanges came one after another, each from where the one before it led
abbrev pub Follow : {P : Type 0} → (P → Exchange → P → Type 0) → P → List Exchange → P → Type 0
Follow Came p [] q = q ≡ p
Follow {P} Came p (exchange ∷ exchanges) q =
    (m : P) × Came p exchange m × Follow Came m exchanges q

-- A connection of this namespace was opened, and exchanges of it took place, one after another, each of which came so. What was read was
-- fed, piece by piece, except for the rest; the clock told their moments, and maybe one that was refused; and their replies were written,
-- except for the rest.
pub record ServesInTurns {K P : Type 0} (Opened : ℕ → Conn → P → P → Type 0)
    (Came : Conn → P → Exchange → P → Type 0) (reads : K → ℕ → K → Type 0) (namespace : ℕ) (p : P)
    (remaining later before after : Option (List ℕ)) (k l : K) (rest : List ℕ) : Type 0
  where
    pub conn : Conn
    pub here : conn.namespace ≡ namespace
    pub start : P
    pub opened : Opened namespace conn p start
    pub exchanges : List Exchange
    pub stop : P
    pub each : Follow (Came conn) start exchanges stop
    pub lost : List ℕ
    pub late : List ℕ
    pub read : Consumes remaining later (pieces_in exchanges ++ lost)
    pub told : Readings reads k (moments_in exchanges ++ late) l
    pub sent : SentBut rest (replies_in exchanges) before after

-- It was served so, each exchange in one hold of the lock, of which the seat claims one after the other, and all replies were written;
-- after an error, but for the rest, or nothing was read or written.
abbrev pub ServesTurns : {C R W K X E : Type 0} → List Config → (C → List Shown)
    → (C → Conn → List ℕ) → (C → ℕ → List Note) → (R → Option (List ℕ)) → (W → Option (List ℕ))
    → (K → ℕ → K → Type 0) → ℕ → Own C → Result X E → Watched R → Watched R → Watched W → Watched W
    → K → K → Type 0
ServesTurns configs spaces untaken untold remaining contents reads namespace own r reader reader' writer writer' k l =
    let InTurns = ServesInTurns (WasOpened configs spaces untaken untold)
    (λ conn p exchange q. CameSo configs spaces untaken untold conn p exchange q exchange.doing)
    reads namespace own (remaining (device reader)) (remaining (device reader'))
    (contents (device writer)) (contents (device writer')) k l in
    MatchResult r (λ x. InTurns [])
    (λ err. ((rest : List ℕ) × InTurns rest)
    ⊎ ((remaining (device reader') ≡ remaining (device reader))
    × (contents (device writer') ≡ contents (device writer))))

-- The result of serving a connection.

-- the receipts that were gained begin with that of an opening whose output is this connection
pub record BeginsWith (namespace : ℕ) (before after : List (Vec Receipt Global)) (conn : Conn) :
    Type 0 where
  pub between : List (Vec Receipt Global)
  pub opens : OpensConnection namespace before between conn
  pub rest : List Receipt
  pub grows : Grows namespace between after rest

-- this is so, or no receipt was gained
abbrev pub BeginsOrIdles : Bool → ℕ → List (Vec Receipt Global) → List (Vec Receipt Global) → Conn
    → Type 0
BeginsOrIdles keeps namespace before after conn =
    keeps ≡ true → BeginsWith namespace before after conn ⊎ SameReceipts before after

-- Texts that were replies of a connection of this namespace were written, except for the end of the last one after an error: one for each
-- input that was counted, less three, and after an error also less one for each load for which the loader was asked.
abbrev pub WritesAll : {C L W D X E : Type 0} → {G : Ledgers L} → {N : Names L} → (keeps : Bool)
    → List Config → (C → List Shown) → (C → Conn → List ℕ) → (W → Option (List ℕ))
    → (D → List ℕ → Option Outcome → D → Type 0) → ℕ → Result X E
    → Seat L C G N → Seat L C G N → Watched W → Watched W → D → D → Type 0
WritesAll keeps configs spaces untaken contents loads namespace r seat seat' writer writer' d e =
    MatchResult r
    (λ x. Serves configs spaces untaken namespace
    (BeginsOrIdles keeps namespace seat.receipts.items seat'.receipts.items) seat.count
    seat'.count 3 (contents (device writer)) (contents (device writer')) [])
    (λ err. (rest : List ℕ) × (asks : List Asking) × Askings loads d asks e
    × Serves configs spaces untaken namespace
    (BeginsOrIdles keeps namespace seat.receipts.items seat'.receipts.items) seat.count
    seat'.count (length asks + 3) (contents (device writer)) (contents (device writer')) rest)

-- if receipts are kept, those that the seat gains are of what was done for a connection of this namespace
abbrev pub AsksAll : {C L R K D X E : Type 0} → {G : Ledgers L} → {N : Names L} → (keeps : Bool)
    → List Config → (C → List Shown) → (R → Option (List ℕ)) → (K → ℕ → K → Type 0)
    → (D → List ℕ → Option Outcome → D → Type 0) → ℕ → Result X E
    → Seat L C G N → Seat L C G N → Watched R → Watched R → K → K → D → D → Type 0
AsksAll keeps configs spaces remaining reads loads namespace r seat seat' reader reader' k l d e =
    keeps ≡ true
    → MatchResult r
    (λ x. (conn : Conn) × ServesConnection (HadGoneOut configs spaces) IsUnfit reads
    loads seat.receipts.items seat'.receipts.items (remaining (device reader))
    (remaining (device reader')) k l d e namespace conn [])
    (λ err. (conn : Conn)
    × ServesConnectionOrNot (HadGoneOut configs spaces) IsUnfit reads loads seat.receipts.items
    seat'.receipts.items (remaining (device reader)) (remaining (device reader')) k l d e
    namespace conn)
