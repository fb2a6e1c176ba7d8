-- What the driver of a connection does to its host, what it takes after that, and the loads that it has in hand in the meantime.
use Rattle.std.specs.Prelude.{◌≡◌, ◌≢◌, ℕ, Bool, false, List, [], ◌∷◌, ◌++◌, Option, None, Some, count_by, is_none, unwrap_or, MatchOption}
use Rattle.std.specs.List.{All, flat_map, last_or}
use Rattle.audit_model.specs.declared.command.Closing.{Closing}
use Rattle.audit_model.specs.declared.event.Outcome.{Outcome}
use Rattle.audit_model.specs.declared.input.LoadId.{LoadId}
use Rattle.cache_run.specs.Devices.Sources.{Asking}

-- loads that went out, with their keys
abbrev pub Outs : Type 0
Outs = List (LoadId × List ℕ)

-- The loader was asked for the load with this number. The load was answered with what it returned, or given up; or what it returned was
-- dropped, because the load was not under way, or was refused.
pub data Settling : Type 0 where
  Answered : (load : ℕ) → (key : List ℕ) → (outcome : Outcome) → Settling
  GivenUp : (load : ℕ) → (asking : Asking) → Settling
  Dropped : (load : ℕ) → (asking : Asking) → Settling

-- the load for which the loader was asked
abbrev pub load_number : Settling → ℕ
load_number (Answered load key outcome) = load
load_number (GivenUp load asking) = load
load_number (Dropped load asking) = load

-- the key that it was asked for, and what it returned
abbrev pub settling_asking : Settling → Asking
settling_asking (Answered load key outcome) = record { key = key; answer = Some outcome }
settling_asking (GivenUp load asking) = asking
settling_asking (Dropped load asking) = asking

-- A piece was fed at a moment, and a command of it was held back for lack of memory, or none was; or a load was settled at a moment; or
-- nothing was asked of the host.
pub data Doing : Type 0 where
  Fed : (piece : List ℕ) → (moment : ℕ) → (held : Bool) → Doing
  Settled : (settling : Settling) → (moment : ℕ) → Doing
  Looked : Doing

-- What was done, and what was taken after it: the replies of the connection, unless there was no memory for them; and the loads of its
-- namespace, if they were requested. And why the connection had closed, if it had.
pub record Exchange : Type 0 where
  pub doing : Doing
  pub text : Option (List ℕ)
  pub loads : Option Outs
  pub closing : Option Closing

-- the bytes that were fed
abbrev pub bytes_fed : Doing → List ℕ
bytes_fed (Fed piece moment held) = piece
bytes_fed (Settled settling moment) = []
bytes_fed Looked = []

-- the clock's reading
abbrev pub readings_of : Doing → List ℕ
readings_of (Fed piece moment held) = moment ∷ []
readings_of (Settled settling moment) = moment ∷ []
readings_of Looked = []

-- the request to the loader, and its result
abbrev pub asks_of : Doing → List Asking
asks_of (Fed piece moment held) = []
asks_of (Settled settling moment) = settling_asking settling ∷ []
asks_of Looked = []

-- the same for several
abbrev pub pieces_in : List Exchange → List ℕ
pieces_in exchanges = flat_map (λ exchange. bytes_fed exchange.doing) exchanges

abbrev pub moments_in : List Exchange → List ℕ
moments_in exchanges = flat_map (λ exchange. readings_of exchange.doing) exchanges

abbrev pub askings_in : List Exchange → List Asking
askings_in exchanges = flat_map (λ exchange. asks_of exchange.doing) exchanges

abbrev pub replies_in : List Exchange → List ℕ
replies_in exchanges = flat_map (λ exchange. unwrap_or exchange.text []) exchanges

-- after how many of them the replies were not taken
abbrev pub untaken_among : List Exchange → ℕ
untaken_among exchanges = count_by (λ exchange. is_none exchange.text) exchanges

-- ---- the loads in hand

-- this is true of the number and the key of each of these loads
abbrev pub EachOut : (ℕ → List ℕ → Type 0) → Outs → Type 0
EachOut Fact outs = All (λ (out : LoadId × List ℕ). Fact out.0.number out.1) outs

-- the last load in hand has this number and this key, and the rest are these
abbrev pub IsLastInHand : Outs → ℕ → List ℕ → Outs → Type 0
IsLastInHand hand load key rest = (id : LoadId) × (id.number ≡ load) × (hand ≡ rest ++ (id, key) ∷ [])

-- the load that is settled or dropped is the last one in hand, and is removed from it; the loader was asked for its key
abbrev pub LeavesInHand : Doing → Outs → Outs → Type 0
LeavesInHand (Fed piece moment held) hand rest = rest ≡ hand
LeavesInHand (Settled settling moment) hand rest =
    IsLastInHand hand (load_number settling) (settling_asking settling).key rest
LeavesInHand Looked hand rest = rest ≡ hand

-- loads that are taken come into the hand, if none was left there
abbrev pub ComeIntoHand : Option Outs → Outs → Outs → Type 0
ComeIntoHand None rest after = after ≡ rest
ComeIntoHand (Some loads) rest after = (rest ≡ []) × (after ≡ loads)

-- from one hand to the other
pub record Hands (exchange : Exchange) (before after : Outs) : Type 0 where
  pub rest : Outs
  pub leaves : LeavesInHand exchange.doing before rest
  pub keeps : ComeIntoHand exchange.loads rest after

-- ---- one after another

-- these exchanges took place one after another, from that host and hand to this host and hand
abbrev pub Chain : {H : Type 0} → (H → Exchange → H → Type 0) → H → Outs → List Exchange → H → Outs
    → Type 0
Chain Came h hand [] k after = (k ≡ h) × (after ≡ hand)
Chain {H} Came h hand (exchange ∷ exchanges) k after =
    (m : H) × (between : Outs) × Came h exchange m × Hands exchange hand between
    × Chain Came m between exchanges k after

-- ---- where they may end

-- nothing is held back after it: a piece was fed and none of its commands was held back, or the connection had closed
abbrev pub HoldsNothing : Doing → Option Closing → Type 0
HoldsNothing doing (Some why) = Unit {0}
HoldsNothing (Fed piece moment false) None = Unit {0}
HoldsNothing doing None = ⊥

-- and the loads were taken, and there were none
pub record LeavesNothing (exchange : Exchange) : Type 0 where
  pub none : exchange.loads ≡ Some []
  pub all : HoldsNothing exchange.doing exchange.closing

-- the last of them left nothing to do, if there was one
abbrev pub AreDone : List Exchange → Type 0
AreDone exchanges = MatchOption (last_or None exchanges) (Unit {0}) LeavesNothing

-- the connection had closed after the last of them
abbrev pub HaveClosed : List Exchange → Type 0
HaveClosed exchanges = MatchOption (last_or None exchanges) ⊥ (λ exchange. exchange.closing ≢ None)
