-- The inputs that a seat passes to a shared service for one connection, the requests to its loader, and what an exchange comes to for `serve`.
use Rattle.std.specs.Prelude.{◌≡◌, ◌≢◌, ℕ, ◌≤◌, Bool, List, [], ◌∷◌, ◌++◌, length, map, Option, Vec, ◌⊎◌, IfSome, if◌then◌else◌, ◌+◌, true}
use Rattle.std.specs.Io.KnownBytes.{Consumes}
use Rattle.std.specs.List.{All, flat_map}
use Rattle.std.specs.declared.alloc.Global.{Global}
use Rattle.audit_model.specs.declared.event.Outcome.{Outcome}
use Rattle.audit_model.specs.declared.input.Conn.{Conn}
use Rattle.audit_model.specs.declared.input.Input.{Input}
use Rattle.audit_model.specs.declared.input.LoadId.{LoadId}
use Rattle.audit_laws.specs.declared.receipts.output.Output.TheVariants.{Opened}
use Rattle.audit_laws.specs.declared.receipts.receipt.Receipt.{Receipt}
use Rattle.cache_run.specs.Devices.Sources.{Asking, Askings, Readings}
use Rattle.cache_run.specs.Driver.Exchanges.{Answered, Doing, Dropped, Fed, GivenUp, Looked, Settled, Settling, asks_of, bytes_fed, load_number, settling_asking, readings_of, EachOut, Exchange, Outs}
use Rattle.cache_shared.specs.Seats.{SameReceipts, receipts_at}
use Rattle.cache_service.specs.Cutting.{IsShortPiece}
use Rattle.audit_model.specs.declared.input.Input.TheVariants as input

abbrev pub feed_input : Conn → List ℕ → ℕ → Input
feed_input conn piece moment = input.Feed conn piece (record { nanos = moment })

-- a load of a namespace
abbrev pub load_id : ℕ → ℕ → LoadId
load_id namespace number = record { namespace = namespace; number = number }

abbrev pub answer_input : ℕ → ℕ → ℕ → Outcome → Input
answer_input namespace moment number outcome =
    input.Answer (load_id namespace number) outcome (record { nanos = moment })

abbrev pub give_up_input : ℕ → ℕ → ℕ → Input
give_up_input namespace moment number =
    input.GiveUp (load_id namespace number) (record { nanos = moment })

-- it is of a load of this namespace that had been sent, and the loader was asked for the key of that load
abbrev pub IsOfLoad : (ℕ → ℕ → List ℕ → Type 0) → ℕ → Settling → Type 0
IsOfLoad WentOut namespace settling =
    WentOut namespace (load_number settling) (settling_asking settling).key

-- it is given up only if the loader returned nothing, or an outcome that is refused for its bytes or its time
abbrev pub MayBeGivenUp : (Outcome → Type 0) → Settling → Type 0
MayBeGivenUp Unfit (Answered number key outcome) = Unit {0}
MayBeGivenUp Unfit (GivenUp number asking) = IfSome asking.answer Unfit
MayBeGivenUp Unfit (Dropped number asking) = Unit {0}

-- the inputs at a moment for a load of a namespace
abbrev pub settling_inputs : ℕ → ℕ → Settling → List Input
settling_inputs namespace moment (Answered number key outcome) =
    answer_input namespace moment number outcome ∷ []
settling_inputs namespace moment (GivenUp number asking) =
    give_up_input namespace moment number ∷ []
settling_inputs namespace moment (Dropped number asking) = []

-- a piece that was fed has at most 64 lines, of which only the last may take long
abbrev pub IsShort : Doing → Type 0
IsShort (Fed piece moment held) = IsShortPiece piece
IsShort (Settled settling moment) = Unit {0}
IsShort Looked = Unit {0}

-- the load that was settled
abbrev pub settlings_of : Doing → List Settling
settlings_of (Fed piece moment held) = []
settlings_of (Settled settling moment) = settling ∷ []
settlings_of Looked = []

-- the inputs
abbrev pub inputs_of : Conn → Doing → List Input
inputs_of conn (Fed piece moment held) = feed_input conn piece moment ∷ []
inputs_of conn (Settled settling moment) = settling_inputs conn.namespace moment settling
inputs_of conn Looked = []

-- a closing, or nothing
abbrev pub closing_inputs : Conn → Bool → List Input
closing_inputs conn closes = if closes then input.Close conn ∷ [] else []

-- a loader was asked for some keys, and its state may be the result
abbrev pub HasAskedSome : {D : Type 0} → (D → List ℕ → Option Outcome → D → Type 0) → D → D → Type 0
HasAskedSome loads d e = (asks : List Asking) × Askings loads d asks e

module _ (namespace : ℕ) (before after : List (Vec Receipt Global)) where
  -- the receipts of a namespace grew by these, and those of the others stayed
  pub record Grows (added : List Receipt) : Type 0 where
    pub own : receipts_at after namespace ≡ receipts_at before namespace ++ added
    pub others : (other : ℕ) → other ≢ namespace → receipts_at after other
        ≡ receipts_at before other

  -- they grew by receipts of these inputs
  pub record Asks (inputs : List Input) : Type 0 where
    pub added : List Receipt
    pub grows : Grows added
    pub asked : map (λ receipt. receipt.input) added ≡ inputs

  -- by a receipt of this input, or by none
  abbrev pub AsksOrNot : Input → Type 0
  AsksOrNot i = Asks [] ⊎ Asks (i ∷ [])

  -- by the receipt of an opening whose output is this connection
  pub record OpensConnection (conn : Conn) : Type 0 where
    pub first : Receipt
    pub asked : first.input ≡ input.Open namespace
    pub opened : first.output ≡ Opened conn
    pub grows : Grows (first ∷ [])

module _ {K D : Type 0} (WentOut : ℕ → ℕ → List ℕ → Type 0) (Unfit : Outcome → Type 0) (reads : K → ℕ → K → Type 0) (loads : D → List ℕ → Option Outcome → D → Type 0) (before after : List (Vec Receipt Global)) (remaining later : Option (List ℕ)) (k l : K) (d e : D) where
  -- A connection of this namespace was opened, fed with what was read, except perhaps for what was read last, and closed or not. Between
  -- its pieces loads of the namespace were settled, and after the closing those of `drops`. Each of them had been sent, and the loader was
  -- asked for its key. One between the pieces is given up only if it may be. There were no other inputs.
  pub record ServesConnection (namespace : ℕ) (conn : Conn) (drops : List Settling) : Type 0 where
    pub first : Receipt
    pub opening : first.input ≡ input.Open namespace
    pub opened : first.output ≡ Opened conn
    pub rest : List Receipt
    pub grows : Grows namespace before after (first ∷ rest)
    pub deeds : List Doing
    pub short : All IsShort deeds
    pub closes : Bool
    pub asked : map (λ receipt. receipt.input) rest
        ≡ (flat_map (inputs_of conn) deeds ++ closing_inputs conn closes)
        ++ flat_map (settling_inputs namespace 0) drops
    pub lost : List ℕ
    pub late : List ℕ
    pub read : Consumes remaining later (flat_map bytes_fed deeds ++ lost)
    pub told : Readings reads k (flat_map readings_of deeds ++ late) l
    pub few : length late ≤ 1
    pub loaded : Askings loads d (flat_map asks_of deeds ++ map settling_asking drops) e
    pub out : All (IsOfLoad WentOut namespace) (flat_map settlings_of deeds ++ drops)
    pub fit : All (MayBeGivenUp Unfit) (flat_map settlings_of deeds)

  -- there were no inputs, reads, readings or requests
  pub record Idles : Type 0 where
    pub same : SameReceipts before after
    pub unread : later ≡ remaining
    pub untold : l ≡ k
    pub unasked : e ≡ d

  -- it was served, or nothing was done
  abbrev pub ServesConnectionOrNot : ℕ → Conn → Type 0
  ServesConnectionOrNot namespace conn =
      ((drops : List Settling) × ServesConnection namespace conn drops) ⊎ Idles

-- What an exchange of the driver does if its host is a seat of a shared service, in terms of `serve`.

-- how many inputs a seat has counted, and its receipts
pub record Tally : Type 0 where
  pub count : ℕ
  pub receipts : List (Vec Receipt Global)

module _ (keeps : Bool) (WentOut : ℕ → ℕ → List ℕ → Type 0) (Unfit : Outcome → Type 0) (IsTaken : Conn → List ℕ → Type 0) where
  -- a connection was opened, and the seat counts this
  pub record SeatOpens (namespace : ℕ) (conn : Conn) (h k : Tally) : Type 0 where
    pub here : conn.namespace ≡ namespace
    pub asks : keeps ≡ true → OpensConnection namespace h.receipts k.receipts conn
    pub one : k.count ≡ h.count + 1

  -- This was asked of the service, and the seat counts it. A piece has at most 64 lines, of which only the last may take long; a load is given up only if it may be. The text was
  -- the connection's replies, and the loads had been sent.
  pub record SeatComes (conn : Conn) (h : Tally) (exchange : Exchange) (k : Tally) : Type 0 where
    pub asks : keeps ≡ true → Asks conn.namespace h.receipts k.receipts
        (inputs_of conn exchange.doing)
    pub counts : k.count ≡ h.count + length (inputs_of conn exchange.doing)
    pub short : IsShort exchange.doing
    pub fit : All (MayBeGivenUp Unfit) (settlings_of exchange.doing)
    pub text : IfSome exchange.text (IsTaken conn)
    pub out : IfSome exchange.loads (EachOut (WentOut conn.namespace))

  -- At this moment the load with this number was answered with what the loader returned, or given up if it may be; or nothing was asked of
  -- the service.
  pub record SeatSettles (namespace moment number : ℕ) (asking : Asking) (h k : Tally) : Type 0
    where
      pub settling : Settling
      pub of : settling_asking settling ≡ asking
      pub numbered : load_number settling ≡ number
      pub asks : keeps ≡ true
          → Asks namespace h.receipts k.receipts (settling_inputs namespace moment settling)
      pub counts : k.count ≡ h.count + length (settling_inputs namespace moment settling)
      pub fit : MayBeGivenUp Unfit settling

  -- a closing was requested, or was refused
  pub record SeatCloses (conn : Conn) (h k : Tally) : Type 0 where
    pub asks : keeps ≡ true → AsksOrNot conn.namespace h.receipts k.receipts (input.Close conn)
    pub one : k.count ≤ h.count + 1
    pub rises : h.count ≤ k.count

  -- The loader was asked for the loads in hand, and for those that had been sent, by their keys; they were settled at moment 0, and at most
  -- one input was counted for each.
  pub record SeatDrops (conn : Conn) (hand : Outs) (h : Tally) (askings : List Asking) (k : Tally) :
      Type 0 where
    pub drops : List Settling
    pub asks : keeps ≡ true → Asks conn.namespace h.receipts k.receipts
        (flat_map (settling_inputs conn.namespace 0) drops)
    pub loaded : askings ≡ map settling_asking drops
    pub out : EachOut (WentOut conn.namespace) hand → All (IsOfLoad WentOut conn.namespace) drops
    pub few : k.count ≤ h.count + length drops
    pub rises : h.count ≤ k.count
