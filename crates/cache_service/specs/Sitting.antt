-- What the host of a connection of a shared service guarantees, by its seat.
use Rattle.std.proofs.Common.{◌∙◌, ap, arith, inl, inr}
use Rattle.std.specs.Prelude.{◌≡◌, ℕ, ◌+◌, ◌-◌, ◌^◌, ◌≤◌, Bool, true, false, List, [], ◌∷◌, ◌++◌, Option, Some, None, IfSome, Result, Ok, Err, IfOk, Vec}
use Rattle.std.specs.Option.{option_map}
use Rattle.std.specs.declared.alloc.Global.{Global}
use Rattle.audit_model.specs.declared.config.Config.{Config}
use Rattle.audit_model.specs.declared.event.Outcome.{Outcome}
use Rattle.audit_model.specs.declared.input.Conn.{Conn}
use Rattle.audit_model.specs.declared.input.Input.{Input}
use Rattle.audit_model.specs.declared.input.Input.TheVariants as input
use Rattle.audit_model.specs.declared.transcript.Note.{Note}
use Rattle.audit_laws.specs.declared.receipts.receipt.Receipt.{Receipt}
use Rattle.cache_run.specs.Devices.Sources.{Asking, Askings}
use Rattle.cache_run.specs.Driver.Exchanges.{Exchange, Outs}
use Rattle.cache_run.specs.Driver.Hosting.{SuitsRequest}
use Rattle.cache_run.specs.declared.driver.host.Given.{Given}
use Rattle.cache_service.specs.Asked.{Asks, AsksOrNot, SeatCloses, SeatComes, SeatDrops, SeatOpens, SeatSettles, Tally}
use Rattle.cache_service.specs.Cutting.{IsShortPiece}
use Rattle.cache_service.specs.Exchanged.{CameSo, SettledSo, WasOpened}
use Rattle.cache_service.specs.Served.{AreOut, HadGoneOut}
use Rattle.cache_shared.specs.Events.{IsUnfit}
use Rattle.cache_shared.specs.Seats.{SameReceipts}
use Rattle.cache_shared.specs.Looked.{WereUntaken}
use Rattle.cache_shared.specs.declared.seat.Seat.{Seat}
use Rattle.cache_history.specs.declared.known.Naming.{Ghosts as Names}
use Rattle.cache_shared.specs.declared.seat.Seating.{Ghosts as Ledgers}
use Rattle.cache_spaces.specs.Calls.{namespace_of}
use Rattle.cache_spaces.specs.Spaces.{Shown}

-- its count and its receipts
abbrev pub tally : {L C : Type 0} → {G : Ledgers L} → {N : Names L} → Seat L C G N → Tally
tally seat = record { count = seat.count; receipts = seat.receipts.items }

-- nothing was taken
pub record SeatRests (h k : Tally) : Type 0 where
  pub count : k.count ≡ h.count
  pub same : SameReceipts h.receipts k.receipts

-- nothing was, and no hold was claimed
abbrev pub SeatIdles : {L C : Type 0} → {G : Ledgers L} → {N : Names L} → Seat L C G N
    → Seat L C G N → Type 0
SeatIdles p q = SeatRests (tally p) (tally q) × (q.claims ≡ p.claims)

-- an input was taken
pub record SeatTakes (keeps : Bool) (i : Input) (h k : Tally) : Type 0 where
  pub one : k.count ≡ h.count + 1
  pub asks : keeps ≡ true → Asks (namespace_of i) h.receipts k.receipts (i ∷ [])

-- it was taken if something is given, and otherwise nothing was
abbrev pub TakesIfGiven : {X E : Type 0} → Bool → Input → Result (Option X) E → Tally → Tally
    → Type 0
TakesIfGiven keeps i (Ok (Some x)) h k = SeatTakes keeps i h k
TakesIfGiven keeps i (Ok None) h k = SeatRests h k
TakesIfGiven keeps i (Err e) h k = SeatRests h k

module _ {C : Type 0} (configs : List Config) (spaces : C → List Shown)
    (untaken : C → Conn → List ℕ) where
  -- the text was the replies of the connection
  abbrev pub IsReply : Conn → List ℕ → Type 0
  IsReply conn text = ∥ WereUntaken configs spaces untaken conn text ∥₁

  -- The texts were replies of the connection, and the loads had been sent; they are given only if they were requested.
  pub record GivesDue (conn : Conn) (wants_loads : Bool) (given : Given) : Type 0 where
    pub text : IfSome (option_map (λ text. text.items) given.owed.replies) (IsReply conn)
    pub out : IfSome (option_map (λ loads. loads.items) given.owed.loads)
        (AreOut configs spaces conn.namespace)
    pub suits : SuitsRequest false wants_loads given

  module _ {L : Type 0} {G : Ledgers L} {N : Names L} (keeps : Bool) where
    module _ (untold : C → ℕ → List Note) where
      -- in terms of a seat, and of one hold of the lock
      abbrev pub Opens : ℕ → Conn → Seat L C G N → Seat L C G N → Type 0
      Opens namespace conn p q =
          SeatOpens keeps (HadGoneOut configs spaces) IsUnfit IsReply namespace conn (tally p)
          (tally q) × WasOpened configs spaces untaken untold namespace conn p.claims q.claims

      abbrev pub Comes : Conn → Seat L C G N → Exchange → Seat L C G N → Type 0
      Comes conn p exchange q =
          SeatComes keeps (HadGoneOut configs spaces) IsUnfit IsReply conn (tally p) exchange
          (tally q) × CameSo configs spaces untaken untold conn p.claims exchange q.claims
          exchange.doing

    -- in terms of a seat
    abbrev pub Closes : Conn → Seat L C G N → Seat L C G N → Type 0
    Closes conn p q =
        SeatCloses keeps (HadGoneOut configs spaces) IsUnfit IsReply conn (tally p) (tally q)

    abbrev pub Drops : Conn → Outs → Seat L C G N → List Asking → Seat L C G N → Type 0
    Drops conn hand p askings q =
        SeatDrops keeps (HadGoneOut configs spaces) IsUnfit IsReply conn hand (tally p) askings
        (tally q)

    -- whatever the key, a load was settled by what the loader returned, and this was given
    abbrev pub Settles : {E : Type 0} → (C → ℕ → List Note) → Conn → ℕ → Option Outcome → ℕ
        → Result (Option Given) E → Seat L C G N → Seat L C G N → Type 0
    Settles untold conn load said moment result p q =
        (key : List ℕ)
        → (settles : SeatSettles keeps (HadGoneOut configs spaces) IsUnfit IsReply conn.namespace moment load (record { key = key; answer = said }) (tally p) (tally q))
        × IfOk result (λ given. SettledSo configs spaces untaken untold conn settles.settling
        moment p.claims given q.claims)

    -- this happened at moment 0, whatever the service refuses
    abbrev pub SettlesLate : ℕ → ℕ → Option Outcome → Seat L C G N → Seat L C G N → Type 0
    SettlesLate namespace load said p q =
        (key : List ℕ) → SeatSettles keeps (HadGoneOut configs spaces) (λ outcome. Unit {0}) IsReply namespace 0 load (record { key = key; answer = said }) (tally p) (tally q)

    -- a loader was asked for the load by this key, and it was settled like this
    abbrev pub DropsOne : {D : Type 0} → (D → List ℕ → Option Outcome → D → Type 0) → ℕ → ℕ → List ℕ
        → Seat L C G N → Seat L C G N → D → D → Type 0
    DropsOne loads namespace load key p q d e =
        (said : Option Outcome) × SettlesLate namespace load said p q × loads d key said e

    -- it was asked for several
    abbrev pub DropsBy : {D : Type 0} → (D → List ℕ → Option Outcome → D → Type 0) → Conn → Outs
        → Seat L C G N → Seat L C G N → D → D → Type 0
    DropsBy loads conn hand p q d e =
        (askings : List Asking) × Drops conn hand p askings q × Askings loads d askings e

-- ---- what the trait `Host` requires

-- after an exchange without input
pub asks-behind : {n : ℕ} {a b c : List (Vec Receipt Global)} {inputs : List Input}
    → SameReceipts a b → Asks n b c inputs → Asks n a c inputs
asks-behind {n} same asks = record {
  added = asks.added;
  grows = record {
    own = asks.grows.own ∙ ap (λ l. l ++ asks.added) (same n);
    others = λ other ne. asks.grows.others other ne ∙ same other;
  };
  asked = asks.asked;
}

or-behind : (n : ℕ) (a b c : List (Vec Receipt Global)) (i : Input) → SameReceipts a b
    → AsksOrNot n b c i → AsksOrNot n a c i
or-behind n a b c i same (inl none) = inl (asks-behind same none)
or-behind n a b c i same (inr one) = inr (asks-behind same one)

-- a closing after an exchange without input
pub closes-behind : {keeps : Bool} {WentOut : ℕ → ℕ → List ℕ → Type 0}
    {Unfit : Outcome → Type 0} {IsTaken : Conn → List ℕ → Type 0} (conn : Conn) (h m k : Tally)
    → SeatRests h m → SeatCloses keeps WentOut Unfit IsTaken conn m k
    → SeatCloses keeps WentOut Unfit IsTaken conn h k
closes-behind conn h m k rests closes =
    let same = rests.count in
    let one = closes.one in
    let rises = closes.rises in record {
      asks = λ kept. or-behind conn.namespace h.receipts m.receipts k.receipts (input.Close conn)
          rests.same (closes.asks kept);
      one = omega (arith, same, one);
      rises = omega (arith, same, rises);
    }

-- a count that was used up is so later
pub used-later : (k l : ℕ) → k ≤ l → 2 ^ 64 - 1 ≤ k → 2 ^ 64 - 1 ≤ l
used-later k l later used = omega (arith, later, used)

pub none-short : IsShortPiece []
none-short = record {
  few = omega arith;
  quick = λ start end line long. absurd (omega (arith, line.within.1));
}
