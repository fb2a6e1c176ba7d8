-- What a turn or a look gave is what its exchange gives.
use Rattle.std.proofs.Common.{◌≡◌, ℕ, Bool, false, List, [], Option, None, Some, Result, Ok, Err, IfOk, IfSome, refl, sym, subst, arith}
use Rattle.std.proofs.lemmas.List.Elements.{All-cons, All-nil}
use Rattle.audit_model.specs.declared.config.Config.{Config}
use Rattle.audit_model.specs.declared.event.Outcome.{Outcome}
use Rattle.audit_model.specs.declared.input.Conn.{Conn}
use Rattle.audit_model.specs.declared.input.Input.{Input}
use Rattle.audit_model.specs.declared.transcript.Note.{Note}
use Rattle.cache_run.specs.Devices.Sources.{Asking}
use Rattle.cache_run.specs.Driver.Exchanges.{Answered, Doing, Dropped, Fed, GivenUp, Looked, Settled, Settling}
use Rattle.cache_run.specs.Driver.Hosting.{SettlesBy, exchange_of}
use Rattle.cache_run.specs.declared.driver.host.Given.{Given}
use Rattle.cache_service.specs.Asked.{MayBeGivenUp, SeatComes, SeatSettles, Tally, feed_input, give_up_input}
use Rattle.cache_service.specs.Cutting.{IsShortPiece}
use Rattle.cache_service.specs.Exchanged.{CameSo, ComesOfLook, ComesOfTurn, GivesLook, GivesTurn, IsLeft, SettledSo, given_up_or_left, is_held_by}
use Rattle.cache_service.specs.Served.{HadGoneOut}
use Rattle.cache_service.specs.Sitting.{GivesDue, IsReply, SeatTakes, TakesIfGiven}
use Rattle.cache_service.proofs.Seated.{asks-none, settles-none}
use Rattle.cache_shared.specs.Events.{IsUnfit}
use Rattle.cache_history.specs.declared.known.Own.{Own}
use Rattle.cache_shared.specs.Histories.{HappenedInHistory}
use Rattle.cache_shared.specs.Taken.{MovesAll, TakesInputWhole}
use Rattle.cache_shared.specs.declared.turning.Turn.{Turn}
use Rattle.cache_spaces.specs.Spaces.{Shown}

module _ {C : Type 0} (configs : List Config) (spaces : C → List Shown) (untaken : C → Conn → List ℕ) (untold : C → ℕ → List Note) (conn : Conn) (p q : Own C) where
  -- ---- what is given

  pub turn-gives : (i : Input) (wants : Bool) (Told : List Note → Type 0) (turn : Turn) (held : Bool) (given : Given) (behind behind' : List Note) → given ≡ record { held = held; owed = turn.owed } → held ≡ is_held_by turn.output
      → HappenedInHistory spaces untaken untold configs p q (λ old new. TakesInputWhole spaces untaken untold old new conn i wants turn behind behind') → Told behind' → GivesTurn configs spaces untaken untold conn i wants Told p q given
  turn-gives i wants Told turn held given behind behind' is output happened told = subst (GivesTurn configs spaces untaken untold conn i wants Told p q) (sym is) (record {
    turn = turn;
    behind = behind;
    behind' = behind';
    happened = happened;
    owed = refl;
    held = output;
    told = told;
  })

  pub look-gives : (wants : Bool) (Told : List Note → Type 0) (due given : Given) (behind behind' : List Note) → given ≡ record { held = false; owed = due.owed }
      → HappenedInHistory spaces untaken untold configs p q (λ old new. MovesAll spaces untaken untold old new conn wants due.owed behind behind') → Told behind' → GivesLook configs spaces untaken untold conn wants Told p q given
  look-gives wants Told due given behind behind' is happened told = subst (GivesLook configs spaces untaken untold conn wants Told p q) (sym is) (record { behind = behind; behind' = behind'; happened = happened; held = refl; told = told })

  -- ---- what an exchange gives

  module _ {wants : Bool} {Told : List Note → Type 0} (given : Given) where
    pub of-turn : (doing : Doing) (i : Input) (Fact : Given → Type 0) → Fact given → GivesTurn configs spaces untaken untold conn i wants Told p q given → ComesOfTurn configs spaces untaken untold conn i Fact p (exchange_of doing given) q
    of-turn doing i Fact fact g = ∣ (given, wants, refl, fact, record { turn = g.turn; behind = g.behind; behind' = g.behind'; happened = g.happened; owed = g.owed; held = g.held; told = tt }) ∣₁

    pub of-look : (doing : Doing) → GivesLook configs spaces untaken untold conn wants Told p q given → ComesOfLook configs spaces untaken untold conn p (exchange_of doing given) q
    of-look doing g = ∣ (given, wants, refl, record { behind = g.behind; behind' = g.behind'; happened = g.happened; held = g.held; told = tt }) ∣₁

    -- a look after a load was left
    pub came-left : (m : Own C) (settling : Settling) (moment : ℕ) → IsLeft configs spaces untaken untold conn settling × (m ≡ p) → GivesLook configs spaces untaken untold conn wants Told m q given
        → CameSo configs spaces untaken untold conn p (exchange_of (Settled settling moment) given) q (Settled settling moment)
    came-left m (Answered load key outcome) moment left g = absurd left.0
    came-left m (GivenUp load asking) moment left g = absurd left.0
    came-left m (Dropped load asking) moment left g =
        (left.0, of-look (Settled (Dropped load asking) moment) (subst (λ (o : Own C). GivesLook configs spaces untaken untold conn wants Told o q given) left.1 g))

  module _ (keeps : Bool) where
    abbrev pub Settles : ℕ → ℕ → Asking → Tally → Tally → Type 0
    Settles moment number asking h k = SeatSettles keeps (HadGoneOut configs spaces) IsUnfit (IsReply configs spaces untaken) conn.namespace moment number asking h k

    -- a load was settled, and this was given
    abbrev pub SettlesAs : {E : Type 0} → ℕ → ℕ → Asking → Result (Option Given) E → Tally → Tally → Type 0
    SettlesAs moment number asking r h k = (s : Settles moment number asking h k) × IfOk r (λ given. SettledSo configs spaces untaken untold conn s.settling moment p given q)

    pub as-said : {E : Type 0} {moment number : ℕ} {h k : Tally} {key : List ℕ} {said answer : Option Outcome} (r : Result (Option Given) E) → said ≡ answer → SettlesAs moment number (record { key = key; answer = answer }) r h k
        → SettlesAs moment number (record { key = key; answer = said }) r h k
    as-said {E} {moment} {number} {h} {k} {key} r is s = subst (λ (o : Option Outcome). SettlesAs moment number (record { key = key; answer = o }) r h k) (sym is) s

    -- by a give-up, or it was left
    pub as-given-up : {E : Type 0} {moment number : ℕ} {h k : Tally} (r : Result (Option Given) E) (asking : Asking) → IfSome asking.answer IsUnfit → TakesIfGiven keeps (give_up_input conn.namespace moment number) r h k
        → IfOk r (λ given. (asking : Asking) → SettledSo configs spaces untaken untold conn (given_up_or_left number asking given) moment p given q) → SettlesAs moment number asking r h k
    as-given-up {E} {moment} {number} (Ok (Some x)) asking unfit takes so = (record { settling = GivenUp number asking; of = refl; numbered = refl; asks = takes.asks; counts = takes.one; fit = unfit }, so asking)
    as-given-up (Ok None) asking unfit takes so = (settles-none asking takes, so asking)
    as-given-up (Err e) asking unfit takes so = (settles-none asking takes, tt)

    -- ---- exchanges

    abbrev pub Comes : Given → Doing → Tally → Tally → Type 0
    Comes given doing h k =
        SeatComes keeps (HadGoneOut configs spaces) IsUnfit (IsReply configs spaces untaken) conn h (exchange_of doing given) k × CameSo configs spaces untaken untold conn p (exchange_of doing given) q doing

    -- a piece was fed
    pub comes-fed : {wants : Bool} {Told : List Note → Type 0} {h k : Tally} (piece : List ℕ) (moment : ℕ) (given : Given) → IsShortPiece piece → SeatTakes keeps (feed_input conn piece moment) h k → GivesDue configs spaces untaken conn wants given
        → GivesTurn configs spaces untaken untold conn (feed_input conn piece moment) wants Told p q given → Comes given (Fed piece moment given.held) h k
    comes-fed piece moment given short takes due turn = (
      record { asks = takes.asks; counts = takes.one; short = short; fit = All-nil (MayBeGivenUp IsUnfit); text = due.text; out = due.out },
      of-turn given (Fed piece moment given.held) (feed_input conn piece moment) (λ (g : Given). g.held ≡ given.held) refl turn,
    )

    -- nothing was asked
    pub comes-looked : {wants : Bool} {Told : List Note → Type 0} (h k : Tally) (given : Given) → k ≡ h → GivesDue configs spaces untaken conn wants given → GivesLook configs spaces untaken untold conn wants Told p q given → Comes given Looked h k
    comes-looked h k given same due look = subst (λ (t : Tally). Comes given Looked h t) (sym same) (
      record { asks = λ kept. asks-none conn.namespace h.receipts h.receipts (λ n. refl); counts = omega arith; short = tt; fit = All-nil (MayBeGivenUp IsUnfit); text = due.text; out = due.out },
      of-look given Looked look,
    )

    -- and then nothing was taken
    pub comes-same : {h k : Tally} {load moment : ℕ} {asking : Asking} (k' : Tally) (given : Given) → k' ≡ k → (doing : Doing) × SettlesBy load moment asking doing × Comes given doing h k
        → (doing : Doing) × SettlesBy load moment asking doing × Comes given doing h k'
    comes-same {h} {k} {load} {moment} {asking} k' given same came = subst (λ (t : Tally). (doing : Doing) × SettlesBy load moment asking doing × Comes given doing h t) (sym same) came

    -- a load was settled
    pub comes-as : {wants : Bool} {h k : Tally} {load moment : ℕ} {asking : Asking} (given : Given) (s : Settles moment load asking h k) → CameSo configs spaces untaken untold conn p (exchange_of (Settled s.settling moment) given) q (Settled s.settling moment) → GivesDue configs spaces untaken conn wants given
        → (doing : Doing) × SettlesBy load moment asking doing × Comes given doing h k
    comes-as {wants} {h} {k} {load} {moment} {asking} given s so due = (
      Settled s.settling moment,
      record { settling = s.settling; of = s.of; numbered = s.numbered; done = refl },
      (record { asks = s.asks; counts = s.counts; short = tt; fit = All-cons (MayBeGivenUp IsUnfit) s.settling [] s.fit (All-nil (MayBeGivenUp IsUnfit)); text = due.text; out = due.out }, so),
    )
