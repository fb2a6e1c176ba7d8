-- What a driver answers for who has a seat gives what `serve` promises.
use Rattle.std.proofs.Common.{◌≡◌, ℕ, ◌+◌, ◌≤◌, Bool, true, false, List, [], ◌∷◌, ◌++◌, length, map, Option, None, Some, refl, sym, ap, ◌∙◌, subst, arith, append_assoc, length-append, inl, inr, ◌≢◌, ◌⊎◌, IfErr, IfSome, MatchResult, Result, Ok, Err, Vec}
use Rattle.std.specs.List.{All, flat_map}
use Rattle.std.specs.Option.{option_map_or}
use Rattle.std.specs.declared.alloc.Global.{Global}
use Rattle.std.specs.Io.KnownBytes.{Consumes}
use Rattle.std.proofs.lemmas.Grind.{flat_map-append}
use Rattle.std.proofs.lemmas.List.{append-nil, length-map}
use Rattle.std.proofs.lemmas.List.Elements.{All-append, All-cons, All-nil}
use Rattle.std.proofs.lemmas.List.Folds.{flat_map-map}
use Rattle.audit_model.specs.declared.config.Config.{Config}
use Rattle.audit_model.specs.declared.event.Outcome.{Outcome}
use Rattle.audit_model.specs.declared.input.Conn.{Conn}
use Rattle.audit_model.specs.declared.input.Input.TheVariants as input
use Rattle.audit_model.specs.declared.input.LoadId.{LoadId}
use Rattle.audit_model.specs.declared.transcript.Note.{Note}
use Rattle.audit_laws.specs.declared.receipts.receipt.Receipt.{Receipt}
use Rattle.cache_run.specs.Devices.Sources.{Asking, Askings, Readings}
use Rattle.cache_run.specs.declared.devices.errors.RunError.{RunError}
use Rattle.cache_run.specs.declared.devices.watched.Watched.{Watched}
use Rattle.cache_run.proofs.devices.Sending.{askings_more, same_appends}
use Rattle.cache_run.specs.Driver.Drives.{IsOfHand, Outside, LeftUndone, Talks, asked_of, late_of, lost_of}
use Rattle.cache_run.proofs.driver.Exchanges.{because-map, each-last, asking_then, underway-stopped}
use Rattle.cache_run.specs.Driver.Causes.{Because, outcome_by}
use Rattle.cache_run.specs.Driver.Driven.{ClosesAfter, ComesToProgress, Finished, Stopped, around}
use Rattle.cache_run.specs.declared.devices.errors.RunError.TheVariants.{UsedUp}
use Rattle.cache_run.specs.declared.driver.driving.Progress.{Progress}
use Rattle.cache_run.specs.declared.driver.driving.Progress.TheVariants.{More, Over}
use Rattle.cache_run.specs.declared.driver.session.Session.{Session}
use Rattle.cache_run.specs.Driver.Exchanges as did
use Rattle.cache_run.specs.Driver.Exchanges.{Doing, EachOut, Exchange, Outs, Settling, askings_in, load_number, moments_in, pieces_in, settling_asking}
use Rattle.cache_service.specs.Asked.{Asks, AsksOrNot, HasAskedSome, IsOfLoad, IsShort, MayBeGivenUp, OpensConnection, ServesConnection, ServesConnectionOrNot, closing_inputs, inputs_of, settling_inputs, settlings_of}
use Rattle.cache_service.specs.Served.{HadGoneOut, AsksAll, BeginsOrIdles, BeginsWith, WritesAll}
use Rattle.cache_service.specs.Sitting as sitting
use Rattle.cache_service.specs.Sitting.{SeatIdles, SeatRests, tally}
use Rattle.cache_shared.specs.Events.{IsUnfit}
use Rattle.cache_history.specs.declared.known.Own.{Own}
use Rattle.cache_service.specs.Exchanged.{CameSo, WasOpened}
use Rattle.cache_service.specs.Served.{Follow, Serves, ServesInTurns, ServesTurns}
use Rattle.cache_shared.specs.declared.seat.Seat.{Seat}
use Rattle.cache_history.specs.declared.known.Naming.{Ghosts as Names}
use Rattle.cache_shared.specs.declared.seat.Seating.{Ghosts as Ledgers}
use Rattle.cache_shared.specs.Looked.{WereUntaken}
use Rattle.cache_spaces.specs.Spaces.{Shown}
use Rattle.cache_service.proofs.Seated.{asks-more, asks-none, chain-follows, chain-weaker, grows-more, Passed, chain-passed, deeds_in, texts-same, texts_in}
use Rattle.cache_service.specs.Asked.{SeatCloses, SeatComes, SeatDrops, SeatOpens, Tally}

-- ---- what was refused: a load for which the loader was asked, and nothing was asked of the service; or a piece, for which the clock told late

module _ (keeps : Bool) (WentOut : ℕ → ℕ → List ℕ → Type 0) (Unfit : Outcome → Type 0) (IsTaken : Conn → List ℕ → Type 0) (conn : Conn) where
  -- deeds at which nothing was asked, and what the clock told besides
  record Refused (moments : List ℕ) (askings : List Asking) : Type 0 where
    deeds : List Doing
    late : List ℕ
    inputs : flat_map (inputs_of conn) deeds ≡ []
    bytes : flat_map did.bytes_fed deeds ≡ []
    told : flat_map did.readings_of deeds ++ late ≡ moments
    asks : flat_map did.asks_of deeds ≡ askings
    few : length late ≤ 1
    short : All IsShort deeds
    out : All (IsOfLoad WentOut conn.namespace) (flat_map settlings_of deeds)
    fit : All (MayBeGivenUp Unfit) (flat_map settlings_of deeds)

  refused-none : (late : List ℕ) → length late ≤ 1 → Refused late []
  refused-none late few = record {
    deeds = [];
    late = late;
    inputs = refl;
    bytes = refl;
    told = refl;
    asks = refl;
    few = few;
    short = All-nil IsShort;
    out = All-nil (IsOfLoad WentOut conn.namespace);
    fit = All-nil (MayBeGivenUp Unfit);
  }

  refused-load : (load : ℕ) (asking : Asking) (moment : ℕ) → WentOut conn.namespace load asking.key → Refused (moment ∷ []) (asking ∷ [])
  refused-load load asking moment of = let settling = did.Dropped load asking in record {
    deeds = did.Settled settling moment ∷ [];
    late = [];
    inputs = refl;
    bytes = refl;
    told = refl;
    asks = refl;
    few = omega arith;
    short = All-cons IsShort (did.Settled settling moment) [] tt (All-nil IsShort);
    out = All-cons (IsOfLoad WentOut conn.namespace) settling [] of (All-nil (IsOfLoad WentOut conn.namespace));
    fit = All-cons (MayBeGivenUp Unfit) settling [] tt (All-nil (MayBeGivenUp Unfit));
  }

  -- it was of the last load in hand
  refused-any : (o : Option Doing) (hand : Outs) → IfSome o (IsOfHand hand) → EachOut (WentOut conn.namespace) hand → Refused (option_map_or did.readings_of o []) (option_map_or did.asks_of o [])
  refused-any None hand of out = refused-none [] (omega arith)
  refused-any (Some (did.Fed piece moment held)) hand of out = refused-none (moment ∷ []) (omega arith)
  refused-any (Some (did.Settled settling moment)) hand of out =
      refused-load (load_number settling) (settling_asking settling) moment (each-last (WentOut conn.namespace) hand (load_number settling) (settling_asking settling).key of.0 of.1 out).1
  refused-any (Some did.Looked) hand of out = refused-none [] (omega arith)

-- a closing came, or none
closing-some : (conn : Conn) (a b : List (Vec Receipt Global)) → AsksOrNot conn.namespace a b (input.Close conn) → (closes : Bool) × Asks conn.namespace a b (closing_inputs conn closes)
closing-some conn a b (inl none) = (false, none)
closing-some conn a b (inr one) = (true, one)

-- ---- a connection, from its opening to what was dropped behind its closing

module _ {H C D P : Type 0} (keeps : Bool) (WentOut : ℕ → ℕ → List ℕ → Type 0) (Unfit : Outcome → Type 0) (IsTaken : Conn → List ℕ → Type 0) (claims : H → P) (OpenedSo : ℕ → Conn → P → P → Type 0) (TookSo : Conn → P → Exchange → P → Type 0) (tally : H → Tally) (reads : C → ℕ → C → Type 0) (loads : D → List ℕ → Option Outcome → D → Type 0) (namespace : ℕ) (h k : H) (a b : Outside C D) where
  abbrev Opened : ℕ → Conn → H → H → Type 0
  Opened n conn p q = SeatOpens keeps WentOut Unfit IsTaken n conn (tally p) (tally q) × OpenedSo n conn (claims p) (claims q)

  abbrev Came : Conn → H → Exchange → H → Type 0
  Came conn p x q = SeatComes keeps WentOut Unfit IsTaken conn (tally p) x (tally q) × TookSo conn (claims p) x (claims q)

  abbrev Closed : Conn → H → H → Type 0
  Closed conn p q = SeatCloses keeps WentOut Unfit IsTaken conn (tally p) (tally q)

  abbrev Dropped : Conn → Outs → H → List Asking → H → Type 0
  Dropped conn hand p askings q = SeatDrops keeps WentOut Unfit IsTaken conn hand (tally p) askings (tally q)

  -- what is common to a connection that was driven to its end and to one that was driven to an error
  record Drove (drops : List Settling) : Type 0 where
    conn : Conn
    opened : H
    stopped : H
    closed : H
    opens : Opened namespace conn h opened
    hand : Outs
    rest : LeftUndone
    asked : D
    talks : Talks (Came conn) reads loads opened stopped a (record { remaining = b.remaining; contents = b.contents; clock = b.clock; loader = asked }) [] hand rest
    few : rest.untaken ≤ 1
    closes : Closed conn stopped closed
    asks : keeps ≡ true → Asks conn.namespace (tally closed).receipts (tally k).receipts (flat_map (settling_inputs conn.namespace 0) drops)
    loaded : Askings loads asked (map settling_asking drops) b.loader
    out : EachOut (WentOut conn.namespace) hand → All (IsOfLoad WentOut conn.namespace) drops
    counts : (tally k).count ≤ (tally closed).count + length drops

  abbrev drove-whole : (s : Session) (start m : H) → Opened namespace s.conn h start → Finished false Came Closed reads loads start a s m b → Closed s.conn m k → Drove []
  drove-whole s start m opens f closes = let none = f.sent.1 in record {
    conn = s.conn;
    opened = start;
    stopped = f.closed;
    closed = k;
    opens = opens;
    hand = [];
    rest = f.rest;
    asked = b.loader;
    talks = f.talks;
    few = omega (arith, none);
    closes = f.behind k closes;
    asks = λ kept. asks-none s.conn.namespace (tally k).receipts (tally k).receipts (λ n. refl);
    loaded = refl;
    out = λ out. All-nil (IsOfLoad WentOut s.conn.namespace);
    counts = omega arith;
  }

  abbrev drove-partly : (s : Session) (start m : H) (middle : D) (e : RunError) → Opened namespace s.conn h start → Stopped false Came Closed reads loads start a s m (asking_then b middle) e → (closes : ClosesAfter Closed Dropped loads (Err e) s m k middle b.loader) → Drove closes.3.drops
  drove-partly s start m middle e opens f closes = record {
    conn = s.conn;
    opened = start;
    stopped = f.stopped;
    closed = closes.0;
    opens = opens;
    hand = s.taken.items;
    rest = f.rest;
    asked = middle;
    talks = f.talks;
    few = f.few;
    closes = f.behind closes.0 closes.2;
    asks = closes.3.asks;
    loaded = subst (λ askings. Askings loads middle askings b.loader) closes.3.loaded closes.4;
    out = closes.3.out;
    counts = closes.3.few;
  }

  -- whatever it came to
  abbrev Driven : Result (Unit {0}) RunError → Type 0
  Driven outcome = MatchResult outcome (λ x. (d : Drove []) × (d.rest.unsent ≡ [])) (λ e. (drops : List Settling) × Drove drops)

  driven : (s : Session) (start m : H) (middle : D) (result : Result Progress RunError) → Opened namespace s.conn h start → ComesToProgress false Came Closed reads loads start a result s m (asking_then b middle) → ClosesAfter Closed Dropped loads (outcome_by result) s m k middle b.loader → Driven (outcome_by result)
  driven s start m middle (Ok More) opens comes closes = (closes.3.drops, drove-partly s start m middle UsedUp opens (underway-stopped false Came Closed reads loads start a s m (asking_then b middle) comes) closes)
  driven s start m middle (Ok Over) opens comes closes =
      let f = subst (λ (l : D). Finished false Came Closed reads loads start a s m (asking_then b l)) (sym closes.1) comes in (drove-whole s start m opens f closes.0, f.sent.0)
  driven s start m middle (Err e) opens comes closes = (closes.3.drops, drove-partly s start m middle e opens comes closes)

  module _ (drops : List Settling) (d : Drove drops) where
    passed : Passed keeps WentOut Unfit IsTaken d.conn (tally d.opened) d.talks.exchanges (tally d.stopped) d.hand
    passed = chain-passed keeps WentOut Unfit IsTaken d.conn tally d.opened [] d.talks.exchanges d.stopped d.hand (All-nil (λ (o : LoadId × List ℕ). WentOut d.conn.namespace o.0.number o.1))
        (chain-weaker (λ p x q seat. seat.0) d.opened [] d.talks.exchanges d.stopped d.hand d.talks.chain)

    -- each exchange came so
    came-so : Follow (TookSo d.conn) (claims d.opened) d.talks.exchanges (claims d.stopped)
    came-so = chain-follows claims (TookSo d.conn) (λ p x q seat. seat.1) d.opened [] d.talks.exchanges d.stopped d.hand d.talks.chain

    refused : Refused keeps WentOut Unfit IsTaken d.conn (late_of d.rest) (asked_of d.rest)
    refused = refused-any keeps WentOut Unfit IsTaken d.conn d.rest.refused d.hand d.talks.refused passed.hand

    abbrev own : List Doing
    own = deeds_in d.talks.exchanges

    abbrev deeds : List Doing
    deeds = own ++ refused.deeds

    -- what is read of them off the exchanges, and what was refused
    deeds-in : {A : Type 0} (f : Doing → List A) → flat_map f deeds ≡ flat_map (λ (x : Exchange). f x.doing) d.talks.exchanges ++ flat_map f refused.deeds
    deeds-in f = flat_map-append f own refused.deeds ∙ ap (λ l. l ++ flat_map f refused.deeds) (flat_map-map f (λ (x : Exchange). x.doing) d.talks.exchanges)

    deeds-read : flat_map did.bytes_fed deeds ++ lost_of d.rest ≡ pieces_in d.talks.exchanges ++ lost_of d.rest
    deeds-read = ap (λ l. l ++ lost_of d.rest) (deeds-in did.bytes_fed ∙ ap (λ l. pieces_in d.talks.exchanges ++ l) refused.bytes ∙ append-nil (pieces_in d.talks.exchanges))

    deeds-told : flat_map did.readings_of deeds ++ refused.late ≡ moments_in d.talks.exchanges ++ late_of d.rest
    deeds-told =
        ap (λ l. l ++ refused.late) (deeds-in did.readings_of) ∙ append_assoc (moments_in d.talks.exchanges) (flat_map did.readings_of refused.deeds) refused.late
        ∙ ap (λ l. moments_in d.talks.exchanges ++ l) refused.told

    deeds-asked : flat_map did.asks_of deeds ≡ askings_in d.talks.exchanges ++ asked_of d.rest
    deeds-asked = deeds-in did.asks_of ∙ ap (λ l. askings_in d.talks.exchanges ++ l) refused.asks

    deeds-inputs : flat_map (inputs_of d.conn) own ≡ flat_map (inputs_of d.conn) deeds
    deeds-inputs = sym (flat_map-append (inputs_of d.conn) own refused.deeds ∙ ap (λ l. flat_map (inputs_of d.conn) own ++ l) refused.inputs ∙ append-nil (flat_map (inputs_of d.conn) own))

    -- of what was settled
    deeds-all : (P : Settling → Type 0) → All P (flat_map settlings_of own) → All P (flat_map settlings_of refused.deeds) → All P (flat_map settlings_of deeds)
    deeds-all P some last = subst (All P) (sym (flat_map-append settlings_of own refused.deeds)) (All-append P (flat_map settlings_of own) (flat_map settlings_of refused.deeds) some last)

    -- what was asked behind the opening
    asked-behind : keeps ≡ true
        → (closes : Bool) × Asks d.conn.namespace (tally d.opened).receipts (tally k).receipts ((flat_map (inputs_of d.conn) deeds ++ closing_inputs d.conn closes) ++ flat_map (settling_inputs d.conn.namespace 0) drops)
    asked-behind kept =
        let n = d.conn.namespace in
        let inputs = flat_map (inputs_of d.conn) deeds in
        let close = closing-some d.conn (tally d.stopped).receipts (tally d.closed).receipts (d.closes.asks kept) in
        let done = subst (Asks n (tally d.opened).receipts (tally d.stopped).receipts) deeds-inputs (passed.asks kept) in (
          close.0,
          asks-more n (tally d.opened).receipts (tally d.closed).receipts (tally k).receipts (inputs ++ closing_inputs d.conn close.0) (flat_map (settling_inputs n 0) drops)
              (asks-more n (tally d.opened).receipts (tally d.stopped).receipts (tally d.closed).receipts inputs (closing_inputs d.conn close.0) done close.1) (d.asks kept),
        )

    opened-there : keeps ≡ true → OpensConnection d.conn.namespace (tally h).receipts (tally d.opened).receipts d.conn
    opened-there kept = subst (λ n. OpensConnection n (tally h).receipts (tally d.opened).receipts d.conn) (sym d.opens.0.here) (d.opens.0.asks kept)

    -- each receipt is of what was done for the connection
    serves-connection : keeps ≡ true → ServesConnection WentOut Unfit reads loads (tally h).receipts (tally k).receipts a.remaining b.remaining a.clock b.clock a.loader b.loader namespace d.conn drops
    serves-connection kept =
        let n = d.conn.namespace in
        let opens = opened-there kept in
        let all = asked-behind kept in
        let added = all.1.added in
        subst (λ m. ServesConnection WentOut Unfit reads loads (tally h).receipts (tally k).receipts a.remaining b.remaining a.clock b.clock a.loader b.loader m d.conn drops) d.opens.0.here (record {
          first = opens.first;
          opening = opens.asked;
          opened = opens.opened;
          rest = added;
          grows = grows-more n (tally h).receipts (tally d.opened).receipts (tally k).receipts (opens.first ∷ []) added opens.grows all.1.grows;
          deeds = deeds;
          short = All-append IsShort own refused.deeds passed.short refused.short;
          closes = all.0;
          asked = all.1.asked;
          lost = lost_of d.rest;
          late = refused.late;
          read = subst (Consumes a.remaining b.remaining) (sym deeds-read) d.talks.read;
          told = subst (λ ts. Readings reads a.clock ts b.clock) (sym deeds-told) d.talks.clock;
          few = refused.few;
          loaded = askings_more loads a.loader (flat_map did.asks_of deeds) d.asked (map settling_asking drops) b.loader (subst (λ ks. Askings loads a.loader ks d.asked) (sym deeds-asked) d.talks.loader) d.loaded;
          out = All-append (IsOfLoad WentOut n) (flat_map settlings_of deeds) drops (deeds-all (IsOfLoad WentOut n) passed.out refused.out) (d.out passed.hand);
          fit = deeds-all (MayBeGivenUp Unfit) passed.fit refused.fit;
        })

    -- its receipts begin with that of the opening
    begins-with : keeps ≡ true → BeginsWith namespace (tally h).receipts (tally k).receipts d.conn
    begins-with kept =
        let all = asked-behind kept in
        subst (λ n. BeginsWith n (tally h).receipts (tally k).receipts d.conn) d.opens.0.here (record { between = (tally d.opened).receipts; opens = opened-there kept; rest = all.1.added; grows = all.1.grows })

    -- there is one for each input that is counted, but for those that are spared
    counted : (tally k).count ≤ (tally h).count + length (texts_in d.talks.exchanges) + (length drops + 3)
    counted =
        let one = d.opens.0.one in
        let seen = passed.few in
        let same = d.talks.untaken in
        let few = d.few in
        let close = d.closes.one in
        let last = d.counts in omega (arith, one, seen, same, few, close, last)

    -- the loader was asked at least as often as loads were dropped
    asked-all : (asks : List Asking) × Askings loads a.loader asks b.loader × (length drops ≤ length asks)
    asked-all =
        let first = askings_in d.talks.exchanges ++ asked_of d.rest in
        let both = length-append first (map settling_asking drops) in
        let own : length (map settling_asking drops) ≡ length drops = length-map drops settling_asking in
        (first ++ map settling_asking drops, askings_more loads a.loader first d.asked (map settling_asking drops) b.loader d.talks.loader d.loaded, omega (arith, both, own))

  -- ---- the theorems

  -- what was asked, where receipts are kept
  drove-asked : (outcome : Result (Unit {0}) RunError) → Driven outcome → keeps ≡ true
      → MatchResult outcome (λ x. (conn : Conn) × ServesConnection WentOut Unfit reads loads (tally h).receipts (tally k).receipts a.remaining b.remaining a.clock b.clock a.loader b.loader namespace conn [])
      (λ e. (conn : Conn) × ServesConnectionOrNot WentOut Unfit reads loads (tally h).receipts (tally k).receipts a.remaining b.remaining a.clock b.clock a.loader b.loader namespace conn)
  drove-asked (Ok x) d kept = (d.0.conn, serves-connection [] d.0 kept)
  drove-asked (Err e) d kept = (d.1.conn, inl (d.0, serves-connection d.0 d.1 kept))

  -- what the loader was asked
  drove-loaded : (outcome : Result (Unit {0}) RunError) → Driven outcome → HasAskedSome loads a.loader b.loader
  drove-loaded (Ok x) d = let all = asked-all [] d.0 in (all.0, all.1)
  drove-loaded (Err e) d = let all = asked-all d.0 d.1 in (all.0, all.1)

  -- the turns that it was served in
  abbrev InTurns : List ℕ → Type 0
  InTurns rest = ServesInTurns OpenedSo TookSo reads namespace (claims h) a.remaining b.remaining a.contents b.contents a.clock b.clock rest

  in-turns : (drops : List Settling) (d : Drove drops) → InTurns d.rest.unsent
  in-turns drops d = record {
    conn = d.conn;
    here = d.opens.0.here;
    start = claims d.opened;
    opened = d.opens.1;
    exchanges = d.talks.exchanges;
    stop = claims d.stopped;
    each = came-so drops d;
    lost = lost_of d.rest;
    late = late_of d.rest;
    read = d.talks.read;
    told = d.talks.clock;
    sent = record { sent = d.talks.sent; whole = d.talks.replies; wrote = d.talks.wrote };
  }

  drove-served : (outcome : Result (Unit {0}) RunError) → Driven outcome
      → MatchResult outcome (λ x. InTurns []) (λ e. ((rest : List ℕ) × InTurns rest) ⊎ ((b.remaining ≡ a.remaining) × (b.contents ≡ a.contents)))
  drove-served (Ok x) d = subst InTurns d.1 (in-turns [] d.0)
  drove-served (Err e) d = inl (d.1.rest.unsent, in-turns d.0 d.1)

-- what was written
module _ {H C D X P : Type 0} (keeps : Bool) (WentOut : ℕ → ℕ → List ℕ → Type 0) (Unfit : Outcome → Type 0) (configs : List Config) (spaces : X → List Shown) (untaken : X → Conn → List ℕ) (claims : H → P) (OpenedSo : ℕ → Conn → P → P → Type 0) (TookSo : Conn → P → Exchange → P → Type 0) (tally : H → Tally) (reads : C → ℕ → C → Type 0) (loads : D → List ℕ → Option Outcome → D → Type 0)
    (namespace : ℕ) (h k : H) (a b : Outside C D) where
  abbrev IsReply : Conn → List ℕ → Type 0
  IsReply conn text = ∥ WereUntaken configs spaces untaken conn text ∥₁

  abbrev Wrote : ℕ → List ℕ → Type 0
  Wrote spared rest = Serves configs spaces untaken namespace (BeginsOrIdles keeps namespace (tally h).receipts (tally k).receipts) (tally h).count (tally k).count spared a.contents b.contents rest

  wrote : (drops : List Settling) (d : Drove keeps WentOut Unfit IsReply claims OpenedSo TookSo tally reads loads namespace h k a b drops) (spared : ℕ) → length drops + 3 ≤ spared → Wrote spared d.rest.unsent
  wrote drops d spared most = let few = counted keeps WentOut Unfit IsReply claims OpenedSo TookSo tally reads loads namespace h k a b drops d in record {
    conn = d.conn;
    here = d.opens.0.here;
    asked = λ kept. inl (begins-with keeps WentOut Unfit IsReply claims OpenedSo TookSo tally reads loads namespace h k a b drops d kept);
    texts = texts_in d.talks.exchanges;
    taken = (passed keeps WentOut Unfit IsReply claims OpenedSo TookSo tally reads loads namespace h k a b drops d).taken;
    counted = omega (arith, few, most);
    sent = record { sent = d.talks.sent; whole = d.talks.replies ∙ sym (texts-same d.talks.exchanges); wrote = d.talks.wrote };
  }

  drove-wrote : (outcome : Result (Unit {0}) RunError) → Driven keeps WentOut Unfit IsReply claims OpenedSo TookSo tally reads loads namespace h k a b outcome
      → MatchResult outcome (λ x. Wrote 3 []) (λ e. (rest : List ℕ) × (asks : List Asking) × Askings loads a.loader asks b.loader × Wrote (length asks + 3) rest)
  drove-wrote (Ok x) d = subst (Wrote 3) d.1 (wrote [] d.0 3 (omega arith))
  drove-wrote (Err e) d =
      let all = asked-all keeps WentOut Unfit IsReply claims OpenedSo TookSo tally reads loads namespace h k a b d.0 d.1 in
      let often = all.2 in (d.1.rest.unsent, all.0, all.1, wrote d.0 d.1 (length all.0 + 3) (omega (arith, often)))

-- none was opened
pub rested : {L C : Type 0} {G : Ledgers L} {N : Names L} (p q : Seat L C G N) → (q ≡ p) ⊎ SeatIdles p q → SeatRests (tally p) (tally q)
rested p q (inl is) = subst (λ (r : Seat _ _ _ _). SeatRests (tally p) (tally r)) (sym is) (record { count = refl; same = λ n. refl })
rested p q (inr rests) = rests.0

-- nothing was written
pub rested-wrote : {X : Type 0} (keeps : Bool) (configs : List Config) (spaces : X → List Shown) (untaken : X → Conn → List ℕ) (namespace : ℕ) (h k : Tally) (contents : Option (List ℕ)) → SeatRests h k
    → Serves configs spaces untaken namespace (BeginsOrIdles keeps namespace h.receipts k.receipts) h.count k.count 3 contents contents []
rested-wrote keeps configs spaces untaken namespace h k contents rests = let same = rests.count in record {
  conn = record { namespace = namespace; number = 0 };
  here = refl;
  asked = λ kept. inr rests.same;
  texts = [];
  taken = All-nil _;
  counted = omega (arith, same);
  sent = record { sent = []; whole = refl; wrote = same_appends contents };
}

-- ---- what serving a connection promises

module _ {C L R W K D : Type 0} {G : Ledgers L} {N : Names L} (configs : List Config) (spaces : C → List Shown) (untaken : C → Conn → List ℕ) (untold : C → ℕ → List Note) (keeps : Bool) (remaining : R → Option (List ℕ)) (contents : W → Option (List ℕ)) (reads : K → ℕ → K → Type 0) (loads : D → List ℕ → Option Outcome → D → Type 0) (namespace : ℕ)
    (p q : Seat L C G N) (reader reader' : Watched R) (writer writer' : Watched W) (clock clock' : K) (loader loader' : D) where
  abbrev claims_of : Seat L C G N → Own C
  claims_of seat = seat.claims

  abbrev CameIn : Conn → Own C → Exchange → Own C → Type 0
  CameIn conn own exchange own' = CameSo configs spaces untaken untold conn own exchange own' exchange.doing

  pub record Promises (outcome : Result (Unit {0}) RunError) : Type 0 where
    pub wrote : WritesAll keeps configs spaces untaken contents loads namespace outcome p q writer writer' loader loader'
    pub asked : AsksAll keeps configs spaces remaining reads loads namespace outcome p q reader reader' clock clock' loader loader'
    pub loaded : HasAskedSome loads loader loader'
    pub served : ServesTurns configs spaces untaken untold remaining contents reads namespace p.claims outcome reader reader' writer writer' clock clock'

  -- it was opened, it came to an end or an error, and was closed
  pub attended : (s t : Session) (start m : Seat L C G N) (middle : D) (ended : Result Progress RunError) (outcome result : Result (Unit {0}) RunError) → sitting.Opens configs spaces untaken keeps untold namespace s.conn p start → t.conn ≡ s.conn
      → ComesToProgress false (sitting.Comes configs spaces untaken keeps untold) (sitting.Closes configs spaces untaken keeps) reads loads start (around remaining contents reader writer clock loader) ended t m (around remaining contents reader' writer' clock' middle)
      → outcome ≡ outcome_by ended → ClosesAfter (sitting.Closes configs spaces untaken keeps) (sitting.Drops configs spaces untaken keeps) loads outcome t m q middle loader' → result ≡ outcome → Promises result
  attended s t start m middle ended outcome result opened same comes is closes so =
      let a = around remaining contents reader writer clock loader in
      let b = around remaining contents reader' writer' clock' loader' in
      let drives = driven keeps (HadGoneOut configs spaces) IsUnfit (sitting.IsReply configs spaces untaken) claims_of (WasOpened configs spaces untaken untold) CameIn tally reads loads namespace p q a b t start m middle ended (subst (λ conn. sitting.Opens configs spaces untaken keeps untold namespace conn p start) (sym same) opened) comes
      (subst (λ (o : Result (Unit {0}) RunError). ClosesAfter (sitting.Closes configs spaces untaken keeps) (sitting.Drops configs spaces untaken keeps) loads o t m q middle loader') is closes) in
      subst Promises (sym (so ∙ is)) (record {
        wrote = drove-wrote keeps (HadGoneOut configs spaces) IsUnfit configs spaces untaken claims_of (WasOpened configs spaces untaken untold) CameIn tally reads loads namespace p q a b (outcome_by ended) drives;
        asked = drove-asked keeps (HadGoneOut configs spaces) IsUnfit (sitting.IsReply configs spaces untaken) claims_of (WasOpened configs spaces untaken untold) CameIn tally reads loads namespace p q a b (outcome_by ended) drives;
        loaded = drove-loaded keeps (HadGoneOut configs spaces) IsUnfit (sitting.IsReply configs spaces untaken) claims_of (WasOpened configs spaces untaken untold) CameIn tally reads loads namespace p q a b (outcome_by ended) drives;
        served = drove-served keeps (HadGoneOut configs spaces) IsUnfit (sitting.IsReply configs spaces untaken) claims_of (WasOpened configs spaces untaken untold) CameIn tally reads loads namespace p q a b (outcome_by ended) drives;
      })

-- ---- causes

-- the cause of an error, seen from further off
pub ended-because : {r w u l r' w' u' l' : Type 0} (ended : Result Progress RunError) (outcome : Result (Unit {0}) RunError) → outcome ≡ outcome_by ended → ended ≢ Ok More → (r → r') → (w → w') → (u → u') → (l → l') → IfErr ended (Because r w u l) → (e : RunError) → outcome ≡ Err e
    → Because r' w' u' l' e
ended-because (Ok More) outcome is over f g h k why e came = absurd (over refl)
ended-because (Ok Over) outcome is over f g h k why e came = let no : Ok tt ≡ Err e = sym is ∙ came in cc
ended-because {r} {w} {u} {l} (Err x) outcome is over f g h k why e came = let both : Err x ≡ Err e = sym is ∙ came in let same : x ≡ e = cc in because-map e f g h k (subst (Because r w u l) same why)
