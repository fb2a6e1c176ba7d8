-- What a seat answers for, input by input and over exchanges.
use Rattle.std.proofs.Common.{◌≡◌, ◌≤◌, ℕ, Bool, true, List, arith, length, [], ◌∷◌, ◌++◌, map, Vec, Global, refl, sym, ap, ◌∙◌, append_assoc, false, length-append, Option, Some, None, Result, Ok, Err, subst, inl, inr, ◌<◌, IfOk, IfSome, OnErr, ◌+◌, cond, is_none, unwrap_or}
use Rattle.std.proofs.lemmas.Bool.{eqb-true}
use Rattle.std.proofs.lemmas.Grind.{flat_map-append}
use Rattle.std.proofs.lemmas.List.{append-nil, map-append}
use Rattle.std.proofs.lemmas.List.Elements.{All-append, All-cons, All-nil}
use Rattle.std.proofs.lemmas.List.Sums.{sum_by-cons}
use Rattle.std.specs.List.{flat_map, slice_index_or, All, concat}
use Rattle.audit_model.specs.declared.event.Outcome.{Outcome}
use Rattle.audit_model.specs.declared.input.Conn.{Conn}
use Rattle.audit_model.specs.declared.input.Input.{Input}
use Rattle.audit_model.specs.declared.input.LoadId.{LoadId}
use Rattle.audit_laws.specs.declared.receipts.output.Output.{Output}
use Rattle.audit_laws.specs.declared.receipts.output.Output.TheVariants.{Opened}
use Rattle.audit_laws.specs.declared.receipts.receipt.Receipt.{Receipt}
use Rattle.cache_spaces.specs.Calls.{namespace_of}
use Rattle.cache_run.proofs.devices.Sending.{askings_more}
use Rattle.cache_run.proofs.driver.Exchanges.{each-kept, each-last, each-rest}
use Rattle.cache_run.specs.Devices.Sources.{Asking, Askings}
use Rattle.cache_run.specs.Driver.Exchanges.{Answered, Dropped, GivenUp, Settling, Doing, EachOut, Outs, Settled, load_number, settling_asking, Chain, Exchange, Hands, LeavesInHand, replies_in, untaken_among}
use Rattle.cache_run.specs.Driver.Hosting.{SuitsRequest}
use Rattle.cache_run.specs.declared.driver.host.Given.{Given}
use Rattle.cache_shared.specs.Seats.{Counts, SameReceipts, receipt_for, receipts_at}
use Rattle.cache_service.specs.Asked.{Asks, Grows, settling_inputs, IsOfLoad, MayBeGivenUp, answer_input, give_up_input, IsShort, inputs_of, settlings_of, SeatCloses, SeatComes, SeatDrops, SeatOpens, SeatSettles, Tally}
use Rattle.cache_service.specs.Served.{Follow}
use Rattle.cache_service.specs.Sitting.{SeatRests, SeatTakes, TakesIfGiven, asks-behind}
use Rattle.audit_model.specs.declared.input.Input.TheVariants as input
use Rattle.cache_run.specs.Driver.Exchanges as did

abbrev Lists : Type 0
Lists = List (Vec Receipt Global)

abbrev asked_in : List Receipt → List Input
asked_in receipts = map (λ (receipt : Receipt). receipt.input) receipts

pub grows-none : (n : ℕ) (a b : Lists) → SameReceipts a b → Grows n a b []
grows-none n a b same = record { own = same n ∙ sym (append-nil (receipts_at a n)); others = λ other ne. same other }

pub grows-more : (n : ℕ) (a b c : Lists) (xs ys : List Receipt) → Grows n a b xs → Grows n b c ys → Grows n a c (xs ++ ys)
grows-more n a b c xs ys p q = record {
  own = q.own ∙ ap (λ l. l ++ ys) p.own ∙ append_assoc (receipts_at a n) xs ys;
  others = λ other ne. q.others other ne ∙ p.others other ne;
}

pub asks-none : (n : ℕ) (a b : Lists) → SameReceipts a b → Asks n a b []
asks-none n a b same = record { added = []; grows = grows-none n a b same; asked = refl }

pub asks-more : (n : ℕ) (a b c : Lists) (xs ys : List Input) → Asks n a b xs → Asks n b c ys → Asks n a c (xs ++ ys)
asks-more n a b c xs ys p q = record {
  added = p.added ++ q.added;
  grows = grows-more n a b c p.added q.added p.grows q.grows;
  asked = map-append (λ (receipt : Receipt). receipt.input) p.added q.added ∙ ap (λ l. l ++ asked_in q.added) p.asked ∙ ap (λ l. xs ++ l) q.asked;
}

-- an input that was taken, by a step or a turn
pub asks-counted : {keeps : Bool} {i : Input} {output : Output} {count later : ℕ} {a b : Lists} → Counts keeps i output count later a b → keeps ≡ true → Asks (namespace_of i) a b (i ∷ [])
asks-counted {i = i} {output = output} counts kept = let g = counts.receipt kept in record { added = receipt_for i output g.0 ∷ []; grows = record { own = g.1.own; others = g.1.others }; asked = refl }

-- one input at most for a load
pub settling-one : (namespace moment : ℕ) (settling : Settling) → length (settling_inputs namespace moment settling) ≤ 1
settling-one namespace moment (Answered number key outcome) = omega arith
settling-one namespace moment (GivenUp number asking) = omega arith
settling-one namespace moment (Dropped number asking) = omega arith

-- What a seat answers for, input by input.

rests-more : {h m k : Tally} → SeatRests h m → SeatRests m k → SeatRests h k
rests-more {h} {m} {k} p q = record { count = q.count ∙ p.count; same = λ n. q.same n ∙ p.same n }

-- behind what rested
pub takes-behind : {X E : Type 0} (keeps : Bool) (i : Input) (h m k : Tally) (r : Result (Option X) E) → SeatRests h m → TakesIfGiven keeps i r m k → TakesIfGiven keeps i r h k
takes-behind keeps i h m k (Ok (Some x)) rests takes = let same = rests.count in let one = takes.one in record { one = omega (arith, same, one); asks = λ kept. asks-behind rests.same (takes.asks kept) }
takes-behind keeps i h m k (Ok None) rests takes = rests-more rests takes
takes-behind keeps i h m k (Err e) rests takes = rests-more rests takes

pub if-some-any : (o : Option Outcome) → IfSome o (λ outcome. Unit {0})
if-some-any None = tt
if-some-any (Some outcome) = tt

fits-anyhow : (s : Settling) → MayBeGivenUp (λ outcome. Unit {0}) s
fits-anyhow (Answered number key outcome) = tt
fits-anyhow (GivenUp number asking) = if-some-any asking.answer
fits-anyhow (Dropped number asking) = tt

module _ {keeps : Bool} {WentOut : ℕ → ℕ → List ℕ → Type 0} {Unfit : Outcome → Type 0} {IsTaken : Conn → List ℕ → Type 0} where
  -- an answer was taken
  abbrev pub settles-answer : {n moment number : ℕ} {h k : Tally} (key : List ℕ) {outcome : Outcome} → SeatTakes keeps (answer_input n moment number outcome) h k
      → SeatSettles keeps WentOut Unfit IsTaken n moment number (record { key = key; answer = Some outcome }) h k
  settles-answer {n} {moment} {number} key {outcome} takes = record { settling = Answered number key outcome; of = refl; numbered = refl; asks = takes.asks; counts = takes.one; fit = tt }

  -- nothing was taken
  abbrev pub settles-none : {n moment number : ℕ} {h k : Tally} (asking : Asking) → SeatRests h k → SeatSettles keeps WentOut Unfit IsTaken n moment number asking h k
  settles-none {n} {moment} {number} {h} {k} asking rests = let same = rests.count in record {
    settling = Dropped number asking;
    of = refl;
    numbered = refl;
    asks = λ kept. asks-none n h.receipts k.receipts rests.same;
    counts = omega (arith, same);
    fit = tt;
  }

  -- a give-up was taken, or nothing
  pub settles-give-up : {X E : Type 0} {n moment number : ℕ} {h k : Tally} (r : Result (Option X) E) (asking : Asking) → IfSome asking.answer Unfit → TakesIfGiven keeps (give_up_input n moment number) r h k
      → SeatSettles keeps WentOut Unfit IsTaken n moment number asking h k
  settles-give-up {number = number} (Ok (Some x)) asking unfit takes = record { settling = GivenUp number asking; of = refl; numbered = refl; asks = takes.asks; counts = takes.one; fit = unfit }
  settles-give-up (Ok None) asking unfit takes = settles-none asking takes
  settles-give-up (Err e) asking unfit takes = settles-none asking takes

  -- whatever the service refuses
  pub settles-anyhow : {n moment number : ℕ} {h k : Tally} {asking : Asking} → SeatSettles keeps WentOut Unfit IsTaken n moment number asking h k → SeatSettles keeps WentOut (λ outcome. Unit {0}) IsTaken n moment number asking h k
  settles-anyhow {n} s = record { settling = s.settling; of = s.of; numbered = s.numbered; asks = s.asks; counts = s.counts; fit = fits-anyhow s.settling }

  -- ---- loads that are dropped

  pub drops-none : (conn : Conn) (hand : Outs) (h : Tally) → SeatDrops keeps WentOut Unfit IsTaken conn hand h [] h
  drops-none conn hand h = record { drops = []; asks = λ kept. asks-none conn.namespace h.receipts h.receipts (λ n. refl); loaded = refl; out = λ all. All-nil (IsOfLoad WentOut conn.namespace); few = omega arith; rises = omega arith }

  -- one more, of the loads in hand
  pub drops-settled : {Unfit' : Outcome → Type 0} (conn : Conn) (hand : Outs) (h m k : Tally) (askings : List Asking) (number : ℕ) (asking : Asking) → SeatDrops keeps WentOut Unfit IsTaken conn hand h askings m
      → SeatSettles keeps WentOut Unfit' IsTaken conn.namespace 0 number asking m k → (EachOut (WentOut conn.namespace) hand → WentOut conn.namespace number asking.key)
      → SeatDrops keeps WentOut Unfit IsTaken conn hand h (askings ++ asking ∷ []) k
  drops-settled conn hand h m k askings number asking d s out =
      let n = conn.namespace in
      let this = s.settling in
      let inputs = flat_map (settling_inputs n 0) d.drops in
      let all : flat_map (settling_inputs n 0) (d.drops ++ this ∷ []) ≡ inputs ++ settling_inputs n 0 this = flat_map-append (settling_inputs n 0) d.drops (this ∷ []) ∙ ap (λ l. inputs ++ l) (append-nil (settling_inputs n 0 this)) in
      let most = settling-one n 0 this in
      let lengths = length-append d.drops (this ∷ []) in
      let few = d.few in
      let rises = d.rises in
      let counts = s.counts in record {
        drops = d.drops ++ this ∷ [];
        asks = λ kept. subst (Asks n h.receipts k.receipts) (sym all) (asks-more n h.receipts m.receipts k.receipts inputs (settling_inputs n 0 this) (d.asks kept) (s.asks kept));
        loaded = ap (λ l. l ++ asking ∷ []) d.loaded ∙ ap (λ x. map settling_asking d.drops ++ x ∷ []) (sym s.of) ∙ sym (map-append settling_asking d.drops (this ∷ []));
        out = λ all.
            All-append (IsOfLoad WentOut n) d.drops (this ∷ []) (d.out all)
            (All-cons (IsOfLoad WentOut n) this [] (subst (λ (x : Asking). WentOut n (load_number this) x.key) (sym s.of) (subst (λ m. WentOut n m asking.key) (sym s.numbered) (out all))) (All-nil (IsOfLoad WentOut n)));
        few = omega (arith, few, counts, most, lengths);
        rises = omega (arith, rises, counts);
      }

  -- several more, that had gone out
  pub drops-more : (conn : Conn) (hand more : Outs) (h m k : Tally) (xs ys : List Asking) → SeatDrops keeps WentOut Unfit IsTaken conn hand h xs m → SeatDrops keeps WentOut Unfit IsTaken conn more m ys k → EachOut (WentOut conn.namespace) more
      → SeatDrops keeps WentOut Unfit IsTaken conn hand h (xs ++ ys) k
  drops-more conn hand more h m k xs ys d e out =
      let n = conn.namespace in
      let lengths = length-append d.drops e.drops in
      let few = d.few in
      let fewer = e.few in
      let rises = d.rises in
      let later = e.rises in record {
        drops = d.drops ++ e.drops;
        asks = λ kept.
            subst (Asks n h.receipts k.receipts) (sym (flat_map-append (settling_inputs n 0) d.drops e.drops))
            (asks-more n h.receipts m.receipts k.receipts (flat_map (settling_inputs n 0) d.drops) (flat_map (settling_inputs n 0) e.drops) (d.asks kept) (e.asks kept));
        loaded = ap (λ l. l ++ ys) d.loaded ∙ ap (λ l. map settling_asking d.drops ++ l) e.loaded ∙ sym (map-append settling_asking d.drops e.drops);
        out = λ all. All-append (IsOfLoad WentOut n) d.drops e.drops (d.out all) (e.out out);
        few = omega (arith, few, fewer, lengths);
        rises = omega (arith, rises, later);
      }

  module _ {D : Type 0} (loads : D → List ℕ → Option Outcome → D → Type 0) where
    -- a loader was asked for the one more
    pub drops-each : {Unfit' : Outcome → Type 0} (conn : Conn) (hand : Outs) (h m k : Tally) (a b d : D) (place : ℕ) (load : LoadId × List ℕ) (key : List ℕ) → place < length hand → load ≡ slice_index_or hand place load → key ≡ load.1
        → (askings : List Asking) × SeatDrops keeps WentOut Unfit IsTaken conn hand h askings m × Askings loads a askings b
        → (said : Option Outcome) × ((key : List ℕ) → SeatSettles keeps WentOut Unfit' IsTaken conn.namespace 0 load.0.number (record { key = key; answer = said }) m k) × loads b key said d
        → (askings : List Asking) × SeatDrops keeps WentOut Unfit IsTaken conn hand h askings k × Askings loads a askings d
    drops-each conn hand h m k a b d place load key within at same dropped one =
        let asking : Asking = record { key = key; answer = one.0 } in
        let here : EachOut (WentOut conn.namespace) hand → WentOut conn.namespace load.0.number load.1 = λ all. subst (λ (x : LoadId × List ℕ). WentOut conn.namespace x.0.number x.1) (sym at) (all place load within) in (
          dropped.0 ++ asking ∷ [],
          drops-settled conn hand h m k dropped.0 load.0.number asking dropped.1 (one.1 key) (λ all. subst (λ (x : List ℕ). WentOut conn.namespace load.0.number x) (sym same) (here all)),
          askings_more loads a dropped.0 b (asking ∷ []) d dropped.2 (d, one.2, refl),
        )

    -- it was asked for several more, that had gone out
    pub drops-then : (conn : Conn) (hand more : Outs) (h m m' k : Tally) (a b d : D) → m' ≡ m → EachOut (WentOut conn.namespace) more
        → (askings : List Asking) × SeatDrops keeps WentOut Unfit IsTaken conn hand h askings m × Askings loads a askings b
        → (askings : List Asking) × SeatDrops keeps WentOut Unfit IsTaken conn more m' askings k × Askings loads b askings d
        → (askings : List Asking) × SeatDrops keeps WentOut Unfit IsTaken conn hand h askings k × Askings loads a askings d
    drops-then conn hand more h m m' k a b d same out dropped later = (dropped.0 ++ later.0, drops-more conn hand more h m k dropped.0 later.0 dropped.1 (subst (λ (n : Tally). SeatDrops keeps WentOut Unfit IsTaken conn more n later.0 k) same later.1) out, askings_more loads a dropped.0 b later.0 d dropped.2 later.2)

-- ---- openings and closings

module _ {keeps : Bool} {WentOut : ℕ → ℕ → List ℕ → Type 0} {Unfit : Outcome → Type 0} {IsTaken : Conn → List ℕ → Type 0} where
  pub opens-so : (namespace : ℕ) (conn : Conn) {h k : Tally} → Counts keeps (input.Open namespace) (Opened conn) h.count k.count h.receipts k.receipts → SeatOpens keeps WentOut Unfit IsTaken namespace conn h k
  opens-so namespace conn counts = record {
    here = eqb-true conn.namespace namespace counts.fits;
    asks = λ kept. let g = counts.receipt kept in record { first = receipt_for (input.Open namespace) (Opened conn) g.0; asked = refl; opened = refl; grows = record { own = g.1.own; others = g.1.others } };
    one = counts.one;
  }

  -- behind what rested
  pub closes-so : {E : Type 0} (Z : Type 0) (conn : Conn) {h m k : Tally} (r : Result Output E) → SeatRests h m → IfOk r (λ output. Counts keeps (input.Close conn) output m.count k.count m.receipts k.receipts) → OnErr r ((k.count ≡ m.count) × SameReceipts m.receipts k.receipts × Z)
      → SeatCloses keeps WentOut Unfit IsTaken conn h k
  closes-so Z conn {h} {m} {k} (Ok output) rests counts none = let same = rests.count in let one = counts.one in record {
    asks = λ kept. inr (asks-behind rests.same (asks-counted counts kept));
    one = omega (arith, same, one);
    rises = omega (arith, same, one);
  }
  closes-so Z conn {h} {m} {k} (Err e) rests counts none = let same = rests.count in let still = none.0 in record {
    asks = λ kept. inl (asks-behind rests.same (asks-none conn.namespace m.receipts k.receipts none.1));
    one = omega (arith, same, still);
    rises = omega (arith, same, still);
  }

-- loads come only where they were wanted, where the service is shared
pub suits-shared : {wants : Bool} {given : Given} → (wants ≡ false → given.owed.loads ≡ None) → SuitsRequest false wants given
suits-shared unwanted = record { unwanted = unwanted; wanted = λ lent. absurd (let h : false ≡ true = lent in cc); waits = λ lent. absurd (let h : false ≡ true = lent in cc) }

-- What exchanges come to for a seat.

-- what was fed and settled
abbrev pub deeds_in : List Exchange → List Doing
deeds_in exchanges = map (λ (exchange : Exchange). exchange.doing) exchanges

-- the texts that were taken
abbrev pub text_of : Option (List ℕ) → List (List ℕ)
text_of None = []
text_of (Some text) = text ∷ []

abbrev pub texts_in : List Exchange → List (List ℕ)
texts_in exchanges = flat_map (λ exchange. text_of exchange.text) exchanges

pub texts-same : (xs : List Exchange) → concat (texts_in xs) ≡ replies_in xs
texts-same [] = refl
texts-same (x ∷ xs) = go x.text (texts-same xs)
  where
    go : (o : Option (List ℕ)) → concat (texts_in xs) ≡ replies_in xs → concat (text_of o ++ texts_in xs) ≡ unwrap_or o [] ++ replies_in xs
    go None more = more
    go (Some text) more = ap (λ l. text ++ l) more

-- ---- exchanges one after another

-- of which more is known than this
pub chain-weaker : {H : Type 0} {Came Less : H → Exchange → H → Type 0} → ((p : H) (x : Exchange) (q : H) → Came p x q → Less p x q) → (h : H) (hand : Outs) (xs : List Exchange) (k : H) (after : Outs) → Chain Came h hand xs k after → Chain Less h hand xs k after
chain-weaker less h hand [] k after c = c
chain-weaker less h hand (x ∷ xs) k after c = (c.0, c.1, less h x c.0 c.2, c.3, chain-weaker less c.0 c.1 xs k after c.4)

-- seen through a part of the places, they follow one another
pub chain-follows : {H P : Type 0} {Came : H → Exchange → H → Type 0} (f : H → P) (Fact : P → Exchange → P → Type 0) → ((p : H) (x : Exchange) (q : H) → Came p x q → Fact (f p) x (f q)) → (h : H) (hand : Outs) (xs : List Exchange) (k : H) (after : Outs) → Chain Came h hand xs k after → Follow Fact (f h) xs (f k)
chain-follows f Fact so h hand [] k after c = ap f c.0
chain-follows f Fact so h hand (x ∷ xs) k after c = (f c.0, so h x c.0 c.2, chain-follows f Fact so c.0 c.1 xs k after c.4)

module _ (keeps : Bool) (WentOut : ℕ → ℕ → List ℕ → Type 0) (Unfit : Outcome → Type 0) (IsTaken : Conn → List ℕ → Type 0) (conn : Conn) where
  abbrev Out : Outs → Type 0
  Out outs = EachOut (WentOut conn.namespace) outs

  -- what was asked and taken, and how much the seat counts
  pub record Passed (h : Tally) (xs : List Exchange) (k : Tally) (after : Outs) : Type 0 where
    pub asks : keeps ≡ true → Asks conn.namespace h.receipts k.receipts (flat_map (inputs_of conn) (deeds_in xs))
    pub short : All IsShort (deeds_in xs)
    pub out : All (IsOfLoad WentOut conn.namespace) (flat_map settlings_of (deeds_in xs))
    pub fit : All (MayBeGivenUp Unfit) (flat_map settlings_of (deeds_in xs))
    pub taken : All (IsTaken conn) (texts_in xs)
    pub few : k.count ≤ h.count + length (texts_in xs) + untaken_among xs
    pub hand : Out after

  -- each that is settled is of a load in hand
  of-done : (doing : Doing) (hand rest : Outs) → LeavesInHand doing hand rest → Out hand → All (IsOfLoad WentOut conn.namespace) (settlings_of doing)
  of-done (did.Fed piece moment held) hand rest leaves out = All-nil (IsOfLoad WentOut conn.namespace)
  of-done (did.Settled settling moment) hand rest leaves out =
      All-cons (IsOfLoad WentOut conn.namespace) settling [] (each-last (WentOut conn.namespace) hand (load_number settling) (settling_asking settling).key rest leaves out).1 (All-nil (IsOfLoad WentOut conn.namespace))
  of-done did.Looked hand rest leaves out = All-nil (IsOfLoad WentOut conn.namespace)

  -- ---- one, and then others

  one-input : (doing : Doing) → length (inputs_of conn doing) ≤ 1
  one-input (did.Fed piece moment held) = omega arith
  one-input (did.Settled settling moment) = settling-one conn.namespace moment settling
  one-input did.Looked = omega arith

  -- each has a text, or it was not taken
  counts-more : (x : Exchange) (xs : List Exchange) → length (texts_in (x ∷ xs)) + untaken_among (x ∷ xs) ≡ 1 + length (texts_in xs) + untaken_among xs
  counts-more x xs = ap (λ n. length (text_of x.text ++ texts_in xs) + n) (sum_by-cons (λ (e : Exchange). cond (is_none e.text) 1 0) x xs) ∙ go x.text
    where
      go : (o : Option (List ℕ)) → length (text_of o ++ texts_in xs) + (cond (is_none o) 1 0 + untaken_among xs) ≡ 1 + length (texts_in xs) + untaken_among xs
      go None = omega arith
      go (Some text) = omega arith

  texts-more : (o : Option (List ℕ)) (xs : List Exchange) → IfSome o (IsTaken conn) → All (IsTaken conn) (texts_in xs) → All (IsTaken conn) (text_of o ++ texts_in xs)
  texts-more None xs one all = all
  texts-more (Some text) xs one all = All-cons (IsTaken conn) text (texts_in xs) one all

  passed-none : (h : Tally) (hand : Outs) → Out hand → Passed h [] h hand
  passed-none h hand out = record {
    asks = λ kept. asks-none conn.namespace h.receipts h.receipts (λ n. refl);
    short = All-nil IsShort;
    out = All-nil (IsOfLoad WentOut conn.namespace);
    fit = All-nil (MayBeGivenUp Unfit);
    taken = All-nil (IsTaken conn);
    few = omega arith;
    hand = out;
  }

  passed-more : (h m k : Tally) (x : Exchange) (xs : List Exchange) (hand between after : Outs) → SeatComes keeps WentOut Unfit IsTaken conn h x m → Hands x hand between → Out hand → (Out between → Passed m xs k after) → Passed h (x ∷ xs) k after
  passed-more h m k x xs hand between after c hands out rest =
      let p = rest (each-kept (WentOut conn.namespace) x.loads hands.rest between hands.keeps c.out (each-rest (WentOut conn.namespace) x.doing hand hands.rest hands.leaves out)) in
      record {
        asks = λ kept. asks-more conn.namespace h.receipts m.receipts k.receipts (inputs_of conn x.doing) (flat_map (inputs_of conn) (deeds_in xs)) (c.asks kept) (p.asks kept);
        short = All-cons IsShort x.doing (deeds_in xs) c.short p.short;
        out = All-append (IsOfLoad WentOut conn.namespace) (settlings_of x.doing) (flat_map settlings_of (deeds_in xs)) (of-done x.doing hand hands.rest hands.leaves out) p.out;
        fit = All-append (MayBeGivenUp Unfit) (settlings_of x.doing) (flat_map settlings_of (deeds_in xs)) c.fit p.fit;
        taken = texts-more x.text xs c.text p.taken;
        few = let one = one-input x.doing in let own = c.counts in let few = p.few in let more = counts-more x xs in omega (arith, one, own, few, more);
        hand = p.hand;
      }

  -- as a seat has them
  pub chain-passed : {H : Type 0} (tally : H → Tally) (h : H) (hand : Outs) (xs : List Exchange) (k : H) (after : Outs) → Out hand → Chain (λ p x q. SeatComes keeps WentOut Unfit IsTaken conn (tally p) x (tally q)) h hand xs k after
      → Passed (tally h) xs (tally k) after
  chain-passed tally h hand [] k after out c = subst (λ t. Passed (tally h) [] (tally t) after) (sym c.0) (subst (Passed (tally h) [] (tally h)) (sym c.1) (passed-none (tally h) hand out))
  chain-passed tally h hand (x ∷ xs) k after out c = passed-more (tally h) (tally c.0) (tally k) x xs hand c.1 after c.2 c.3 out (λ here. chain-passed tally c.0 c.1 xs k after here c.4)
