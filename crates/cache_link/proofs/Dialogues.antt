-- Dialogues that go on.
use Rattle.std.proofs.Common.{◌≡◌, ℕ, List, [], ◌∷◌, ◌++◌, Option, None, Some, refl, sym, ◌∙◌, subst, arith, cond, ap, is_none, unwrap_or, append_assoc}
use Rattle.std.proofs.lemmas.Grind.{flat_map-append}
use Rattle.std.proofs.lemmas.List.{append-nil, append_cancel_right}
use Rattle.std.proofs.lemmas.List.Sums.{sum_by-append}
use Rattle.std.specs.Io.KnownBytes.{Consumes}
use Rattle.std.specs.Option.{option_map_or}
use Rattle.audit_model.specs.declared.event.Outcome.{Outcome}
use Rattle.audit_model.specs.declared.input.Conn.{Conn}
use Rattle.cache_run.proofs.devices.Sending.{appends_more}
use Rattle.cache_run.proofs.driver.Exchanges.{chain-more}
use Rattle.cache_run.proofs.driver.Interludes.{interlude-none}
use Rattle.cache_run.specs.Devices.Sent.{SentBut}
use Rattle.cache_run.specs.Devices.Sources.{Asking, Askings, Readings}
use Rattle.cache_run.specs.Driver.Drives.{LeftUndone, Talks, asked_of, late_of, lost_of}
use Rattle.cache_run.specs.Driver.Exchanges.{Chain, Exchange, Outs, asks_of, askings_in, bytes_fed, moments_in, pieces_in, replies_in, readings_of}
use Rattle.cache_run.specs.Driver.Interludes.{Interlude, Station, together}
use Rattle.cache_run.specs.declared.driver.host.Host.{Ghosts as Ways}
use Rattle.cache_link.specs.Dialogues.{ComesByExchange, ComesBehind, Dialogue, Wire}

-- a byte that is read later
abbrev pub sentinel : List ℕ
sentinel = 0 ∷ []

-- what was not fed, where nothing was refused
pub lost-is : (rest : LeftUndone) (inbox : List ℕ) → rest.refused ≡ None → rest.unfed ≡ inbox → lost_of rest ≡ inbox
lost-is rest inbox accepted unfed = ap (λ z. option_map_or bytes_fed z [] ++ rest.unfed) accepted ∙ unfed

-- readings and askings, cut in two
pub readings-split : {C : Type 0} (reads : C → ℕ → C → Type 0) (c : C) (ts us : List ℕ) (e : C) → Readings reads c (ts ++ us) e → (d : C) × Readings reads c ts d × Readings reads d us e
readings-split reads c [] us e p = (c, refl, p)
readings-split reads c (t ∷ ts) us e p = let q = readings-split reads p.0 ts us e p.2 in (q.0, (p.0, p.1, q.1), q.2)

pub askings-split : {L : Type 0} (loads : L → List ℕ → Option Outcome → L → Type 0) (l : L) (xs ys : List Asking) (n : L) → Askings loads l (xs ++ ys) n → (m : L) × Askings loads l xs m × Askings loads m ys n
askings-split loads l [] ys n p = (l, refl, p)
askings-split loads l (x ∷ xs) ys n p = let q = askings-split loads p.0 xs ys n p.2 in (q.0, (p.0, p.1, q.1), q.2)

pub same-together : {H K D : Type 0} (h k : H) (c d : K) (l m : D) → k ≡ h → d ≡ c → m ≡ l → together k d m ≡ together h c l
same-together h k c d l m place clock loader = rw (place, clock, loader) refl

module _ {X H K D : Type 0} (ways : Ways X H) (reads : K → ℕ → K → Type 0) (loads : D → List ℕ → Option Outcome → D → Type 0) (conn : Conn) where
  -- exchanges with the clock's readings, and with what the loader returned
  pub chain-station : (h : H) (hand : Outs) (xs : List Exchange) (k : H) (after : Outs) (c d : K) (l m : D) → Chain (ways.came conn) h hand xs k after → Readings reads c (moments_in xs) d → Askings loads l (askings_in xs) m
      → Chain (ComesByExchange ways reads loads conn) (together h c l) hand xs (together k d m) after
  chain-station h hand [] k after c d l m chain told asked = (same-together h k c d l m chain.0 told asked, chain.1)
  chain-station h hand (x ∷ xs) k after c d l m chain told asked =
      let ts = readings-split reads c (readings_of x.doing) (moments_in xs) d told in
      let ks = askings-split loads l (asks_of x.doing) (askings_in xs) m asked in
      (together chain.0 ts.0 ks.0, chain.1, record { came = chain.2; told = ts.1; asked = ks.1 }, chain.3, chain-station chain.0 chain.1 xs k after ts.0 d ks.0 m chain.4 ts.2 ks.2)

  -- between them nobody had a turn
  pub chain-behind : (p : Station H K D) (hand : Outs) (xs : List Exchange) (q : Station H K D) (after : Outs) → Chain (ComesByExchange ways reads loads conn) p hand xs q after → Chain (ComesBehind ways reads loads conn) p hand xs q after
  chain-behind p hand [] q after chain = chain
  chain-behind p hand (x ∷ xs) q after chain = (chain.0, chain.1, record { begin = p; others = interlude-none ways reads loads conn p; comes = chain.2 }, chain.3, chain-behind chain.0 chain.1 xs q after chain.4)

  -- where exchanges that followed leave a connection
  pub record Follows (start : Station H K D) (xs : List Exchange) (q : Station H K D) (after : Outs) : Type 0 where
    pub last : Station H K D
    pub chain : Chain (ComesBehind ways reads loads conn) start [] xs last after
    pub others : Interlude ways reads loads conn last q

  -- exchanges that follow those before others' turns
  pub chain-after : (start : Station H K D) (xs : List Exchange) (last now : Station H K D) (ys : List Exchange) (q : Station H K D) (after : Outs) → Chain (ComesBehind ways reads loads conn) start [] xs last [] → Interlude ways reads loads conn last now
      → Chain (ComesByExchange ways reads loads conn) now [] ys q after → Follows start (xs ++ ys) q after
  chain-after start xs last now [] q after before others chain =
      let same : xs ≡ xs ++ [] = sym (append-nil xs) in
      record {
        last = last;
        chain = subst (λ (z : List Exchange). Chain (ComesBehind ways reads loads conn) start [] z last after) same (subst (λ (z : Outs). Chain (ComesBehind ways reads loads conn) start [] xs last z) (sym chain.1) before);
        others = subst (λ (z : Station H K D). Interlude ways reads loads conn last z) (sym chain.0) others;
      }
  chain-after start xs last now (y ∷ ys) q after before others chain =
      record {
        last = q;
        chain = chain-more (ComesBehind ways reads loads conn) start [] xs last [] (y ∷ ys) q after before
            (chain.0, chain.1, record { begin = now; others = others; comes = chain.2 }, chain.3, chain-behind chain.0 chain.1 ys q after chain.4);
        others = interlude-none ways reads loads conn q;
      }

  -- exchanges that took place without others, up to what was refused
  pub follows-talks : (start last now : Station H K D) (xs : List Exchange) (k : H) (x y : Option (List ℕ)) (u v : Option (List ℕ)) (c : K) (l : D) (hand : Outs) (left : LeftUndone) → Chain (ComesBehind ways reads loads conn) start [] xs last [] → Interlude ways reads loads conn last now
      → (talks : Talks (ways.came conn) reads loads now.place k (record { remaining = x; contents = y; clock = now.clock; loader = now.loader }) (record { remaining = u; contents = v; clock = c; loader = l }) [] hand left)
      → (q : Station H K D) × Follows start (xs ++ talks.exchanges) q hand × (late_of left ≡ [] → asked_of left ≡ [] → q ≡ together k c l)
  follows-talks start last now xs k x y u v c l hand left before others talks =
      let ts = readings-split reads now.clock (moments_in talks.exchanges) (late_of left) c talks.clock in
      let ks = askings-split loads now.loader (askings_in talks.exchanges) (asked_of left) l talks.loader in (
        together k ts.0 ks.0,
        chain-after start xs last now talks.exchanges (together k ts.0 ks.0) hand before others (chain-station now.place [] talks.exchanges k hand now.clock ts.0 now.loader ks.0 talks.chain ts.1 ks.1),
        λ early none. same-together k k c ts.0 l ks.0 refl (sym (subst (λ (z : List ℕ). Readings reads ts.0 z c) early ts.2)) (sym (subst (λ (z : List Asking). Askings loads ks.0 z l) none ks.2)),
      )

  -- A dialogue goes on: exchanges feed what is in an inbox, and what is owed is gathered behind what was there.
  module _ (start last now : Station H K D) (a b : Wire) (rest : LeftUndone) (inbox : List ℕ) (dialogue : Dialogue ways reads loads conn start last a b [] rest) (others : Interlude ways reads loads conn last now) (accepted : rest.refused ≡ None) (unfed : rest.unfed ≡ inbox) (unsent : rest.unsent ≡ []) (nothing : rest.untaken ≡ 0) where
    abbrev pub dialogue-more : (k : H) (before gathered : List ℕ) (c : K) (l : D) (hand : Outs) (left : LeftUndone) → before ≡ [] → (talks : Talks (ways.came conn) reads loads now.place k (record { remaining = Some (inbox ++ sentinel); contents = Some before; clock = now.clock; loader = now.loader }) (record { remaining = Some sentinel; contents = Some gathered; clock = c; loader = l }) [] hand left)
        → (q : Station H K D) (follows : Follows start (dialogue.exchanges ++ talks.exchanges) q hand) → Dialogue ways reads loads conn start follows.last a b hand (record left { unsent = gathered ++ left.unsent })
    dialogue-more k before gathered c l hand left none talks q follows =
        let xs = dialogue.exchanges in
        let ys = talks.exchanges in
        let lost : List ℕ = lost_of left in
        record {
          exchanges = xs ++ ys;
          chain = follows.chain;
          read = subst (Consumes a.remaining b.remaining)
              (ap (λ z. pieces_in xs ++ z) (lost-is rest inbox accepted unfed ∙ append_cancel_right inbox (pieces_in ys ++ lost) sentinel talks.read) ∙ sym (append_assoc (pieces_in xs) (pieces_in ys) lost) ∙ ap (λ z. z ++ lost) (sym (flat_map-append (λ (e : Exchange). bytes_fed e.doing) xs ys))) dialogue.read;
          sent = dialogue.sent;
          wrote = dialogue.wrote;
          replies =
              let all : dialogue.sent ≡ replies_in xs = sym (append-nil dialogue.sent) ∙ ap (λ z. dialogue.sent ++ z) (sym unsent) ∙ dialogue.replies in
              let some : gathered ≡ talks.sent = talks.wrote ∙ ap (λ z. z ++ talks.sent) none in
              ap (λ z. dialogue.sent ++ (z ++ left.unsent)) some ∙ ap (λ z. dialogue.sent ++ z) talks.replies ∙ ap (λ z. z ++ replies_in ys) all ∙ sym (flat_map-append (λ (e : Exchange). unwrap_or e.text []) xs ys);
          untaken = let both = sum_by-append (λ (e : Exchange). cond (is_none e.text) 1 0) xs ys in let first = dialogue.untaken in let second = talks.untaken in omega (arith, both, first, second, nothing);
        }

  -- some of what is owed was written
  abbrev pub dialogue-sent : (start last : Station H K D) (a b : Wire) (hand : Outs) (rest : LeftUndone) (backlog left lost : List ℕ) (c : Option (List ℕ)) → SentBut left backlog b.contents c → rest.unsent ≡ backlog ++ lost → Dialogue ways reads loads conn start last a b hand rest
      → Dialogue ways reads loads conn start last a (record b { contents = c }) hand (record rest { unsent = left ++ lost })
  dialogue-sent start last a b hand rest backlog left lost c wrote unsent x = record {
    exchanges = x.exchanges;
    chain = x.chain;
    read = x.read;
    sent = x.sent ++ wrote.sent;
    wrote = appends_more a.contents b.contents c x.sent wrote.sent x.wrote wrote.wrote;
    replies = append_assoc x.sent wrote.sent (left ++ lost) ∙ ap (λ z. x.sent ++ z) (sym (append_assoc wrote.sent left lost) ∙ ap (λ z. z ++ lost) wrote.whole ∙ sym unsent) ∙ x.replies;
    untaken = x.untaken;
  }
