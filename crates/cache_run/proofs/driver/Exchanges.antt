-- Exchanges: a piece that is fed, a load that is settled, and one after another.
use Rattle.std.proofs.Common.{◌≡◌, ◌≢◌, ℕ, ◌^◌, ◌≤◌, cond, List, [], ◌∷◌, ◌++◌, Option, None, Some, refl, sym, ◌∙◌, subst, arith, Bool, true, false, drop, length, take, ap, is_none, unwrap_or, is_some, Result, Ok, Err, IfErr, OnOk, OnErr, ◌==◌, ◌-◌, nat_le, suc, zero, IfSome, append_assoc, ◌+◌, ◌⊎◌, inl, inr, IfOk}
use Rattle.std.proofs.lemmas.Bool.{le-leb, ne_eqb, cases_lt}
use Rattle.std.proofs.lemmas.Grind.{flat_map-append}
use Rattle.std.proofs.lemmas.List.{append-nil, drop_all, take-append-drop, length-append}
use Rattle.std.proofs.lemmas.List.Elements.{All-pop}
use Rattle.std.proofs.lemmas.List.Sums.{sum_by-append}
use Rattle.std.proofs.lemmas.Option.{same_Some, slice_get-get_or}
use Rattle.std.specs.Io.KnownBytes.{Appends, Consumes, IsAtEnd}
use Rattle.std.specs.List.{last_or, slice_get}
use Rattle.std.specs.Option.{option_map}
use Rattle.audit_model.specs.declared.command.Closing.{Closing}
use Rattle.audit_model.specs.declared.event.Outcome.{Outcome}
use Rattle.audit_model.specs.declared.input.Conn.{Conn}
use Rattle.audit_model.specs.declared.input.LoadId.{LoadId}
use Rattle.cache_run.proofs.devices.Sending.{askings_more, consumes_more, readings_more, same_consumes, same_appends, appends_more}
use Rattle.cache_run.specs.Devices.Sent.{SentBut}
use Rattle.cache_run.specs.Devices.Sources.{Askings, Readings, Asking}
use Rattle.cache_run.specs.Devices.Watched.{device, failures}
use Rattle.cache_run.specs.Driver.Causes.{Because, HasAsked, RunsFor, RunsOut, GoesOn, Reads}
use Rattle.cache_run.specs.Driver.Driven.{MovesSession, Spot, EndsBroke, EndsOn, IsClosed, Settles, asks_nobody, HasReadNothing, Stopped, Underway, unfed, ComesToProgress, Finished, GoesForward, IsAnyFooting, Since, StandsAsLeft, beside}
use Rattle.cache_run.specs.Driver.Drives.{IsLate, IsOfHand, LeftUndone, Outside, Talks, asked_of, late_of, lost_of, no_rest}
use Rattle.cache_run.specs.Driver.Exchanges.{Doing, Exchange, Hands, asks_of, bytes_fed, readings_of, AreDone, Fed, HaveClosed, HoldsNothing, ComeIntoHand, LeavesNothing, Outs, EachOut, IsLastInHand, LeavesInHand, Looked, Settled, load_number, settling_asking, Chain, askings_in, moments_in, pieces_in, replies_in}
use Rattle.cache_run.specs.Driver.Hosting.{Stops, WereSent, footing_by, SettlesBy, SuitsRequest, exchange_of, text_of}
use Rattle.cache_run.specs.declared.devices.errors.RunError.{RunError}
use Rattle.cache_run.specs.declared.devices.errors.RunError.TheVariants.{Moment, Read, Write, OutOfMemory, UsedUp}
use Rattle.cache_run.specs.declared.devices.watched.Watched.{Watched}
use Rattle.cache_run.specs.declared.driver.driving.Progress.{Progress}
use Rattle.cache_run.specs.declared.driver.driving.Progress.TheVariants.{More, Over}
use Rattle.cache_run.specs.declared.driver.host.Given.{Given}
use Rattle.cache_run.specs.declared.driver.session.Footing.{Footing}
use Rattle.cache_run.specs.declared.driver.session.Footing.TheVariants.{Closed, Ready, Waiting}
use Rattle.cache_run.specs.declared.driver.session.Session.{Session}

-- what is left of one exchange
abbrev pub rest_of : List ℕ → ℕ → LeftUndone
rest_of unsent untaken = record { refused = None; unfed = []; unsent = unsent; untaken = untaken }

-- what is left where something was refused
abbrev pub refused_of : Doing → LeftUndone
refused_of doing = record { refused = Some doing; unfed = []; unsent = []; untaken = 0 }

pub refused-some : (doing : Doing) → (refused_of doing).refused ≢ None
refused-some doing is = let no : Some doing ≡ None = is in cc

-- an error by which a host refused
pub refused-broke : (e : RunError) (used_up : Type 0) (doing : Doing) (moment : ℕ) → readings_of doing ≡ moment ∷ [] → Stops used_up (2 ^ 63 ≤ moment) e → (0 ≤ 1) × (e ≡ Moment → IsLate (refused_of doing))
refused-broke e used_up doing moment told why = (omega arith, λ is. record { doing = doing; refused = refl; moment = moment; told = told; late = subst (Stops used_up (2 ^ 63 ≤ moment)) is why })

module _ {H K D : Type 0} {Came : Conn → H → Exchange → H → Type 0} {Closes : Conn → H → H → Type 0} {reads : K → ℕ → K → Type 0} {loads : D → List ℕ → Option Outcome → D → Type 0} {End : H → List Exchange → LeftUndone → Type 0} (s t : Session) (p q : Spot H K D) where
  pub moves-one : (x : Exchange) (unsent : List ℕ) (untaken : ℕ) → cond (is_none x.text) 1 0 ≡ untaken → Came s.conn p.place x q.place → Hands x s.taken.items t.taken.items → s.inbox ≡ bytes_fed x.doing ++ t.inbox → SentBut unsent (unwrap_or x.text []) p.contents q.contents
      → Readings reads p.clock (readings_of x.doing) q.clock → Askings loads p.loader (asks_of x.doing) q.loader → End q.place (x ∷ []) (rest_of unsent untaken) → MovesSession Came Closes reads loads End s t p q
  moves-one x unsent untaken count came hands fed sends told asked ends = record {
    place = q.place;
    behind = λ r closes. closes;
    rest = rest_of unsent untaken;
    talks = record {
      exchanges = x ∷ [];
      chain = (q.place, t.taken.items, came, hands, (refl, refl));
      read = subst (λ z. s.inbox ≡ z ++ t.inbox) (sym (append-nil (bytes_fed x.doing)) ∙ sym (append-nil (bytes_fed x.doing ++ []))) fed;
      sent = sends.sent;
      wrote = sends.wrote;
      replies = sends.whole ∙ sym (append-nil (unwrap_or x.text []));
      clock = subst (λ z. Readings reads p.clock z q.clock) (sym (append-nil (readings_of x.doing)) ∙ sym (append-nil (readings_of x.doing ++ []))) told;
      loader = subst (λ z. Askings loads p.loader z q.loader) (sym (append-nil (asks_of x.doing)) ∙ sym (append-nil (asks_of x.doing ++ []))) asked;
      refused = tt;
      untaken = omega (arith, count);
    };
    ends = ends;
  }

  pub moves-refused : (doing : Doing) → s.inbox ≡ bytes_fed doing ++ t.inbox → t.taken.items ≡ s.taken.items → q.contents ≡ p.contents → Readings reads p.clock (readings_of doing) q.clock → Askings loads p.loader (asks_of doing) q.loader → IsOfHand s.taken.items doing
      → ((r : H) → Closes s.conn q.place r → Closes s.conn p.place r) → End p.place [] (refused_of doing) → MovesSession Came Closes reads loads End s t p q
  moves-refused doing fed hand same told asked of_hand behind ends = record {
    place = p.place;
    behind = behind;
    rest = refused_of doing;
    talks = record {
      exchanges = [];
      chain = (refl, hand);
      read = subst (λ z. s.inbox ≡ z ++ t.inbox) (sym (append-nil (bytes_fed doing))) fed;
      sent = [];
      wrote = subst (λ z. Appends p.contents z []) (sym same) (same_appends p.contents);
      replies = refl;
      clock = told;
      loader = asked;
      refused = subst (λ z. IsOfHand z doing) (sym hand) of_hand;
      untaken = refl;
    };
    ends = ends;
  }

-- replies that were taken were sent
hands-some : (o : Result (Unit {0}) RunError) (items : List ℕ) (a b : Option (List ℕ)) → OnOk o (SentBut [] items a b) → OnErr o ((rest : List ℕ) × SentBut rest items a b) → WereSent o (Some items) a b
hands-some (Ok done) items a b ok err = (refl, ok)
hands-some (Err e) items a b ok err = err

pub hands-out : (o : Result (Unit {0}) RunError) (text : Option (List ℕ)) (items sent : List ℕ) (a b : Option (List ℕ)) → text ≡ Some items → sent ≡ items → OnOk o (SentBut [] sent a b) → OnErr o ((rest : List ℕ) × SentBut rest sent a b)
    → WereSent o text a b
hands-out o text items sent a b is same ok err =
    subst (λ t. WereSent o t a b) (sym is)
    (hands-some o items a b (subst (λ z. OnOk o (SentBut [] z a b)) same ok) (subst (λ z. OnErr o ((rest : List ℕ) × SentBut rest z a b)) same err))

-- the last of several
last-behind : {A : Type 0} (o : Option A) (xs : List A) (x : A) → last_or o (xs ++ x ∷ []) ≡ Some x
last-behind o [] x = refl
last-behind o (y ∷ ys) x = last-behind (Some y) ys x

pub done-behind : (xs : List Exchange) (x : Exchange) → LeavesNothing x → AreDone (xs ++ x ∷ [])
done-behind xs x leaves = rw (last-behind None xs x) leaves

pub closed-behind : (xs : List Exchange) (x : Exchange) → x.closing ≢ None → HaveClosed (xs ++ x ∷ [])
closed-behind xs x closed = rw (last-behind None xs x) closed

-- a closing was told where a connection stands closed
pub footing-closed : (closing : Option Closing) (waits : Bool) → footing_by closing waits ≡ Closed → closing ≢ None
footing-closed (Some why) waits is = λ no. let h : Some why ≡ None = no in cc
footing-closed None true is = λ no. let h : Waiting ≡ Closed = is in cc
footing-closed None false is = λ no. let h : Ready ≡ Closed = is in cc

pub holds-none : (piece : List ℕ) (moment : ℕ) (held : Bool) (closing : Option Closing) → held ≡ false → HoldsNothing (Fed piece moment held) closing
holds-none piece moment true (Some why) is = tt
holds-none piece moment false (Some why) is = tt
holds-none piece moment false None is = tt
holds-none piece moment true None is = let no : true ≡ false = is in cc

-- loads that are wanted and kept where none was in hand
pub keeps-none : (loads : Option Outs) (before after : Outs) → ComeIntoHand loads before after → is_some loads ≡ true → after ≡ [] → loads ≡ Some []
keeps-none None before after keeps some none = let no : false ≡ true = some in cc
keeps-none (Some l) before after keeps some none = ap Some (sym keeps.1 ∙ none)

pub some-mapped : {A B : Type 0} (f : A → B) (o : Option A) → is_some o ≡ true → is_some (option_map f o) ≡ true
some-mapped f None is = is
some-mapped f (Some x) is = refl

pub few-one : (x : Bool) → cond x 1 0 ≤ 1
few-one true = omega arith
few-one false = omega arith

-- what is fed and what is left of an inbox
pub fed-cut : (inbox slice rest : List ℕ) (n : ℕ) → slice ≡ inbox → rest ≡ drop n inbox → inbox ≡ take n slice ++ rest
fed-cut inbox slice rest n is left = rw (is, left) (sym (take-append-drop n inbox))

pub cut-whole : (inbox slice rest : List ℕ) (n : ℕ) → slice ≡ inbox → rest ≡ drop n inbox → n ≡ length slice → rest ≡ []
cut-whole inbox slice rest n is left all = let same = ap length is in left ∙ drop_all n inbox (omega (arith, all, same))

-- where no moment is too late, another error came
pub not-late : (w : Type 0) (e : RunError) → Because ⊥ w ⊥ ⊥ e → e ≢ Moment
not-late w e why is = subst (Because ⊥ w ⊥ ⊥) is why

-- nothing is held back where a connection has closed
holds-closed : (doing : Doing) (closing : Option Closing) → closing ≢ None → HoldsNothing doing closing
holds-closed doing (Some why) closed = tt
holds-closed doing None closed = absurd (closed refl)

-- ---- an exchange that hands out what a connection is owed

module _ {H K D : Type 0} {Came : Conn → H → Exchange → H → Type 0} {Closes : Conn → H → H → Type 0} {reads : K → ℕ → K → Type 0} {loads : D → List ℕ → Option Outcome → D → Type 0} (lent : Bool) (s t : Session) (p q : Spot H K D) (x : Exchange)
    (came : Came s.conn p.place x q.place) (hands : Hands x s.taken.items t.taken.items) (fed : s.inbox ≡ bytes_fed x.doing ++ t.inbox) (told : Readings reads p.clock (readings_of x.doing) q.clock) (asked : Askings loads p.loader (asks_of x.doing) q.loader) where
  pub one-broke : (e : RunError) → e ≢ Moment → (unsent : List ℕ) → SentBut unsent (unwrap_or x.text []) p.contents q.contents → MovesSession Came Closes reads loads (EndsBroke e) s t p q
  one-broke e early unsent sends = moves-one s t p q x unsent _ refl came hands fed sends told asked (few-one (is_none x.text), λ is. absurd (early is))

  pub one-went : (AtRest : Footing → Type 0) → (t.footing ≡ Closed → x.closing ≢ None) → (lent ≡ true → t.taken.items ≡ [] → AtRest t.footing → LeavesNothing x) → (is_none x.text ≡ false) × SentBut [] (unwrap_or x.text []) p.contents q.contents
      → MovesSession Came Closes reads loads (EndsOn lent AtRest t q.place) s t p q
  one-went AtRest closes leaves sent =
      moves-one s t p q x [] 0 (ap (λ (z : Bool). cond z 1 0) sent.0) came hands fed sent.1 told asked
      (refl, refl, λ before. record { closed = λ is. closed-behind before x (closes is); done = λ is none settled. done-behind before x (leaves is none settled) })

  pub one-settles : (t.footing ≡ Closed → x.closing ≢ None) → (lent ≡ true → t.taken.items ≡ [] → x.loads ≡ Some []) → (w : Type 0) (o : Result (Unit {0}) RunError) → WereSent o x.text p.contents q.contents → IfErr o (Because ⊥ w ⊥ ⊥) → Settles Came Closes reads loads lent o s t p q
  one-settles closes empty w (Ok done) sent why = one-went IsClosed closes (λ is none settled. record { none = empty is none; all = holds-closed x.doing x.closing (closes settled) }) sent
  one-settles closes empty w (Err e) sent why = one-broke e (not-late w e why) sent.0 sent.1

-- A load in hand that is settled, and what comes one after another.

-- ---- what is in hand

-- none is, as it is tested
pub none-there : {A : Type 0} (hand : List A) (count : ℕ) (empty : Bool) → count ≡ length hand → empty ≡ (count == 0) → empty ≡ true → hand ≡ []
none-there [] count empty counted is e = refl
none-there (out ∷ hand) count empty counted is e = let no : false ≡ true = sym (is ∙ ne_eqb count 0 (λ none. absurd (omega (arith, none, counted)))) ∙ e in cc

-- what is true of each
module _ (Fact : ℕ → List ℕ → Type 0) where
  -- is true of the last one, which is settled, and of the rest
  pub each-last : (hand : Outs) (load : ℕ) (key : List ℕ) (rest : Outs) → IsLastInHand hand load key rest → EachOut Fact hand → EachOut Fact rest × Fact load key
  each-last hand load key rest last all =
      let parts = All-pop (λ (out : LoadId × List ℕ). Fact out.0.number out.1) hand rest (Some (last.0, key)) last.2 all in (parts.0, subst (λ n. Fact n key) last.1 parts.1)

  -- of those that are left, whatever was done
  pub each-rest : (doing : Doing) (hand rest : Outs) → LeavesInHand doing hand rest → EachOut Fact hand → EachOut Fact rest
  each-rest (Fed piece moment held) hand rest leaves all = subst (EachOut Fact) (sym leaves) all
  each-rest (Settled settling moment) hand rest leaves all = (each-last hand (load_number settling) (settling_asking settling).key rest leaves all).0
  each-rest Looked hand rest leaves all = subst (EachOut Fact) (sym leaves) all

  -- and of those that are taken
  pub each-kept : (loads : Option Outs) (rest after : Outs) → ComeIntoHand loads rest after → IfSome loads (EachOut Fact) → EachOut Fact rest → EachOut Fact after
  each-kept None rest after keeps given all = subst (EachOut Fact) (sym keeps) all
  each-kept (Some loads) rest after keeps given all = subst (EachOut Fact) (sym keeps.1) given

-- ---- the last load in hand

last-at : (m : ℕ) (hand : Outs) (out : LoadId × List ℕ) → length hand ≡ suc m → slice_get hand m ≡ Some out → hand ≡ take m hand ++ out ∷ []
last-at m [] out count at = absurd (omega (arith, count))
last-at zero (o ∷ []) out count at = ap (λ (x : LoadId × List ℕ). x ∷ []) (same_Some o out at)
last-at zero (o ∷ p ∷ hand) out count at = absurd (omega (arith, count))
last-at (suc m) (o ∷ hand) out count at = ap (λ (l : Outs). o ∷ l) (last-at m hand out (omega (arith, count)) at)

last-count : (hand : Outs) (out : LoadId × List ℕ) → slice_get hand (length hand - 1) ≡ Some out → length hand ≡ suc (length hand - 1)
last-count [] out at = let no : None ≡ Some out = at in cc
last-count (o ∷ hand) out at = omega arith

-- the last in hand, as it is looked up and taken out
pub hand-last : (hand seen after : Outs) (out : LoadId × List ℕ) (last : Option (LoadId × List ℕ)) (count : ℕ) (key : List ℕ) → seen ≡ hand → last ≡ slice_get seen (length seen - 1) → last ≡ Some out → key ≡ out.1 → count ≡ length hand → after ≡ take (count - 1) hand
    → IsLastInHand hand out.0.number key after
hand-last hand seen after out last count key same at is keyed counted rest =
    let found : slice_get hand (length hand - 1) ≡ Some out = ap (λ (l : Outs). slice_get l (length l - 1)) (sym same) ∙ sym at ∙ is in
    let left : after ≡ take (length hand - 1) hand = rest ∙ ap (λ (k : ℕ). take (k - 1) hand) counted in
    (out.0, refl, last-at (length hand - 1) hand out (last-count hand out found) found ∙ ap (λ (l : Outs). l ++ out ∷ []) (sym left) ∙ ap (λ (k : List ℕ). after ++ (out.0, k) ∷ []) (sym keyed))

-- none is, as the last is looked up
pub none-last : (hand seen : Outs) (last : Option (LoadId × List ℕ)) → seen ≡ hand → last ≡ slice_get seen (length seen - 1) → last ≡ None → hand ≡ []
none-last [] seen last same at is = refl
none-last (o ∷ hand) seen last same at is =
    let none : slice_get (o ∷ hand) (length (o ∷ hand) - 1) ≡ None = ap (λ (l : Outs). slice_get l (length l - 1)) (sym same) ∙ sym at ∙ is in
    let some = slice_get-get_or (o ∷ hand) (length (o ∷ hand) - 1) o (omega arith) in cc

-- one at most is in hand, as it is counted
pub wanted-by : (n count : ℕ) → count ≡ n → n ≤ 1 → nat_le count 1 ≡ true
wanted-by n count counted few = le-leb count 1 (omega (arith, counted, few))

-- where loads are wanted behind the last in hand, and none is in hand then, they were taken and there was none
settled-none : (wants : Bool) (loads : Option Outs) (hand rest after : Outs) (load : ℕ) (key : List ℕ) → IsLastInHand hand load key rest → (length hand ≤ 1 → wants ≡ true) → (wants ≡ true → is_some loads ≡ true) → ComeIntoHand loads rest after → after ≡ [] → loads ≡ Some []
settled-none wants (Some l) hand rest after load key last wanted given keeps none = keeps-none (Some l) rest after keeps refl none
settled-none wants None hand rest after load key last wanted given keeps none = grind arith

module _ {H K D : Type 0} {Came : Conn → H → Exchange → H → Type 0} {Closes : Conn → H → H → Type 0} {reads : K → ℕ → K → Type 0} {loads : D → List ℕ → Option Outcome → D → Type 0} (lent : Bool) (s t : Session) (p q : Spot H K D) (load moment : ℕ) (key : List ℕ) (said : Option Outcome) (rest : Outs)
    (last : IsLastInHand s.taken.items load key rest) (told : reads p.clock moment q.clock) (asked : loads p.loader key said q.loader) (inbox : t.inbox ≡ s.inbox) where
  -- the last load in hand was settled, and what came of it is handed out
  pub settle-goes : (wants : Bool) (one : Given) (doing : Doing) → SettlesBy load moment (record { key = key; answer = said }) doing → Came s.conn p.place (exchange_of doing one) q.place → ComeIntoHand (option_map (λ loads. loads.items) one.owed.loads) rest t.taken.items → t.footing ≡ footing_by one.owed.closing one.owed.waits
      → SuitsRequest lent wants one → (length s.taken.items ≤ 1 → wants ≡ true) → (w : Type 0) (o : Result (Unit {0}) RunError) → WereSent o (text_of one) p.contents q.contents → IfErr o (Because ⊥ w ⊥ ⊥) → Settles Came Closes reads loads lent o s t p q
  settle-goes wants one doing by came keeps footing suits wanted =
      let asking : Asking = record { key = key; answer = said } in
      let settling = by.settling in
      let leaves = subst (λ n. IsLastInHand s.taken.items n (settling_asking settling).key rest) (sym by.numbered) (subst (λ (x : Asking). IsLastInHand s.taken.items load x.key rest) (sym by.of) last) in
      one-settles lent s t p q (exchange_of (Settled settling moment) one) (subst (λ d. Came s.conn p.place (exchange_of d one) q.place) by.done came) (record { rest = rest; leaves = leaves; keeps = keeps }) (sym inbox) (q.clock, told, refl)
      (subst (λ x. Askings loads p.loader (x ∷ []) q.loader) (sym by.of) (q.loader, asked, refl))
      (λ is. footing-closed one.owed.closing one.owed.waits (sym footing ∙ is))
      (λ is none. settled-none wants (option_map (λ loads. loads.items) one.owed.loads) s.taken.items rest t.taken.items load key last wanted (λ want. some-mapped (λ loads. loads.items) one.owed.loads (suits.wanted is want)) keeps none)

-- the loader was asked
pub asked-once : {D : Type 0} (loads : D → List ℕ → Option Outcome → D → Type 0) (l m : D) (key : List ℕ) (said : Option Outcome) → loads l key said m → HasAsked loads l 1 m
asked-once loads l m key said asked = (record { key = key; answer = said } ∷ [], (m, asked, refl), omega arith)

-- ---- none was asked

asked-nobody : (l : Unit {0}) (ks : List Asking) (m : Unit {0}) → Askings asks_nobody l ks m → ks ≡ []
asked-nobody l [] m asked = refl
asked-nobody l (k ∷ ks) m asked = absurd asked.1

-- seen beside a loader
pub moves-beside : {H K D : Type 0} {Came : Conn → H → Exchange → H → Type 0} {Closes : Conn → H → H → Type 0} {reads : K → ℕ → K → Type 0} (loads : D → List ℕ → Option Outcome → D → Type 0) {End : H → List Exchange → LeftUndone → Type 0} {s t : Session} {h k : H} {a b : Option (List ℕ)} {c d : K} (l : D)
    → MovesSession Came Closes reads asks_nobody End s t (record { place = h; contents = a; clock = c; loader = tt }) (record { place = k; contents = b; clock = d; loader = tt })
    → MovesSession Came Closes reads loads End s t (record { place = h; contents = a; clock = c; loader = l }) (record { place = k; contents = b; clock = d; loader = l })
moves-beside loads l x = record {
  place = x.place;
  behind = x.behind;
  rest = x.rest;
  talks = record {
    exchanges = x.talks.exchanges;
    chain = x.talks.chain;
    read = x.talks.read;
    sent = x.talks.sent;
    wrote = x.talks.wrote;
    replies = x.talks.replies;
    clock = x.talks.clock;
    loader = subst (λ (z : List Asking). Askings loads l z l) (sym (asked-nobody tt _ tt x.talks.loader)) refl;
    refused = x.talks.refused;
    untaken = x.talks.untaken;
  };
  ends = x.ends;
}

-- where it neither takes commands nor waits, it has closed
pub closed-left : (footing : Footing) → footing ≢ Waiting → footing ≢ Ready → footing ≡ Closed
closed-left Ready wait ready = absurd (ready refl)
closed-left Waiting wait ready = absurd (wait refl)
closed-left Closed wait ready = refl

-- ---- why it stops

-- its cause, seen from further off
pub because-map : {R W U L R' W' U' L' : Type 0} (e : RunError) → (R → R') → (W → W') → (U → U') → (L → L') → Because R W U L e → Because R' W' U' L' e
because-map Read f g h k b = f b
because-map Write f g h k b = g b
because-map OutOfMemory f g h k b = tt
because-map UsedUp f g h k b = h b
because-map Moment f g h k b = k b

pub why-map : {X R W U L R' W' U' L' : Type 0} (o : Result X RunError) → (R → R') → (W → W') → (U → U') → (L → L') → IfErr o (Because R W U L) → IfErr o (Because R' W' U' L')
why-map (Ok done) f g h k b = tt
why-map (Err e) f g h k b = because-map e f g h k b

-- A connection that goes on: exchanges one after another, and what is read and fed.

-- a chain behind a chain
pub chain-more : {H : Type 0} (Came : H → Exchange → H → Type 0) (h : H) (hand : Outs) (xs : List Exchange) (m : H) (between : Outs) (ys : List Exchange) (k : H) (after : Outs)
    → Chain Came h hand xs m between → Chain Came m between ys k after → Chain Came h hand (xs ++ ys) k after
chain-more Came h hand [] m between ys k after c d = subst (λ x. Chain Came x hand ys k after) c.0 (subst (λ outs. Chain Came m outs ys k after) c.1 d)
chain-more Came h hand (x ∷ xs) m between ys k after c d = (c.0, c.1, c.2, c.3, chain-more Came c.0 c.1 xs m between ys k after c.4 d)

-- what comes behind both
pub joined : {A : Type 0} (x y z : List A) → (x ++ []) ++ (y ++ z) ≡ (x ++ y) ++ z
joined x y z = ap (λ l. l ++ (y ++ z)) (append-nil x) ∙ sym (append_assoc x y z)

module _ {H C L : Type 0} (Came : H → Exchange → H → Type 0) (reads : C → ℕ → C → Type 0) (loads : L → List ℕ → Option Outcome → L → Type 0) where
  -- one after another
  abbrev pub talks-more : (h m k : H) (a b c : Outside C L) (before between after : Outs) (rest : LeftUndone) → Talks Came reads loads h m a b before between no_rest → Talks Came reads loads m k b c between after rest → Talks Came reads loads h k a c before after rest
  talks-more h m k a b c before between after rest x y =
      let xs = x.exchanges in
      let ys = y.exchanges in
      record {
        exchanges = xs ++ ys;
        chain = chain-more Came h before xs m between ys k after x.chain y.chain;
        read = subst (Consumes a.remaining c.remaining) (joined (pieces_in xs) (pieces_in ys) (lost_of rest) ∙ ap (λ z. z ++ lost_of rest) (sym (flat_map-append (λ (e : Exchange). bytes_fed e.doing) xs ys)))
            (consumes_more a.remaining b.remaining c.remaining (pieces_in xs ++ []) (pieces_in ys ++ lost_of rest) x.read y.read);
        sent = x.sent ++ y.sent;
        wrote = appends_more a.contents b.contents c.contents x.sent y.sent x.wrote y.wrote;
        replies = append_assoc x.sent y.sent rest.unsent ∙ ap (λ z. x.sent ++ z) y.replies ∙ ap (λ z. z ++ replies_in ys) (sym (append-nil x.sent) ∙ x.replies) ∙ sym (flat_map-append (λ (e : Exchange). unwrap_or e.text []) xs ys);
        clock = subst (λ ts. Readings reads a.clock ts c.clock) (joined (moments_in xs) (moments_in ys) (late_of rest) ∙ ap (λ z. z ++ late_of rest) (sym (flat_map-append (λ (e : Exchange). readings_of e.doing) xs ys)))
            (readings_more reads a.clock (moments_in xs ++ []) b.clock (moments_in ys ++ late_of rest) c.clock x.clock y.clock);
        loader = subst (λ ks. Askings loads a.loader ks c.loader) (joined (askings_in xs) (askings_in ys) (asked_of rest) ∙ ap (λ z. z ++ asked_of rest) (sym (flat_map-append (λ (e : Exchange). asks_of e.doing) xs ys)))
            (askings_more loads a.loader (askings_in xs ++ []) b.loader (askings_in ys ++ asked_of rest) c.loader x.loader y.loader);
        refused = y.refused;
        untaken = let both = sum_by-append (λ (e : Exchange). cond (is_none e.text) 1 0) xs ys in let first = x.untaken in let second = y.untaken in omega (arith, both, first, second);
      }

-- the same, but for the loader
abbrev pub asking_then : {K D : Type 0} → Outside K D → D → Outside K D
asking_then b loader = record b { loader = loader }

module _ {H K D : Type 0} (lent : Bool) (Came : Conn → H → Exchange → H → Type 0) (Closes : Conn → H → H → Type 0) (reads : K → ℕ → K → Type 0) (loads : D → List ℕ → Option Outcome → D → Type 0) (start : H) (a : Outside K D) (s : Session) where
  -- a connection that was opened is under way
  pub fresh-underway : HasReadNothing s → Underway lent Came Closes reads loads start a s start a
  fresh-underway fresh = record {
    talks = record {
      exchanges = [];
      chain = (refl, fresh.taken);
      read = subst (Consumes a.remaining a.remaining) (sym fresh.inbox) (same_consumes a.remaining);
      sent = [];
      wrote = same_appends a.contents;
      replies = refl;
      clock = refl;
      loader = refl;
      refused = tt;
      untaken = refl;
    };
    stands = record { closed = λ is. let no : Ready ≡ Closed = sym fresh.footing ∙ is in cc; done = λ is none settled. tt };
    whole = λ is. fresh.inbox;
  }

  -- where turns are used up, it stopped for that
  pub underway-stopped : (m : H) (b : Outside K D) → Underway lent Came Closes reads loads start a s m b → Stopped lent Came Closes reads loads start a s m b UsedUp
  underway-stopped m b goes = record {
    stopped = m;
    behind = λ r closes. closes;
    rest = unfed s;
    talks = goes.talks;
    few = omega arith;
    late = λ is. let no : UsedUp ≡ Moment = is in cc;
  }

module _ {R D : Type 0} (remaining : R → Option (List ℕ)) (loads : D → List ℕ → Option Outcome → D → Type 0) where
  -- a turn that read where all was fed
  pub read-runs : (old new : List ℕ) (was is : Watched R) (l : D) → Reads remaining old new was is → GoesOn remaining old new was is true → old ≡ [] → RunsFor 1 remaining loads was is l l
  read-runs old new was is l reads (inl failed) empty =
      let later = reads.later in
      (reads.piece, [], 1, reads.bytes, refl, elim (cases_lt (failures was) (2 ^ 64 - 1)) [ inl below ↦ omega (arith, failed below) | inr full ↦ omega (arith, later, full) ], omega arith)
  read-runs old new was is l reads (inr some) empty =
      let all = ap length (reads.whole ∙ ap (λ z. z ++ reads.piece) empty) in
      let later = reads.later in (reads.piece, [], 0, reads.bytes, refl, omega (arith, later), omega (arith, all, some))

  -- a turn in which the loader was asked
  pub asked-runs : (was : Watched R) (l m : D) (turns : ℕ) → HasAsked loads l turns m → RunsFor turns remaining loads was was l m
  asked-runs was l m turns asked = ([], asked.0, 0, same_consumes (remaining (device was)), asked.1, omega arith, omega (arith, asked.2))

  -- a turn more
  pub runs-more : (was mid is : Watched R) (l m n : D) (turns : ℕ) → RunsFor turns remaining loads was mid l m → RunsFor 1 remaining loads mid is m n → RunsFor (turns + 1) remaining loads was is l n
  runs-more was mid is l m n turns x y =
      let bytes = length-append x.0 y.0 in
      let asks = length-append x.1 y.1 in (
        x.0 ++ y.0,
        x.1 ++ y.1,
        x.2 + y.2,
        consumes_more (remaining (device was)) (remaining (device mid)) (remaining (device is)) x.0 y.0 x.3 y.3,
        askings_more loads l x.1 m y.1 n x.4 y.4,
        omega (arith, x.5, y.5),
        omega (arith, bytes, asks, x.6, y.6),
      )

  -- as many turns as are counted
  pub runs-all : (was is : Watched R) (l m : D) (turns : ℕ) → 2 ^ 128 - 1 ≤ turns → RunsFor turns remaining loads was is l m → RunsOut remaining loads was is l m
  runs-all was is l m turns all x = (x.0, x.1, x.3, x.4, omega (arith, all, x.5, x.6))

-- whatever it comes to
pub ok-all : {X E : Type 0} {P : X → Type 0} (r : Result X E) → ((x : X) → P x) → IfOk r P
ok-all (Ok x) all = all x
ok-all (Err e) all = tt

-- a failed read
pub read-why : (r w u l : Type 0) (e : RunError) → e ≡ Read → r → Because r w u l e
read-why r w u l e is failed = subst (Because r w u l) (sym is) failed

-- what of an inbox is fed comes from what is still to be read, the inbox before it
pub consumes-kept : (a b : Option (List ℕ)) (xs inbox : List ℕ) → Consumes a b (xs ++ inbox) → Consumes a (option_map (λ z. inbox ++ z) b) (xs ++ [])
consumes-kept None b xs inbox p = tt
consumes-kept (Some a) None xs inbox p = absurd p
consumes-kept (Some a) (Some b) xs inbox p = p ∙ append_assoc xs inbox b ∙ ap (λ z. z ++ (inbox ++ b)) (sym (append-nil xs))

pub consumes-fed : (b : Option (List ℕ)) (inbox inbox' xs ys zs : List ℕ) → inbox ≡ (xs ++ (ys ++ zs)) ++ inbox' → Consumes (option_map (λ z. inbox ++ z) b) b (xs ++ (ys ++ (zs ++ inbox')))
consumes-fed None inbox inbox' xs ys zs e = tt
consumes-fed (Some b) inbox inbox' xs ys zs e = ap (λ z. z ++ b) (e ∙ append_assoc xs (ys ++ zs) inbox' ∙ ap (λ z. xs ++ z) (append_assoc ys zs inbox'))

-- what is left, and what an inbox holds behind it
abbrev pub rest_then : LeftUndone → List ℕ → LeftUndone
rest_then rest inbox = record rest { unfed = rest.unfed ++ inbox }

-- the same, but for what is left to read and what was read and not fed
abbrev pub reread : {H K D : Type 0} {Came : H → Exchange → H → Type 0} {reads : K → ℕ → K → Type 0} {loads : D → List ℕ → Option Outcome → D → Type 0} {h k : H} {a b : Outside K D} {hand hand' : Outs} {rest : LeftUndone} (r r' : Option (List ℕ)) (unfed' : List ℕ) (x : Talks Came reads loads h k a b hand hand' rest)
    → Consumes r r' (pieces_in x.exchanges ++ lost_of (record rest { unfed = unfed' })) → Talks Came reads loads h k (record a { remaining = r }) (record b { remaining = r' }) hand hand' (record rest { unfed = unfed' })
reread r r' unfed' x read = record {
  exchanges = x.exchanges;
  chain = x.chain;
  read = read;
  sent = x.sent;
  wrote = x.wrote;
  replies = x.replies;
  clock = x.clock;
  loader = x.loader;
  refused = x.refused;
  untaken = x.untaken;
}

-- a session of the same connection
of-conn : (P : Session → Type 0) (s t : Session) → t.conn ≡ s.conn → P (record t { conn = s.conn }) → P t
of-conn P s t same p = subst (λ conn. P (record t { conn = conn })) (sym same) p

module _ {H K D : Type 0} {Came : H → Exchange → H → Type 0} {reads : K → ℕ → K → Type 0} {loads : D → List ℕ → Option Outcome → D → Type 0} {start : H} {a : Outside K D} where
  -- exchanges since the opening, and then those that fed an inbox
  abbrev pub talks-then : (s t : Session) (remaining : Option (List ℕ)) (p q : Spot H K D) (k : H) (rest : LeftUndone) → Talks Came reads loads start p.place a (beside remaining p) [] s.taken.items (unfed s)
      → Talks Came reads loads p.place k (beside (Some s.inbox) p) (beside (Some t.inbox) q) s.taken.items t.taken.items rest → Talks Came reads loads start k a (beside remaining q) [] t.taken.items (rest_then rest t.inbox)
  talks-then s t remaining p q k rest x y =
      let all : Option (List ℕ) = option_map (λ z. s.inbox ++ z) remaining in
      talks-more Came reads loads start p.place k a (beside all p) (beside remaining q) [] s.taken.items t.taken.items (rest_then rest t.inbox) (reread a.remaining all [] x (consumes-kept a.remaining remaining _ s.inbox x.read))
      (reread all remaining (rest.unfed ++ t.inbox) y (consumes-fed remaining s.inbox t.inbox _ _ rest.unfed y.read))

  -- more was read behind what an inbox held
  abbrev pub talks-read : (s : Session) {R : Type 0} {remaining : R → Option (List ℕ)} {was is : Watched R} {inbox : List ℕ} {h : H} {b : Option (List ℕ)} {c : K} {l : D} → Reads remaining s.inbox inbox was is
      → Talks Came reads loads start h a (record { remaining = remaining (device was); contents = b; clock = c; loader = l }) [] s.taken.items (unfed s)
      → Talks Came reads loads start h a (record { remaining = remaining (device is); contents = b; clock = c; loader = l }) [] s.taken.items (unfed (record s { inbox = inbox }))
  talks-read s {remaining = remaining} {was = was} {is = is} {inbox = inbox} more x =
      reread a.remaining (remaining (device is)) inbox x
      (subst (Consumes a.remaining (remaining (device is))) (append_assoc (pieces_in x.exchanges) s.inbox more.piece ∙ ap (λ z. pieces_in x.exchanges ++ z) (sym more.whole))
      (consumes_more a.remaining (remaining (device was)) (remaining (device is)) (pieces_in x.exchanges ++ s.inbox) more.piece x.read more.bytes))

module _ {H K D : Type 0} {lent : Bool} {Came : Conn → H → Exchange → H → Type 0} {Closes : Conn → H → H → Type 0} {reads : K → ℕ → K → Type 0} {loads : D → List ℕ → Option Outcome → D → Type 0} {start : H} {a : Outside K D} where
  -- it is over, where no load is in hand
  finished-by : (s : Session) (h k : H) (b : Outside K D) (rest : LeftUndone) (hand : Outs) → ((r : H) → Closes s.conn h r → Closes s.conn k r) → hand ≡ [] → (rest.unsent ≡ []) × (rest.untaken ≡ 0) → (lent ≡ true → rest ≡ no_rest)
      → (talks : Talks (Came s.conn) reads loads start k a b [] hand rest) → (lent ≡ true → AreDone talks.exchanges) → IsAtEnd b.remaining ⊎ HaveClosed talks.exchanges ⊎ (rest.refused ≢ None) → Finished lent Came Closes reads loads start a s h b
  finished-by s h k b rest hand behind none sent whole =
      let P : Outs → Type 0 = λ hand. (talks : Talks (Came s.conn) reads loads start k a b [] hand rest) → (lent ≡ true → AreDone talks.exchanges) → IsAtEnd b.remaining ⊎ HaveClosed talks.exchanges ⊎ (rest.refused ≢ None) → Finished lent Came Closes reads loads start a s h b in
      subst P (sym none) (λ talks done over. record { closed = k; behind = behind; rest = rest; talks = talks; done = done; over = over; whole = whole; sent = sent })

  -- what was read and not fed is left, where it is over
  pub ended-finished : (s : Session) (h : H) (b : Outside K D) → s.taken.items ≡ [] → (lent ≡ true → s.inbox ≡ []) → (talks : Talks (Came s.conn) reads loads start h a b [] s.taken.items (unfed s)) → (lent ≡ true → AreDone talks.exchanges) → IsAtEnd b.remaining ⊎ HaveClosed talks.exchanges
      → Finished lent Came Closes reads loads start a s h b
  ended-finished s h b none whole talks done over =
      finished-by s h h b (unfed s) s.taken.items (λ r closes. closes) none (refl, refl) (λ is. ap (λ (z : List ℕ). record { refused = None; unfed = z; unsent = []; untaken = 0 }) (whole is)) talks done (elim over [ inl x ↦ inl x | inr x ↦ inr (inl x) ])

module _ {H K D : Type 0} {lent : Bool} {Came : Conn → H → Exchange → H → Type 0} {Closes : Conn → H → H → Type 0} {reads : K → ℕ → K → Type 0} {loads : D → List ℕ → Option Outcome → D → Type 0} {start : H} {a : Outside K D} (s t : Session) (remaining : Option (List ℕ)) (p q : Spot H K D) (same : t.conn ≡ s.conn)
    (talks : Talks (Came s.conn) reads loads start p.place a (beside remaining p) [] s.taken.items (unfed s)) where
  -- it goes on
  pub moves-on : (AtRest : Footing → Type 0) → MovesSession Came Closes reads loads (EndsOn lent AtRest t q.place) s t p q → Since lent Came Closes reads loads start a AtRest t q.place (beside remaining q)
  moves-on AtRest x =
      let P : H → LeftUndone → Type 0 = λ k rest. (y : Talks (Came s.conn) reads loads start k a (beside remaining q) [] t.taken.items (rest_then rest t.inbox)) → StandsAsLeft lent AtRest t y.exchanges → Since lent Came Closes reads loads start a AtRest t q.place (beside remaining q) in
      let base : P q.place no_rest = λ y stands. of-conn (λ u. Since lent Came Closes reads loads start a AtRest u q.place (beside remaining q)) s t same (record { talks = y; stands = record { closed = stands.closed; done = stands.done } }) in
      subst (λ k. P k x.rest) (sym x.ends.0) (subst (λ rest. P q.place rest) (sym x.ends.1) base) (talks-then s t remaining p q x.place x.rest talks x.talks) (x.ends.2 talks.exchanges)

  -- it comes to what ends it
  pub moves-comes : (lent ≡ true → t.inbox ≡ []) → (r : Result Progress RunError) → GoesForward Came Closes reads loads lent r s t p q → ComesToProgress lent Came Closes reads loads start a r t q.place (beside remaining q)
  moves-comes whole (Ok More) x = let y = moves-on IsAnyFooting x in record { talks = y.talks; stands = y.stands; whole = whole }
  moves-comes whole (Ok Over) x =
      of-conn (λ u. Finished lent Came Closes reads loads start a u q.place (beside remaining q)) s t same
      (finished-by (record t { conn = s.conn }) q.place x.place (beside remaining q) (rest_then x.rest t.inbox) t.taken.items x.behind x.ends.1 (x.ends.3, x.ends.4) (λ is. let no : true ≡ false = sym is ∙ x.ends.0 in cc)
      (talks-then s t remaining p q x.place x.rest talks x.talks) (λ is. let no : true ≡ false = sym is ∙ x.ends.0 in cc) (inr (inr x.ends.2)))
  moves-comes whole (Err e) x =
      of-conn (λ u. Stopped lent Came Closes reads loads start a u q.place (beside remaining q) e) s t same (record {
        stopped = x.place;
        behind = x.behind;
        rest = rest_then x.rest t.inbox;
        talks = talks-then s t remaining p q x.place x.rest talks x.talks;
        few = x.ends.0;
        late = λ is. let late = x.ends.1 is in record { doing = late.doing; refused = late.refused; moment = late.moment; told = late.told; late = late.late };
      })
