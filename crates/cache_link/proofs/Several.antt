-- Several connections that have their turns at one host: whatever is done for one is an interlude of the others, which stay served.
use Rattle.std.proofs.Common.{◌≡◌, ◌≢◌, ℕ, List, [], ◌∷◌, Option, refl, sym, ◌⊎◌, inl, inr, true, false, Result, Ok, Err}
use Rattle.std.specs.List.{All}
use Rattle.audit_model.specs.declared.event.Outcome.{Outcome}
use Rattle.audit_model.specs.declared.input.Conn.{Conn}
use Rattle.cache_run.proofs.driver.Interludes.{but-exchange, interlude-none}
use Rattle.cache_run.specs.Devices.Sources.{Readings}
use Rattle.cache_run.specs.Driver.Driven.{ClosesAfter}
use Rattle.cache_run.specs.Driver.Exchanges.{Doing}
use Rattle.cache_run.specs.Driver.Hosting.{SettlesBy, exchange_of}
use Rattle.cache_run.specs.Driver.Interludes.{Closed, Dropped, Interlude, InterludeBut, Opened, Refused, Station, together}
use Rattle.cache_run.specs.declared.devices.errors.RunError.{RunError}
use Rattle.cache_run.specs.declared.driver.host.Given.{Given}
use Rattle.cache_run.specs.declared.driver.host.Host.{Ghosts as Ways}
use Rattle.cache_run.specs.declared.driver.session.Session.{Session}
use Rattle.cache_link.specs.Dialogues.{Wire}
use Rattle.cache_link.specs.Served.{EndsAs, IsServed, TakesTurn}
use Rattle.cache_link.specs.declared.link.Link.{Link}
use Rattle.cache_link.specs.declared.link.Next.{Next}
use Rattle.cache_link.specs.declared.link.Report.{Report}
use Rattle.cache_link.proofs.Serving.{served-later}

-- one of several connections: where it was opened, its reader and its writer then and now, and its link
pub record Customer (H K D : Type 0) : Type 0 where
  pub start : Station H K D
  pub first : Wire
  pub wire : Wire
  pub link : Link

-- these are other connections than this one
abbrev pub AreOthers : {H K D : Type 0} → Conn → List (Customer H K D) → Type 0
AreOthers {H} {K} {D} conn customers = All (λ (x : Customer H K D). x.link.session.conn ≢ conn) customers

module _ {X H K D : Type 0} (ways : Ways X H) (reads : K → ℕ → K → Type 0) (loads : D → List ℕ → Option Outcome → D → Type 0) where
  -- a connection was opened
  pub but-opened : (namespace : ℕ) (conn : Conn) (h k : H) (c : K) (l : D) → ways.opens namespace conn h k → InterludeBut ways reads loads conn (together h c l) (together k c l)
  but-opened namespace conn h k c l opens = λ other ne. record {
    asides = Opened namespace conn ∷ [];
    done = (k, ((λ is. ne (sym is)), opens), refl);
    moments = [];
    told = refl;
    askings = [];
    asked = refl;
  }

  -- nothing came
  pub none-came : (conn : Conn) (h k : H) (c : K) (l : D) → (k ≡ h) ⊎ ways.rests h k → Interlude ways reads loads conn (together h c l) (together k c l)
  none-came conn h k c l (inl same) = record { asides = []; done = same; moments = []; told = refl; askings = []; asked = refl }
  none-came conn h k c l (inr rests) = record { asides = Refused ∷ []; done = (k, rests, refl); moments = []; told = refl; askings = []; asked = refl }

  -- a connection was closed, and after an error its loads were dropped
  pub but-closed : {E : Type 0} (outcome : Result (Unit {0}) E) (s : Session) (h k : H) (c : K) (l m : D) → ClosesAfter ways.closes ways.drops loads outcome s h k l m → InterludeBut ways reads loads s.conn (together h c l) (together k c m)
  but-closed (Ok done) s h k c l m closes = λ other ne. record {
    asides = Closed s.conn ∷ [];
    done = (k, ((λ is. ne (sym is)), closes.0), refl);
    moments = [];
    told = refl;
    askings = [];
    asked = closes.1;
  }
  but-closed (Err e) s h k c l m closes = λ other ne. record {
    asides = Closed s.conn ∷ Dropped s.conn s.taken.items closes.1 ∷ [];
    done = (closes.0, ((λ is. ne (sym is)), closes.2), (k, ((λ is. ne (sym is)), closes.3), refl));
    moments = [];
    told = refl;
    askings = closes.1;
    asked = closes.4;
  }

  -- a load was settled for a connection, as one of a loop's own
  pub but-settled : (conn : Conn) (load moment : ℕ) (said : Option Outcome) (given : Given) (h k : H) (c : K) (l : D) → ((key : List ℕ) → (doing : Doing) × SettlesBy load moment (record { key = key; answer = said }) doing × ways.came conn h (exchange_of doing given) k)
      → InterludeBut ways reads loads conn (together h c l) (together k c l)
  but-settled conn load moment said given h k c l came = let x = came [] in but-exchange ways reads loads conn (exchange_of x.0 given) [] [] (together h c l) (together k c l) x.2 refl refl

  -- the clock was read
  pub read-apart : (conn : Conn) (h : H) (c d : K) (l : D) (moments : List ℕ) → Readings reads c moments d → Interlude ways reads loads conn (together h c l) (together h d l)
  read-apart conn h c d l moments told = record { asides = []; done = refl; moments = moments; told = told; askings = []; asked = refl }

  -- something was reported of a connection that is served
  pub served-woken : (start : Station H K D) (a : Wire) (s : Link) (p : Station H K D) (b : Wire) (report : Report) → IsServed ways reads loads start a s p b → IsServed ways reads loads start a (record s { report = report }) p b
  served-woken start a s p b report x = record {
    last = x.last;
    rest = x.rest;
    dialogue = x.dialogue;
    unsent = x.unsent;
    all_taken = x.all_taken;
    going = λ still. let g = x.going still in record { others = g.others; accepted = g.accepted; unfed = g.unfed; idle = g.idle; opened = g.opened };
    over = x.over;
  }

  -- nothing more is to be read of it
  pub served-stopped : (start : Station H K D) (a : Wire) (s : Link) (p : Station H K D) (b : Wire) → IsServed ways reads loads start a s p b → IsServed ways reads loads start a (record s { is_stopped = true }) p b
  served-stopped start a s p b x = record {
    last = x.last;
    rest = x.rest;
    dialogue = x.dialogue;
    unsent = x.unsent;
    all_taken = x.all_taken;
    going = λ still. let g = x.going still in record { others = g.others; accepted = g.accepted; unfed = g.unfed; idle = g.idle; opened = g.opened };
    over = λ done. elim (x.over done) [
      | inl all ↦ inl (all.0, inr refl)
      | inr rest ↦ inr rest
    ];
  }

  -- each of them is served, at the station to which the turns of all of them have led
  abbrev pub EachIsServed : Station H K D → List (Customer H K D) → Type 0
  EachIsServed now customers = All (λ (x : Customer H K D). IsServed ways reads loads x.start x.first x.link now x.wire) customers

  -- whatever is done for one connection, the others stay served
  pub others-served : (shared : ways.LENT ≡ false) (conn : Conn) (p q : Station H K D) (customers : List (Customer H K D)) → AreOthers conn customers → InterludeBut ways reads loads conn p q → EachIsServed p customers → EachIsServed q customers
  others-served shared conn p q customers others among served = λ k d within.
      served-later ways reads loads shared _ _ _ p q _ (among _ (others k d within)) (served k d within)

  -- and after a turn it is served itself, unless there was an error
  pub all-served : (shared : ways.LENT ≡ false) (result : Result Next RunError) (x : Customer H K D) (link : Link) (p q : Station H K D) (wire : Wire) (customers : List (Customer H K D)) → AreOthers x.link.session.conn customers
      → TakesTurn ways reads loads result x.link link p q x.wire wire → InterludeBut ways reads loads x.link.session.conn p q
      → IsServed ways reads loads x.start x.first x.link p x.wire → EachIsServed p customers
      → EndsAs ways reads loads result x.start x.first link q wire × EachIsServed q customers
  all-served shared result x link p q wire customers others goes among one all = (
    goes x.start p x.first one (interlude-none ways reads loads x.link.session.conn p),
    others-served shared x.link.session.conn p q customers others among all,
  )
