-- Interludes: none, one after another, and what is an interlude of every connection but one.
use Rattle.std.proofs.Common.{◌≡◌, ℕ, List, [], ◌∷◌, ◌++◌, Option, refl, sym, ◌∙◌, subst}
use Rattle.audit_model.specs.declared.event.Outcome.{Outcome}
use Rattle.audit_model.specs.declared.input.Conn.{Conn}
use Rattle.cache_run.proofs.devices.Sending.{askings_more, readings_more}
use Rattle.cache_run.specs.Devices.Sources.{Asking, Askings, Readings}
use Rattle.cache_run.specs.Driver.Driven.{asks_nobody}
use Rattle.cache_run.specs.Driver.Exchanges.{Exchange}
use Rattle.cache_run.specs.Driver.Interludes.{Aside, Exchanged, HavePassed, Interlude, InterludeBut, Refused, Station, together}
use Rattle.cache_run.specs.declared.driver.host.Host.{Ghosts as Ways}

module _ {X H K D : Type 0} (ways : Ways X H) (reads : K → ℕ → K → Type 0) (loads : D → List ℕ → Option Outcome → D → Type 0) where
  -- nobody had a turn
  pub interlude-none : (conn : Conn) (p : Station H K D) → Interlude ways reads loads conn p p
  interlude-none conn p = record { asides = []; done = refl; moments = []; told = refl; askings = []; asked = refl }

  passed-more : (conn : Conn) (h : H) (xs : List Aside) (k : H) (ys : List Aside) (m : H) → HavePassed ways conn h xs k → HavePassed ways conn k ys m → HavePassed ways conn h (xs ++ ys) m
  passed-more conn h [] k ys m p q = let P : H → Type 0 = λ x. HavePassed ways conn x ys m in subst P p q
  passed-more conn h (x ∷ xs) k ys m p q = (p.0, p.1, passed-more conn p.0 xs k ys m p.2 q)

  -- others had more turns
  pub interlude-more : (conn : Conn) (p q r : Station H K D) → Interlude ways reads loads conn p q → Interlude ways reads loads conn q r → Interlude ways reads loads conn p r
  interlude-more conn p q r x y = record {
    asides = x.asides ++ y.asides;
    done = passed-more conn p.place x.asides q.place y.asides r.place x.done y.done;
    moments = x.moments ++ y.moments;
    told = readings_more reads p.clock x.moments q.clock y.moments r.clock x.told y.told;
    askings = x.askings ++ y.askings;
    asked = askings_more loads p.loader x.askings q.loader y.askings r.loader x.asked y.asked;
  }

  -- an exchange of the connection came
  pub but-exchange : (conn : Conn) (x : Exchange) (moments : List ℕ) (askings : List Asking) (p q : Station H K D) → ways.came conn p.place x q.place → Readings reads p.clock moments q.clock → Askings loads p.loader askings q.loader → InterludeBut ways reads loads conn p q
  but-exchange conn x moments askings p q came told asked = λ other ne. record {
    asides = Exchanged conn x ∷ [];
    done = (q.place, ((λ is. ne (sym is)), came), refl);
    moments = moments;
    told = told;
    askings = askings;
    asked = asked;
  }

  -- something was refused
  pub but-rest : (conn : Conn) (moments : List ℕ) (askings : List Asking) (p q : Station H K D) → ways.rests p.place q.place → Readings reads p.clock moments q.clock → Askings loads p.loader askings q.loader → InterludeBut ways reads loads conn p q
  but-rest conn moments askings p q rests told asked = λ other ne. record {
    asides = Refused ∷ [];
    done = (q.place, rests, refl);
    moments = moments;
    told = told;
    askings = askings;
    asked = asked;
  }

  -- nothing was done
  pub but-still : (conn : Conn) (h : H) (c d : K) (l m : D) → d ≡ c → m ≡ l → InterludeBut ways reads loads conn (together h c l) (together h d m)
  but-still conn h c d l m clock loader = λ other ne. record { asides = []; done = refl; moments = []; told = clock; askings = []; asked = loader }

  -- and more for the same connection
  pub but-more : (conn next : Conn) (p q r : Station H K D) → next ≡ conn → InterludeBut ways reads loads conn p q → InterludeBut ways reads loads next q r → InterludeBut ways reads loads conn p r
  but-more conn next p q r same x y = λ other ne. interlude-more other p q r (x other ne) (y other (λ is. ne (is ∙ same)))

  -- seen beside a loader, where none was asked
  pub but-beside : (conn : Conn) (h k : H) (c d : K) (l : D) → InterludeBut ways reads asks_nobody conn (together h c tt) (together k d tt) → InterludeBut ways reads loads conn (together h c l) (together k d l)
  but-beside conn h k c d l x = λ other ne.
      let y = x other ne in record { asides = y.asides; done = y.done; moments = y.moments; told = y.told; askings = []; asked = refl }
