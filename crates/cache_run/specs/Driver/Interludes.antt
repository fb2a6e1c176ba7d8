-- What is done at a host for other connections than one, between two exchanges of that one.
use Rattle.std.specs.Prelude.{◌≡◌, ◌≢◌, ℕ, List, [], ◌∷◌, Option}
use Rattle.audit_model.specs.declared.event.Outcome.{Outcome}
use Rattle.audit_model.specs.declared.input.Conn.{Conn}
use Rattle.cache_run.specs.Devices.Sources.{Asking, Askings, Readings}
use Rattle.cache_run.specs.Driver.Exchanges.{Exchange, Outs}
use Rattle.cache_run.specs.declared.driver.host.Host.{Ghosts as Ways}

-- what connections share: a place at the host, a clock and a loader
pub record Station (H K D : Type 0) : Type 0 where
  pub place : H
  pub clock : K
  pub loader : D

abbrev pub together : {H K D : Type 0} → H → K → D → Station H K D
together h c l = record { place = h; clock = c; loader = l }

-- what is done at a host for another connection
pub data Aside : Type 0 where
  Opened : (namespace : ℕ) → (other : Conn) → Aside
  Exchanged : (other : Conn) → (exchange : Exchange) → Aside
  Refused : Aside
  Closed : (other : Conn) → Aside
  Dropped : (other : Conn) → (hand : Outs) → (askings : List Asking) → Aside

module _ {X H : Type 0} (ways : Ways X H) (conn : Conn) where
  -- it is done, and it is another connection
  abbrev pub HasPassed : H → Aside → H → Type 0
  HasPassed h (Opened namespace other) k = (other ≢ conn) × ways.opens namespace other h k
  HasPassed h (Exchanged other exchange) k = (other ≢ conn) × ways.came other h exchange k
  HasPassed h Refused k = ways.rests h k
  HasPassed h (Closed other) k = (other ≢ conn) × ways.closes other h k
  HasPassed h (Dropped other hand askings) k = (other ≢ conn) × ways.drops other hand h askings k

  -- one after another
  abbrev pub HavePassed : H → List Aside → H → Type 0
  HavePassed h [] k = k ≡ h
  HavePassed h (aside ∷ asides) k = (m : H) × HasPassed h aside m × HavePassed m asides k

module _ {X H K D : Type 0} (ways : Ways X H) (reads : K → ℕ → K → Type 0) (loads : D → List ℕ → Option Outcome → D → Type 0) where
  -- others than this connection had their turns
  pub record Interlude (conn : Conn) (p q : Station H K D) : Type 0 where
    pub asides : List Aside
    pub done : HavePassed ways conn p.place asides q.place
    pub moments : List ℕ
    pub told : Readings reads p.clock moments q.clock
    pub askings : List Asking
    pub asked : Askings loads p.loader askings q.loader

  -- it is an interlude of every other connection: nothing was done but for this one
  abbrev pub InterludeBut : Conn → Station H K D → Station H K D → Type 0
  InterludeBut conn p q = (other : Conn) → other ≢ conn → Interlude other p q
