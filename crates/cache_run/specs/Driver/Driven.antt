-- How far a driver has come with its connection.
use Rattle.std.specs.Prelude.{◌≡◌, ◌≢◌, ℕ, ◌≤◌, Bool, true, false, List, [], ◌++◌, Option, None, Some, Result, Ok, Err, MatchResult, ◌⊎◌}
use Rattle.std.specs.Io.KnownBytes.{IsAtEnd}
use Rattle.audit_model.specs.declared.event.Outcome.{Outcome}
use Rattle.audit_model.specs.declared.input.Conn.{Conn}
use Rattle.cache_run.specs.Devices.Sources.{Asking, Askings}
use Rattle.cache_run.specs.Devices.Watched.{device}
use Rattle.cache_run.specs.declared.devices.errors.RunError.{RunError}
use Rattle.cache_run.specs.declared.devices.errors.RunError.TheVariants.{Moment}
use Rattle.cache_run.specs.declared.devices.watched.Watched.{Watched}
use Rattle.cache_run.specs.Driver.Drives.{IsLate, Outside, LeftUndone, Talks, no_rest}
use Rattle.cache_run.specs.Driver.Exchanges.{AreDone, Exchange, HaveClosed, Outs}
use Rattle.cache_run.specs.declared.driver.driving.Progress.{Progress}
use Rattle.cache_run.specs.declared.driver.driving.Progress.TheVariants.{More, Over}
use Rattle.cache_run.specs.declared.driver.host.Host.{Ghosts as Ways}
use Rattle.cache_run.specs.declared.driver.session.Footing.{Footing}
use Rattle.cache_run.specs.declared.driver.session.Footing.TheVariants.{Ready, Waiting, Closed}
use Rattle.cache_run.specs.declared.driver.session.Session.{Session}

-- the state of a host, and of a connection's writer, clock and loader
pub record Spot (H K D : Type 0) : Type 0 where
  pub place : H
  pub contents : Option (List ℕ)
  pub clock : K
  pub loader : D

abbrev pub spot : {H W K D : Type 0} → (W → Option (List ℕ)) → H → Watched W → K → D → Spot H K D
spot contents place writer clock loader =
    record { place = place; contents = contents (device writer); clock = clock; loader = loader }

-- and what is left to read
abbrev pub beside : {H K D : Type 0} → Option (List ℕ) → Spot H K D → Outside K D
beside remaining p =
    record { remaining = remaining; contents = p.contents; clock = p.clock; loader = p.loader }

-- the connection of a session is known; if the host is lent, no `LOAD` of it waits for others
pub record HoldsSession {H : Type 0} (lent : Bool) (Knows : Conn → H → Type 0) (session : Session) (h : H)
    : Type 0 where
  pub known : Knows session.conn h
  pub ready : lent ≡ true → session.footing ≢ Waiting

-- A session is as the last exchange left it. If the host is lent and no load is in hand, none is left.
pub record StandsAsLeft (lent : Bool) (Settled : Footing → Type 0) (session : Session)
    (exchanges : List Exchange) : Type 0 where
  pub closed : session.footing ≡ Closed → HaveClosed exchanges
  pub done : lent ≡ true → session.taken.items ≡ [] → Settled session.footing → AreDone exchanges

-- in any case, or only if it has closed
abbrev pub IsAnyFooting : Footing → Type 0
IsAnyFooting footing = Unit {0}

abbrev pub IsClosed : Footing → Type 0
IsClosed footing = footing ≡ Closed

-- it goes on, and after whatever came before, the session is as the last exchange left it
abbrev pub EndsOn : {H : Type 0} → Bool → (Footing → Type 0) → Session → H → H → List Exchange
    → LeftUndone → Type 0
EndsOn lent Settled t k place exchanges rest =
    (place ≡ k) × (rest ≡ no_rest)
    × ((before : List Exchange) → StandsAsLeft lent Settled t (before ++ exchanges))

-- others had closed the connection, so that a piece was refused
abbrev pub EndsLeft : {H : Type 0} → Bool → Session → H → List Exchange → LeftUndone → Type 0
EndsLeft lent t place exchanges rest =
    (lent ≡ false) × (t.taken.items ≡ []) × (rest.refused ≢ None) × (rest.unsent ≡ [])
    × (rest.untaken ≡ 0)

-- there was an error
abbrev pub EndsBroke : {H : Type 0} → RunError → H → List Exchange → LeftUndone → Type 0
EndsBroke e place exchanges rest = (rest.untaken ≤ 1) × (e ≡ Moment → IsLate rest)

-- it goes on, unless others had closed the connection, or there was an error
abbrev pub EndsBeside : {H : Type 0} → Bool → Session → H → Result Progress RunError → H → List Exchange
    → LeftUndone → Type 0
EndsBeside lent t k (Ok More) = EndsOn lent IsAnyFooting t k
EndsBeside lent t k (Ok Over) = EndsLeft lent t
EndsBeside lent t k (Err e) = EndsBroke e

-- it goes on, settled only if it has closed, unless there was an error
abbrev pub EndsSettled : {H : Type 0} → Bool → Session → H → Result (Unit {0}) RunError → H
    → List Exchange → LeftUndone → Type 0
EndsSettled lent t k (Ok done) = EndsOn lent IsClosed t k
EndsSettled lent t k (Err e) = EndsBroke e

module _ {H K D : Type 0} (Came : Conn → H → Exchange → H → Type 0) (Closes : Conn → H → H → Type 0) (reads : K → ℕ → K → Type 0) (loads : D → List ℕ → Option Outcome → D → Type 0) where
  -- Exchanges took place, and fed what left the inbox; then something may have been refused or left undone: a closing comes after the last
  -- of them.
  pub record MovesSession (End : H → List Exchange → LeftUndone → Type 0) (s t : Session) (p q : Spot H K D) :
      Type 0 where
    pub place : H
    pub behind : (r : H) → Closes s.conn q.place r → Closes s.conn place r
    pub rest : LeftUndone
    pub talks : Talks (Came s.conn) reads loads p.place place (beside (Some s.inbox) p)
        (beside (Some t.inbox) q) s.taken.items t.taken.items rest
    pub ends : End place talks.exchanges rest

  abbrev pub GoesForward : Bool → Result Progress RunError → Session → Session → Spot H K D → Spot H K D
      → Type 0
  GoesForward lent result s t p q = MovesSession (EndsBeside lent t q.place result) s t p q

  abbrev pub Settles : Bool → Result (Unit {0}) RunError → Session → Session → Spot H K D
      → Spot H K D → Type 0
  Settles lent result s t p q = MovesSession (EndsSettled lent t q.place result) s t p q

-- no loader is asked
abbrev pub asks_nobody : Unit {0} → List ℕ → Option Outcome → Unit {0} → Type 0
asks_nobody d key answer e = ⊥

-- what was read and not fed
abbrev pub unfed : Session → LeftUndone
unfed session = record { refused = None; unfed = session.inbox; unsent = []; untaken = 0 }

-- a reader, a writer, a clock and a loader
abbrev pub around : {R W K D : Type 0} → (R → Option (List ℕ)) → (W → Option (List ℕ)) → Watched R
    → Watched W → K → D → Outside K D
around remaining contents reader writer clock loader =
    record {
      remaining = remaining (device reader);
      contents = contents (device writer);
      clock = clock;
      loader = loader;
    }

-- since a connection was opened
module _ {H K D : Type 0} (lent : Bool) (Came : Conn → H → Exchange → H → Type 0) (Closes : Conn → H → H → Type 0) (reads : K → ℕ → K → Type 0) (loads : D → List ℕ → Option Outcome → D → Type 0) (start : H) (a : Outside K D) where
  -- Exchanges took place, and what was read and not fed is in the inbox.
  pub record Since (Settled : Footing → Type 0) (s : Session) (h : H) (b : Outside K D) : Type 0
    where
      pub talks : Talks (Came s.conn) reads loads start h a b [] s.taken.items (unfed s)
      pub stands : StandsAsLeft lent Settled s talks.exchanges

  -- Exchanges took place, and what was read and not fed is in the inbox: if the host is lent, nothing.
  pub record Underway (s : Session) (h : H) (b : Outside K D) : Type 0 where
    pub talks : Talks (Came s.conn) reads loads start h a b [] s.taken.items (unfed s)
    pub stands : StandsAsLeft lent IsAnyFooting s talks.exchanges
    pub whole : lent ≡ true → s.inbox ≡ []

  -- it is over
  pub record Finished (s : Session) (h : H) (b : Outside K D) : Type 0 where
    pub closed : H
    pub behind : (r : H) → Closes s.conn h r → Closes s.conn closed r
    pub rest : LeftUndone
    pub talks : Talks (Came s.conn) reads loads start closed a b [] [] rest
    pub done : lent ≡ true → AreDone talks.exchanges
    pub over : IsAtEnd b.remaining ⊎ HaveClosed talks.exchanges ⊎ (rest.refused ≢ None)
    pub whole : lent ≡ true → rest ≡ no_rest
    pub sent : (rest.unsent ≡ []) × (rest.untaken ≡ 0)

  -- there was an error
  pub record Stopped (s : Session) (h : H) (b : Outside K D) (e : RunError) : Type 0 where
    pub stopped : H
    pub behind : (r : H) → Closes s.conn h r → Closes s.conn stopped r
    pub rest : LeftUndone
    pub talks : Talks (Came s.conn) reads loads start stopped a b [] s.taken.items rest
    pub few : rest.untaken ≤ 1
    pub late : e ≡ Moment → IsLate rest

  abbrev pub ComesToProgress : Result Progress RunError → Session → H → Outside K D → Type 0
  ComesToProgress (Ok More) s h b = Underway s h b
  ComesToProgress (Ok Over) s h b = Finished s h b
  ComesToProgress (Err e) s h b = Stopped s h b e

module _ {X H K D : Type 0} (ways : Ways X H) (reads : K → ℕ → K → Type 0) (loads : D → List ℕ → Option Outcome → D → Type 0) where
  -- a connection that is under way goes on: it still is, it is over, or there was an error
  abbrev pub Continues : Result Progress RunError → Session → Session → H → H → Outside K D
      → Outside K D → Type 0
  Continues result s t h k b c =
      (start : H) (a : Outside K D) → Underway ways.LENT ways.came ways.closes reads loads start a s h b
      → ComesToProgress ways.LENT ways.came ways.closes reads loads start a result t k c

  -- and nothing more is read
  abbrev pub TurnsUnread : Result Progress RunError → Session → Session → Spot H K D → Spot H K D → Type 0
  TurnsUnread result s t p q =
      (remaining : Option (List ℕ)) → Continues result s t p.place q.place (beside remaining p)
      (beside remaining q)

  -- over a reader and a writer
  abbrev pub Converses : {R W : Type 0} → (R → Option (List ℕ)) → (W → Option (List ℕ))
      → Result Progress RunError → Session → Session → H → H → Watched R → Watched R → Watched W
      → Watched W → K → K → D → D → Type 0
  Converses remaining contents result s t h k reader reader' writer writer' clock clock' loader loader' =
      Continues result s t h k (around remaining contents reader writer clock loader)
      (around remaining contents reader' writer' clock' loader')

-- nothing was read, and no load is in hand
pub record HasReadNothing (session : Session) : Type 0 where
  pub taken : session.taken.items ≡ []
  pub inbox : session.inbox ≡ []
  pub footing : session.footing ≡ Ready

-- a connection was closed, and after an error the loads were dropped
abbrev pub ClosesAfter : {H D E : Type 0} → (Conn → H → H → Type 0)
    → (Conn → Outs → H → List Asking → H → Type 0) → (D → List ℕ → Option Outcome → D → Type 0)
    → Result (Unit {0}) E → Session → H → H → D → D → Type 0
ClosesAfter {H} Closes Drops loads outcome s h k loader loader' =
    MatchResult outcome (λ done. Closes s.conn h k × (loader' ≡ loader))
    (λ e. (m : H) × (askings : List Asking) × Closes s.conn h m
    × Drops s.conn s.taken.items m askings k × Askings loads loader askings loader')
