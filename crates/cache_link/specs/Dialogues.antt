-- What passes between a host and one connection of several that have their turns at it one after another.
use Rattle.std.specs.Prelude.{◌≡◌, ℕ, List, [], ◌++◌, Option}
use Rattle.std.specs.Io.KnownBytes.{Appends, Consumes}
use Rattle.audit_model.specs.declared.event.Outcome.{Outcome}
use Rattle.audit_model.specs.declared.input.Conn.{Conn}
use Rattle.cache_run.specs.Devices.Sources.{Askings, Readings}
use Rattle.cache_run.specs.Driver.Drives.{LeftUndone, lost_of}
use Rattle.cache_run.specs.Driver.Exchanges.{Chain, Exchange, Outs, asks_of, pieces_in, replies_in, readings_of, untaken_among}
use Rattle.cache_run.specs.Driver.Interludes.{Interlude, Station}
use Rattle.cache_run.specs.declared.driver.host.Host.{Ghosts as Ways}

-- what is left of the input of one connection, and what was written to it
pub record Wire : Type 0 where
  pub remaining : Option (List ℕ)
  pub contents : Option (List ℕ)

module _ {X H K D : Type 0} (ways : Ways X H) (reads : K → ℕ → K → Type 0) (loads : D → List ℕ → Option Outcome → D → Type 0) (conn : Conn) where
  -- an exchange came, at the clock's reading, and with what the loader returned
  pub record ComesByExchange (p : Station H K D) (exchange : Exchange) (q : Station H K D) : Type 0 where
    pub came : ways.came conn p.place exchange q.place
    pub told : Readings reads p.clock (readings_of exchange.doing) q.clock
    pub asked : Askings loads p.loader (asks_of exchange.doing) q.loader

  -- others had their turns before it
  pub record ComesBehind (p : Station H K D) (exchange : Exchange) (q : Station H K D) : Type 0 where
    pub begin : Station H K D
    pub others : Interlude ways reads loads conn p begin
    pub comes : ComesByExchange begin exchange q

  -- Exchanges took place, between which others had their turns. What was read was fed, except for the rest, and the replies were written,
  -- except for the rest.
  pub record Dialogue (start last : Station H K D) (a b : Wire) (hand : Outs) (rest : LeftUndone) : Type 0
    where
      pub exchanges : List Exchange
      pub chain : Chain ComesBehind start [] exchanges last hand
      pub read : Consumes a.remaining b.remaining (pieces_in exchanges ++ lost_of rest)
      pub sent : List ℕ
      pub wrote : Appends a.contents b.contents sent
      pub replies : sent ++ rest.unsent ≡ replies_in exchanges
      pub untaken : untaken_among exchanges ≡ rest.untaken
