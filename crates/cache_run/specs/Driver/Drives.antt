-- What passes between a host, a connection's reader and writer, its clock and its loader.
use Rattle.std.specs.Prelude.{◌≡◌, ℕ, ◌≤◌, ◌^◌, List, [], ◌∷◌, ◌++◌, Option, None, Some, IfSome}
use Rattle.std.specs.Option.{option_map_or}
use Rattle.std.specs.Io.KnownBytes.{Appends, Consumes}
use Rattle.audit_model.specs.declared.event.Outcome.{Outcome}
use Rattle.cache_run.specs.Devices.Sources.{Asking, Askings, Readings}
use Rattle.cache_run.specs.Driver.Exchanges.{Chain, Doing, Exchange, LeavesInHand, Outs, asks_of, askings_in, bytes_fed, moments_in, pieces_in, replies_in, readings_of, untaken_among}

-- What is left undone after the last exchange: what the host refused, if it refused anything; the bytes that were read after that and not
-- fed; the replies that were not written; and after how many exchanges they were not even taken, for lack of memory.
pub record LeftUndone : Type 0 where
  pub refused : Option Doing
  pub unfed : List ℕ
  pub unsent : List ℕ
  pub untaken : ℕ

abbrev pub no_rest : LeftUndone
no_rest = record { refused = None; unfed = []; unsent = []; untaken = 0 }

-- the bytes that were read and not fed
abbrev pub lost_of : LeftUndone → List ℕ
lost_of rest = option_map_or bytes_fed rest.refused [] ++ rest.unfed

-- the clock's reading for what was refused
abbrev pub late_of : LeftUndone → List ℕ
late_of rest = option_map_or readings_of rest.refused []

-- the request to the loader for that
abbrev pub asked_of : LeftUndone → List Asking
asked_of rest = option_map_or asks_of rest.refused []

-- a load that was not settled is the last one in hand, for whose key the loader was asked
abbrev pub IsOfHand : Outs → Doing → Type 0
IsOfHand hand doing = (rest : Outs) × LeavesInHand doing hand rest

-- something was refused, for which the clock had read a moment that is too late
pub record IsLate (rest : LeftUndone) : Type 0 where
  pub doing : Doing
  pub refused : rest.refused ≡ Some doing
  pub moment : ℕ
  pub told : readings_of doing ≡ moment ∷ []
  pub late : 2 ^ 63 ≤ moment

-- what is left of a reader's input, the contents of a writer, a clock and a loader
pub record Outside (C L : Type 0) : Type 0 where
  pub remaining : Option (List ℕ)
  pub contents : Option (List ℕ)
  pub clock : C
  pub loader : L

module _ {H C L : Type 0} (Came : H → Exchange → H → Type 0) (reads : C → ℕ → C → Type 0) (loads : L → List ℕ → Option Outcome → L → Type 0) where
  -- Exchanges took place one after another, from one host and hand to the other. What was read was fed, except for the rest, and the
  -- replies were written, except for the rest; the clock read the moments, and the loader was asked for the keys of the loads in hand, and
  -- returned what the exchanges say.
  pub record Talks (h k : H) (a b : Outside C L) (before after : Outs) (rest : LeftUndone) : Type 0 where
    pub exchanges : List Exchange
    pub chain : Chain Came h before exchanges k after
    pub read : Consumes a.remaining b.remaining (pieces_in exchanges ++ lost_of rest)
    pub sent : List ℕ
    pub wrote : Appends a.contents b.contents sent
    pub replies : sent ++ rest.unsent ≡ replies_in exchanges
    pub clock : Readings reads a.clock (moments_in exchanges ++ late_of rest) b.clock
    pub loader : Askings loads a.loader (askings_in exchanges ++ asked_of rest) b.loader
    pub refused : IfSome rest.refused (IsOfHand after)
    pub untaken : untaken_among exchanges ≡ rest.untaken
