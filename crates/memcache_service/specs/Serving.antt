-- The requests of a connection's bytes, served one after the other.
use Rattle.slab.specs.Slab.{Slab, Updates, get}
use Rattle.std.specs.Prelude.{◌≡◌, ℕ, ◌-◌, ◌<◌, Bool, true, false, not, Some, List, ◌++◌, length, drop}
use Rattle.memcache_model.specs.Commands.{Command, Request, malformed, quit}
use Rattle.memcache_model.specs.Grammar.{arrived, part, request}
use Rattle.memcache_model.specs.Items.{live_stock}
use Rattle.memcache_model.specs.declared.fault.ProtocolError.TheVariants.{Foreign, TooLong}
use Rattle.memcache_service.specs.Stocks.{WritesReply, Spares, kept_until}
use Rattle.memcache_service.specs.declared.connection.Connection.{Connection}
use Rattle.memcache_service.specs.declared.shelf.Shelf.{Ghosts}
use Rattle.memcache_model.specs.declared.counters.Counters.{Counters}
use Rattle.memcache_service.specs.declared.stock.Stock.{Stock}

-- a connection ends behind this command
abbrev pub ends_behind : Command → Bool
ends_behind quit = true
ends_behind (malformed TooLong) = true
ends_behind (malformed Foreign) = true
ends_behind command = false

module _ {T : Type 0} (shelf : Ghosts T) (moment : ℕ) where
  -- a request is served as the definitions say, behind a flush that was due
  abbrev pub IsRequestServed : Request → (old new : Stock T) → (before after : List ℕ) → Type 0
  IsRequestServed r old new before after =
      WritesReply shelf moment (live_stock moment (kept_until shelf.view moment old)) r old new before
      after

  -- Requests were served, each that at the front of what the one before it left of the bytes, and their replies stand behind what stood
  -- before them. What is left of the bytes, how many bytes to come belong to the last request, and whether the connection ends behind it
  pub data AreServed (most : ℕ) (first : Stock T) (bytes : List ℕ) (skipped : ℕ)
      (before : List ℕ) : Stock T → (left : List ℕ) → (skip : ℕ) → (after : List ℕ)
      → (ends : Bool) → Type 0 where
    no_more : AreServed most first bytes skipped before first bytes skipped before false
    one_more : (mid new : Stock T) (r : Request) (used skip : ℕ) (left between after : List ℕ)
        → AreServed most first bytes skipped before mid left skip between false
        → arrived most left ≡ request r used → IsRequestServed r mid new between after
        → AreServed most first bytes skipped before new (drop used left) (used - length left) after
        (ends_behind r.command)

  -- So many requests were served that none is whole in what is left of the bytes; or 1 MiB of replies wait, or the connection has ended
  -- behind one.
  pub record HasRun (most : ℕ) (first : Stock T) (bytes : List ℕ) (skipped : ℕ)
      (before : List ℕ) (new : Stock T) (left : List ℕ) (after : Connection) : Type 0 where
    pub served : AreServed most first bytes skipped before new left after.skip
        after.output.items after.is_closed
    pub all : after.is_closed ≡ false → length after.output.items < 1048576
        → arrived most left ≡ part

  -- requests were served, and then there was no memory: for what was next nothing was done or replied
  pub record HasLacked (most : ℕ) (first : Stock T) (bytes : List ℕ) (skipped : ℕ)
      (before : List ℕ) (new : Stock T) (after : List ℕ) : Type 0 where
    pub last : Stock T
    pub left : List ℕ
    pub skip : ℕ
    pub served : AreServed most first bytes skipped before last left skip after false
    pub spared : Spares last new

  -- a piece was fed to a connection: what is left of its bytes it keeps, unless it has ended
  abbrev pub Feeds : (piece : List ℕ) → (before after : Connection) → (first new : Stock T) → Type 0
  Feeds piece before after first new = (left : List ℕ)
      × HasRun first.most first (before.input.items ++ drop before.skip piece)
      (before.skip - length piece) before.output.items new left after
      × (after.is_closed ≡ false → after.input.items ≡ left)

  -- or there was no memory, and it has ended
  abbrev pub FailsToFeed : (piece : List ℕ) → (before after : Connection) → (first new : Stock T)
      → Type 0
  FailsToFeed piece before after first new =
      HasLacked first.most first (before.input.items ++ drop before.skip piece)
      (before.skip - length piece) before.output.items new after.output.items
      × (after.is_closed ≡ true)

-- requests that were served of bytes are served alike with more bytes behind them
abbrev pub AreServedAlike : {T : Type 0} → Ghosts T → Type 0
AreServedAlike {T} shelf =
    (moment most : ℕ) (first new : Stock T) (bytes more left before after : List ℕ) (ends : Bool)
    → AreServed shelf moment most first bytes 0 before new left 0 after ends
    → AreServed shelf moment most first (bytes ++ more) 0 before new (left ++ more) 0 after ends

-- something was done for one of some connections, over the stock, in which bytes were counted. The other connections stay as they were
pub record IsDoneFor {T : Type 0} (conn : ℕ) (counts : Counters → Counters)
    (does : (before after : Connection) → (first new : Stock T) → Type 0)
    (old new : Slab Connection) (stock then : Stock T) : Type 0 where
  pub before : Connection
  pub after : Connection
  pub was : get old conn ≡ Some before
  pub is : Updates old new conn (Some after)
  pub done : does before after (record stock { counters = counts stock.counters }) then

-- a connection that had not ended was fed a piece, and goes on or not; one that had ended stays as it was
abbrev pub HasFed : {T : Type 0} → Ghosts T → (moment : ℕ) → (piece : List ℕ)
    → (goes_on : Bool) → (before after : Connection) → (first new : Stock T) → Type 0
HasFed shelf moment piece goes_on before after first new =
    (goes_on ≡ not after.is_closed)
    × (before.is_closed ≡ false → Feeds shelf moment piece before after first new)
    × (before.is_closed ≡ true → (after ≡ before) × (new ≡ first))
