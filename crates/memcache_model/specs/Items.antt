-- What a key has, and what is live.
use Rattle.std.specs.Prelude.{ℕ, ◌+◌, ◌*◌, Bool, false, nat_le, List, Option, Some, None, if◌then◌else◌}
use Rattle.std.specs.Str.{bytes_eq}
use Rattle.memcache_model.specs.declared.command.Exptime.{Exptime}
use Rattle.memcache_model.specs.declared.command.Exptime.TheVariants.{Never, AtOnce, Seconds}

-- what a key has: its bytes, the client's flags, its unique, the moment at which it expires, if it does, whether it is stale, and whether
-- a client holds the lease to renew it
pub record Item : Type 0 where
  pub bytes : List ℕ
  pub flags : ℕ
  pub unique : ℕ
  pub deadline : Option ℕ
  pub stale : Bool
  pub leased : Bool

-- the item of each key that has one
abbrev pub Items : Type 0
Items = List ℕ → Option Item

-- no key has an item
abbrev pub nothing : Items
nothing key = None

-- the items with that of one key replaced
abbrev pub with_item : List ℕ → Option Item → Items → Items
with_item key item items = λ k. if bytes_eq k key then item else items k

-- all that is there: items, how many uniques were given, and the moment at which all items are to go
pub record Stock : Type 0 where
  pub items : Items
  pub uniques : ℕ
  pub flush : Option ℕ

-- the moment has come
abbrev pub moment_has_come : ℕ → Option ℕ → Bool
moment_has_come moment None = false
moment_has_come moment (Some at) = nat_le at moment

-- moments are in milliseconds of Unix time. Up to 30 days count from now, and more seconds are a moment
abbrev pub exptime_deadline : ℕ → Exptime → Option ℕ
exptime_deadline moment Never = None
exptime_deadline moment AtOnce = Some moment
exptime_deadline moment (Seconds n) =
    if nat_le n 2592000 then Some (moment + 1000 * n) else Some (1000 * n)

-- the item, unless it has expired
abbrev pub unexpired : ℕ → Option Item → Option Item
unexpired moment None = None
unexpired moment (Some item) = if moment_has_come moment item.deadline then None else Some item

-- what is live at a moment: nothing of what was there if it was to go by then, and nothing that has expired
abbrev pub live_stock : ℕ → Stock → Stock
live_stock moment stock =
    if moment_has_come moment stock.flush then record stock { items = nothing; flush = None }
    else record stock { items = λ key. unexpired moment (stock.items key) }
