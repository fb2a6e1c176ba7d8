-- Leases: of the clients that ask for the lease of a key, one wins, until it ends.
use Rattle.std.specs.Prelude.{◌≡◌, ℕ, Bool, true, false, not, ◌&&◌, ◌||◌, List, Option, Some, None, is_some, codes}
use Rattle.memcache_model.specs.Answers.{Service, answer}
use Rattle.std.specs.Str.{bytes_eq}
use Rattle.memcache_model.specs.Commands.{Command, store, oversize, delete, flush_all, meta, meta_set, meta_oversize}
use Rattle.memcache_model.specs.Items.{Item, Stock}
use Rattle.memcache_model.specs.Meta.{exptime_of, is_late, item_text, lease_text, meta_get, retimed_by, told_to_get}
use Rattle.memcache_model.specs.declared.command.Exptime.TheVariants.{Seconds}
use Rattle.memcache_model.specs.declared.command.Meta.TheVariants.{Delete}
use Rattle.memcache_model.specs.declared.command.Storage.TheVariants.{Set, Replace, Cas}

-- a client holds the lease of what a key has
abbrev pub is_leased : Option Item → Bool
is_leased None = false
is_leased (Some item) = item.leased

-- a `mg` with these flags wins the lease of what its key has
abbrev pub wins : ℕ → List (List ℕ) → Option Item → Bool
wins moment words None = is_some (exptime_of (codes "N") words)
wins moment words (Some found) =
    let item = retimed_by moment (codes "T") words found in
    not item.leased && (item.stale || is_late moment words item)

-- its reply tells whether it won
pub record TellsLease (moment : ℕ) (key : List ℕ) (words : List (List ℕ)) (stock : Stock)
    (reply : List ℕ) : Type 0 where
  pub item : Item
  pub held : Bool
  pub stale : Bool
  pub tells : reply
      ≡ item_text told_to_get moment key item words (lease_text held stale (wins moment words (stock.items key)))

-- the command may end the lease of the key: it sets its value, deletes it or makes it stale
abbrev pub may_end : List ℕ → Command → Bool
may_end key (store Set k flags exptime block) = bytes_eq key k
may_end key (store Replace k flags exptime block) = bytes_eq key k
may_end key (store (Cas unique) k flags exptime block) = bytes_eq key k
may_end key (oversize Set k) = bytes_eq key k
may_end key (delete k) = bytes_eq key k
may_end key (flush_all (Seconds n)) = false
may_end key (flush_all exptime) = true
may_end key (meta Delete k words) = bytes_eq key k
may_end key (meta_set k words block) = bytes_eq key k
may_end key (meta_oversize k words) = bytes_eq key k
may_end key command = false

pub record OneWins : Type 0 where
  -- a `mg` that finds an item, or makes one, tells whether it won
  pub told : (moment : ℕ) (key : List ℕ) (words : List (List ℕ)) (stock : Stock)
      → is_some (stock.items key) || is_some (exptime_of (codes "N") words) ≡ true
      → TellsLease moment key words stock (meta_get moment key words (stock.items key) stock).reply
  -- if it won, its key is leased
  pub leased : (moment : ℕ) (key : List ℕ) (words : List (List ℕ)) (stock : Stock)
      → wins moment words (stock.items key) ≡ true
      → is_leased ((meta_get moment key words (stock.items key) stock).stock.items key) ≡ true
  -- nobody wins what is leased
  pub held : (moment : ℕ) (words : List (List ℕ)) (item : Option Item)
      → is_leased item ≡ true → wins moment words item ≡ false
  -- it stays leased until a command may end it
  pub stays : (service : Service) (moment : ℕ) (command : Command) (key : List ℕ) (stock : Stock)
      → is_leased (stock.items key) ≡ true → may_end key command ≡ false
      → is_leased ((answer service moment command stock).stock.items key) ≡ true
