-- What is done with one connection of a service, beside feeding it, and when.
use Rattle.slab.specs.Slab.{Slab, Updates, get}
use Rattle.std.specs.Prelude.{◌≡◌, ℕ, ◌^◌, ◌&&◌, nat_lt, if◌then◌else◌, List, [], Some, None, false}
use Rattle.memcache_service.specs.declared.connection.Connection.{Connection}
use Rattle.memcache_service.specs.declared.stock.Stock.{Stock}

-- the moment of a call: the later of that of the last call and the one that it is handed, unless that one is too late
abbrev pub later_of : (last moment : ℕ) → ℕ
later_of last moment = if nat_lt last moment && nat_lt moment (2 ^ 43) then moment else last

-- nothing was fed to it, and it was told nothing
pub record IsUnused (connection : Connection) : Type 0 where
  pub input : connection.input.items ≡ []
  pub skip : connection.skip ≡ 0
  pub output : connection.output.items ≡ []
  pub opened : connection.is_closed ≡ false

-- its replies were taken, and nothing else of it changed
pub record RepliesAreTaken (before after : Connection) : Type 0 where
  pub output : after.output.items ≡ []
  pub same : after ≡ record before { output = after.output }

-- a connection was opened, and the others stay as they were
pub record HasOpened (conn : ℕ) (old new : Slab Connection) : Type 0 where
  pub connection : Connection
  pub unused : IsUnused connection
  pub absent : get old conn ≡ None
  pub opened : Updates old new conn (Some connection)

-- all that it was told and that was not taken before was taken
abbrev pub HasTaken : {T : Type 0} → (told : List ℕ) → (before after : Connection)
    → (first new : Stock T) → Type 0
HasTaken told before after first new =
    (told ≡ before.output.items) × RepliesAreTaken before after × (new ≡ first)
