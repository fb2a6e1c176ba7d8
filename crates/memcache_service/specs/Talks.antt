-- What passes between a service and one of its connections.
use Rattle.slab.specs.Slab.{get}
use Rattle.std.specs.Prelude.{◌≡◌, ℕ, false, List, length, Option}
use Rattle.memcache_model.specs.Counts.{reads, writes}
use Rattle.memcache_service.specs.Serving as serving
use Rattle.memcache_service.specs.Serving.{IsDoneFor}
use Rattle.memcache_service.specs.Talking.{HasOpened, HasTaken}
use Rattle.memcache_service.specs.declared.connection.Connection.{Connection}
use Rattle.memcache_service.specs.declared.service.Service.{Service}
use Rattle.memcache_service.specs.declared.shelf.Shelf.{Ghosts}

module _ {T : Type 0} {shelf : Ghosts T} where
  -- the connection with this number, if it is open
  abbrev pub connection_of : ℕ → Service T shelf → Option Connection
  connection_of conn service = get service.connections conn

  -- the moment of the last call
  abbrev pub moment_of_last_call : Service T shelf → ℕ
  moment_of_last_call service = service.moment

  -- a connection was opened
  abbrev pub OpensTalk : ℕ → (p q : Service T shelf) → Type 0
  OpensTalk conn p q = HasOpened conn p.connections q.connections

  -- a piece was fed to a connection that had not ended, and the requests that it completes were served
  abbrev pub Feeds : ℕ → List ℕ → (p q : Service T shelf) → Type 0
  Feeds conn piece p q =
      IsDoneFor conn (reads (length piece)) (λ before after first new. (before.is_closed ≡ false)
      × serving.Feeds shelf q.moment piece before after first new)
      p.connections q.connections p.stock q.stock

  -- or there was no memory for all of them
  abbrev pub FailsToFeed : ℕ → List ℕ → (p q : Service T shelf) → Type 0
  FailsToFeed conn piece p q =
      IsDoneFor conn (reads (length piece)) (serving.FailsToFeed shelf q.moment piece) p.connections q.connections
      p.stock q.stock

  -- the replies of a connection that is open were taken
  abbrev pub Takes : ℕ → List ℕ → (p q : Service T shelf) → Type 0
  Takes conn told p q =
      IsDoneFor conn (writes (length told)) (HasTaken told) p.connections q.connections p.stock q.stock
