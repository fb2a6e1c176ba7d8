-- How far a connection of a memcache service has come.
use Rattle.std.specs.Prelude.{◌≡◌, ◌≢◌, ◌≤◌, ◌⊎◌, ◌++◌, ℕ, Bool, true, false, List, [], Option, Some, Result, Ok}
use Rattle.std.specs.Io.KnownBytes.{Appends, Consumes, IsAtEnd}
use Rattle.cache_run.specs.declared.devices.errors.RunError.{RunError}
use Rattle.cache_link.specs.Dialogues.{Wire}
use Rattle.cache_link.specs.Patience.{device_of}
use Rattle.cache_link.specs.declared.link.Next.{Next}
use Rattle.cache_link.specs.declared.link.Next.TheVariants.{Over as IsOver}
use Rattle.cache_link.specs.declared.link.Report.TheVariants.{Nothing}
use Rattle.cache_link.specs.declared.patient.Patient.{Patient}
use Rattle.memcache_service.specs.Talking.{later_of}
use Rattle.memcache_service.specs.Talks.{FailsToFeed, Feeds, OpensTalk, Takes, connection_of, moment_of_last_call}
use Rattle.memcache_service.specs.declared.connection.Connection.{Connection}
use Rattle.memcache_service.specs.declared.service.Service.{Service}
use Rattle.memcache_service.specs.declared.shelf.Shelf.{Ghosts}
use Rattle.memcache_cache.specs.declared.link.MemcacheLink.{MemcacheLink}
use Rattle.memcache_cache.specs.declared.link.Phase.{Phase}
use Rattle.memcache_cache.specs.declared.link.Phase.TheVariants.{Fed, Over, Ended}

-- whether nothing more of it is read or fed
abbrev pub is_phase_over : Phase → Bool
is_phase_over Over = true
is_phase_over Ended = true
is_phase_over phase = false

-- whether that is since the service has ended it
abbrev pub has_ended : Phase → Bool
has_ended Ended = true
has_ended phase = false

-- others had their turns: the connection is as it was
pub record OthersTurns {T : Type 0} {shelf : Ghosts T} (conn : ℕ) (p q : Service T shelf) : Type 0 where
  pub same : connection_of conn q ≡ connection_of conn p
  pub later : moment_of_last_call p ≤ moment_of_last_call q

-- a connection had its turn at a moment: the others are as they were, and if something was fed, then at the later of this moment and that
-- of the last call
pub record TookTurn {T : Type 0} {shelf : Ghosts T} (conn moment : ℕ) (p q : Service T shelf) : Type 0
  where
    pub others : (other : ℕ) → other ≢ conn → OthersTurns other p q
    pub fed_at : (moment_of_last_call q ≡ moment_of_last_call p)
        ⊎ (moment_of_last_call q ≡ later_of (moment_of_last_call p) moment)

-- it was opened
pub record WasJustOpened {T : Type 0} {shelf : Ghosts T} (link : MemcacheLink)
    (p q : Service T shelf) : Type 0 where
  pub opens : OpensTalk link.conn p q
  pub backlog : link.backlog ≡ []
  pub report : link.report ≡ Nothing
  pub phase : link.phase ≡ Fed
  pub reads : link.is_stopped ≡ false

-- the service has the connection, and has ended it or not
pub record KnowsConnection {T : Type 0} {shelf : Ghosts T} (conn : ℕ) (ended : Bool)
    (service : Service T shelf) : Type 0 where
  pub connection : Connection
  pub is : connection_of conn service ≡ Some connection
  pub closed : connection.is_closed ≡ ended

-- and owes it nothing
pub record OwesNothing {T : Type 0} {shelf : Ghosts T} (conn : ℕ) (ended : Bool)
    (service : Service T shelf) : Type 0 where
  pub has : KnowsConnection conn ended service
  pub taken : has.connection.output.items ≡ []

-- All that it was owed was written, and maybe more; or nothing was read or fed.
abbrev pub WritesOwedFirst : {S R W : Type 0} → (W → Option (List ℕ)) → MemcacheLink → S → S
    → Patient R → Patient R → Patient W → Patient W → Type 0
WritesOwedFirst contents s p q reader reader' writer writer' =
    ((more : List ℕ)
    × Appends (contents (device_of writer)) (contents (device_of writer')) (s.backlog ++ more))
    ⊎ ((q ≡ p) × (reader' ≡ reader))

module _ {T : Type 0} (shelf : Ghosts T) where
  -- a piece was fed to a connection that had not ended, or there was no memory for all of it; and all its replies were taken
  pub record Exchanges (conn : ℕ) (piece told : List ℕ) (p q : Service T shelf) : Type 0 where
    pub lent : Service T shelf
    pub fed : Service T shelf
    pub lends : Takes conn [] p lent
    pub feeds : Feeds conn piece lent fed ⊎ FailsToFeed conn piece lent fed
    pub takes : Takes conn told fed q

  -- pieces were fed to a connection, joined to these bytes, and all its replies were taken, joined to those; between them others had their
  -- turns
  pub data HasTalked (conn : ℕ) (start : Service T shelf) : (fed told : List ℕ) → Service T shelf → Type 0
    where
      no_more : HasTalked conn start [] [] start
      one_more : (fed told piece more : List ℕ) (p q r : Service T shelf)
          → HasTalked conn start fed told p → OthersTurns conn p q → Exchanges conn piece more q r
          → HasTalked conn start (fed ++ piece) (told ++ more) r

  -- A connection is served: all that was read was fed, and its replies were written, but for its backlog. It is over only at the end of its
  -- input, or if nothing more is to be read.
  pub record IsServedByTalk (start : Service T shelf) (a : Wire) (link : MemcacheLink) (now : Service T shelf)
      (b : Wire) : Type 0 where
    pub last : Service T shelf
    pub fed : List ℕ
    pub told : List ℕ
    pub sent : List ℕ
    pub talked : HasTalked link.conn start fed told last
    pub others : OthersTurns link.conn last now
    pub read : Consumes a.remaining b.remaining fed
    pub wrote : Appends a.contents b.contents sent
    pub replies : sent ++ link.backlog ≡ told
    pub known : OwesNothing link.conn (has_ended link.phase) now
    pub over : link.phase ≡ Over → IsAtEnd b.remaining ⊎ (link.is_stopped ≡ true)

  -- one that was served is served
  abbrev pub StaysServed : MemcacheLink → MemcacheLink → Service T shelf → Service T shelf → Wire → Wire → Type 0
  StaysServed s t p q b c =
      (start : Service T shelf) → (a : Wire) → IsServedByTalk start a s p b → IsServedByTalk start a t q c

  -- and if it is over, it has no backlog
  abbrev pub StaysServedOrOver : Result Next RunError → MemcacheLink → MemcacheLink → Service T shelf
      → Service T shelf → Wire → Wire → Type 0
  StaysServedOrOver result s t p q b c =
      StaysServed s t p q b c × (t.conn ≡ s.conn)
      × (result ≡ Ok IsOver → (t.backlog ≡ []) × (is_phase_over t.phase ≡ true))

  -- a connection that was served takes a turn when others have had theirs
  abbrev pub TakesItsTurn : Result Next RunError → MemcacheLink → MemcacheLink → Service T shelf
      → Service T shelf → Wire → Wire → Type 0
  TakesItsTurn result s t p q b c =
      (before : Service T shelf) → OthersTurns s.conn before p → StaysServedOrOver result s t before q b c

  -- it is served, and nothing is written
  abbrev pub WorksServed : {R : Type 0} → (R → Option (List ℕ)) → MemcacheLink → MemcacheLink
      → Service T shelf → Service T shelf → Patient R → Patient R → Type 0
  WorksServed remaining s t p q was is =
      ((contents : Option (List ℕ))
      → StaysServed s t p q (record { remaining = remaining (device_of was); contents = contents })
      (record { remaining = remaining (device_of is); contents = contents }))
      × (t.conn ≡ s.conn)

  -- a piece was fed, and the replies are its backlog
  pub record AnswersPiece (piece : List ℕ) (s t : MemcacheLink) (p q : Service T shelf) : Type 0 where
    pub conn : t.conn ≡ s.conn
    pub report : t.report ≡ s.report
    pub stopped : t.is_stopped ≡ s.is_stopped
    pub going : t.phase ≡ Over → ⊥
    pub known : OwesNothing s.conn false p → OwesNothing s.conn (has_ended t.phase) q
    pub exchanges : OwesNothing s.conn false p → Exchanges s.conn piece t.backlog p q
