-- What a turn of a connection leaves of the others.
use Rattle.std.proofs.Common.{◌≡◌, ◌≢◌, ◌≤◌, inl, inr, ◌∙◌, refl, ap, arith, ℕ, Bool, false, List, [], Option, None, Some, Result, Ok, Err, IfOk, OnErr, length}
use Rattle.memcache_model.specs.Counts.{reads}
use Rattle.memcache_service.specs.Serving.{HasFed, IsDoneFor}
use Rattle.memcache_service.specs.Talking.{later_of}
use Rattle.memcache_service.specs.Talks.{FailsToFeed, Takes, connection_of, moment_of_last_call}
use Rattle.memcache_service.specs.declared.connection.Connection.{Connection}
use Rattle.memcache_service.specs.declared.service.Service.{Service}
use Rattle.memcache_service.specs.declared.shelf.Shelf.{Ghosts}
use Rattle.memcache_cache.proofs.Exchanging.{there}
use Rattle.memcache_cache.specs.Served.{TookTurn}

-- the other connections are as they were
abbrev LeavesBeside : {T : Type 0} {shelf : Ghosts T} → ℕ → (p q : Service T shelf) → Type 0
LeavesBeside conn p q = (other : ℕ) → other ≢ conn → connection_of other q ≡ connection_of other p

module _ {T : Type 0} {shelf : Ghosts T} (conn : ℕ) where
  pub take-beside : (told : List ℕ) (p q : Service T shelf) → (connection_of conn p ≢ None → Takes conn told p q) → (connection_of conn p ≡ None → (told ≡ []) × (q.connections ≡ p.connections) × (q.stock ≡ p.stock))
      → LeavesBeside conn p q
  take-beside told p q takes absent = go (connection_of conn p) refl
    where
      go : (o : Option Connection) → connection_of conn p ≡ o → LeavesBeside conn p q
      go None none = λ other apart. rw (absent none).1 refl
      go (Some x) is = (takes (there (connection_of conn p) x is)).is.others

  pub feed-beside : {E : Type 0} (piece : List ℕ) (p q : Service T shelf) (r : Result Bool E)
      → (connection_of conn p ≢ None → IfOk r (λ goes_on. IsDoneFor conn (reads (length piece)) (HasFed shelf q.moment piece goes_on) p.connections q.connections p.stock q.stock))
      → OnErr r (FailsToFeed conn piece p q) → (connection_of conn p ≡ None → (r ≡ Ok false) × (q.connections ≡ p.connections) × (q.stock ≡ p.stock)) → LeavesBeside conn p q
  feed-beside piece p q (Err e) feeds lacks absent = lacks.is.others
  feed-beside piece p q (Ok goes_on) feeds lacks absent = go (connection_of conn p) refl
    where
      go : (o : Option Connection) → connection_of conn p ≡ o → LeavesBeside conn p q
      go None none = λ other apart. rw (absent none).1 refl
      go (Some x) is = (feeds (there (connection_of conn p) x is)).is.others

  module _ (moment : ℕ) where
    -- nothing was done
    pub turn-passed : (p : Service T shelf) → TookTurn conn moment p p
    turn-passed p = record { others = λ other apart. record { same = refl; later = omega arith }; fed_at = inl refl }

    -- replies were taken, something was fed, and replies were taken
    pub turn-exchanged : (p a b q : Service T shelf) → LeavesBeside conn p a → LeavesBeside conn a b → LeavesBeside conn b q → moment_of_last_call a ≡ moment_of_last_call p → moment_of_last_call a ≤ moment_of_last_call b
        → moment_of_last_call b ≡ later_of (moment_of_last_call a) moment → moment_of_last_call q ≡ moment_of_last_call b → TookTurn conn moment p q
    turn-exchanged p a b q taken fed told first later fed_at last = record {
      others = λ other apart. record { same = told other apart ∙ fed other apart ∙ taken other apart; later = omega (arith, first, later, last) };
      fed_at = inr (last ∙ fed_at ∙ ap (λ m. later_of m moment) first);
    }
