-- What an exchange with the service leaves.
use Rattle.std.proofs.Common.{◌≡◌, ◌≢◌, ◌⊎◌, inl, inr, ◌∙◌, refl, sym, ap, subst, ℕ, Bool, true, false, not, List, [], Option, None, Some, Result, Ok, Err, IfOk, OnErr, length, MatchResult}
use Rattle.std.proofs.lemmas.Option.{none-some}
use Rattle.memcache_model.specs.Counts.{reads}
use Rattle.memcache_service.specs.Serving.{HasFed, IsDoneFor}
use Rattle.memcache_service.specs.Talks.{FailsToFeed, Feeds, Takes, connection_of}
use Rattle.memcache_service.specs.declared.connection.Connection.{Connection}
use Rattle.memcache_service.specs.declared.service.Service.{Service}
use Rattle.memcache_service.specs.declared.shelf.Shelf.{Ghosts}
use Rattle.memcache_cache.specs.Served.{KnowsConnection, OwesNothing}

pub there : {X : Type 0} (o : Option X) (x : X) → o ≡ Some x → o ≢ None
there o x is none = none-some x (sym none ∙ is)

same-some : {X : Type 0} (o : Option X) (x y : X) → o ≡ Some x → o ≡ Some y → x ≡ y
same-some o x y one other = cc

not-not : (b : Bool) → not (not b) ≡ b
not-not true = refl
not-not false = refl

module _ {T : Type 0} {shelf : Ghosts T} (conn : ℕ) where
  -- all that it was told was taken
  pub taken : (ended : Bool) (told : List ℕ) (p q : Service T shelf) → KnowsConnection conn ended p → (connection_of conn p ≢ None → Takes conn told p q) → Takes conn told p q × OwesNothing conn ended q
  taken ended told p q has takes =
      let done = takes (there (connection_of conn p) has.connection has.is) in
      let same : done.before ≡ has.connection = same-some (connection_of conn p) done.before has.connection done.was has.is in
      let closed : done.after.is_closed ≡ ended = ap (λ (k : Connection). k.is_closed) done.done.1.same ∙ ap (λ (k : Connection). k.is_closed) same ∙ has.closed in
      (done, record { has = record { connection = done.after; is = done.is.changed; closed = closed }; taken = done.done.1.output })

  -- nothing was owed, so that nothing was taken
  pub lent : (ended : Bool) (told : List ℕ) (p q : Service T shelf) → OwesNothing conn ended p → (connection_of conn p ≢ None → Takes conn told p q) → Takes conn [] p q × OwesNothing conn ended q
  lent ended told p q known takes =
      let both = taken ended told p q known.has takes in
      let same : both.0.before ≡ known.has.connection = same-some (connection_of conn p) both.0.before known.has.connection both.0.was known.has.is in
      let none : told ≡ [] = both.0.done.0 ∙ ap (λ (k : Connection). k.output.items) same ∙ known.taken in
      (subst (λ (z : List ℕ). Takes conn z p q) none both.0, both.1)

  -- a piece was fed
  pub fed : {E : Type 0} (piece : List ℕ) (ended : Bool) (p q : Service T shelf) → KnowsConnection conn false p → (r : Result Bool E) → (connection_of conn p ≢ None → IfOk r (λ goes_on. IsDoneFor conn (reads (length piece)) (HasFed shelf q.moment piece goes_on) p.connections q.connections p.stock q.stock)) → OnErr r (FailsToFeed conn piece p q) → MatchResult r (λ goes_on. ended ≡ not goes_on) (λ e. ended ≡ true) → (Feeds conn piece p q ⊎ FailsToFeed conn piece p q) × KnowsConnection conn ended q
  fed piece ended p q has (Ok goes_on) feeds lacks is =
      let done = feeds (there (connection_of conn p) has.connection has.is) in
      let same : done.before ≡ has.connection = same-some (connection_of conn p) done.before has.connection done.was has.is in
      let still : done.before.is_closed ≡ false = ap (λ (k : Connection). k.is_closed) same ∙ has.closed in
      let closed : done.after.is_closed ≡ ended = sym (not-not done.after.is_closed) ∙ sym (ap not done.done.0) ∙ sym is in
      (inl (record { before = done.before; after = done.after; was = done.was; is = done.is; done = (still, done.done.1 still) }), record { connection = done.after; is = done.is.changed; closed = closed })
  fed piece ended p q has (Err e) feeds lacks is =
      (inr lacks, record { connection = lacks.after; is = lacks.is.changed; closed = lacks.done.1 ∙ sym is })
