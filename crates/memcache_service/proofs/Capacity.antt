-- What all items may weigh stays as requests are served.
use Rattle.std.proofs.Common.{◌≡◌, ℕ, Bool, true, false, List, ◌++◌, ◌-◌, ◌∙◌, ⊎_elim, ap, drop, length, refl}
use Rattle.memcache_service.specs.Serving.{AreServed, FailsToFeed, Feeds, HasLacked, no_more, one_more}
use Rattle.memcache_service.specs.declared.shelf.Shelf.{Ghosts}
use Rattle.memcache_service.specs.declared.connection.Connection.{Connection}
use Rattle.memcache_service.specs.declared.stock.Stock.{Stock}

module _ {T : Type 0} (shelf : Ghosts T) (moment : ℕ) where
  abbrev pub capacity : Stock T → ℕ
  capacity stock = (shelf.view stock.shelf).capacity

  served-capacity : (most : ℕ) (first : Stock T) (bytes : List ℕ) (skipped : ℕ) (before : List ℕ) (new : Stock T) (left : List ℕ) (skip : ℕ) (after : List ℕ) (ends : Bool)
      → AreServed shelf moment most first bytes skipped before new left skip after ends → capacity new ≡ capacity first
  served-capacity most first bytes skipped before new left skip after ends no_more = refl
  served-capacity most first bytes skipped before new left skip after ends (one_more mid now r used was rest between said were arrives served) =
      ⊎_elim (λ d. d.0.leaves.capacity) (λ r. r.capacity) served.does ∙ served-capacity most first bytes skipped before mid rest was between false were

  lacked-capacity : (most : ℕ) (first : Stock T) (bytes : List ℕ) (skipped : ℕ) (before : List ℕ) (new : Stock T) (after : List ℕ) → HasLacked shelf moment most first bytes skipped before new after → capacity new ≡ capacity first
  lacked-capacity most first bytes skipped before new after lacks =
      ap (λ (s : T). (shelf.view s).capacity) lacks.spared.shelf ∙ served-capacity most first bytes skipped before lacks.last lacks.left lacks.skip after false lacks.served

  -- a piece was fed to a connection, unless it had ended
  pub fed-capacity : (piece : List ℕ) (before after : Connection) (first new : Stock T) (closed : Bool) → before.is_closed ≡ closed → (before.is_closed ≡ false → Feeds shelf moment piece before after first new)
      → (before.is_closed ≡ true → new ≡ first) → capacity new ≡ capacity first
  fed-capacity piece before after first new true is feeds same = ap capacity (same is)
  fed-capacity piece before after first new false is feeds same =
      let f = feeds is in
      served-capacity first.most first (before.input.items ++ drop before.skip piece) (before.skip - length piece) before.output.items new f.0 after.skip after.output.items after.is_closed f.1.served

  -- or there was no memory for all of it
  pub failed-capacity : (piece : List ℕ) (before after : Connection) (first new : Stock T) → FailsToFeed shelf moment piece before after first new → capacity new ≡ capacity first
  failed-capacity piece before after first new fails =
      lacked-capacity first.most first (before.input.items ++ drop before.skip piece) (before.skip - length piece) before.output.items new after.output.items fails.0
