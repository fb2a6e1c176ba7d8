-- A turn of a loop's connection, and what becomes of it.
use Rattle.std.proofs.Common.{◌≡◌, ◌≢◌, ℕ, Option, Some, None, Result, MatchOption}
use Rattle.slab.specs.Slab.{Slab}
use Rattle.cache_run.specs.declared.devices.errors.RunError.{RunError}
use Rattle.cache_link.specs.declared.link.Next.{Next}
use Rattle.cache_loop.specs.Turns.{ClosesAtKey, EndsTurnAt, SamePairs, outcome_of, pair_at}
use Rattle.cache_loop.specs.declared.doorway.Stream.{Stream}
use Rattle.cache_loop.specs.declared.served.Served.{Served}
use Rattle.cache_loop.specs.declared.steward.Steward.{Ghosts as Ways}

module _ {S L : Type 0} (ways : Ways S L) where
  closed-others : (key : ℕ) (outcome : Result (Unit {0}) RunError) (p : Slab (Served L)) (s : S) (given : Option Stream) (q : Slab (Served L)) (t : S) → ClosesAtKey ways key outcome p s given q t
      → (other : ℕ) → other ≢ key → pair_at q other ≡ pair_at p other
  closed-others key outcome p s None q t absent = λ other differs. absent.same other
  closed-others key outcome p s (Some socket) q t closed = λ other differs. closed.gone.others other differs

  by-outcome : (key : ℕ) (outcome : Option (Result (Unit {0}) RunError)) (p : Slab (Served L)) (s : S) (q : Slab (Served L)) (t : S)
      → MatchOption outcome (SamePairs p q × (t ≡ s)) (λ one. (given : Option Stream) × ClosesAtKey ways key one p s given q t)
      → (other : ℕ) → other ≢ key → pair_at q other ≡ pair_at p other
  by-outcome key None p s q t ends = λ other differs. ends.0 other
  by-outcome key (Some one) p s q t ends = closed-others key one p s ends.0 q t ends.1

  -- the others are as they were
  pub ended-others : (key : ℕ) (result : Result Next RunError) (p : Slab (Served L)) (s : S) (q : Slab (Served L)) (t : S) → EndsTurnAt ways key result p s q t
      → (other : ℕ) → other ≢ key → pair_at q other ≡ pair_at p other
  ended-others key result p s q t ends = by-outcome key (outcome_of result) p s q t ends
