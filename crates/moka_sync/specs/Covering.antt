-- A predicate in all shards or in none.
use Rattle.std.specs.Prelude.{◌≡◌, ◌+◌, ◌<◌, ◌≤◌, ◌^◌, ℕ, List, Some, length, map, slice_get}
use Rattle.engine_reference.specs.Calls.{with_predicate, with_room, without_room}
use Rattle.front_reference.specs.Fronts.{CallsEach, passed}
use Rattle.front_reference.specs.declared.data.At.{At}
use Rattle.front_reference.specs.declared.errors.CacheError.{CacheError}
use Rattle.front_reference.specs.declared.errors.CacheError.TheVariants as errors
use Rattle.front_state.specs.Sharding.{DrawsForFirst, FirstHasRoom, with_first_part}
use Rattle.rand_core.specs.Stream.{Stream}
use Rattle.sync_desk.specs.Drawing.{IsCauseToCoverAsDrawn, IsDrawn}
use Rattle.sync_desk.specs.Sharding.{CommitsAsDrawn}
use Rattle.moka_sync.specs.Holding.{GuardedShard}

-- what the items of a list are seen as
abbrev pub each_of : {X Y : Type 0} → List X → (X → Y) → List Y
each_of xs seen = map seen xs

module _ {K V P S R : Type 0} where
  -- there is room for a predicate in a shard
  abbrev pub prepared : GuardedShard K V P S R → GuardedShard K V P S R
  prepared d = record d { state = with_first_part with_room d.state }

  -- that room is given up
  abbrev pub released : GuardedShard K V P S R → GuardedShard K V P S R
  released d = record d { state = with_first_part without_room d.state }

  -- a shard may draw this identifier, and has a step for a predicate
  pub record MayCover (id : ℕ) (d : GuardedShard K V P S R) : Type 0 where
    pub drawn : Stream
    pub left : Stream
    pub draws : DrawsForFirst drawn left id d.state
    pub steps : d.state.step + 1 < 2 ^ 64

  -- a shard may refuse a predicate so
  abbrev pub MayRefuse : GuardedShard K V P S R → CacheError → Type 0
  MayRefuse d e = (drawn left : Stream) × IsCauseToCoverAsDrawn drawn left d.state e

  -- each shard may draw the identifier at its place
  abbrev pub MayCoverEach : List ℕ → List (GuardedShard K V P S R) → Type 0
  MayCoverEach ids ds =
      (place id : ℕ) (d : GuardedShard K V P S R) → slice_get ids place ≡ Some id
      → slice_get ds place ≡ Some d → MayCover id d

  -- a shard has the room that was made for a predicate, and a step for it
  pub record IsPrepared (d : GuardedShard K V P S R) : Type 0 where
    pub room : FirstHasRoom d.state
    pub steps : d.state.step + 1 < 2 ^ 64

  -- a shard registers a predicate under an identifier, in the room that was made for it
  pub record Commits (predicate : P) (id : ℕ) (old new : GuardedShard K V P S R) : Type 0 where
    pub state : CommitsAsDrawn old.moment id predicate old.state new.state
    pub rest : new ≡ record old { state = new.state }

  -- the shards before a place register a predicate, each under the identifier at its place, and the others do nothing
  pub record CommitsFirst (predicate : P) (ids : List ℕ) (count : ℕ)
      (old new : List (GuardedShard K V P S R)) : Type 0 where
    pub same : length new ≡ length old
    pub first : (place id : ℕ) (d : GuardedShard K V P S R) → place < count
        → slice_get ids place ≡ Some id → slice_get old place ≡ Some d
        → (e : GuardedShard K V P S R) × (slice_get new place ≡ Some e) × Commits predicate id d e
    pub rest : (place : ℕ) → count ≤ place → slice_get new place ≡ slice_get old place

  -- a shard draws an identifier that is not registered in it, and registers the predicate under it for all values that were written before
  pub record CoversShard (predicate : P) (old new : GuardedShard K V P S R) : Type 0 where
    pub id : ℕ
    pub at : At
    pub now : IsDrawn old.moment old.state at
    pub may : MayCover id old
    pub covers : new ≡ record old {
      state = passed at.now at.step (with_first_part
          (with_predicate (record { id = id; predicate = predicate; step = at.step })) old.state);
    }

  -- each shard does
  abbrev pub CoversShards : P → List (GuardedShard K V P S R) → List (GuardedShard K V P S R) → Type 0
  CoversShards predicate old new = CallsEach (CoversShard predicate) old new

  -- why none does: there was no memory, or one of them refuses
  abbrev pub IsCauseToCoverShards : List (GuardedShard K V P S R) → CacheError → Type 0
  IsCauseToCoverShards ds errors.OutOfMemory = Unit {0}
  IsCauseToCoverShards ds e =
      (place : ℕ) × (d : GuardedShard K V P S R) × (slice_get ds place ≡ Some d) × MayRefuse d e
