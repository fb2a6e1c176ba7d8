-- Shards under their locks, one after another.
use Rattle.std.proofs.Common.{◌≡◌, refl, ap, sym, ◌∙◌, subst, ℕ, zero, suc, ◌+◌, ◌<◌, ◌≤◌, ◌⊎◌, inl, inr, arith, List, [], ◌∷◌, ◌++◌, length, map, get_or, Some, None, option_map, Result, Ok, Err, IfErr, IfOk, OnErr, OnOk}
use Rattle.std.proofs.lemmas.Option.{slice_get_within, slice_get-get_or, slice_get-map}
use Rattle.std.specs.Prelude.{slice_get, slice_set}
use Rattle.engine_reference.specs.Calls.{registered, with_predicate, with_room, without_room}
use Rattle.engine_reference.specs.State.{State}
use Rattle.engine_reference.specs.declared.data.Registered.{Registered}
use Rattle.front_parts.proofs.wholes.Drawn.{has_room, room_back}
use Rattle.front_parts.proofs.wholes.Firsts.{first-all, first-length, set-length, set_same, there, undone}
use Rattle.front_parts.specs.Wholes.Firsts.{changed_first}
use Rattle.front_reference.specs.Fronts.{Front, passed}
use Rattle.front_reference.specs.declared.data.At.{At}
use Rattle.front_reference.specs.declared.errors.CacheError.{CacheError}
use Rattle.front_reference.specs.declared.errors.CacheError.TheVariants as errors
use Rattle.front_state.specs.Sharding.{FirstHasRoom, with_first_part}
use Rattle.rand_core.specs.Stream.{Stream}
use Rattle.sync_desk.specs.Drawing.{IsCauseToCoverAsDrawn}
use Rattle.sync_desk.specs.Sharding.{CommitsAsDrawn, PreparesAsDrawn}
use Rattle.sync_desk.specs.Slots.Refusals.{IsCoverRefusal}
use Rattle.moka_sync.specs.Holding.{GuardedShard}
use Rattle.moka_sync.specs.Covering.{Commits, CommitsFirst, CoversShard, CoversShards, IsCauseToCoverShards, IsPrepared, MayCover, MayCoverEach, MayRefuse, prepared, released}

module _ {X : Type 0} where
  -- what stands at other places of a list of which one item is set
  pub others : (xs : List X) (i k : ℕ) (x : X) → ((i ≡ k) → ⊥) → slice_get (slice_set xs i x) k ≡ slice_get xs k
  others [] i k x apart = refl
  others (y ∷ xs) zero zero x apart = absurd (apart refl)
  others (y ∷ xs) zero (suc k) x apart = refl
  others (y ∷ xs) (suc i) zero x apart = refl
  others (y ∷ xs) (suc i) (suc k) x apart = others xs i k x (λ e. apart (ap suc e))

  pub set_there : (xs : List X) (i : ℕ) (x : X) → i < length xs → slice_get (slice_set xs i x) i ≡ Some x
  set_there [] i x low = absurd (omega arith)
  set_there (y ∷ xs) zero x low = refl
  set_there (y ∷ xs) (suc i) x low = set_there xs i x (omega arith)

  -- the items behind the first ones that are changed, and those
  pub behind : (F : X → X) (n k : ℕ) (xs : List X) → n ≤ k → slice_get (changed_first (λ j. F) n xs) k ≡ slice_get xs k
  behind F zero k xs low = refl
  behind F (suc n) k [] low = refl
  behind F (suc n) zero (x ∷ xs) low = absurd (omega arith)
  behind F (suc n) (suc k) (x ∷ xs) low = behind F n k xs (omega arith)

  pub before : (F : X → X) (n k : ℕ) (xs : List X) (x : X) → k < n → slice_get xs k ≡ Some x → slice_get (changed_first (λ j. F) n xs) k ≡ Some (F x)
  before F zero k xs x low at = absurd (omega arith)
  before F (suc n) k [] x low at = absurd (let no : ⊥ = cc in no)
  before F (suc n) zero (y ∷ xs) x low at = let same : y ≡ x = cc in ap (λ z. Some (F z)) same
  before F (suc n) (suc k) (y ∷ xs) x low at = before F n k xs x (omega arith) at

  -- one item more is changed
  pub one_further : (F : X → X) (n : ℕ) (old new next : List X) (x : X) → new ≡ changed_first (λ j. F) n old → slice_get new n ≡ Some x → next ≡ slice_set new n (F x) → next ≡ changed_first (λ j. F) (n + 1) old
  one_further F n old new next x far at is =
      is ∙ ap (λ xs. slice_set xs n (F x)) far
      ∙ go n old (sym (behind F n n old (omega arith)) ∙ ap (λ xs. slice_get xs n) (sym far) ∙ at)
      ∙ ap (λ m. changed_first (λ j. F) m old) (more n)
    where
      more : (n : ℕ) → suc n ≡ n + 1
      more n = omega arith

      go : (n : ℕ) (xs : List X) → slice_get xs n ≡ Some x → slice_set (changed_first (λ j. F) n xs) n (F x) ≡ changed_first (λ j. F) (suc n) xs
      go n [] e = absurd (let no : ⊥ = cc in no)
      go zero (y ∷ xs) e = let same : x ≡ y = cc in ap (λ z. F z ∷ xs) same
      go (suc n) (y ∷ xs) e = ap (λ l. F y ∷ l) (go n xs e)

  pub item : (xs : List X) (i : ℕ) → i < length xs → (x : X) × (slice_get xs i ≡ Some x)
  item [] i low = absurd (omega arith)
  item (x ∷ xs) zero low = (x, refl)
  item (x ∷ xs) (suc i) low = item xs i (omega arith)

-- a list whose items are seen through a function
module _ {X Y : Type 0} (f : X → Y) where
  seen_with : (xs : List X) (i : ℕ) (y : X) → map f (slice_set xs i y) ≡ slice_set (map f xs) i (f y)
  seen_with [] i y = refl
  seen_with (x ∷ xs) zero y = refl
  seen_with (x ∷ xs) (suc i) y = ap (λ l. f x ∷ l) (seen_with xs i y)

  seen_long : (xs : List X) → length (map f xs) ≡ length xs
  seen_long [] = refl
  seen_long (x ∷ xs) = ap suc (seen_long xs)

  seen_low : (xs : List X) (ds : List Y) (i : ℕ) → map f xs ≡ ds → i < length ds → i < length xs
  seen_low xs ds i same low = let long : length ds ≡ length xs = ap length (sym same) ∙ seen_long xs in omega arith

  -- what is set is seen
  pub seen_set : (xs : List X) (ds : List Y) (i : ℕ) (y : X) → map f xs ≡ ds → map f (slice_set xs i y) ≡ slice_set ds i (f y)
  seen_set xs ds i y same = seen_with xs i y ∙ ap (λ l. slice_set l i (f y)) same

  seen_here : (xs : List X) (ds : List Y) (i : ℕ) (x : X) → map f xs ≡ ds → i < length ds → x ≡ get_or xs i x → slice_get ds i ≡ Some (f x)
  seen_here xs ds i x same low is =
      ap (λ l. slice_get l i) (sym same) ∙ slice_get-map f xs i ∙ ap (λ o. option_map f o) (there xs i x (seen_low xs ds i same low) is)

  -- what is there is seen
  pub seen_at : (xs : List X) (ds : List Y) (i : ℕ) (x o : X) (d : Y) → map f xs ≡ ds → x ≡ get_or xs i x → o ≡ x → slice_get ds i ≡ Some d → f o ≡ d
  seen_at xs ds i x o d same is alike at =
      let both : Some (f x) ≡ Some d = sym (seen_here xs ds i x same (slice_get_within ds i d at) is) ∙ at in
      let one : f x ≡ d = cc in
      ap f alike ∙ one

  -- nothing is seen of a change that is not seen
  pub seen_same : (xs : List X) (ds : List Y) (i : ℕ) (x o y : X) → map f xs ≡ ds → i < length ds → x ≡ get_or xs i x → o ≡ x → f y ≡ f o → map f (slice_set xs i y) ≡ ds
  seen_same xs ds i x o y same low is alike unseen =
      seen_set xs ds i y same ∙ ap (λ e. slice_set ds i e) (unseen ∙ ap f alike) ∙ set_same ds i (f x) (seen_here xs ds i x same low is)

module _ {K V P S R : Type 0} where
  -- room that is used
  registers_back : (r : Registered P) (ss : List (State K V P S R)) → changed_first (λ k. registered r) 1 (changed_first (λ k. with_room) 1 ss) ≡ changed_first (λ k. with_predicate r) 1 ss
  registers_back r [] = refl
  registers_back r (s ∷ ss) = ap (λ x. with_predicate r x ∷ ss) (room_back s)

module _ {K V P S R : Type 0} where
  -- why none registers a predicate
  pub shards_caused : (ds : List (GuardedShard K V P S R)) (e : CacheError) (place : ℕ) (d : GuardedShard K V P S R) → slice_get ds place ≡ Some d → MayRefuse d e → IsCauseToCoverShards ds e
  shards_caused ds errors.OutOfMemory place d at h = tt
  shards_caused ds errors.UsedUp place d at h = (place, d, at, h)
  shards_caused ds errors.InvalidationClosuresDisabled place d at h = (place, d, at, h)
  shards_caused ds errors.IdsInUse place d at h = (place, d, at, h)
  shards_caused ds errors.UnknownTurn place d at h = (place, d, at, h)
  shards_caused ds errors.Abandoned place d at h = (place, d, at, h)

  -- one identifier more
  pub may_more : (ids : List ℕ) (ds : List (GuardedShard K V P S R)) (id : ℕ) (d : GuardedShard K V P S R) → MayCoverEach ids ds → slice_get ds (length ids) ≡ Some d → MayCover id d → MayCoverEach (ids ++ id ∷ []) ds
  may_more [] ds id d may here one zero i x given at =
      let same_id : id ≡ i = cc in
      let both : Some d ≡ Some x = sym here ∙ at in
      let same_d : d ≡ x = cc in
      subst (λ j. MayCover j x) same_id (subst (λ z. MayCover id z) same_d one)
  may_more [] ds id d may here one (suc place) i x given at = absurd (let no : ⊥ = cc in no)
  may_more (j ∷ ids) ds id d may here one zero i x given at = may zero i x given at
  may_more (j ∷ ids) [] id d may here one (suc place) i x given at = absurd (let no : ⊥ = cc in no)
  may_more (j ∷ ids) (y ∷ ds) id d may here one (suc place) i x given at = may_more ids ds id d (λ k. may (suc k)) here one place i x given at

  pub may_none : (ids : List ℕ) (ds : List (GuardedShard K V P S R)) → ids ≡ [] → MayCoverEach ids ds
  may_none ids ds none place id d given at = absurd (let e : None ≡ Some id = ap (λ xs. slice_get xs place) (sym none) ∙ given in let no : ⊥ = cc in no)

  -- room that is made in a shard, and given up
  pub released_back : (d : GuardedShard K V P S R) → released (prepared d) ≡ d
  released_back d = ap (λ ss. record d { state = record d.state { parts = ss } }) (undone with_room without_room room_back 1 d.state.parts)

  pub prepared_roomy : (d : GuardedShard K V P S R) → FirstHasRoom (prepared d).state
  prepared_roomy d s at = first-all with_room (λ x. 0 < x.reserved) has_room 1 d.state.parts 0 s (omega arith) at

  pub prepared_first : (n : ℕ) (old mid : List (GuardedShard K V P S R)) → mid ≡ changed_first (λ k. prepared) n old → (place : ℕ) (d : GuardedShard K V P S R) → place < n → slice_get mid place ≡ Some d → FirstHasRoom d.state
  prepared_first n old mid is place d less at = first-all prepared (λ x. FirstHasRoom x.state) prepared_roomy n old place d less (ap (λ ds. slice_get ds place) (sym is) ∙ at)

  -- the shards that were made ready are so
  pub all_prepared : (ids : List ℕ) (old new : List (GuardedShard K V P S R)) → MayCoverEach ids old → length ids ≡ length old → new ≡ changed_first (λ k. prepared) (length old) old
      → (place : ℕ) (d : GuardedShard K V P S R) → slice_get new place ≡ Some d → IsPrepared d
  all_prepared ids old new may long is place d at = go ids old may long place d (ap (λ ds. slice_get ds place) (sym is) ∙ at)
    where
      go : (ids : List ℕ) (ds : List (GuardedShard K V P S R)) → MayCoverEach ids ds → length ids ≡ length ds → (place : ℕ) (d : GuardedShard K V P S R)
          → slice_get (changed_first (λ k. prepared) (length ds) ds) place ≡ Some d → IsPrepared d
      go ids [] may long place d at = absurd (let no : ⊥ = cc in no)
      go [] (e ∷ ds) may long place d at = absurd (omega arith)
      go (id ∷ ids) (e ∷ ds) may long zero d at =
          let same : prepared e ≡ d = cc in
          subst (λ x. IsPrepared x) same (record { room = prepared_roomy e; steps = (may 0 id e refl refl).steps })
      go (id ∷ ids) (e ∷ ds) may long (suc place) d at = go ids ds (λ k i x. may (suc k) i x) (omega arith) place d at

  -- one shard more registers the predicate
  pub commits_none : (p : P) (ids : List ℕ) (ds : List (GuardedShard K V P S R)) → CommitsFirst p ids 0 ds ds
  commits_none p ids ds = record { same = refl; first = λ place id d low. absurd (omega arith); rest = λ place low. refl }

  pub commits_more : (p : P) (ids : List ℕ) (n id : ℕ) (old new next : List (GuardedShard K V P S R)) (d e : GuardedShard K V P S R) → CommitsFirst p ids n old new → slice_get ids n ≡ Some id → slice_get new n ≡ Some d
      → n < length new → Commits p id d e → next ≡ slice_set new n e → CommitsFirst p ids (n + 1) old next
  commits_more p ids n id old new next d e h drawn at low does is = record {
    same = ap length is ∙ set-length new n e ∙ h.same;
    first = λ place i x less given here. go place i x (nat-eq-or place n) less given here;
    rest = λ place less. ap (λ ds. slice_get ds place) is ∙ others new n place e (λ s. omega (arith, s)) ∙ h.rest place (omega arith);
  }
    where
      nat-eq-or : (a b : ℕ) → (a ≡ b) ⊎ ((a ≡ b) → ⊥)
      nat-eq-or zero zero = inl refl
      nat-eq-or zero (suc b) = inr (λ s. omega (arith, s))
      nat-eq-or (suc a) zero = inr (λ s. omega (arith, s))
      nat-eq-or (suc a) (suc b) = elim (nat-eq-or a b) [ inl s ↦ inl (ap suc s) | inr differ ↦ inr (λ s. differ (omega (arith, s))) ]

      apart : (a b : ℕ) → a < b + 1 → ((a ≡ b) → ⊥) → a < b
      apart a zero less differ = absurd (differ (omega arith))
      apart zero (suc b) less differ = omega arith
      apart (suc a) (suc b) less differ = let l = apart a b (omega arith) (λ s. differ (ap suc s)) in omega arith

      go : (place i : ℕ) (x : GuardedShard K V P S R) → (place ≡ n) ⊎ ((place ≡ n) → ⊥) → place < n + 1 → slice_get ids place ≡ Some i → slice_get old place ≡ Some x
          → (y : GuardedShard K V P S R) × (slice_get next place ≡ Some y) × Commits p i x y
      go place i x (inl s) less given here =
          let one : Some id ≡ Some i = sym drawn ∙ ap (λ k. slice_get ids k) (sym s) ∙ given in
          let two : Some d ≡ Some x = sym at ∙ h.rest n (omega arith) ∙ ap (λ k. slice_get old k) (sym s) ∙ here in
          let same_id : id ≡ i = cc in
          let same_d : d ≡ x = cc in
          (e, ap (λ k. slice_get next k) s ∙ ap (λ ds. slice_get ds n) is ∙ set_there new n e low, subst (λ j. Commits p j x e) same_id (subst (λ z. Commits p id z e) same_d does))
      go place i x (inr differ) less given here =
          let before = h.first place i x (apart place n less differ) given here in
          (before.0, ap (λ ds. slice_get ds place) is ∙ others new n place e (λ s. differ (sym s)) ∙ before.1, before.2)

  -- all but the state is as before, and the state is this
  stays_but : (o y : GuardedShard K V P S R) (f : Front K V P S R) → y ≡ record o { state = y.state } → y.state ≡ f → y ≡ record o { state = f }
  stays_but o y f rest is = rest ∙ ap (λ x. record o { state = x }) is

  -- a shard that was made ready and registered a predicate draws and covers
  covers_one : (p : P) (id : ℕ) (d e : GuardedShard K V P S R) → MayCover id d → Commits p id (prepared d) e → CoversShard p d e
  covers_one p id d e may does =
      let at : At = does.state.0 in
      let one : Registered P = record { id = id; predicate = p; step = at.step } in
      record {
        id = id;
        at = at;
        now = does.state.1;
        may = may;
        covers = stays_but d e (passed at.now at.step (with_first_part (registered one) (prepared d).state)) does.rest does.state.2
            ∙ ap (λ ss. record d { state = passed at.now at.step (record d.state { parts = ss }) }) (registers_back one d.state.parts);
      }

  pub covers_all : (p : P) (ids : List ℕ) (old mid new : List (GuardedShard K V P S R)) → MayCoverEach ids old → length ids ≡ length old → mid ≡ changed_first (λ k. prepared) (length old) old
      → CommitsFirst p ids (length mid) mid new → CoversShards p old new
  covers_all p ids old mid new may long is h =
      let same : length mid ≡ length old = ap length is ∙ first-length (λ k. prepared) (length old) old in
      record {
        count = h.same ∙ same;
        each = λ place d at.
            let low = slice_get_within old place d at in
            let id = get_or ids place 0 in
            let drawn : slice_get ids place ≡ Some id = slice_get-get_or ids place 0 (omega (arith, long)) in
            let here = ap (λ ds. slice_get ds place) is ∙ before prepared (length old) place old d low at in
            let made = h.first place id (prepared d) (omega (arith, same)) drawn here in
            (made.0, made.1, covers_one p id d made.0 (may place id d drawn at) made.2);
      }

-- a shard at a place: x is its guard as it is held, o and y are that guard before and after the call
module _ {K V P S R X : Type 0} (f : X → GuardedShard K V P S R) (xs : List X) (ds : List (GuardedShard K V P S R)) (i : ℕ) (x o y : X) (same : map f xs ≡ ds) (is : x ≡ get_or xs i x) (alike : o ≡ x) where
  pub at_changed : (change : GuardedShard K V P S R → GuardedShard K V P S R) → f y ≡ change (f o) → (d : GuardedShard K V P S R) → slice_get ds i ≡ Some d → map f (slice_set xs i y) ≡ slice_set ds i (change d)
  at_changed change does d at = seen_set f xs ds i y same ∙ ap (λ e. slice_set ds i e) (does ∙ ap change (seen_at f xs ds i x o d same is alike at))

  pub at_prepared : (drawn left : Stream) (r : Result ℕ CacheError) → IfOk r (λ id. PreparesAsDrawn drawn left id (f o).state (f y).state) → f y ≡ record (f o) { state = (f y).state }
      → OnOk r ((d : GuardedShard K V P S R) → slice_get ds i ≡ Some d → map f (slice_set xs i y) ≡ slice_set ds i (prepared d))
  at_prepared drawn left (Ok id) h rest = at_changed prepared (stays_but (f o) (f y) (prepared (f o)).state rest h.room)
  at_prepared drawn left (Err e) h rest = tt

  pub at_may : (drawn left : Stream) (r : Result ℕ CacheError) (new : Front K V P S R) → IfOk r (λ id. PreparesAsDrawn drawn left id (f o).state new) → IfOk r (λ id. (d : GuardedShard K V P S R) → slice_get ds i ≡ Some d → MayCover id d)
  at_may drawn left (Ok id) new h = λ d at. subst (λ z. MayCover id z) (seen_at f xs ds i x o d same is alike at) (record { drawn = drawn; left = left; draws = h.draws; steps = h.steps })
  at_may drawn left (Err e) new h = tt

  pub at_refused : (r : Result ℕ CacheError) → i < length ds → OnErr r ((f y).state ≡ (f o).state) → f y ≡ record (f o) { state = (f y).state } → OnErr r (map f (slice_set xs i y) ≡ ds)
  at_refused (Ok id) low h rest = tt
  at_refused (Err e) low h rest = seen_same f xs ds i x o y same low is alike (stays_but (f o) (f y) (f o).state rest h)

  pub at_caused : (drawn left : Stream) (r : Result ℕ CacheError) → IfErr r (IsCauseToCoverAsDrawn drawn left (f o).state) → IfErr r (λ e. (d : GuardedShard K V P S R) → slice_get ds i ≡ Some d → MayRefuse d e)
  at_caused drawn left (Ok id) h = tt
  at_caused drawn left (Err e) h = λ d at. (drawn, left, subst (λ z. IsCauseToCoverAsDrawn drawn left z.state e) (seen_at f xs ds i x o d same is alike at) h)

  pub at_committed : (p : P) (id : ℕ) → CommitsAsDrawn (f o).moment id p (f o).state (f y).state → f y ≡ record (f o) { state = (f y).state }
      → (d : GuardedShard K V P S R) → slice_get ds i ≡ Some d → (e : GuardedShard K V P S R) × Commits p id d e × (map f (slice_set xs i y) ≡ slice_set ds i e)
  at_committed p id does rest d at =
      let made : Commits p id (f o) (f y) = record { state = does; rest = rest } in
      (f y, subst (λ z. Commits p id z (f y)) (seen_at f xs ds i x o d same is alike at) made, seen_set f xs ds i y same)

  pub at_released : (f y).state ≡ with_first_part without_room (f o).state → f y ≡ record (f o) { state = (f y).state }
      → (d : GuardedShard K V P S R) → slice_get ds i ≡ Some d → map f (slice_set xs i y) ≡ slice_set ds i (released d)
  at_released does rest = at_changed released (stays_but (f o) (f y) (released (f o)).state rest does)

  -- what is so of the shard is so of what its guard guards
  pub at_so : (Q : GuardedShard K V P S R → Type 0) → i < length ds → ((d : GuardedShard K V P S R) → slice_get ds i ≡ Some d → Q d) → Q (f o)
  at_so Q low h = let one = item ds i low in subst Q (sym (seen_at f xs ds i x o one.0 same is alike one.1)) (h one.0 one.1)

-- why a predicate is not accepted, for a caller that cannot name what is under the locks
pub cover_refused_by_all : {K V P S R T : Type 0} (ds : List (GuardedShard K V P S R)) (r : Result T CacheError) → IfErr r (IsCauseToCoverShards ds) → IfErr r IsCoverRefusal
cover_refused_by_all ds (Ok x) cause = tt
cover_refused_by_all ds (Err errors.OutOfMemory) cause = tt
cover_refused_by_all ds (Err errors.UsedUp) cause = tt
cover_refused_by_all ds (Err errors.InvalidationClosuresDisabled) cause = tt
cover_refused_by_all ds (Err errors.IdsInUse) cause = tt
cover_refused_by_all ds (Err errors.UnknownTurn) cause = cause.3.2
cover_refused_by_all ds (Err errors.Abandoned) cause = cause.3.2
