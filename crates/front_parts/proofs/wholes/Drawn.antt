-- Identifiers for all parts, and predicates that take the room that was made for them.
use Rattle.std.proofs.Common.{◌≡◌, refl, ap, ◌∙◌, subst, ℕ, zero, suc, ◌+◌, ◌-◌, ◌<◌, inl, inr, arith, List, [], ◌∷◌, ◌++◌, length, Some, append_assoc}
use Rattle.std.specs.Prelude.{slice_get}
use Rattle.rand_core.specs.Stream.{Stream}
use Rattle.engine_reference.specs.Identifiers.Drawing.{AreInUse, Draws, is_registered}
use Rattle.engine_reference.specs.Calls.{with_predicate, with_room, without_room}
use Rattle.engine_reference.specs.State.{State}
use Rattle.front_reference.specs.Wholes.{DrawAll, DrawsInVain, registered_in}
use Rattle.front_reference.specs.Parts.{IsCause}
use Rattle.front_reference.specs.declared.errors.CacheError.{CacheError}
use Rattle.front_reference.specs.declared.errors.CacheError.TheVariants as errors
use Rattle.front_parts.specs.Wholes.Covering.{AreOnly, IsCoverCause, IsRoomCause, commits}
use Rattle.front_parts.specs.Wholes.Firsts.{changed_first}

module _ {K V P S R : Type 0} where
  -- room that is made and given up
  pub room_back : (s : State K V P S R) → without_room (with_room s) ≡ s
  room_back s = let back : s.reserved + 1 - 1 ≡ s.reserved = omega arith in ap (λ n. record s { reserved = n }) back

  pub has_room : (s : State K V P S R) → 0 < (with_room s).reserved
  has_room s = omega arith

  -- why a part has no room is why all have none
  pub room-caused : (ss : List (State K V P S R)) (i : ℕ) (s : State K V P S R) (e : CacheError) → slice_get ss i ≡ Some s → IsCause 1 s e → IsRoomCause ss e
  room-caused ss i s errors.OutOfMemory at h = tt
  room-caused ss i s errors.UsedUp at h = (i, s, at, h)
  room-caused ss i s errors.InvalidationClosuresDisabled at h = h
  room-caused ss i s errors.IdsInUse at h = h
  room-caused ss i s errors.UnknownTurn at h = h
  room-caused ss i s errors.Abandoned at h = h

  pub cover-caused : (ss : List (State K V P S R)) (a b : Stream) (e : CacheError) → b ≡ a → IsRoomCause ss e → IsCoverCause ss a b e
  cover-caused ss a b errors.OutOfMemory same h = same
  cover-caused ss a b errors.UsedUp same h = (same, h)
  cover-caused ss a b errors.InvalidationClosuresDisabled same h = h
  cover-caused ss a b errors.IdsInUse same h = absurd h
  cover-caused ss a b errors.UnknownTurn same h = h
  cover-caused ss a b errors.Abandoned same h = h

  -- room does not matter to what is drawn
  pub draws-unroomed : (n : ℕ) (ss : List (State K V P S R)) (a b : Stream) (ids : List ℕ) → DrawAll (changed_first (λ k. with_room) n ss) a b ids → DrawAll ss a b ids
  draws-unroomed zero ss a b ids h = h
  draws-unroomed (suc n) [] a b ids h = h
  draws-unroomed (suc n) (s ∷ ss) a b ids h = (h.0, h.1, h.2, h.3, h.4, draws-unroomed n ss h.2 b h.1 h.5)

  pub vain-unroomed : (n : ℕ) (ss : List (State K V P S R)) (a b : Stream) → DrawsInVain (changed_first (λ k. with_room) n ss) a b → DrawsInVain ss a b
  vain-unroomed zero ss a b h = h
  vain-unroomed (suc n) [] a b h = h
  vain-unroomed (suc n) (s ∷ ss) a b h = elim h [ inl used ↦ inl used | inr later ↦ inr (later.0, later.1, later.2, vain-unroomed n ss later.1 b later.3) ]

  pub draws-long : (ss : List (State K V P S R)) (a b : Stream) (ids : List ℕ) → DrawAll ss a b ids → length ids ≡ length ss
  draws-long [] a b ids h = ap length h.0
  draws-long (s ∷ ss) a b ids h = ap length h.3 ∙ ap suc (draws-long ss h.2 b h.1 h.5)

  -- predicates that take the room that was made
  pub committed : (p : P) (step : ℕ) (ids : List ℕ) (ss : List (State K V P S R)) → length ids ≡ length ss
      → changed_first (commits p step ids) (length ss) (changed_first (λ k. with_room) (length ss) ss) ≡ registered_in p step ids ss
  committed p step [] [] e = refl
  committed p step [] (s ∷ ss) e = absurd (omega arith)
  committed p step (id ∷ ids) [] e = absurd (omega arith)
  committed p step (id ∷ ids) (s ∷ ss) e =
      let less : length ids ≡ length ss = omega arith in
      ap (λ x. with_predicate (record { id = id; predicate = p; step = step }) x ∷ changed_first (commits p step ids) (length ss) (changed_first (λ k. with_room) (length ss) ss)) (room_back s)
      ∙ ap (λ l. with_predicate (record { id = id; predicate = p; step = step }) s ∷ l) (committed p step ids ss less)

  -- a part draws after those before it
  pub draws-next : (s : State K V P S R) (ss : List (State K V P S R)) (a b c : Stream) (id : ℕ) (more : List ℕ) → Draws a b (is_registered s.predicates) id → DrawAll ss b c more → DrawAll (s ∷ ss) a c (id ∷ more)
  draws-next s ss a b c id more d rest = (id, more, b, refl, d, rest)

  pub vain-here : (s : State K V P S R) (ss : List (State K V P S R)) (a b : Stream) → AreInUse a b (is_registered s.predicates) → DrawsInVain (s ∷ ss) a b
  vain-here s ss a b used = inl used

  pub vain-later : (s : State K V P S R) (ss : List (State K V P S R)) (a b c : Stream) (id : ℕ) → Draws a b (is_registered s.predicates) id → DrawsInVain ss b c → DrawsInVain (s ∷ ss) a c
  vain-later s ss a b c id d later = inr (id, b, d, later)

-- one more of a list whose items are all this one
pub all-append : {X : Type 0} (x y : X) (xs : List X) → AreOnly x xs → y ≡ x → AreOnly x (xs ++ y ∷ [])
all-append x y [] h is = (is, tt)
all-append x y (z ∷ xs) h is = (h.0, all-append x y xs h.1 is)

-- the last of them, and the others
pub all-last : {X : Type 0} (x y : X) (old xs : List X) → old ≡ xs ++ y ∷ [] → AreOnly x old → AreOnly x xs × (y ≡ x)
all-last {X = X} x y old xs e h = parts xs (subst (λ l. AreOnly x l) e h)
  where
    parts : (xs : List X) → AreOnly x (xs ++ y ∷ []) → AreOnly x xs × (y ≡ x)
    parts [] h = (tt, h.0)
    parts (z ∷ xs) h = let k = parts xs h.1 in ((h.0, k.0), k.1)

pub after-one : (ids : List ℕ) (id : ℕ) (more : List ℕ) → (ids ++ id ∷ []) ++ more ≡ ids ++ id ∷ more
after-one ids id more = append_assoc ids (id ∷ []) more

pub no_more : {X : Type 0} (xs : List X) → xs ++ [] ≡ xs
no_more [] = refl
no_more (x ∷ xs) = ap (λ l. x ∷ l) (no_more xs)

pub no_length : {X : Type 0} (xs : List X) → length xs ≡ 0 → xs ≡ []
no_length [] e = refl
no_length (x ∷ xs) e = absurd (omega arith)
