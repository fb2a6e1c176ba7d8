-- What a shelf has, and what a call does to it.
use Rattle.std.specs.Prelude.{◌≡◌, ℕ, ◌+◌, ◌≤◌, ◌<◌, ◌^◌, ◌⊎◌, false, List, [], ◌∷◌, length, Option, Some, None, IfSome}
use Rattle.std.specs.Borrow.{Bor, MutBor}
use Rattle.std.specs.Fn.{Once}
use Rattle.std.specs.List.{list_any}
use Rattle.std.specs.Option.{option_map, option_map_or}
use Rattle.std.specs.Str.{bytes_eq}
use Rattle.memcache_model.specs.Items.{Item, Items, unexpired}
use Rattle.memcache_model.specs.declared.counters.Counters.{Counters}

-- the items of keys by the moment, of which some may have expired, the moment of the last call, and what all items may weigh
pub record Shelved : Type 0 where
  pub items : (moment : ℕ) → Items
  pub latest : ℕ
  pub capacity : ℕ

-- what is live of it at a moment
abbrev pub live_on : Shelved → (moment : ℕ) → Items
live_on shelved moment = λ key. unexpired moment (shelved.items moment key)

-- there is nothing
abbrev pub ShowsNothing : Shelved → Type 0
ShowsNothing shelved = (moment : ℕ) (key : List ℕ) → shelved.items moment key ≡ None

-- a call may come at this moment
pub record MayComeAt (shelved : Shelved) (moment : ℕ) : Type 0 where
  pub later : shelved.latest ≤ moment
  pub early : moment < 2 ^ 43

-- each key has a live item of these, or none
abbrev pub AreLeft : (moment : ℕ) → (all is : Items) → Type 0
AreLeft moment all is = (key : List ℕ)
    → (unexpired moment (is key) ≡ unexpired moment (all key)) ⊎ (unexpired moment (is key) ≡ None)

-- a call at a moment leaves these items, but for those that left by themselves
pub record Becomes (moment : ℕ) (all : Items) (shelved : Shelved) : Type 0 where
  pub items : AreLeft moment all (shelved.items moment)
  pub latest : shelved.latest ≡ moment

-- a call was passed the live item of a key, if there is one, and the value behind a `&mut`; it returned this, and left that there
pub record SeesLive {F O A : Type 0}
    (see : Once F (Option (Bor Item) × (MutBor O × Unit {0})) (A × (MutBor O × Unit {0}))) (f : F)
    (live : Option Item) (old : O) (answer : A) (new : O) : Type 0 where
  pub found : Option (Bor Item)
  pub is : option_map (λ (b : Bor Item). b.now) found ≡ live
  pub shown : MutBor O
  pub shows : shown.now ≡ old
  pub left : MutBor O
  pub met : see.post f (found, (shown, tt)) (answer, (left, tt))
  pub leaves : left.now ≡ new

-- nothing was counted but what left by itself
abbrev pub CountsRemovals : (old new : Counters) → Type 0
CountsRemovals old new =
    new ≡ record old { expired = new.expired; evictions = new.evictions }

-- the key, if it is the only one
abbrev pub lone_key : List (List ℕ) → Option (List ℕ)
lone_key (key ∷ []) = Some key
lone_key keys = None

-- of the keys of a request, that of its only one is used
abbrev pub UsesOne : {T : Type 0} → (uses : ℕ → List ℕ → T → T → Type 0) → (moment : ℕ)
    → List (List ℕ) → (old new : T) → Type 0
UsesOne uses moment keys old new = IfSome (lone_key keys) (λ key. uses moment key old new)

-- as time passes items may leave, and no other appears
abbrev pub OnlyLeave : Shelved → Type 0
OnlyLeave shelved = (first later : ℕ) → first ≤ later
    → AreLeft later (shelved.items first) (shelved.items later)

-- these keys, none of them twice or among the others
abbrev pub AreBeside : (others keys : List (List ℕ)) → Type 0
AreBeside others [] = Unit {0}
AreBeside others (key ∷ keys) =
    (list_any (bytes_eq key) others ≡ false) × AreBeside (key ∷ others) keys

-- what the items of keys weigh together
abbrev pub weight_together : (List ℕ → Item → ℕ) → Items → List (List ℕ) → ℕ
weight_together weigh items [] = 0
weight_together weigh items (key ∷ keys) =
    option_map_or (weigh key) (items key) 0 + weight_together weigh items keys

-- Beside at most 63 keys, which were written since the last maintenance, all that is there weighs at most the capacity.
pub record IsWithinCapacity (weigh : List ℕ → Item → ℕ) (shelved : Shelved) : Type 0 where
  pub waiting : List (List ℕ)
  pub few : length waiting ≤ 63
  pub rest : (moment : ℕ) (keys : List (List ℕ)) → AreBeside waiting keys
      → weight_together weigh (shelved.items moment) keys ≤ shelved.capacity
