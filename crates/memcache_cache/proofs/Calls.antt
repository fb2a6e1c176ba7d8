-- What calls of a lent cache show as those of a shelf.
use Rattle.std.proofs.Common.{◌≡◌, ℕ, zero, suc, ◌+◌, ◌*◌, ◌/◌, ◌<◌, ◌≤◌, arith, true, false, true≢false, cond, List, [], ◌∷◌, drop, get_or, length, Option, Some, None, inl, inr, ◌⊎◌, ⊎_elim, refl, sym, ap, subst, ◌∙◌, eqb}
use Rattle.std.proofs.Math.Logic.{∥∥₁_elim, ∥∥₁_map}
use Rattle.std.proofs.Math.Path.{fun_ext}
use Rattle.std.proofs.Props.{props}
use Rattle.std.proofs.lemmas.Bool.{cases_eq, false_from_ne_true}
use Rattle.std.proofs.lemmas.Option.{none-some, same_Some, slice_get_within, slice_get-get_or}
use Rattle.std.proofs.lemmas.Slice.Eq.{bytes_eq-Decides}
use Rattle.std.specs.Cmp.{IsEquivalence}
use Rattle.std.specs.Prelude.{slice_get, slice_set, unwrap_or}
use Rattle.engine_reference.specs.declared.data.Notice.{Notice}
use Rattle.engine_reference.specs.declared.data.Record.{Record}
use Rattle.engine_reference.specs.Calls.{cleared_by, without_notice}
use Rattle.engine_reference.specs.Scanning.{NotesLookUp}
use Rattle.engine_reference.specs.Soundness.{Each}
use Rattle.engine_reference.specs.State.{State}
use Rattle.engine_reference.specs.Visible.{visible_value}
use Rattle.engine_reference.specs.declared.data.Settings.{Settings}
use Rattle.engine_reference.specs.Rules.Hashing.{hash_of_key}
use Rattle.std.specs.declared.hash.BuildHasher as builders
use Rattle.std.specs.declared.hash.Hasher as hashers
use Rattle.front_parts.specs.Places.Making.{IsMadeWith}
use Rattle.front_parts.specs.Places.Calls.{CallsKey, InsertsIn, IsSteadyBy, LooksUpIn, TakesOutIn, Ways, hash_in, part_with, visible_in, visible_of}
use Rattle.front_reference.specs.declared.data.At.{At}
use Rattle.front_reference.specs.Fronts.{CallsAll, Front, part_of}
use Rattle.front_reference.specs.Keeping.{IsKept}
use Rattle.front_reference.specs.Parts.{Inserts, TakesOut, takes_nothing}
use Rattle.front_reference.specs.Wholes.{first_or, next_told, taken_or, without_told}
use Rattle.memcache_cache.proofs.Parts.{Left, bare-seen, clears, inserts, looked, passes, takes_out}
use Rattle.memcache_cache.specs.Rules.{item_answers}
use Rattle.memcache_model.specs.declared.counters.Counters.{Counters}
use Rattle.memcache_cache.specs.Showing.{AreTold, shelved_by}
use Rattle.memcache_cache.specs.declared.rules.ItemRules.{ItemRules}
use Rattle.std.specs.Str.{bytes_eq}
use Rattle.memcache_model.specs.Items.{Item, Items, nothing, unexpired, with_item}
use Rattle.memcache_service.specs.Shelves.{AreLeft, Becomes, CountsRemovals, OnlyLeave, Shelved, ShowsNothing}

-- ---- lists of parts

pub set-there : {X : Type 0} (xs : List X) (i : ℕ) (x y : X) → slice_get xs i ≡ Some y → slice_get (slice_set xs i x) i ≡ Some x
set-there [] i x y there = absurd (none-some y there)
set-there (z ∷ zs) zero x y there = refl
set-there (z ∷ zs) (suc i) x y there = set-there zs i x y there

pub set-other : {X : Type 0} (xs : List X) (i k : ℕ) (x : X) → (k ≡ i → ⊥) → slice_get (slice_set xs i x) k ≡ slice_get xs k
set-other [] i k x other = refl
set-other (z ∷ zs) zero zero x other = absurd (other refl)
set-other (z ∷ zs) zero (suc k) x other = refl
set-other (z ∷ zs) (suc i) zero x other = refl
set-other (z ∷ zs) (suc i) (suc k) x other = set-other zs i k x (λ e. other (ap suc e))

is-zero : (capacity : Option ℕ) → takes_nothing capacity ≡ true → capacity ≡ Some 0
is-zero None e = absurd (true≢false (sym e))
is-zero (Some zero) e = refl
is-zero (Some (suc n)) e = absurd (true≢false (sym e))

-- one of the two, if it is known that there is one
either : (a b : Option Item) → ∥ Left a b ∥₁ → Left a b
either None b h = inr refl
either (Some v) b h = inl (∥∥₁_elim h (Prim.hlevel props) (λ e. ⊎_elim (λ k. k) (λ k. absurd (none-some v (sym k))) e))

-- the moment of a call in nanoseconds, as one of milliseconds
rounded : (nanos moment : ℕ) → nanos ≡ moment * 1000000 → (nanos + 999999) / 1000000 ≡ moment
rounded nanos moment is = omega arith

each-step : {K V : Type 0} (step moment : ℕ) (rs : List (Record K V)) → Each (λ r. (r.entry.step ≤ step) × (r.entry.written ≤ moment)) rs → Each (λ r. r.entry.step ≤ step) rs
each-step step moment [] h = tt
each-step step moment (r ∷ rs) h = (h.0.0, each-step step moment rs h.1)

module _ {P S R : Type 0} (ways : Ways (List ℕ) Item P S R) (laws : IsEquivalence ways.eq) (decides : (a b : List ℕ) → ways.eq a b ≡ bytes_eq a b) where
  abbrev Cache : Type 0
  Cache = Front (List ℕ) Item P S R

  abbrev Part : Type 0
  Part = State (List ℕ) Item P S R

  equal : (a b : List ℕ) → ways.eq a b ≡ true → a ≡ b
  equal a b e = (bytes_eq-Decides a b).0 (sym (decides a b) ∙ e)

  -- ---- the part of a key after a call to the part of another

  -- the two keys have one part
  record InOne (key q : List ℕ) (does : ℕ → Part → Part → Type 0) (old new : Cache) : Type 0 where
    before : Part
    after : Part
    was : part_with ways old q ≡ Some before
    is : part_with ways new q ≡ Some after
    did : does (hash_in ways old key) before after

  -- or they have not
  record Apart (key q : List ℕ) (old new : Cache) : Type 0 where
    same_part : part_with ways new q ≡ part_with ways old q
    other : ways.eq q key ≡ false

  of_call : (key : List ℕ) (at : At) (does : ℕ → Part → Part → Type 0) (old new : Cache) → CallsKey ways key at does old new → (q : List ℕ) → InOne key q does old new ⊎ Apart key q old new
  of_call key at does old new call q = elim (cases_eq p place) [
    | inl here ↦ inl (record {
      before = call.call.before;
      after = call.call.after;
      was = ap (slice_get old.parts) here ∙ call.call.there;
      is = now_is ∙ ap (slice_get (slice_set old.parts place call.call.after)) here ∙ set-there old.parts place call.call.after call.call.before call.call.there;
      did = call.call.does;
    })
    | inr other ↦ inr (record {
      same_part = now_is ∙ set-other old.parts place p call.call.after other;
      other = false_from_ne_true _ (λ t. other (ap (λ k. part_of old.bits (hash_in ways old k)) (equal q key t)));
    })
  ]
    where
      p : ℕ
      p = part_of old.bits (hash_in ways old q)

      place : ℕ
      place = part_of old.bits (hash_in ways old key)

      now_is : part_with ways new q ≡ slice_get (slice_set old.parts place call.call.after) p
      now_is = ap (λ (f : Cache). part_with ways f q) call.changed ∙ ap (λ ps. slice_get ps p) call.call.changed

  kept : (f : Cache) → IsSteadyBy ways f → (q : List ℕ) (s : Part) → part_with ways f q ≡ Some s → IsKept 63 ways.eq f.common (λ key. eqb (part_of f.bits (ways.hash f.common.hasher key)) (part_of f.bits (hash_in ways f q))) f.moment f.step s
  kept f steady q s is = steady.kept (part_of f.bits (hash_in ways f q)) s is

  -- ---- what each call shows

  puts : (key : List ℕ) (value : Item) (at : At) (old new : Cache) → IsSteadyBy ways old → InsertsIn ways key value at old new → (q : List ℕ) → Left (visible_in ways new at.now q) (cond (ways.eq q key) (Some value) (visible_in ways old at.now q))
  puts key value at old new steady call q = elim (of_call key at (λ hash. Inserts ways.answers ways.eq key hash value at.now at.step) old new call q) [
    | inl k ↦ (let keeps = kept old steady q k.before k.was in
        let bare : takes_nothing k.before.settings.capacity ≡ true → k.before.records ≡ [] = λ e. (keeps.bare (ap (λ c. c.settings.capacity) (sym keeps.made) ∙ is-zero k.before.settings.capacity e)).records in
        subst (λ o. Left (visible_of ways o at.now q) (cond (ways.eq q key) (Some value) (visible_in ways old at.now q))) (sym k.is)
        (subst (λ o. Left (visible_value ways.answers ways.eq k.after at.now q) (cond (ways.eq q key) (Some value) (visible_of ways o at.now q))) (sym k.was)
        (inserts ways.answers ways.eq laws equal key (hash_in ways old key) value at.now at.step k.before k.after keeps.ordered.sound keeps.apart bare k.did q)))
    | inr k ↦ inl (ap (λ o. visible_of ways o at.now q) k.same_part ∙ ap (λ b. cond b (Some value) (visible_in ways old at.now q)) (sym k.other))
  ]

  removes : (key : List ℕ) (at : At) (old new : Cache) → IsSteadyBy ways old → TakesOutIn ways key at old new → (q : List ℕ) → Left (visible_in ways new at.now q) (cond (ways.eq q key) None (visible_in ways old at.now q))
  removes key at old new steady call q = elim (of_call key at (λ hash. TakesOut ways.answers ways.eq key at.now) old new call q) [
    | inl k ↦ (let keeps = kept old steady q k.before k.was in
        subst (λ o. Left (visible_of ways o at.now q) (cond (ways.eq q key) None (visible_in ways old at.now q))) (sym k.is)
        (subst (λ o. Left (visible_value ways.answers ways.eq k.after at.now q) (cond (ways.eq q key) None (visible_of ways o at.now q))) (sym k.was)
        (takes_out ways.answers ways.eq laws equal key at.now k.before k.after keeps.ordered.sound keeps.apart k.did q)))
    | inr k ↦ inl (ap (λ o. visible_of ways o at.now q) k.same_part ∙ ap (λ b. cond b None (visible_in ways old at.now q)) (sym k.other))
  ]

  uses : (key : List ℕ) (at : At) (old new : Cache) → IsSteadyBy ways old → LooksUpIn ways key at old new → (q : List ℕ) → Left (visible_in ways new at.now q) (visible_in ways old at.now q)
  uses key at old new steady call q = elim (of_call key at (λ hash. NotesLookUp ways.answers ways.eq key hash at.now false) old new call q) [
    | inl k ↦ (let keeps = kept old steady q k.before k.was in
        subst (λ o. Left (visible_of ways o at.now q) (visible_in ways old at.now q)) (sym k.is)
        (subst (λ o. Left (visible_value ways.answers ways.eq k.after at.now q) (visible_of ways o at.now q)) (sym k.was)
        (looked ways.answers ways.eq laws equal key (hash_in ways old key) at.now k.before k.after keeps.ordered.sound keeps.sent keeps.apart k.did q)))
    | inr k ↦ inl (ap (λ o. visible_of ways o at.now q) k.same_part)
  ]

  shows_none : (now step : ℕ) (old new : Cache) → IsSteadyBy ways old → old.moment ≤ 9223372036854775807 → old.step < step → CallsAll now step (λ s t. t ≡ cleared_by step s) old new → (moment : ℕ) (q : List ℕ) → visible_in ways new moment q ≡ None
  shows_none now step old new steady early rises call moment q = go (slice_get call.parts p) refl
    where
      p : ℕ
      p = part_of old.bits (hash_in ways old q)

      now_is : visible_in ways new moment q ≡ visible_of ways (slice_get call.parts p) moment q
      now_is = ap (λ (f : Cache). visible_in ways f moment q) call.changed

      go : (o : Option Part) → slice_get call.parts p ≡ o → visible_in ways new moment q ≡ None
      go None none = now_is ∙ ap (λ o. visible_of ways o moment q) none
      go (Some t) there =
          let low = slice_get_within call.parts p t there in
          let count = call.each.count in
          let was = slice_get-get_or old.parts p t (omega arith) in
          let s = get_or old.parts p t in
          let k = call.each.each p s was in
          let t_is : t ≡ cleared_by step s = same_Some t k.0 (sym there ∙ k.1) ∙ k.2 in
          let timely = (steady.kept p s was).timely early in
          now_is ∙ ap (λ o. visible_of ways o moment q) there ∙ ap (λ s. visible_value ways.answers ways.eq s moment q) t_is
          ∙ clears ways.answers ways.eq laws equal step old.step s (each-step old.step old.moment s.records timely.latest) rises moment q

  later_shows : (f : Cache) (first later : ℕ) → first ≤ later → (q : List ℕ) → Left (visible_in ways f later q) (visible_in ways f first q)
  later_shows f first later before q = go (part_with ways f q)
    where
      go : (o : Option Part) → Left (visible_of ways o later q) (visible_of ways o first q)
      go None = inl refl
      go (Some s) = passes ways.answers ways.eq laws equal s first later before q

  told_shows : (parts : List Part) (p : ℕ) (moment : ℕ) (q : List ℕ) → visible_of ways (slice_get (without_told parts) p) moment q ≡ visible_of ways (slice_get parts p) moment q
  told_shows [] p moment q = refl
  told_shows (s ∷ ss) p moment q = go s.notices p (λ k. told_shows ss k moment q)
    where
      go : (notices : List (Notice (List ℕ) Item)) (p : ℕ) → ((k : ℕ) → visible_of ways (slice_get (without_told ss) k) moment q ≡ visible_of ways (slice_get ss k) moment q)
          → visible_of ways (slice_get (taken_or notices (without_notice s ∷ ss) (s ∷ without_told ss)) p) moment q ≡ visible_of ways (slice_get (s ∷ ss) p) moment q
      go [] zero rest = refl
      go [] (suc p) rest = rest p
      go (n ∷ ns) zero rest = refl
      go (n ∷ ns) (suc p) rest = refl

  -- ---- as a shelf

  abbrev pub shelf : Cache → Shelved
  shelf f = shelved_by ways f

  -- of keys, what is left of them
  leaves : (moment : ℕ) (all is : Items) → ((q : List ℕ) → ∥ Left (is q) (all q) ∥₁) → AreLeft moment all is
  leaves moment all is h q = either (unexpired moment (is q)) (unexpired moment (all q)) (∥∥₁_map (h q) (λ k. ⊎_elim (λ e. inl (ap (unexpired moment) e)) (λ e. inr (ap (unexpired moment) e)) k))

  pub put_becomes : (moment : ℕ) (key : List ℕ) (value : Item) (at : At) (old new : Cache) → ∥ IsSteadyBy ways old ∥₁ → at.now ≡ moment * 1000000 → InsertsIn ways key value at old new → Becomes moment (with_item key (Some value) ((shelf old).items moment)) (shelf new)
  put_becomes moment key value at old new steady now call = record {
    items = leaves moment (with_item key (Some value) ((shelf old).items moment)) ((shelf new).items moment)
        (λ q. ∥∥₁_map steady (λ s. subst (λ b. Left (visible_in ways new (moment * 1000000) q) (cond b (Some value) (visible_in ways old (moment * 1000000) q))) (decides q key)
        (subst (λ n. Left (visible_in ways new n q) (cond (ways.eq q key) (Some value) (visible_in ways old n q))) now (puts key value at old new s call q))));
    latest = rounded new.moment moment (ap (λ (f : Cache). f.moment) call.changed ∙ now);
  }

  pub remove_becomes : (moment : ℕ) (key : List ℕ) (at : At) (old new : Cache) → ∥ IsSteadyBy ways old ∥₁ → at.now ≡ moment * 1000000 → TakesOutIn ways key at old new → Becomes moment (with_item key None ((shelf old).items moment)) (shelf new)
  remove_becomes moment key at old new steady now call = record {
    items = leaves moment (with_item key None ((shelf old).items moment)) ((shelf new).items moment)
        (λ q. ∥∥₁_map steady (λ s. subst (λ b. Left (visible_in ways new (moment * 1000000) q) (cond b None (visible_in ways old (moment * 1000000) q))) (decides q key)
        (subst (λ n. Left (visible_in ways new n q) (cond (ways.eq q key) None (visible_in ways old n q))) now (removes key at old new s call q))));
    latest = rounded new.moment moment (ap (λ (f : Cache). f.moment) call.changed ∙ now);
  }

  pub use_becomes : (moment : ℕ) (key : List ℕ) (at : At) (old new : Cache) → ∥ IsSteadyBy ways old ∥₁ → at.now ≡ moment * 1000000 → LooksUpIn ways key at old new → Becomes moment ((shelf old).items moment) (shelf new)
  use_becomes moment key at old new steady now call = record {
    items = leaves moment ((shelf old).items moment) ((shelf new).items moment)
        (λ q. ∥∥₁_map steady (λ s. subst (λ n. Left (visible_in ways new n q) (visible_in ways old n q)) now (uses key at old new s call q)));
    latest = rounded new.moment moment (ap (λ (f : Cache). f.moment) call.changed ∙ now);
  }

  pub clear_becomes : (moment now step : ℕ) (old new : Cache) → ∥ IsSteadyBy ways old ∥₁ → now ≡ moment * 1000000 → old.moment ≤ 9223372036854775807 → old.step < step → CallsAll now step (λ s t. t ≡ cleared_by step s) old new → Becomes moment nothing (shelf new)
  clear_becomes moment now step old new steady at early rises call = record {
    items = leaves moment nothing ((shelf new).items moment) (λ q. ∥∥₁_map steady (λ s. inl (shows_none now step old new s early rises call (moment * 1000000) q)));
    latest = rounded new.moment moment (ap (λ (f : Cache). f.moment) call.changed ∙ at);
  }

  pub only_leave : (f : Cache) → OnlyLeave (shelf f)
  only_leave f first later before q =
      ⊎_elim (λ e. inl (ap (unexpired later) e)) (λ e. inr (ap (unexpired later) e)) (later_shows f (first * 1000000) (later * 1000000) (omega arith) q)

  pub notice_shows : (f : Cache) → shelf (record f { parts = without_told f.parts }) ≡ shelf f
  notice_shows f =
      ap (λ (items : ℕ → Items). record { items = items; latest = (f.moment + 999999) / 1000000; capacity = unwrap_or f.capacity 0 })
      (fun_ext (λ moment. fun_ext (λ q. told_shows f.parts (part_of f.bits (hash_in ways f q)) (moment * 1000000) q)))

  pub made_empty : (name : Option (List ℕ)) (bits : ℕ) (settings : Settings) (hasher : S) (rules : R) (f : Cache) → IsMadeWith name bits settings hasher rules f → ShowsNothing (shelf f)
  made_empty name bits settings hasher rules f made moment q = go (part_with ways f q) refl
    where
      go : (o : Option Part) → part_with ways f q ≡ o → visible_of ways o (moment * 1000000) q ≡ None
      go None is = refl
      go (Some s) is = bare-seen ways.answers ways.eq laws equal s (moment * 1000000) q (made.new.parts (part_of f.bits (hash_in ways f q)) s is).records

-- how a cache of items decides, from the traits of a hasher and its builder
abbrev pub item_ways : {S H : Type 0} → builders.Ghosts S H → hashers.Ghosts H → Ways (List ℕ) Item (Unit {0}) S ItemRules
item_ways b h = record {
  answers = item_answers;
  eq = bytes_eq;
  hash = hash_of_key h.finish h.write b.build_hasher (λ (key : List ℕ). key ∷ []);
}

-- ---- notices

module _ {K V P S R : Type 0} where
  -- how many wait
  abbrev pub waiting : List (State K V P S R) → ℕ
  waiting [] = 0
  waiting (s ∷ ss) = length s.notices + waiting ss

  pub one_less : (parts : List (State K V P S R)) (notice : Notice K V) → next_told parts ≡ Some notice → waiting (without_told parts) < waiting parts
  one_less [] notice e = absurd (none-some notice e)
  one_less (s ∷ ss) notice e = go s.notices refl e (one_less ss notice)
    where
      go : (notices : List (Notice K V)) → s.notices ≡ notices → first_or notices (next_told ss) ≡ Some notice → (next_told ss ≡ Some notice → waiting (without_told ss) < waiting ss)
          → waiting (taken_or notices (without_notice s ∷ ss) (s ∷ without_told ss)) < waiting (s ∷ ss)
      go [] is told later = let less = later told in omega arith
      go (n ∷ ns) is told later = omega (arith, ap length is, ap (λ (x : List (Notice K V)). length (drop 1 x)) is)

-- one notice more was taken
pub told_more : {P S R : Type 0} (old mid new : Front (List ℕ) Item P S R) → AreTold old mid → new ≡ record mid { parts = without_told mid.parts } → AreTold old new
told_more old mid new told is = (suc told.0, is ∙ ap (λ (f : Front (List ℕ) Item _ _ _). record f { parts = without_told f.parts }) told.1)

-- of what was counted twice nothing else was counted
pub counted_on : (old mid new : Counters) → CountsRemovals old mid → CountsRemovals mid new → CountsRemovals old new
counted_on old mid new first second = second ∙ ap (λ (c : Counters). record c { expired = new.expired; evictions = new.evictions }) first
