-- What calls of a lent cache leave of its items' weights, and what they bound.
use Rattle.std.proofs.Common.{inl, inr, ◌≡◌, ℕ, zero, suc, get_or, ◌+◌, ◌*◌, ◌-◌, ◌/◌, ◌^◌, ◌≤◌, arith, true, false, true≢false, List, [], ◌∷◌, length, Option, Some, None, is_some, refl, sym, ap, subst, ◌∙◌, eqb, Result, Ok, Err, OnErr}
use Rattle.std.proofs.Math.Logic.{∥∥₁_elim, ∥∥₁_map, ∥∥₁_prop}
use Rattle.std.proofs.Props.{props}
use Rattle.std.proofs.lemmas.Bool.{cases_eq}
use Rattle.std.proofs.lemmas.Option.{none-some, same_Some, slice_get_within, slice_get-get_or}
use Rattle.std.specs.Option.{option_map, option_map_or}
use Rattle.std.specs.Prelude.{OnOk, slice_get, slice_set, unwrap_or}
use Rattle.engine_reference.specs.declared.data.Notice.{Notice}
use Rattle.engine_reference.specs.Calls.{cleared_by, without_notice}
use Rattle.engine_reference.specs.Scanning.{NotesLookUp}
use Rattle.engine_reference.specs.Soundness.{Each, IsSound}
use Rattle.engine_reference.specs.State.{Answers, State}
use Rattle.engine_reference.specs.Visible.{visible_value}
use Rattle.engine_reference.specs.declared.data.Settings.{Settings}
use Rattle.front_parts.specs.Places.Making.{IsMadeWith}
use Rattle.front_parts.specs.Places.Calls.{CallsKey, InsertsIn, IsSteadyBy, LooksUpIn, TakesOutIn, Ways, hash_in, visible_in, visible_of}
use Rattle.front_reference.specs.declared.data.At.{At}
use Rattle.front_reference.specs.Fronts.{CallsAll, Front, part_of, share_of}
use Rattle.front_reference.specs.Keeping.{IsKept}
use Rattle.front_reference.specs.Parts.{Inserts, TakesOut}
use Rattle.front_reference.specs.Wholes.{taken_or, without_told}
use Rattle.std.specs.Str.{bytes_eq}
use Rattle.memcache_model.specs.Items.{Item}
use Rattle.memcache_service.specs.Shelves.{IsWithinCapacity, weight_together}
use Rattle.memcache_cache.specs.Rules.{item_weight}
use Rattle.memcache_cache.specs.Showing.{shelved_by}
use Rattle.memcache_cache.specs.Weights.{IsItemCache}
use Rattle.memcache_cache.proofs.Calls.{set-other, set-there}
use Rattle.memcache_cache.proofs.Weighing.{AreWeighed, inserts-weighed, looks-weighed, shown-within, takes_out-weighed, total, waiting-few, waiting_of}

-- values that differ in a truncated field alone are one
pub one-value : {F X : Type 0} {Keeps : F → Type 0} (make : (f : F) → ∥ Keeps f ∥₁ → X) (a b : F) (h : ∥ Keeps a ∥₁) (k : ∥ Keeps b ∥₁) → a ≡ b → make a h ≡ make b k
one-value {F} {X} {Keeps} make a b h k is = subst (λ (x : F). (z : ∥ Keeps x ∥₁) → make x z ≡ make b k) (sym is) (λ z. ap (make b) (∥∥₁_prop z k)) h

module _ {P S R : Type 0} (answers : Answers (List ℕ) Item P R) (hash : S → List ℕ → ℕ) (weighs : (rules : R) (key : List ℕ) (value : Item) → answers.weight_of rules key value ≡ item_weight key value) where
  abbrev Cache : Type 0
  Cache = Front (List ℕ) Item P S R

  abbrev Part : Type 0
  Part = State (List ℕ) Item P S R

  abbrev ways : Ways (List ℕ) Item P S R
  ways = record { answers = answers; eq = bytes_eq; hash = hash }

  abbrev Weighed : Part → Type 0
  Weighed s = AreWeighed item_weight s

  abbrev capacity_of : Cache → ℕ
  capacity_of f = unwrap_or f.capacity 0

  -- ---- a call to the part of a key

  called : (key : List ℕ) (at : At) (does : ℕ → Part → Part → Type 0) (old new : Cache) → IsSteadyBy ways old → IsItemCache old → CallsKey ways key at does old new → ((s t : Part) → IsSound s → does (hash_in ways old key) s t → Weighed s → Weighed t) → IsItemCache new
  called key at does old new steady kept call keeps = record {
    single = ap (λ (f : Cache). f.bits) call.changed ∙ kept.single;
    capped = ap (λ (f : Cache). is_some f.capacity) call.changed ∙ kept.capped;
    weighed = λ p s is. go p s (sym (ap (λ (f : Cache). slice_get f.parts p) call.changed ∙ ap (λ ps. slice_get ps p) call.call.changed) ∙ is);
  }
    where
      place : ℕ
      place = part_of old.bits (hash_in ways old key)

      was : Weighed call.call.before
      was = kept.weighed place call.call.before call.call.there

      sound : IsSound call.call.before
      sound = (steady.kept place call.call.before call.call.there).ordered.sound

      go : (p : ℕ) (s : Part) → slice_get (slice_set old.parts place call.call.after) p ≡ Some s → Weighed s
      go p s is = elim (cases_eq p place) [
        | inl e ↦
            let here : slice_get (slice_set old.parts place call.call.after) p ≡ Some call.call.after = ap (slice_get (slice_set old.parts place call.call.after)) e ∙ set-there old.parts place call.call.after call.call.before call.call.there in
            subst (λ z. Weighed z) (same_Some call.call.after s (sym here ∙ is)) (keeps call.call.before call.call.after sound call.call.does was)
        | inr other ↦ kept.weighed p s (sym (set-other old.parts place p call.call.after other) ∙ is)
      ]

  -- a call that was refused changed nothing
  done_or : {X E : Type 0} (r : Result X E) (Does : Type 0) (old new : Cache) → ∥ IsItemCache old ∥₁ → OnOk r Does → OnErr r (new ≡ old) → (Does → ∥ IsItemCache new ∥₁) → ∥ IsItemCache new ∥₁
  done_or (Ok x) Does old new kept done refused keeps = keeps done
  done_or (Err e) Does old new kept done refused keeps = subst (λ f. ∥ IsItemCache f ∥₁) (sym refused) kept

  pub put_keeps : {X E : Type 0} (r : Result X E) (key : List ℕ) (value : Item) (at : At) (old new : Cache) → ∥ IsSteadyBy ways old ∥₁ → ∥ IsItemCache old ∥₁ → OnOk r (InsertsIn ways key value at old new) → OnErr r (new ≡ old) → ∥ IsItemCache new ∥₁
  put_keeps r key value at old new steady kept done refused =
      done_or r (InsertsIn ways key value at old new) old new kept done refused
      (λ call. ∥∥₁_elim steady (Prim.hlevel props) (λ s. ∥∥₁_map kept
      (λ k. called key at (λ h. Inserts answers bytes_eq key h value at.now at.step) old new s k call
      (λ a b sound does was. inserts-weighed answers bytes_eq item_weight weighs key (hash_in ways old key) value at.now at.step a b sound does was))))

  pub remove_keeps : {X E : Type 0} (r : Result X E) (key : List ℕ) (at : At) (old new : Cache) → ∥ IsSteadyBy ways old ∥₁ → ∥ IsItemCache old ∥₁ → OnOk r (TakesOutIn ways key at old new) → OnErr r (new ≡ old) → ∥ IsItemCache new ∥₁
  remove_keeps r key at old new steady kept done refused =
      done_or r (TakesOutIn ways key at old new) old new kept done refused
      (λ call. ∥∥₁_elim steady (Prim.hlevel props) (λ s. ∥∥₁_map kept
      (λ k. called key at (λ h. TakesOut answers bytes_eq key at.now) old new s k call (λ a b sound does was. takes_out-weighed answers bytes_eq item_weight weighs key at.now a b sound does was))))

  pub use_keeps : {X E : Type 0} (r : Result X E) (key : List ℕ) (at : At) (old new : Cache) → ∥ IsSteadyBy ways old ∥₁ → ∥ IsItemCache old ∥₁ → OnOk r (LooksUpIn ways key at old new) → OnErr r (new ≡ old) → ∥ IsItemCache new ∥₁
  use_keeps r key at old new steady kept done refused =
      done_or r (LooksUpIn ways key at old new) old new kept done refused
      (λ call. ∥∥₁_elim steady (Prim.hlevel props) (λ s. ∥∥₁_map kept
      (λ k. called key at (λ h. NotesLookUp answers bytes_eq key h at.now false) old new s k call (λ a b sound does was. looks-weighed answers bytes_eq item_weight weighs key (hash_in ways old key) at.now a b sound does was))))

  pub clear_keeps : (now step : ℕ) (old new : Cache) → ∥ IsItemCache old ∥₁ → CallsAll now step (λ s t. t ≡ cleared_by step s) old new → ∥ IsItemCache new ∥₁
  clear_keeps now step old new kept call = ∥∥₁_map kept (λ k. record {
    single = ap (λ (f : Cache). f.bits) call.changed ∙ k.single;
    capped = ap (λ (f : Cache). is_some f.capacity) call.changed ∙ k.capped;
    weighed = λ p t is. cleared k p t (sym (ap (λ (f : Cache). slice_get f.parts p) call.changed) ∙ is);
  })
    where
      cleared : IsItemCache old → (p : ℕ) (t : Part) → slice_get call.parts p ≡ Some t → Weighed t
      cleared k p t is =
          let low = slice_get_within call.parts p t is in
          let count = call.each.count in
          let s = get_or old.parts p t in
          let was = slice_get-get_or old.parts p t (omega (arith, low, count)) in
          let each = call.each.each p s was in
          subst (λ z. Weighed z) (sym (same_Some t each.0 (sym is ∙ each.1) ∙ each.2)) (k.weighed p s was)

  told_weighed : (parts : List Part) → ((p : ℕ) (s : Part) → slice_get parts p ≡ Some s → Weighed s) → (p : ℕ) (t : Part) → slice_get (without_told parts) p ≡ Some t → Weighed t
  told_weighed [] was p t is = absurd (none-some t is)
  told_weighed (s ∷ ss) was p t is = go s.notices p is (λ q there. told_weighed ss (λ k u e. was (suc k) u e) q t there)
    where
      go : (notices : List (Notice (List ℕ) Item)) (p : ℕ) → slice_get (taken_or notices (without_notice s ∷ ss) (s ∷ without_told ss)) p ≡ Some t → ((q : ℕ) → slice_get (without_told ss) q ≡ Some t → Weighed t) → Weighed t
      go [] zero e rest = subst (λ z. Weighed z) (same_Some s t e) (was 0 s refl)
      go [] (suc p) e rest = rest p e
      go (n ∷ ns) zero e rest = subst (λ z. Weighed z) (same_Some (without_notice s) t e) (was 0 s refl)
      go (n ∷ ns) (suc p) e rest = was (suc p) t e

  pub notice_keeps : (f : Cache) → ∥ IsItemCache f ∥₁ → ∥ IsItemCache (record f { parts = without_told f.parts }) ∥₁
  notice_keeps f kept = ∥∥₁_map kept (λ k. record { single = k.single; capped = k.capped; weighed = told_weighed f.parts k.weighed })

  pub made_keeps : (name : Option (List ℕ)) (settings : Settings) (hasher : S) (rules : R) (capacity : ℕ) (f : Cache) → settings.capacity ≡ Some capacity → IsMadeWith name 0 settings hasher rules f → ∥ IsItemCache f ∥₁
  made_keeps name settings hasher rules capacity f is made = ∣ record {
    single = made.bits_are;
    capped = ap is_some (made.wants ∙ is);
    weighed = λ p s there. subst (λ rs. Each (λ r. r.entry.weight ≡ item_weight r.entry.key r.entry.value) rs) (sym (made.new.parts p s there).records) tt;
  } ∣₁

  -- ---- the bound

  some-part : {X : Type 0} (xs : List X) → length xs ≡ 1 → slice_get xs 0 ≡ None → ⊥
  some-part [] one none = omega (arith, one)
  some-part (x ∷ xs) one none = none-some x (sym none)

  share-one : (c n : ℕ) → n ≡ 1 → share_of n c ≡ c
  share-one c n one = subst (λ k. share_of k c ≡ c) (sym one) (let e : (c + (1 - 1)) / 1 ≡ c = omega arith in e)

  bounded-by : (f : Cache) → IsSteadyBy ways f → IsItemCache f → IsWithinCapacity item_weight (shelved_by ways f)
  bounded-by f steady kept = go (slice_get f.parts 0) refl
    where
      one : length f.parts ≡ 1
      one = steady.count ∙ ap (λ n. 2 ^ n) kept.single

      go : (o : Option Part) → slice_get f.parts 0 ≡ o → IsWithinCapacity item_weight (shelved_by ways f)
      go None none = absurd (some-part f.parts one none)
      go (Some s) there = record {
        waiting = waiting_of s.records s.writes;
        few = let less = waiting-few s.records s.writes in let short = keeps.few in omega (arith, less, short);
        rest = λ moment keys beside. within moment keys (shown-within answers item_weight weighs s (capacity_of f) keeps.ordered keeps.sent capacity_is (kept.weighed 0 s there) (moment * 1000000) keys beside);
      }
        where
          keeps : IsKept 63 bytes_eq f.common (λ key. eqb (part_of f.bits (hash_in ways f key)) 0) f.moment f.step s
          keeps = steady.kept 0 s there

          by_capacity : (o : Option ℕ) → is_some o ≡ true → option_map (share_of (length f.parts)) o ≡ Some (unwrap_or o 0)
          by_capacity None capped = absurd (true≢false (sym capped))
          by_capacity (Some c) capped = ap Some (share-one c (length f.parts) one)

          capacity_is : s.settings.capacity ≡ Some (capacity_of f)
          capacity_is = ap (λ c. c.settings.capacity) keeps.made ∙ steady.share ∙ by_capacity f.capacity kept.capped

          -- a key shows what the one part shows of it, or nothing
          each : (moment : ℕ) (key : List ℕ) → option_map_or (item_weight key) (visible_in ways f moment key) 0 ≤ option_map_or (item_weight key) (visible_value answers bytes_eq s moment key) 0
          each moment key = by_part (slice_get f.parts p) refl
            where
              p : ℕ
              p = part_of f.bits (hash_in ways f key)

              by_part : (o : Option Part) → slice_get f.parts p ≡ o → option_map_or (item_weight key) (visible_of ways o moment key) 0 ≤ option_map_or (item_weight key) (visible_value answers bytes_eq s moment key) 0
              by_part None is = omega arith
              by_part (Some t) is =
                  let low = slice_get_within f.parts p t is in
                  let first : p ≡ 0 = omega (arith, low, one) in
                  let same_part : t ≡ s = same_Some t s (sym is ∙ ap (slice_get f.parts) first ∙ there) in
                  let e : option_map_or (item_weight key) (visible_value answers bytes_eq t moment key) 0 ≡ option_map_or (item_weight key) (visible_value answers bytes_eq s moment key) 0 = ap (λ z. option_map_or (item_weight key) (visible_value answers bytes_eq z moment key) 0) same_part in
                  omega (arith, e)

          within : (moment : ℕ) (keys : List (List ℕ)) → total (λ key. option_map_or (item_weight key) (visible_value answers bytes_eq s (moment * 1000000) key) 0) keys ≤ capacity_of f → weight_together item_weight ((shelved_by ways f).items moment) keys ≤ capacity_of f
          within moment keys most = let less = below keys in omega (arith, less, most)
            where
              below : (keys : List (List ℕ)) → weight_together item_weight ((shelved_by ways f).items moment) keys ≤ total (λ key. option_map_or (item_weight key) (visible_value answers bytes_eq s (moment * 1000000) key) 0) keys
              below [] = omega arith
              below (key ∷ keys) = let first = each (moment * 1000000) key in let more = below keys in omega (arith, first, more)

  pub bounded : (f : Cache) → ∥ IsSteadyBy ways f ∥₁ → ∥ IsItemCache f ∥₁ → ∥ IsWithinCapacity item_weight (shelved_by ways f) ∥₁
  bounded f steady kept = ∥∥₁_elim steady (Prim.hlevel props) (λ s. ∥∥₁_map kept (λ k. bounded-by f s k))
