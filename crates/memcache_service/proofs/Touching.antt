-- Items of keys that get a deadline, one key after the other.
use Rattle.std.proofs.Common.{◌≡◌, ℕ, zero, suc, ◌⊎◌, ⊎_elim, ◌∙◌, sym, ap, subst, refl, List, [], ◌∷◌, ◌++◌, take, drop, Option, Some, None, arith}
use Rattle.std.proofs.lemmas.List.{append-nil, take-append-drop}
use Rattle.std.proofs.lemmas.Option.{none-some}
use Rattle.std.proofs.lemmas.Slice.Eq.{bytes_eq-Decides}
use Rattle.memcache_model.specs.Answers.{retimed, touched, touches_one}
use Rattle.memcache_model.specs.Items.{Item, Items, with_item}
use Rattle.memcache_service.specs.Shelves.{MayComeAt, Shelved, live_on}
use Rattle.memcache_service.specs.Stocks.{Did, Touches, stock_at}
use Rattle.memcache_service.specs.declared.stock.Stock.{Stock}

touched-push : (deadline : Option ℕ) (xs : List (List ℕ)) (key : List ℕ) (items : Items) → touched deadline (xs ++ key ∷ []) items ≡ with_item key (retimed deadline (touched deadline xs items key)) (touched deadline xs items)
touched-push deadline [] key items = refl
touched-push deadline (x ∷ xs) key items = touched-push deadline xs key (with_item x (retimed deadline (items x)) items)

one-more : {X : Type 0} (count : ℕ) (xs : List X) (x : X) (rest : List X) → drop count xs ≡ x ∷ rest → (take (suc count) xs ≡ take count xs ++ x ∷ []) × (drop (suc count) xs ≡ rest)
one-more zero [] x rest is = absurd (let no : ⊥ = cc in no)
one-more zero (y ∷ ys) x rest is = (let e : y ≡ x = cc in ap (λ z. z ∷ []) e, let e : ys ≡ rest = cc in e)
one-more (suc count) [] x rest is = absurd (let no : ⊥ = cc in no)
one-more (suc count) (y ∷ ys) x rest is = let more = one-more count ys x rest is in (ap (λ zs. y ∷ zs) more.0, more.1)

whole : {X : Type 0} (count : ℕ) (xs : List X) → drop count xs ≡ [] → take count xs ≡ xs
whole count xs is = sym (append-nil (take count xs)) ∙ ap (λ ys. take count xs ++ ys) (sym is) ∙ take-append-drop count xs

module _ {T : Type 0} (view : T → Shelved) (moment : ℕ) (deadline : Option ℕ) (all : List (List ℕ)) (first : Stock T) where
  -- all but these keys were reached
  pub record Reached (rest : List (List ℕ)) (now : Stock T) : Type 0 where
    pub count : ℕ
    pub left : drop count all ≡ rest
    pub touches : Touches view moment deadline (take count all) first now

  pub reached_all : (now : Stock T) → Reached [] now → Touches view moment deadline all first now
  reached_all now r = subst (λ keys. Touches view moment deadline keys first now) (whole r.count all r.left) r.touches

  abbrev live : Stock T → Items
  live stock = live_on (view stock.shelf) moment

  -- one key is touched, over what was left of the items
  over : (key : List ℕ) (mid new : Stock T) (text : List ℕ) (before : Items) → ((q : List ℕ) → (live mid q ≡ before q) ⊎ (live mid q ≡ None)) → (o : Option Item) → live mid key ≡ o → Did view moment (touches_one key deadline o (stock_at view moment mid)) mid new text
      → (q : List ℕ) → (live new q ≡ with_item key (retimed deadline (before key)) before q) ⊎ (live new q ≡ None)
  over key mid new text before were None none does q =
      let was : (live new q ≡ live mid q) ⊎ (live new q ≡ None) = does.leaves.items q in
      let is = (bytes_eq-Decides q key).0 in
      grind (arith, was, is, none, were q)
  over key mid new text before were (Some item) some does q =
      let was : (live new q ≡ with_item key (Some (record item { deadline = deadline })) (live mid) q) ⊎ (live new q ≡ None) = does.leaves.items q in
      let is : before key ≡ Some item = ⊎_elim (λ k. sym k ∙ some) (λ k. absurd (none-some item (sym k ∙ some))) (were key) in
      grind (arith, was, is, were q)

  kept-uniques : (key : List ℕ) (o : Option Item) (mid new : Stock T) (text : List ℕ) → Did view moment (touches_one key deadline o (stock_at view moment mid)) mid new text → (new.uniques ≡ mid.uniques) × (new.flush ≡ mid.flush)
  kept-uniques key None mid new text does = (does.leaves.uniques, does.leaves.flush)
  kept-uniques key (Some item) mid new text does = (does.leaves.uniques, does.leaves.flush)

  may-follow : (key : List ℕ) (o : Option Item) (mid new : Stock T) (text : List ℕ) → Did view moment (touches_one key deadline o (stock_at view moment mid)) mid new text → MayComeAt (view new.shelf) moment
  may-follow key o mid new text does = does.leaves.may_follow

  keeps-most : (key : List ℕ) (o : Option Item) (mid new : Stock T) (text : List ℕ) → Did view moment (touches_one key deadline o (stock_at view moment mid)) mid new text → new.most ≡ mid.most
  keeps-most key o mid new text does = does.leaves.most

  keeps-capacity : (key : List ℕ) (o : Option Item) (mid new : Stock T) (text : List ℕ) → Did view moment (touches_one key deadline o (stock_at view moment mid)) mid new text → (view new.shelf).capacity ≡ (view mid.shelf).capacity
  keeps-capacity key o mid new text does = does.leaves.capacity

  pub reached_more : (key : List ℕ) (rest : List (List ℕ)) (was new : Stock T) (text named : List ℕ) → Reached (key ∷ rest) was → Did view moment (touches_one key deadline (live was key) (stock_at view moment was)) (record was { key = named }) new text → Reached rest new
  reached_more key rest was new text named r does =
      let mid : Stock T = record was { key = named } in
      let more = one-more r.count all key rest r.left in
      let before = touched deadline (take r.count all) (live first) in
      let rest_is = kept-uniques key (live was key) mid new text does in
      record {
        count = suc r.count;
        left = more.1;
        touches = record {
          items = subst (λ (keys : List (List ℕ)). (q : List ℕ) → (live new q ≡ touched deadline keys (live first) q) ⊎ (live new q ≡ None)) (sym more.0)
              (subst (λ (items : Items). (q : List ℕ) → (live new q ≡ items q) ⊎ (live new q ≡ None)) (sym (touched-push deadline (take r.count all) key (live first)))
              (over key mid new text before r.touches.items (live was key) refl does));
          uniques = rest_is.0 ∙ r.touches.uniques;
          flush = rest_is.1 ∙ r.touches.flush;
          may_follow = may-follow key (live was key) mid new text does;
          most = keeps-most key (live was key) mid new text does ∙ r.touches.most;
          capacity = keeps-capacity key (live was key) mid new text does ∙ r.touches.capacity;
        };
      }
