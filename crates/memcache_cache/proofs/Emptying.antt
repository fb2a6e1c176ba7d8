-- An item that is emptied, and then removed.
use Rattle.std.proofs.Common.{◌≡◌, ℕ, ◌∙◌, ◌⊎◌, ⊎_elim, inl, inr, List, [], Some, None, Result, Ok, Err, OnOk, OnErr, ap, refl, subst, sym, true, arith}
use Rattle.std.proofs.lemmas.Bool.{cases_Bool}
use Rattle.std.specs.Prelude.{nat_le, if◌then◌else◌}
use Rattle.std.specs.Str.{bytes_eq}
use Rattle.memcache_model.specs.Items.{Items, unexpired, with_item}
use Rattle.memcache_model.specs.Outcomes.{new_item}
use Rattle.memcache_service.specs.Shelves.{AreLeft, Becomes, Shelved}

none-expires : (moment : ℕ) → unexpired moment (Some (new_item [] 0 (Some moment))) ≡ None
none-expires moment = let e : nat_le moment moment ≡ true = grind arith in rw e refl

-- where an empty item that has expired stands nothing is live
pub emptied-gone : (moment : ℕ) (key : List ℕ) (old mid : Items) → AreLeft moment (with_item key (Some (new_item [] 0 (Some moment))) old) mid → AreLeft moment (with_item key None old) mid
emptied-gone moment key old mid left k = ⊎_elim (λ e. inl (e ∙ same)) (λ e. inr e) (left k)
  where
    same : unexpired moment (with_item key (Some (new_item [] 0 (Some moment))) old k) ≡ unexpired moment (with_item key None old k)
    same = ⊎_elim (λ e. rw e (none-expires moment)) (λ e. rw e refl) (cases_Bool (bytes_eq k key))

-- and what is removed then is gone too
taken-gone : (moment : ℕ) (key : List ℕ) (old mid new : Items) → AreLeft moment (with_item key None old) mid → AreLeft moment (with_item key None mid) new → AreLeft moment (with_item key None old) new
taken-gone moment key old mid new first second k = ⊎_elim (λ e. go e) (λ e. inr e) (second k)
  where
    go : unexpired moment (new k) ≡ unexpired moment (with_item key None mid k) → (unexpired moment (new k) ≡ unexpired moment (with_item key None old k)) ⊎ (unexpired moment (new k) ≡ None)
    go e = ⊎_elim
        (λ here. inr (e ∙ ap (λ b. unexpired moment (if b then None else mid k)) here))
        (λ there. ⊎_elim (λ f. inl (e ∙ ap (λ b. unexpired moment (if b then None else mid k)) there ∙ f)) (λ f. inr (e ∙ ap (λ b. unexpired moment (if b then None else mid k)) there ∙ f)) (first k))
        (cases_Bool (bytes_eq k key))

-- an item was emptied and taken out, or was only emptied
pub removed : {X E S : Type 0} (r : Result X E) (view : S → Shelved) (moment : ℕ) (key : List ℕ) (old mid new : S) → Becomes moment (with_item key (Some (new_item [] 0 (Some moment))) ((view old).items moment)) (view mid)
    → OnOk r (Becomes moment (with_item key None ((view mid).items moment)) (view new)) → OnErr r (new ≡ mid) → Becomes moment (with_item key None ((view old).items moment)) (view new)
removed (Ok x) view moment key old mid new emptied taken refused = record {
  items = taken-gone moment key ((view old).items moment) ((view mid).items moment) ((view new).items moment) (emptied-gone moment key ((view old).items moment) ((view mid).items moment) emptied.items) taken.items;
  latest = taken.latest;
}
removed (Err e) view moment key old mid new emptied taken refused = subst (λ s. Becomes moment (with_item key None ((view old).items moment)) (view s)) (sym refused) (record {
  items = emptied-gone moment key ((view old).items moment) ((view mid).items moment) emptied.items;
  latest = emptied.latest;
})
