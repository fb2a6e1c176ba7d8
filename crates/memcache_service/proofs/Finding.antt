-- What a `mg` finds, with the deadline that `T` gives it.
use Rattle.std.proofs.Common.{◌≡◌, ℕ, Bool, false, List, Option, Some, None, ap, sym, ◌∙◌}
use Rattle.std.specs.Prelude.{not, ◌&&◌, ◌||◌, codes, MatchOption}
use Rattle.memcache_model.specs.Items.{Item}
use Rattle.memcache_model.specs.Meta.{is_late, item_text, lease_text, retimed_by, told_to_get}
use Rattle.memcache_service.specs.Told.{found_item, late_by, told_found, told_item}
use Rattle.memcache_service.specs.declared.stock.telling.Told.{Told}

pub told_found_of : (told : Told) (moment : ℕ) (key : List ℕ) (words : List (List ℕ)) (item : Item) (deadline : Option ℕ) (wins : Bool) → told.letters.now ≡ told_to_get → told.moment ≡ moment → told.key.now ≡ key
    → told_item told ≡ record item { stale = false; leased = false } → record item { deadline = deadline } ≡ retimed_by moment (codes "T") words item
    → wins ≡ (not item.leased && (item.stale || late_by moment words deadline))
    → item_text told.letters.now told.moment told.key.now (told_item (record told { deadline = deadline })) words (lease_text item.leased item.stale wins) ≡ told_found moment key words item
told_found_of told moment key words item deadline wins letters at named same is won =
    rw letters (rw at (rw named (
    ap (λ (t : Item). item_text told_to_get moment key (record t { deadline = deadline }) words (lease_text item.leased item.stale wins)) same
    ∙ ap (λ w. item_text told_to_get moment key (record item { deadline = deadline }) words (lease_text item.leased item.stale w)) won
    ∙ ap (λ (t : Item). item_text told_to_get moment key t words (lease_text t.leased t.stale (not t.leased && (t.stale || is_late moment words t)))) is
    )))

pub found_item_of : (moment : ℕ) (words : List (List ℕ)) (item : Item) (deadline : Option ℕ) → record item { deadline = deadline } ≡ retimed_by moment (codes "T") words item
    → record item { deadline = deadline; leased = item.leased || (not item.leased && (item.stale || late_by moment words deadline)) } ≡ found_item moment words item
found_item_of moment words item deadline is =
    ap (λ (t : Item). record t { leased = t.leased || (not t.leased && (t.stale || is_late moment words t)) }) is

-- an item that stays as it is, and one that changes
pub renewed : (changed : Option Item) (found item : Item) (live : Option Item) → Some item ≡ live → MatchOption changed (found ≡ item) (λ c. c ≡ found) → MatchOption changed (live ≡ Some found) (λ c. c ≡ found)
renewed None found item live is same = sym is ∙ ap Some (sym same)
renewed (Some x) found item live is same = same
