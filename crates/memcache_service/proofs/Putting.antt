-- What a call leaves that gave a key an item.
use Rattle.std.proofs.Common.{◌≡◌, ℕ, ◌+◌, ◌++◌, ◌<◌, length, drop, ◌^◌, ⊎_elim, inl, inr, ◌∙◌, refl, sym, ap, true, false, List, Some, None, arith}
use Rattle.std.specs.Prelude.{◌⊎◌, codes, decimal}
use Rattle.std.proofs.lemmas.Bool.{cases_Bool}
use Rattle.std.specs.Str.{bytes_eq}
use Rattle.memcache_model.specs.Items.{Item, Items, moment_has_come, unexpired, with_item}
use Rattle.memcache_service.specs.Shelves.{Becomes, Shelved, live_on}
use Rattle.memcache_service.specs.Stocks.{Did, LeavesAll, stock_at}
use Rattle.memcache_model.specs.Answers.{counts}
use Rattle.memcache_model.specs.Bytes.{number_below}
use Rattle.memcache_model.specs.Meta.{code_alone, flags_fault, has_flag, is_other, item_text, meta_delete, retimed_by, told_to_get, unless_faulty, unless_quiet}
use Rattle.memcache_model.specs.Outcomes.{counted, stores_item}
use Rattle.memcache_service.specs.Told.{told_item}
use Rattle.memcache_service.specs.declared.stock.telling.Told.{Told}
use Rattle.memcache_model.specs.declared.command.Direction.{Direction}
use Rattle.std.proofs.Math.Seq.{drop-append_seam}
use Rattle.memcache_service.specs.declared.stock.Stock.{Stock}

-- the item is live there, or nothing is
placed : (moment : ℕ) (key k : List ℕ) (item : Item) (items : Items)
    → (unexpired moment (with_item key (Some item) items k) ≡ with_item key (Some item) (λ x. unexpired moment (items x)) k)
    ⊎ (unexpired moment (with_item key (Some item) items k) ≡ None)
placed moment key k item items = elim (cases_Bool (bytes_eq k key)) [
  | inl is ↦ elim (cases_Bool (moment_has_come moment item.deadline)) [
    | inl gone ↦ inr (rw is (rw gone refl))
    | inr there ↦ inl (rw is (rw there refl))
  ]
  | inr other ↦ inl (rw other refl)
]

pub put_leaves : {T : Type 0} (view : T → Shelved) (moment : ℕ) (key : List ℕ) (item stored : Item) (old new : Stock T) → stored ≡ item
    → Becomes moment (with_item key (Some stored) ((view old.shelf).items moment)) (view new.shelf) → moment < 2 ^ 43 → (view new.shelf).capacity ≡ (view old.shelf).capacity → new.most ≡ old.most
    → LeavesAll view moment (record { items = with_item key (Some item) (live_on (view old.shelf) moment); uniques = new.uniques; flush = new.flush }) old new
put_leaves view moment key item stored old new same puts early capacity most =
    let are = rw same at puts in
    record {
      items = λ k. ⊎_elim (λ e. ⊎_elim (λ f. inl (e ∙ f)) (λ f. inr (e ∙ f)) (placed moment key k item ((view old.shelf).items moment))) inr (are.items k);
      uniques = refl;
      flush = refl;
      may_follow = record { later = omega (arith, are.latest); early = early };
      most = most;
      capacity = capacity;
    }

-- what stands behind what stood there
pub said_behind : (before after told text : List ℕ) → after ≡ before ++ told → told ≡ text → drop (length before) after ≡ text
said_behind before after told text is same = rw is (drop-append_seam before told ∙ same)

-- an item was put under a key, with the next unique, and a text was said
pub did_put : {T : Type 0} (view : T → Shelved) (moment : ℕ) (key named : List ℕ) (item stored : Item) (old new : Stock T) (said text : List ℕ) → named ≡ key → stored ≡ item → said ≡ text
    → LeavesAll view moment (record { items = with_item named (Some (record stored { unique = old.uniques + 1 })) (live_on (view old.shelf) moment); uniques = old.uniques + 1; flush = old.flush }) old new
    → Did view moment (stores_item text key item (stock_at view moment old)) old new said
did_put view moment key named item stored old new said text is same tells left =
    rw (← is) (rw (← same) (record { said = tells; leaves = left }))

-- and was counted
pub counts_did : {T : Type 0} (view : T → Shelved) (moment : ℕ) (direction : Direction) (key named : List ℕ) (delta : ℕ) (found stored : Item) (number count : ℕ) (old new : Stock T) → named ≡ key
    → Some found ≡ live_on (view old.shelf) moment named → number_below (2 ^ 64) found.bytes ≡ Some number → count ≡ counted direction number delta → stored ≡ record found { bytes = decimal count }
    → LeavesAll view moment (record { items = with_item named (Some (record stored { unique = old.uniques + 1 })) (live_on (view old.shelf) moment); uniques = old.uniques + 1; flush = old.flush }) old new
    → Did view moment (counts direction key delta (live_on (view old.shelf) moment key) (stock_at view moment old)) old new (decimal count ++ codes "\r\n")
counts_did view moment direction key named delta found stored number count old new is there parsed counting same left =
    rw (← is) (rw (← there) (rw parsed (rw (← counting) (did_put view moment named named (record found { bytes = decimal count }) stored old new _ _ refl same refl left))))

-- an item is told, whoever holds its lease
pub leased_told : (told : Told) (moment : ℕ) (key asked : List ℕ) (words : List (List ℕ)) (item : Item) (lease : List ℕ) → told.letters.now ≡ told_to_get → told.moment ≡ moment → told.key.now ≡ asked → key ≡ asked
    → told_item told ≡ record item { stale = false; leased = false }
    → item_text told.letters.now told.moment told.key.now (told_item told) words lease ≡ item_text told_to_get moment key item words lease
leased_told told moment key asked words item lease letters at named keyed same =
    rw letters (rw at (rw named (rw keyed (ap (λ (t : Item). item_text told_to_get moment asked t words lease) same))))

-- an item was made stale
pub stale_did : {T : Type 0} (view : T → Shelved) (moment : ℕ) (key named : List ℕ) (words : List (List ℕ)) (found stored : Item) (old new : Stock T) (said : List ℕ) → named ≡ key → flags_fault words ≡ None
    → Some found ≡ live_on (view old.shelf) moment named → is_other words found ≡ false → has_flag (codes "I") words ≡ true
    → stored ≡ record (retimed_by moment (codes "T") words found) { stale = true; leased = false } → said ≡ unless_quiet words (code_alone (codes "HD") key words)
    → LeavesAll view moment (record { items = with_item named (Some (record stored { unique = old.uniques + 1 })) (live_on (view old.shelf) moment); uniques = old.uniques + 1; flush = old.flush }) old new
    → Did view moment (unless_faulty (flags_fault words) (meta_delete moment key words (live_on (view old.shelf) moment key) (stock_at view moment old)) (stock_at view moment old)) old new said
stale_did view moment key named words found stored old new said is right there same stale made tells left =
    let live : live_on (view old.shelf) moment key ≡ Some found = rw (← is) (sym there) in
    rw right (rw live (rw same (rw stale (did_put view moment key named _ stored old new said _ is made tells left))))
