-- What commands do to a lease.
use Rattle.std.proofs.Common.{◌≡◌, ℕ, ◌+◌, ◌^◌, Bool, true, false, true≢false, cond, not, ◌&&◌, ◌||◌, List, [], ◌∷◌, ◌++◌, length, Option, Some, None, refl, sym, ap, ◌∙◌, ⊎_elim, nat_lt, codes}
use Rattle.std.proofs.Math.Bool.{or-true}
use Rattle.std.proofs.lemmas.Bool.{cases_Bool, cond_both}
use Rattle.std.proofs.lemmas.Slice.Eq.{bytes_eq-Decides}
use Rattle.std.specs.Fmt.{decimal}
use Rattle.std.specs.Option.{option_map_or}
use Rattle.std.specs.Prelude.{◌==◌, is_some}
use Rattle.memcache_model.specs.Answers.{Service, answer, counts, counts_by, deletes_one, retimed, store_over, stores_within, touched, touches_one}
use Rattle.std.specs.Str.{bytes_eq}
use Rattle.memcache_model.specs.Bytes.{number_below}
use Rattle.memcache_model.specs.Commands.{Command, get, gat, store, oversize, delete, arithmetic, touch, flush_all, stats, version, verbosity, quit, malformed, meta, meta_set, meta_oversize, meta_no_op}
use Rattle.memcache_model.specs.Items.{Item, Items, Stock, exptime_deadline, with_item}
use Rattle.memcache_model.specs.Leases.{OneWins, TellsLease, is_leased, may_end, wins}
use Rattle.memcache_model.specs.Meta as meta_of
use Rattle.memcache_model.specs.Meta.{count_fault, exptime_of, flags_fault, goes_on, has_flag, is_late, is_other, is_one_of, is_renewed, item_text, lease_text, meta_compare, meta_count_none, meta_counted, meta_counts, meta_get_live, meta_get_none, meta_item, meta_put, meta_refuses, meta_stored, mode_of, names_none, number_of_letter, retimed_by, set_fault, told_to_get, unless_faulty, vivified}
use Rattle.memcache_model.specs.Outcomes.{Outcome, new_item}
use Rattle.memcache_model.specs.declared.command.Direction.{Direction}
use Rattle.memcache_model.specs.declared.command.Exptime.{Exptime}
use Rattle.memcache_model.specs.declared.command.Exptime.TheVariants.{Never, AtOnce, Seconds}
use Rattle.memcache_model.specs.declared.command.Meta.TheVariants.{Get, Delete, Arithmetic}
use Rattle.memcache_model.specs.declared.command.Storage.TheVariants.{Set, Add, Replace, Append, Prepend, Cas}
use Rattle.memcache_model.specs.declared.fault.ProtocolError.{ProtocolError}

retimed-leased : (moment : ℕ) (letter : List ℕ) (words : List (List ℕ)) (item : Item) → (retimed_by moment letter words item).leased ≡ item.leased
retimed-leased moment letter words item = go (exptime_of letter words)
  where
    go : (o : Option Exptime) → (option_map_or (λ exptime. record item { deadline = exptime_deadline moment exptime }) o item).leased ≡ item.leased
    go None = refl
    go (Some exptime) = refl

-- a key that is leased, and commands on a key
module _ (key : List ℕ) (stock : Stock) (held : is_leased (stock.items key) ≡ true) where
  abbrev Holds : Outcome → Type 0
  Holds o = is_leased (o.stock.items key) ≡ true

  choose : (test : Bool) (x y : Outcome) → Holds x → Holds y → Holds (cond test x y)
  choose test x y h k = cond_both test x y Holds (λ _. h) (λ _. k)

  module _ (k : List ℕ) where
    -- another key's item changes
    other : (o : Option Item) → bytes_eq key k ≡ false → is_leased (with_item k o stock.items key) ≡ true
    other o e = ap (λ b. is_leased (cond b o (stock.items key))) e ∙ held

    -- the key's item changes, and stays leased if it was
    over : (old new : Item) → stock.items k ≡ Some old → (old.leased ≡ true → new.leased ≡ true) → is_leased (with_item k (Some new) stock.items key) ≡ true
    over old new is keeps = ⊎_elim
        (λ t. rw t (keeps (ap is_leased (sym is) ∙ ap (λ q. is_leased (stock.items q)) (sym ((bytes_eq-Decides key k).0 t)) ∙ held)))
        (other (Some new))
        (cases_Bool (bytes_eq key k))

    -- a key without an item gets one
    fresh : (o : Option Item) → stock.items k ≡ None → is_leased (with_item k o stock.items key) ≡ true
    fresh o none = ⊎_elim
        (λ t. absurd (true≢false (sym held ∙ ap (λ q. is_leased (stock.items q)) ((bytes_eq-Decides key k).0 t) ∙ ap is_leased none)))
        (other o)
        (cases_Bool (bytes_eq key k))

    -- ---- storage commands

    adds : (most : ℕ) (item : Item) (o : Option Item) → stock.items k ≡ o → Holds (store_over most Add k item o stock)
    adds most item None is = fresh (Some (record item { unique = stock.uniques + 1 })) is
    adds most item (Some old) is = held

    replaces : (most : ℕ) (item : Item) (o : Option Item) → bytes_eq key k ≡ false → Holds (store_over most Replace k item o stock)
    replaces most item None e = held
    replaces most item (Some old) e = other (Some (record item { unique = stock.uniques + 1 })) e

    within : (most : ℕ) (old new : Item) → stock.items k ≡ Some old → new.leased ≡ old.leased → Holds (stores_within most k new stock)
    within most old new is lease = choose (nat_lt most (length new.bytes)) _ _ held (over old (record new { unique = stock.uniques + 1 }) is (λ h. lease ∙ h))

    appends : (most : ℕ) (item : Item) (o : Option Item) → stock.items k ≡ o → Holds (store_over most Append k item o stock)
    appends most item None is = held
    appends most item (Some old) is = within most old (record old { bytes = old.bytes ++ item.bytes }) is refl

    prepends : (most : ℕ) (item : Item) (o : Option Item) → stock.items k ≡ o → Holds (store_over most Prepend k item o stock)
    prepends most item None is = held
    prepends most item (Some old) is = within most old (record old { bytes = item.bytes ++ old.bytes }) is refl

    compares : (most unique : ℕ) (item : Item) (o : Option Item) → bytes_eq key k ≡ false → Holds (store_over most (Cas unique) k item o stock)
    compares most unique item None e = held
    compares most unique item (Some old) e = choose (old.unique == unique) _ _ (other (Some (record item { unique = stock.uniques + 1 })) e) held

    -- ---- one key

    removes : (o : Option Item) → bytes_eq key k ≡ false → Holds (deletes_one k o stock)
    removes None e = held
    removes (Some item) e = other None e

    counted_by : (item : Item) (o : Option ℕ) → stock.items k ≡ Some item → Holds (counts_by k item o stock)
    counted_by item None is = held
    counted_by item (Some number) is = over item (record item { bytes = decimal number; unique = stock.uniques + 1 }) is (λ h. h)

    counts_on : (direction : Direction) (delta : ℕ) (o : Option Item) → stock.items k ≡ o → Holds (counts direction k delta o stock)
    counts_on direction delta None is = held
    counts_on direction delta (Some item) is = counted_by item _ is

    touches_on : (deadline : Option ℕ) (o : Option Item) → stock.items k ≡ o → Holds (touches_one k deadline o stock)
    touches_on deadline None is = held
    touches_on deadline (Some item) is = over item (record item { deadline = deadline }) is (λ h. h)

    -- ---- meta commands

    faulty : (o : Option ProtocolError) (outcome : Outcome) → Holds outcome → Holds (unless_faulty o outcome stock)
    faulty None outcome h = h
    faulty (Some error) outcome h = held

    makes : (moment : ℕ) (words : List (List ℕ)) (o : Option Exptime) → stock.items k ≡ None → Holds (meta_get_none moment k words o stock)
    makes moment words None none = held
    makes moment words (Some exptime) none = fresh (Some (record (vivified moment (stock.uniques + 1) exptime) { unique = stock.uniques + 1 })) none

    gets : (moment : ℕ) (words : List (List ℕ)) (o : Option Item) → stock.items k ≡ o → Holds (meta_of.meta_get moment k words o stock)
    gets moment words None none = makes moment words (exptime_of (codes "N") words) none
    gets moment words (Some found) is =
        let item = retimed_by moment (codes "T") words found in
        let won = not item.leased && (item.stale || is_late moment words item) in
        over found (record item { leased = item.leased || won }) is (λ h. ap (λ b. b || won) (retimed-leased moment (codes "T") words found ∙ h))

    deletes_on : (moment : ℕ) (words : List (List ℕ)) (o : Option Item) → bytes_eq key k ≡ false → Holds (meta_of.meta_delete moment k words o stock)
    deletes_on moment words None e = held
    deletes_on moment words (Some item) e = choose (is_other words item) _ _ held (choose (has_flag (codes "I") words) _ _ (other _ e) (other None e))

    first_count : (moment : ℕ) (words : List (List ℕ)) (o : Option Exptime) → stock.items k ≡ None → Holds (meta_count_none moment k words o stock)
    first_count moment words None none = held
    first_count moment words (Some exptime) none = fresh _ none

    counts_meta : (moment : ℕ) (words : List (List ℕ)) (item : Item) (o : Option ℕ) → stock.items k ≡ Some item → Holds (meta_counts moment k words item o stock)
    counts_meta moment words item None is = held
    counts_meta moment words item (Some number) is = over item _ is (λ h. retimed-leased moment (codes "T") words item ∙ h)

    arithmetic_on : (moment : ℕ) (words : List (List ℕ)) (o : Option Item) → stock.items k ≡ o → Holds (meta_of.meta_arithmetic moment k words o stock)
    arithmetic_on moment words None none = first_count moment words (exptime_of (codes "N") words) none
    arithmetic_on moment words (Some item) is = choose (is_other words item && not (names_none words)) _ _ held (counts_meta moment words item (number_below (2 ^ 64) item.bytes) is)

    puts : (most moment mode : ℕ) (words : List (List ℕ)) (item : Item) (o : Option Item) → bytes_eq key k ≡ false → Holds (meta_put most moment mode k words item o stock)
    puts most moment mode words item None e = choose (is_one_of (codes "SE") mode) _ _ (other _ e) held
    puts most moment mode words item (Some old) e = choose (is_one_of (codes "SR") mode) _ _ (other _ e)
        (choose (is_one_of (codes "A") mode) _ _ (choose (nat_lt most (length (old.bytes ++ item.bytes))) _ _ held (other _ e))
        (choose (is_one_of (codes "P") mode) _ _ (choose (nat_lt most (length (item.bytes ++ old.bytes))) _ _ held (other _ e)) held))

    compares_meta : (most moment mode unique : ℕ) (words : List (List ℕ)) (item : Item) (o : Option Item) → bytes_eq key k ≡ false → Holds (meta_compare most moment mode unique k words item o stock)
    compares_meta most moment mode unique words item None e = choose (is_one_of (codes "SR") mode) _ _ held (puts most moment mode words item None e)
    compares_meta most moment mode unique words item (Some old) e = choose (goes_on mode unique old) _ _ (puts most moment mode words item (Some old) e)
        (choose (is_renewed mode unique words old) _ _ (other _ e) held)

    sets : (most moment : ℕ) (words : List (List ℕ)) (block : List ℕ) (o : Option Item) → bytes_eq key k ≡ false → Holds (meta_of.meta_set most moment k words block o stock)
    sets most moment words block o e = go (number_of_letter (codes "C") words) refl
      where
        go : (unique : Option ℕ) → number_of_letter (codes "C") words ≡ unique → Holds (meta_of.meta_set most moment k words block o stock)
        go None is = rw is (puts most moment (mode_of (codes "S") words) words (meta_item moment words block) o e)
        go (Some unique) is = rw is (compares_meta most moment (mode_of (codes "S") words) unique words (meta_item moment words block) o e)

touches_all : (deadline : Option ℕ) (keys : List (List ℕ)) (key : List ℕ) (items : Items) → is_leased (items key) ≡ true → is_leased (touched deadline keys items key) ≡ true
touches_all deadline [] key items held = held
touches_all deadline (k ∷ keys) key items held = touches_all deadline keys key (with_item k (retimed deadline (items k)) items) (⊎_elim
    (λ t. rw t (retimed-leased_too (items k) (ap (λ q. is_leased (items q)) (sym ((bytes_eq-Decides key k).0 t)) ∙ held)))
    (λ t. rw t held)
    (cases_Bool (bytes_eq key k)))
  where
    retimed-leased_too : (o : Option Item) → is_leased o ≡ true → is_leased (retimed deadline o) ≡ true
    retimed-leased_too None e = e
    retimed-leased_too (Some item) e = e

stays : (service : Service) (moment : ℕ) (command : Command) (key : List ℕ) (stock : Stock) → is_leased (stock.items key) ≡ true → may_end key command ≡ false → is_leased ((answer service moment command stock).stock.items key) ≡ true
stays service moment (get uniques keys) key stock held ends = held
stays service moment (gat uniques exptime keys) key stock held ends = touches_all (exptime_deadline moment exptime) keys key stock.items held
stays service moment (store Set k flags exptime block) key stock held ends = other key stock held k (Some (record (new_item block flags (exptime_deadline moment exptime)) { unique = stock.uniques + 1 })) ends
stays service moment (store Add k flags exptime block) key stock held ends = adds key stock held k service.most (new_item block flags (exptime_deadline moment exptime)) (stock.items k) refl
stays service moment (store Replace k flags exptime block) key stock held ends = replaces key stock held k service.most (new_item block flags (exptime_deadline moment exptime)) (stock.items k) ends
stays service moment (store Append k flags exptime block) key stock held ends = appends key stock held k service.most (new_item block flags (exptime_deadline moment exptime)) (stock.items k) refl
stays service moment (store Prepend k flags exptime block) key stock held ends = prepends key stock held k service.most (new_item block flags (exptime_deadline moment exptime)) (stock.items k) refl
stays service moment (store (Cas unique) k flags exptime block) key stock held ends = compares key stock held k service.most unique (new_item block flags (exptime_deadline moment exptime)) (stock.items k) ends
stays service moment (oversize Set k) key stock held ends = other key stock held k None ends
stays service moment (oversize Add k) key stock held ends = held
stays service moment (oversize Replace k) key stock held ends = held
stays service moment (oversize Append k) key stock held ends = held
stays service moment (oversize Prepend k) key stock held ends = held
stays service moment (oversize (Cas unique) k) key stock held ends = held
stays service moment (delete k) key stock held ends = removes key stock held k (stock.items k) ends
stays service moment (arithmetic direction k delta) key stock held ends = counts_on key stock held k direction delta (stock.items k) refl
stays service moment (touch k exptime) key stock held ends = touches_on key stock held k (exptime_deadline moment exptime) (stock.items k) refl
stays service moment (flush_all (Seconds n)) key stock held ends = held
stays service moment (flush_all Never) key stock held ends = absurd (true≢false ends)
stays service moment (flush_all AtOnce) key stock held ends = absurd (true≢false ends)
stays service moment (stats words) key stock held ends = held
stays service moment version key stock held ends = held
stays service moment verbosity key stock held ends = held
stays service moment quit key stock held ends = held
stays service moment (meta Get k words) key stock held ends = faulty key stock held k (flags_fault words) _ (gets key stock held k moment words (stock.items k) refl)
stays service moment (meta Delete k words) key stock held ends = faulty key stock held k (flags_fault words) _ (deletes_on key stock held k moment words (stock.items k) ends)
stays service moment (meta Arithmetic k words) key stock held ends = faulty key stock held k (count_fault words) _ (arithmetic_on key stock held k moment words (stock.items k) refl)
stays service moment (meta_set k words block) key stock held ends = faulty key stock held k (set_fault words) _ (sets key stock held k service.most moment words block (stock.items k) ends)
stays service moment (meta_oversize k words) key stock held ends = faulty key stock held k (set_fault words) _ (other key stock held k None ends)
stays service moment meta_no_op key stock held ends = held
stays service moment (malformed error) key stock held ends = held

-- ---- who wins

here : (key : List ℕ) (o : Option Item) (items : Items) → with_item key o items key ≡ o
here key o items = ap (λ b. cond b o (items key)) ((bytes_eq-Decides key key).1 refl)

held-none : (moment : ℕ) (words : List (List ℕ)) (item : Option Item) → is_leased item ≡ true → wins moment words item ≡ false
held-none moment words None e = absurd (true≢false (sym e))
held-none moment words (Some found) e =
    let item = retimed_by moment (codes "T") words found in
    ap (λ b. not b && (item.stale || is_late moment words item)) (retimed-leased moment (codes "T") words found ∙ e)

won : (moment : ℕ) (key : List ℕ) (words : List (List ℕ)) (stock : Stock) (o : Option Item) → wins moment words o ≡ true → is_leased ((meta_of.meta_get moment key words o stock).stock.items key) ≡ true
won moment key words stock None e = go (exptime_of (codes "N") words) e
  where
    go : (x : Option Exptime) → is_some x ≡ true → is_leased ((meta_get_none moment key words x stock).stock.items key) ≡ true
    go None k = absurd (true≢false (sym k))
    go (Some exptime) k = ap is_leased (here key (Some (record (vivified moment (stock.uniques + 1) exptime) { unique = stock.uniques + 1 })) stock.items)
won moment key words stock (Some found) e =
    let item = retimed_by moment (codes "T") words found in
    let does = not item.leased && (item.stale || is_late moment words item) in
    ap is_leased (here key (Some (record item { leased = item.leased || does })) stock.items) ∙ ap (λ b. item.leased || b) e ∙ or-true item.leased

told : (moment : ℕ) (key : List ℕ) (words : List (List ℕ)) (stock : Stock) → (is_some (stock.items key) || is_some (exptime_of (codes "N") words)) ≡ true → TellsLease moment key words stock (meta_of.meta_get moment key words (stock.items key) stock).reply
told moment key words stock some = go (stock.items key) refl some
  where
    tells : Option Item → List ℕ → Type 0
    tells o reply = (item : Item) × (held : Bool) × (stale : Bool) × (reply ≡ item_text told_to_get moment key item words (lease_text held stale (wins moment words o)))

    made : (x : Option Exptime) → exptime_of (codes "N") words ≡ x → is_some x ≡ true → tells None (meta_get_none moment key words x stock).reply
    made None is k = absurd (true≢false (sym k))
    made (Some exptime) is k =
        let item = vivified moment (stock.uniques + 1) exptime in
        (item, false, false, ap (λ b. item_text told_to_get moment key item words (lease_text false false b)) (sym (ap is_some is)))

    by : (o : Option Item) → (is_some o || is_some (exptime_of (codes "N") words)) ≡ true → tells o (meta_of.meta_get moment key words o stock).reply
    by None k = made (exptime_of (codes "N") words) refl k
    by (Some found) k = let item = retimed_by moment (codes "T") words found in (item, item.leased, item.stale, refl)

    go : (o : Option Item) → stock.items key ≡ o → (is_some o || is_some (exptime_of (codes "N") words)) ≡ true → TellsLease moment key words stock (meta_of.meta_get moment key words (stock.items key) stock).reply
    go o is k = let t = by (stock.items key) some in record { item = t.0; held = t.1; stale = t.2; tells = t.3 }

pub one_wins : OneWins
one_wins = record {
  told = told;
  leased = λ moment key words stock e. won moment key words stock (stock.items key) e;
  held = held-none;
  stays = stays;
}
