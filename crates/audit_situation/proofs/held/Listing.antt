-- A table's entries as slots.
use Rattle.std.proofs.Common.{inr, inl, ◌≡◌, ℕ, suc, ◌==◌, Bool, cond, true, not, nat_lt, List, [], ◌∷◌, ◌++◌, map, length, Option, option_map, Some, None, Result, Ok, Err, OnOk, OnErr, Bor, refl, sym, ap, ◌∙◌, arith, if◌then◌else◌}
use Rattle.std.specs.Option.{option_copied}
use Rattle.std.specs.Map.{keys_of, lookup, lookup_key, set_value}
use Rattle.std.specs.List.{find, list_all}
use Rattle.std.specs.declared.vec.Vec.{Vec}
use Rattle.std.specs.declared.alloc.Global.{Global}
use Rattle.std.proofs.lemmas.Option.{none-some}
use Rattle.std.proofs.lemmas.Bool.{cases_Bool, not-true, and_parts, and_from, ltb-true, le-ltb, ne_eqb}
use Rattle.std.proofs.lemmas.List.{map-append}
use Rattle.std.proofs.lemmas.Slice.Eq.{bytes_eq-Decides}
use Rattle.indexmap.specs.IndexMap.{insert_entry, swap_remove_entry}
use Rattle.audit_model.specs.Bytewise.{same}
use Rattle.audit_situation.specs.Listings.{are_apart, put_ranked}
use Rattle.audit_situation.specs.Held.Slots.{HeldSlot, Entry, slot_of, slots_of, oldest_first, slot_of_key, slots_without, slot_used_at, have_keys_apart, have_stamps_apart}
use Rattle.audit_situation.specs.declared.held.kept.StoredValue.{StoredValue}
use Rattle.audit_situation.proofs.Ranked.{flip, swap_out, swapped_is, swap_out-map, none-found, found-none, none-out, apart-snoc, apart-out, apart-map, gone-out, rising, ranked-find, ranked-all, all-ranked, ranked-length, ranked-map, ranked-newest_last, swapped-out, found-passes}
use Rattle.audit_situation.proofs.held.Pushing.{without-none}
use Rattle.std.proofs.lemmas.Bool.Decides.{nat_tests}

abbrev pub is_at : List ℕ → Vec ℕ Global → Bool
is_at key v = same key v.items

abbrev pub item_of : Entry → HeldSlot
item_of e = slot_of e.0.items e.1

abbrev of_key : List ℕ → HeldSlot → Bool
of_key key s = same key s.value.key

abbrev same_keys : HeldSlot → HeldSlot → Bool
same_keys s t = same s.value.key t.value.key

equal : (a b : List ℕ) → same a b ≡ true → a ≡ b
equal a b e = (bytes_eq-Decides a b).0 e

turned : (a b : List ℕ) → same a b ≡ same b a
turned a b = let one = bytes_eq-Decides a b in let other = bytes_eq-Decides b a in grind (arith, one, other)

passes : (key : List ℕ) (s t : HeldSlot) → of_key key s ≡ true → of_key key t ≡ true → same_keys s t ≡ true
passes key s t h k = (bytes_eq-Decides s.value.key t.value.key).1 (sym (equal key s.value.key h) ∙ equal key t.value.key k)

all-true : {X : Type 0} (xs : List X) → list_all (λ x. true) xs ≡ true
all-true [] = refl
all-true (x ∷ xs) = all-true xs

slots-apart : (es : List Entry) → have_keys_apart es ≡ true → are_apart same_keys (slots_of es) ≡ true
slots-apart es a = apart-map item_of same_keys es ∙ a

stamps-apart : (es : List Entry) → have_stamps_apart es ≡ true → are_apart (λ s t. s.stamp == t.stamp) (slots_of es) ≡ true
stamps-apart es a = apart-map item_of (λ s t. s.stamp == t.stamp) es ∙ a

-- ---- look-ups

lookup_is : (key : List ℕ) (es : List Entry) → option_map (slot_of key) (lookup (is_at key) es) ≡ slot_of_key key (slots_of es)
lookup_is key [] = refl
lookup_is key (e ∷ es) = elim (cases_Bool (same key e.0.items)) [ inl is ↦ rw is (ap (λ k. Some (slot_of k e.1)) (equal key e.0.items is)) | inr is ↦ rw is (lookup_is key es) ]

pub found_is : (key : List ℕ) (es : List Entry) → have_keys_apart es ≡ true → option_map (slot_of key) (lookup (is_at key) es) ≡ slot_of_key key (oldest_first (slots_of es))
found_is key es a = lookup_is key es ∙ sym (ranked-find nat_lt (λ s. s.stamp) same_keys (of_key key) (passes key) (slots_of es) (slots-apart es a))

-- what a look-up lends
pub lent_is : (key : List ℕ) (es : List Entry) (r : Option (Bor StoredValue)) → have_keys_apart es ≡ true → option_copied r ≡ lookup (is_at key) es → option_map (λ k. slot_of key k.now) r ≡ slot_of_key key (oldest_first (slots_of es))
lent_is key es None a e = ap (option_map (slot_of key)) e ∙ found_is key es a
lent_is key es (Some k) a e = ap (option_map (slot_of key)) e ∙ found_is key es a

key-found : (key : List ℕ) (es : List Entry) (k : Vec ℕ Global) → lookup_key (is_at key) es ≡ Some k → same key k.items ≡ true
key-found key [] k e = absurd (none-some k e)
key-found key (d ∷ es) k e = let next = key-found key es k in grind (arith, nat_tests, e, next)

-- what a removal gives
pub taken_is : (key : List ℕ) (es : List Entry) (r : Option Entry) → have_keys_apart es ≡ true → option_map (λ e. e.0) r ≡ lookup_key (is_at key) es → option_map (λ e. e.1) r ≡ lookup (is_at key) es → option_map item_of r ≡ slot_of_key key (oldest_first (slots_of es))
taken_is key es None a k v = ap (option_map (slot_of key)) v ∙ found_is key es a
taken_is key es (Some e) a k v = ap (λ n. Some (slot_of n e.1)) (sym (equal key e.0.items (key-found key es e.0 (sym k)))) ∙ ap (option_map (slot_of key)) v ∙ found_is key es a

none-lookup : (key : List ℕ) (es : List Entry) → slot_of_key key (slots_of es) ≡ None → lookup (is_at key) es ≡ None
none-lookup key [] n = refl
none-lookup key (e ∷ es) n = let next = none-lookup key es in grind (arith, nat_tests, n, next)

pub none-there : (key : List ℕ) (es : List Entry) → slot_of_key key (oldest_first (slots_of es)) ≡ None → lookup (is_at key) es ≡ None
none-there key es n = none-lookup key es (none-found (of_key key) (slots_of es) (all-ranked nat_lt (λ s. s.stamp) (λ s. not (of_key key s)) (slots_of es) (found-none (of_key key) (oldest_first (slots_of es)) n)))

-- ---- an entry removed, whose place the last one takes

pub keys-out : (key : List ℕ) (es : List Entry) → have_keys_apart es ≡ true → have_keys_apart (swap_remove_entry (is_at key) es) ≡ true
keys-out key es a = ap have_keys_apart (swapped_is (is_at key) es) ∙ apart-out (λ d e. same d.0.items e.0.items) (λ d e. turned d.0.items e.0.items) (λ e. is_at key e.0) es a

pub stamps-out : (key : List ℕ) (es : List Entry) → have_stamps_apart es ≡ true → have_stamps_apart (swap_remove_entry (is_at key) es) ≡ true
stamps-out key es a = ap have_stamps_apart (swapped_is (is_at key) es) ∙ apart-out (λ d e. d.1.stamp == e.1.stamp) (λ d e. flip d.1.stamp e.1.stamp) (λ e. is_at key e.0) es a

slots-out : (key : List ℕ) (es : List Entry) → slots_of (swap_remove_entry (is_at key) es) ≡ swap_out (of_key key) (slots_of es)
slots-out key es = ap slots_of (swapped_is (is_at key) es) ∙ swap_out-map item_of (λ e. true) (λ e. is_at key e.0) (of_key key) (λ e h. refl) es (all-true es)

without-put : (key : List ℕ) (z : HeldSlot) (l : List HeldSlot) → of_key key z ≡ true → list_all (λ s. not (of_key key s)) l ≡ true → slots_without key (put_ranked nat_lt (λ s. s.stamp) z l) ≡ l
without-put key z [] h n = ap (λ b. if b then [] else z ∷ []) h
without-put key z (y ∷ ys) h n =
    let s = and_parts (not (of_key key y)) (list_all (λ s. not (of_key key s)) ys) n in
    elim (cases_Bool (nat_lt z.stamp y.stamp)) [
      | inl e ↦ rw e (ap (λ b. if b then y ∷ ys else z ∷ slots_without key (y ∷ ys)) h)
      | inr e ↦ rw e (ap (λ b. if b then put_ranked nat_lt (λ s. s.stamp) z ys else y ∷ slots_without key (put_ranked nat_lt (λ s. s.stamp) z ys)) (not-true _ s.0) ∙ ap (λ l. y ∷ l) (without-put key z ys h s.1))
    ]

left : (key : List ℕ) (slots : List HeldSlot) → are_apart same_keys slots ≡ true → are_apart (λ s t. s.stamp == t.stamp) slots ≡ true → oldest_first (swap_out (of_key key) slots) ≡ slots_without key (oldest_first slots)
left key slots a b = go (find (of_key key) slots) refl
  where
    go : (o : Option HeldSlot) → find (of_key key) slots ≡ o → oldest_first (swap_out (of_key key) slots) ≡ slots_without key (oldest_first slots)
    go None e =
        ap oldest_first (none-out (of_key key) slots e)
        ∙ sym (without-none (λ s. s.value.key) key (oldest_first slots) (ranked-find nat_lt (λ s. s.stamp) same_keys (of_key key) (passes key) slots a ∙ e))
    go (Some z) e =
        sym (ap (slots_without key) (swapped-out nat_lt rising (λ s. s.stamp) (of_key key) slots z b e)
        ∙ without-put key z (oldest_first (swap_out (of_key key) slots)) (found-passes (of_key key) slots z e)
        (ranked-all nat_lt (λ s. s.stamp) (λ s. not (of_key key s)) (swap_out (of_key key) slots) (gone-out same_keys (of_key key) (passes key) slots a)))

pub left_is : (key : List ℕ) (es : List Entry) → have_keys_apart es ≡ true → have_stamps_apart es ≡ true → oldest_first (slots_of (swap_remove_entry (is_at key) es)) ≡ slots_without key (oldest_first (slots_of es))
left_is key es a b = ap oldest_first (slots-out key es) ∙ left key (slots_of es) (slots-apart es a) (stamps-apart es b)

pub gone : (key : List ℕ) (es : List Entry) → have_keys_apart es ≡ true → have_stamps_apart es ≡ true → slot_of_key key (slots_without key (oldest_first (slots_of es))) ≡ None
gone key es a b =
    ap (slot_of_key key) (sym (left key (slots_of es) (slots-apart es a) (stamps-apart es b)))
    ∙ none-found (of_key key) (oldest_first (swap_out (of_key key) (slots_of es)))
    (ranked-all nat_lt (λ s. s.stamp) (λ s. not (of_key key s)) (swap_out (of_key key) (slots_of es)) (gone-out same_keys (of_key key) (passes key) (slots_of es) (slots-apart es a)))

-- ---- an entry used

keeps-stamp : (key : List ℕ) (now : ℕ) (s : HeldSlot) → (slot_used_at key now s).stamp ≡ s.stamp
keeps-stamp key now s = grind (arith, nat_tests)

unused : (key : List ℕ) (now : ℕ) (slots : List HeldSlot) → list_all (λ s. not (of_key key s)) slots ≡ true → map (slot_used_at key now) slots ≡ slots
unused key now [] n = refl
unused key now (s ∷ slots) n =
    let parts = and_parts (not (of_key key s)) (list_all (λ s. not (of_key key s)) slots) n in
    ap (λ b. cond b (record s { last_use = now }) s ∷ map (slot_used_at key now) slots) (not-true _ parts.0) ∙ ap (λ l. s ∷ l) (unused key now slots parts.1)

missing : (key : List ℕ) (es : List Entry) → lookup (is_at key) es ≡ None → list_all (λ s. not (of_key key s)) (slots_of es) ≡ true
missing key es n = found-none (of_key key) (slots_of es) (sym (lookup_is key es) ∙ ap (option_map (slot_of key)) n)

pub unused_is : (key : List ℕ) (now : ℕ) (es : List Entry) → lookup (is_at key) es ≡ None → oldest_first (slots_of es) ≡ map (slot_used_at key now) (oldest_first (slots_of es))
unused_is key now es n = sym (unused key now (oldest_first (slots_of es)) (ranked-all nat_lt (λ s. s.stamp) (λ s. not (of_key key s)) (slots_of es) (missing key es n)))

used : (key : List ℕ) (now : ℕ) (es : List Entry) (kept : StoredValue) → have_keys_apart es ≡ true → lookup (is_at key) es ≡ Some kept
    → slots_of (set_value (is_at key) es (record kept { last_use = now })) ≡ map (slot_used_at key now) (slots_of es)
used key now [] kept a f = absurd (none-some kept f)
used key now (e ∷ es) kept a f =
    let parts = and_parts (list_all (λ d. not (same e.0.items d.0.items)) es) (have_keys_apart es) a in
    elim (cases_Bool (same key e.0.items)) [
      | inl t ↦ rw t (let is : e.1 ≡ kept = cc in ap (λ (k : StoredValue). slot_of e.0.items (record k { last_use = now }) ∷ slots_of es) (sym is) ∙ ap (λ l. record (item_of e) { last_use = now } ∷ l) (sym (unused key now (slots_of es) (others t es parts.0))))
      | inr t ↦ rw t (ap (λ l. item_of e ∷ l) ((used key now es kept parts.1) (rw t at f)))
    ]
  where
    others : same key e.0.items ≡ true → (ds : List Entry) → list_all (λ d. not (same e.0.items d.0.items)) ds ≡ true → list_all (λ s. not (of_key key s)) (slots_of ds) ≡ true
    others h [] n = refl
    others h (d ∷ ds) n =
        let parts = and_parts (not (same e.0.items d.0.items)) (list_all (λ d. not (same e.0.items d.0.items)) ds) n in
        and_from _ _ (ap (λ k. not (same k d.0.items)) (equal key e.0.items h) ∙ parts.0) (others h ds parts.1)

pub used_is : (key : List ℕ) (now : ℕ) (es : List Entry) (kept : StoredValue) → have_keys_apart es ≡ true → lookup (is_at key) es ≡ Some kept
    → oldest_first (slots_of (set_value (is_at key) es (record kept { last_use = now }))) ≡ map (slot_used_at key now) (oldest_first (slots_of es))
used_is key now es kept a f = ap oldest_first (used key now es kept a f) ∙ ranked-map nat_lt (λ s. s.stamp) (λ s. s.stamp) (slot_used_at key now) (keeps-stamp key now) (slots_of es)

pub keys-set : (es fs : List Entry) → keys_of fs ≡ keys_of es → have_keys_apart es ≡ true → have_keys_apart fs ≡ true
keys-set es fs same_keys a =
    sym (apart-map (λ (e : Entry). e.0) (λ k l. same k.items l.items) fs) ∙ ap (are_apart (λ k l. same k.items l.items)) same_keys ∙ apart-map (λ (e : Entry). e.0) (λ k l. same k.items l.items) es ∙ a

same-stamps : (key : List ℕ) (es : List Entry) (kept new : StoredValue) → lookup (is_at key) es ≡ Some kept → new.stamp ≡ kept.stamp → map (λ e. e.1.stamp) (set_value (is_at key) es new) ≡ map (λ e. e.1.stamp) es
same-stamps key [] kept new f k = refl
same-stamps key (e ∷ es) kept new f k = let next = same-stamps key es kept new in grind (arith, nat_tests, f, next)

pub stamps-set : (key : List ℕ) (es : List Entry) (kept new : StoredValue) → lookup (is_at key) es ≡ Some kept → new.stamp ≡ kept.stamp → have_stamps_apart es ≡ true → have_stamps_apart (set_value (is_at key) es new) ≡ true
stamps-set key es kept new f k a =
    sym (apart-map (λ (e : Entry). e.1.stamp) (λ m n. m == n) (set_value (is_at key) es new)) ∙ ap (are_apart (λ m n. m == n)) (same-stamps key es kept new f k) ∙ apart-map (λ (e : Entry). e.1.stamp) (λ m n. m == n) es ∙ a

-- ---- an entry added

module _ (es : List Entry) (key : Vec ℕ Global) (kept : StoredValue) where
  abbrev more : List Entry
  more = es ++ (key, kept) ∷ []

  pub inserted : slot_of_key key.items (oldest_first (slots_of es)) ≡ None → insert_entry (λ (x y : Vec ℕ Global). same x.items y.items) es key kept ≡ more
  inserted n = go es (none-there key.items es n)
    where
      go : (ds : List Entry) → lookup (is_at key.items) ds ≡ None → insert_entry (λ (x y : Vec ℕ Global). same x.items y.items) ds key kept ≡ ds ++ (key, kept) ∷ []
      go [] e = refl
      go (d ∷ ds) e = let ih = go ds in grind (arith, e, ih)

  entries-other : (ds : List Entry) → list_all (λ s. not (of_key key.items s)) (slots_of ds) ≡ true → list_all (λ e. not (same key.items e.0.items)) ds ≡ true
  entries-other [] h = refl
  entries-other (d ∷ ds) h = let s = and_parts (not (same key.items d.0.items)) (list_all (λ s. not (of_key key.items s)) (slots_of ds)) h in and_from _ _ s.0 (entries-other ds s.1)

  pub keys-more : have_keys_apart es ≡ true → slot_of_key key.items (oldest_first (slots_of es)) ≡ None → have_keys_apart more ≡ true
  keys-more a n = apart-snoc (λ d e. same d.0.items e.0.items) (λ d e. turned d.0.items e.0.items) es (key, kept) a (entries-other es (missing key.items es (none-there key.items es n)))

  below : list_all (λ s. nat_lt s.stamp kept.stamp) (oldest_first (slots_of es)) ≡ true → list_all (λ s. nat_lt s.stamp kept.stamp) (slots_of es) ≡ true
  below h = all-ranked nat_lt (λ s. s.stamp) (λ s. nat_lt s.stamp kept.stamp) (slots_of es) h

  other-stamps : (ds : List Entry) → list_all (λ s. nat_lt s.stamp kept.stamp) (slots_of ds) ≡ true → list_all (λ e. not (kept.stamp == e.1.stamp)) ds ≡ true
  other-stamps [] h = refl
  other-stamps (d ∷ ds) h =
      let s = and_parts (nat_lt d.1.stamp kept.stamp) (list_all (λ s. nat_lt s.stamp kept.stamp) (slots_of ds)) h in
      let lt = ltb-true d.1.stamp kept.stamp s.0 in
      and_from _ _ (ap not (ne_eqb kept.stamp d.1.stamp (λ same. absurd (omega arith)))) (other-stamps ds s.1)

  pub stamps-more : have_stamps_apart es ≡ true → list_all (λ s. nat_lt s.stamp kept.stamp) (oldest_first (slots_of es)) ≡ true → have_stamps_apart more ≡ true
  stamps-more a h = apart-snoc (λ d e. d.1.stamp == e.1.stamp) (λ d e. flip d.1.stamp e.1.stamp) es (key, kept) a (other-stamps es (below h))

  slot-others : (l : List HeldSlot) → list_all (λ s. nat_lt s.stamp kept.stamp) l ≡ true → (list_all (λ s. not (kept.stamp == s.stamp)) l ≡ true) × (list_all (λ s. not (nat_lt kept.stamp s.stamp)) l ≡ true)
  slot-others [] h = (refl, refl)
  slot-others (s ∷ l) h =
      let p = and_parts (nat_lt s.stamp kept.stamp) (list_all (λ s. nat_lt s.stamp kept.stamp) l) h in
      let lt = ltb-true s.stamp kept.stamp p.0 in
      let r = slot-others l p.1 in
      (and_from _ _ (ap not (ne_eqb kept.stamp s.stamp (λ same. absurd (omega arith)))) r.0, and_from _ _ (ap not (le-ltb kept.stamp s.stamp (omega arith))) r.1)

  pub added_is : list_all (λ s. nat_lt s.stamp kept.stamp) (oldest_first (slots_of es)) ≡ true → oldest_first (slots_of more) ≡ oldest_first (slots_of es) ++ slot_of key.items kept ∷ []
  added_is h =
      let o = slot-others (slots_of es) (below h) in
      ap oldest_first (map-append item_of es ((key, kept) ∷ [])) ∙ ranked-newest_last nat_lt rising (λ s. s.stamp) (slots_of es) (slot_of key.items kept) o.0 o.1

  -- an insertion, which may be refused
  pub after-insert : {A E : Type 0} (fs : List Entry) (r : Result A E) → have_keys_apart es ≡ true → have_stamps_apart es ≡ true → slot_of_key key.items (oldest_first (slots_of es)) ≡ None
      → list_all (λ s. nat_lt s.stamp kept.stamp) (oldest_first (slots_of es)) ≡ true
      → OnOk r (fs ≡ insert_entry (λ (x y : Vec ℕ Global). same x.items y.items) es key kept) → OnErr r (fs ≡ es) → (have_keys_apart fs ≡ true) × (have_stamps_apart fs ≡ true)
  after-insert fs (Ok x) a b n h ok err = let is = ok ∙ inserted n in (ap have_keys_apart is ∙ keys-more a n, ap have_stamps_apart is ∙ stamps-more b h)
  after-insert fs (Err x) a b n h ok err = (ap have_keys_apart err ∙ a, ap have_stamps_apart err ∙ b)

pub length-slots : (es : List Entry) → length (oldest_first (slots_of es)) ≡ length es
length-slots es = ranked-length nat_lt (λ s. s.stamp) (slots_of es) ∙ go es
  where
    go : (ds : List Entry) → length (slots_of ds) ≡ length ds
    go [] = refl
    go (d ∷ ds) = ap suc (go ds)
