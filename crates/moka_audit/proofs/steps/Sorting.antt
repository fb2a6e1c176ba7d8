-- Keys in byte order.
use Rattle.std.proofs.Common.{arith, ◌≡◌, ℕ, ◌+◌, ◌<◌, Bool, cond, true, false, not, List, [], ◌∷◌, ◌++◌, map, length, get_or, take, drop, reverse, Bor, Option, None, if◌then◌else◌, refl, sym, ap, ◌∙◌, subst}
use Rattle.std.proofs.lemmas.Bool.{and_parts, and_from, cond_both, not-true}
use Rattle.std.proofs.lemmas.List.{take_more, take-append-drop, append-nil, append_assoc, map-append, reverse-append}
use Rattle.std.proofs.lemmas.Map.Text.{is_eq-slice_cmp}
use Rattle.std.proofs.lemmas.Option.{none-some}
use Rattle.std.proofs.lemmas.Slice.Eq.{bytes_eq-Decides}
use Rattle.std.specs.BTreeMap.{insert_entry}
use Rattle.std.specs.Cmp.Lexicographic.{slice_cmp}
use Rattle.std.specs.List.{find, list_all, concat}
use Rattle.std.specs.Ordering.{nat_cmp, is_lt, is_eq, match_ordering}
use Rattle.std.specs.declared.cmp.Ordering.{Ordering}
use Rattle.std.specs.declared.cmp.Ordering.TheVariants.{Less, Equal, Greater}
use Rattle.audit_model.specs.Bytewise.{same, is_before, text_line}
use Rattle.audit_model.specs.Situation.{HeldValue, is_live_at, live_keys_at}
use Rattle.audit_model.specs.Values.{put_sorted, without_key}
use Rattle.audit_model.specs.declared.config.Config.{Config}
use Rattle.audit_situation.specs.Held.Seeing.{held_of}
use Rattle.audit_situation.specs.declared.held.held.Seen.{Seen}

-- ---- a map of keys

abbrev pub Keys : Type 0
Keys = List (Bor (List ℕ) × Unit {0})

abbrev pub texts : Keys → List (List ℕ)
texts es = map (λ e. e.0.now) es

abbrev pub by_text : Bor (List ℕ) → Bor (List ℕ) → Ordering
by_text x y = slice_cmp nat_cmp x.now y.now

abbrev is_new : List ℕ → List (List ℕ) → Bool
is_new key keys = list_all (λ k. not (same key k)) keys

put_before : (a x : List ℕ) (xs : List (List ℕ)) → is_before a x ≡ true → put_sorted a (x ∷ xs) ≡ a ∷ x ∷ xs
put_before a x xs e = ap (λ b. if b then a ∷ x ∷ xs else x ∷ put_sorted a xs) e

put_behind : (a x : List ℕ) (xs : List (List ℕ)) → is_before a x ≡ false → put_sorted a (x ∷ xs) ≡ x ∷ put_sorted a xs
put_behind a x xs e = ap (λ b. if b then a ∷ x ∷ xs else x ∷ put_sorted a xs) e

-- a new key goes to its place
put_is : (es : Keys) (k : Bor (List ℕ)) → is_new k.now (texts es) ≡ true → texts (insert_entry by_text es k tt) ≡ put_sorted k.now (texts es)
put_is [] k new = refl
put_is (e ∷ es) k new =
    let parts = and_parts (not (same k.now e.0.now)) (is_new k.now (texts es)) new in
    go (by_text k e.0) refl (not-true _ parts.0) (put_is es k parts.1)
  where
    go : (o : Ordering) → by_text k e.0 ≡ o → same k.now e.0.now ≡ false → texts (insert_entry by_text es k tt) ≡ put_sorted k.now (texts es)
        → texts (match_ordering o ((k, tt) ∷ e ∷ es) ((e.0, tt) ∷ es) (e ∷ insert_entry by_text es k tt)) ≡ put_sorted k.now (texts (e ∷ es))
    go Less f other next = sym (put_before k.now e.0.now (texts es) (ap is_lt f))
    go Equal f other next = let no : true ≡ false = sym (ap is_eq f) ∙ is_eq-slice_cmp k.now e.0.now ∙ other in cc
    go Greater f other next = ap (λ xs. e.0.now ∷ xs) next ∙ sym (put_behind k.now e.0.now (texts es) (ap is_lt f))

-- ---- live keys

abbrev pub put_if : Bool → List ℕ → List (List ℕ) → List (List ℕ)
put_if live key keys = if live then put_sorted key keys else keys

live-cons : (config : Config) (now : ℕ) (h : HeldValue) (items : List HeldValue) → live_keys_at config now (h ∷ items) ≡ put_if (is_live_at config now h) h.value.key (live_keys_at config now items)
live-cons config now h items = grind arith

-- none of these has the key
abbrev is_absent : List ℕ → List HeldValue → Bool
is_absent key items = list_all (λ h. not (same key h.value.key)) items

new-put : (key k : List ℕ) (xs : List (List ℕ)) → not (same key k) ≡ true → is_new key xs ≡ true → is_new key (put_sorted k xs) ≡ true
new-put key k [] a b = and_from _ _ a refl
new-put key k (x ∷ xs) a b =
    let parts = and_parts (not (same key x)) (is_new key xs) b in
    cond_both (is_before k x) _ _ (λ keys. is_new key keys ≡ true) (λ _. and_from _ _ a b) (λ _. and_from _ _ parts.0 (new-put key k xs a parts.1))

new_live : (config : Config) (now : ℕ) (key : List ℕ) (items : List HeldValue) → is_absent key items ≡ true → is_new key (live_keys_at config now items) ≡ true
new_live config now key [] a = refl
new_live config now key (h ∷ items) a =
    let parts = and_parts (not (same key h.value.key)) (is_absent key items) a in
    let next = new_live config now key items parts.1 in
    subst (λ xs. is_new key xs ≡ true) (sym (live-cons config now h items))
    (cond_both (is_live_at config now h) _ _ (λ keys. is_new key keys ≡ true) (λ _. new-put key h.value.key (live_keys_at config now items) parts.0 next) (λ _. next))

-- ---- no key twice

abbrev pub at_key : List ℕ → List HeldValue → Option HeldValue
at_key key items = find (λ h. same key h.value.key) items

abbrev pub but_key : List ℕ → List HeldValue → List HeldValue
but_key key items = without_key (λ h. h.value.key) key items

none-absent : (key : List ℕ) (items : List HeldValue) → at_key key items ≡ None → is_absent key items ≡ true
none-absent key [] e = refl
none-absent key (h ∷ items) e = grind (arith, none-absent key items, none-some h)

none-behind : (key : List ℕ) (front back : List HeldValue) → at_key key (front ++ back) ≡ None → at_key key back ≡ None
none-behind key [] back e = e
none-behind key (f ∷ front) back e = grind (arith, none-behind key front back, none-some f)

-- where no key stands twice, none stands behind its first value
behind-first : (h : HeldValue) (front back : List HeldValue) → at_key h.value.key (but_key h.value.key (front ++ h ∷ back)) ≡ None → at_key h.value.key back ≡ None
behind-first h [] back e = subst (λ b. at_key h.value.key (cond b back (h ∷ but_key h.value.key back)) ≡ None) ((bytes_eq-Decides h.value.key h.value.key).1 refl) e
behind-first h (f ∷ front) back e =
    grind (arith, e, behind-first h front back, none-behind h.value.key (h ∷ []) back, none-behind h.value.key front (h ∷ back))

-- a list whose last comes first, up to a place, with what stands there
up-to : (held : List Seen) (i : ℕ) (h : Seen) → i < length held → h ≡ get_or held i h → reverse (map held_of (take (i + 1) held)) ≡ held_of h ∷ reverse (map held_of (take i held))
up-to held i h lt at =
    ap (λ hs. reverse (map held_of hs)) (take_more held i h lt ∙ ap (λ x. take i held ++ x ∷ []) (sym at))
    ∙ ap reverse (map-append held_of (take i held) (h ∷ []))
    ∙ reverse-append (map held_of (take i held)) (held_of h ∷ [])

whole-from : (held : List Seen) (n : ℕ) → reverse (map held_of held) ≡ reverse (map held_of (drop n held)) ++ reverse (map held_of (take n held))
whole-from held n =
    ap (λ hs. reverse (map held_of hs)) (sym (take-append-drop n held)) ∙ ap reverse (map-append held_of (take n held) (drop n held)) ∙ reverse-append (map held_of (take n held)) (map held_of (drop n held))

-- the key of what stands at a place is new there
new-at : (config : Config) (now : ℕ) (held : List Seen) (i : ℕ) (h : Seen) → i < length held → h ≡ get_or held i h
    → ((key : List ℕ) → at_key key (but_key key (reverse (map held_of held))) ≡ None) → is_new h.key.now (live_keys_at config now (reverse (map held_of (take i held)))) ≡ true
new-at config now held i h lt at apart =
    let behind = reverse (map held_of (take i held)) in
    let front = reverse (map held_of (drop (i + 1) held)) in
    let all = whole-from held (i + 1) ∙ ap (λ hs. front ++ hs) (up-to held i h lt at) in
    new_live config now h.key.now behind
    (none-absent h.key.now behind (behind-first (held_of h) front behind (subst (λ hs. at_key h.key.now (but_key h.key.now hs) ≡ None) all (apart h.key.now))))

-- one value more was gone through, of a list whose last comes first
pub live-more : (config : Config) (now : ℕ) (held : List Seen) (i : ℕ) (h : Seen) (keys : List (List ℕ)) → i < length held → h ≡ get_or held i h
    → keys ≡ put_if (is_live_at config now (held_of h)) h.key.now (live_keys_at config now (reverse (map held_of (take i held)))) → keys ≡ live_keys_at config now (reverse (map held_of (take (i + 1) held)))
live-more config now held i h keys lt at e =
    e ∙ sym (ap (live_keys_at config now) (up-to held i h lt at) ∙ live-cons config now (held_of h) (reverse (map held_of (take i held))))

-- a live one more
pub live-put : (config : Config) (now : ℕ) (held : List Seen) (i : ℕ) (h : Seen) (keys new : Keys) → i < length held → h ≡ get_or held i h → is_live_at config now (held_of h) ≡ true
    → ((key : List ℕ) → at_key key (but_key key (reverse (map held_of held))) ≡ None)
    → new ≡ insert_entry by_text keys h.key tt → texts keys ≡ live_keys_at config now (reverse (map held_of (take i held))) → texts new ≡ live_keys_at config now (reverse (map held_of (take (i + 1) held)))
live-put config now held i h keys new lt at live apart e k =
    let before = live_keys_at config now (reverse (map held_of (take i held))) in
    live-more config now held i h (texts new) lt at
    (ap texts e
    ∙ put_is keys h.key (subst (λ ks. is_new h.key.now ks ≡ true) (sym k) (new-at config now held i h lt at apart))
    ∙ ap (put_sorted h.key.now) k ∙ sym (ap (λ b. put_if b h.key.now before) live))

-- ---- lines

concat-push : (xs : List (List ℕ)) (x : List ℕ) → concat (map text_line (xs ++ x ∷ [])) ≡ concat (map text_line xs) ++ text_line x
concat-push [] x = append-nil (text_line x)
concat-push (y ∷ xs) x = ap (λ zs. text_line y ++ zs) (concat-push xs x) ∙ sym (append_assoc (text_line y) (concat (map text_line xs)) (text_line x))

texts-push : (xs : Keys) (e : Bor (List ℕ) × Unit {0}) → texts (xs ++ e ∷ []) ≡ texts xs ++ e.0.now ∷ []
texts-push [] e = refl
texts-push (y ∷ xs) e = ap (λ ks. y.0.now ∷ ks) (texts-push xs e)

-- behind what stood there before, the lines of those that were gone through
pub record Lined (all rest : Keys) (before lines : List ℕ) : Type 0 where
  pub done : Keys
  pub whole : all ≡ done ++ rest
  pub written : lines ≡ before ++ concat (map text_line (texts done))

pub lined_more : (all rest : Keys) (before lines new : List ℕ) (e : Bor (List ℕ) × Unit {0}) → new ≡ lines ++ text_line e.0.now → Lined all (e ∷ rest) before lines → Lined all rest before new
lined_more all rest before lines new e w l = record {
  done = l.done ++ e ∷ [];
  whole = l.whole ∙ sym (append_assoc l.done (e ∷ []) rest);
  written =
      w ∙ ap (λ ls. ls ++ text_line e.0.now) l.written ∙ append_assoc before (concat (map text_line (texts l.done))) (text_line e.0.now)
      ∙ ap (λ ls. before ++ ls) (sym (ap (λ ks. concat (map text_line ks)) (texts-push l.done e) ∙ concat-push (texts l.done) e.0.now));
}

pub lined_end : (all : Keys) (before lines : List ℕ) → Lined all [] before lines → lines ≡ before ++ concat (map text_line (texts all))
lined_end all before lines l = l.written ∙ sym (ap (λ xs. before ++ concat (map text_line (texts xs))) (l.whole ∙ append-nil l.done))
