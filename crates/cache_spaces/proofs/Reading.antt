-- Notes in lists of records, and how far journals were read.
use Rattle.std.proofs.Common.{◌≡◌, ℕ, zero, suc, ◌+◌, ◌<◌, ◌≤◌, List, [], ◌∷◌, ◌++◌, length, get_or, take, drop, Some, refl, sym, ap, ◌∙◌, inl, inr, arith, add-one, ◌⊎◌, ◌≢◌, map, slice_set, Option, true, false, Vec, Global, subst, IsNone}
use Rattle.std.proofs.Math.ListN.{drop_of_length-le}
use Rattle.std.proofs.Math.Seq.{drop-append_seam, drop-nil, map-set_same}
use Rattle.std.proofs.lemmas.Bool.{cases_lt, cases_eq}
use Rattle.std.proofs.lemmas.List.{append_assoc, append_cancel_right, drop-append-le, length-append, take-append-drop, get_or_past, get_or-map, get_or-set_other, get_or-set_same, length-map, map-set}
use Rattle.std.proofs.lemmas.List.Concat.{flat_map-append}
use Rattle.std.proofs.lemmas.Option.{slice_get_past, none-some}
use Rattle.std.specs.List.{slice_get}
use Rattle.std.specs.Option.{option_map_or, option_to_list}
use Rattle.audit_model.specs.declared.input.Conn.{Conn}
use Rattle.audit_model.specs.declared.transcript.Note.{Note}
use Rattle.audit_model.specs.declared.transcript.Record.{Record}
use Rattle.cache_lines.specs.Tape.Taped.{Taped}
use Rattle.cache_core.proofs.connections.Getting.{front-or-end}
use Rattle.cache_core.specs.State.{at_number}
use Rattle.cache_spaces.specs.Calls.{InSpace, IsOpened}
use Rattle.cache_spaces.specs.Cursors.{Cursor, cursor_at_start, cursor_of, taken_through, IsPlaceIn, before_in, lists_joined, lists_of, notes_before, notes_of_records, rest_in, lists_at, notes_from, TakesFrom, records_at, replies_for}
use Rattle.cache_spaces.specs.Journals.{journals_of}
use Rattle.cache_spaces.specs.Recorded.{AreAtStart, IsUnread, ReadsJournals, ReadsWithin, Recorded, TakesNote, TakesReplies, cursor_in, records_in, recorded_of, untaken_in, untold_in}
use Rattle.cache_spaces.specs.Spaces.{Space}
use Rattle.cache_spaces.specs.declared.cursors.Cursors.{Cursors}
use Rattle.cache_spaces.specs.declared.told.Told.{Told}

module _ {X : Type 0} where
  joined-from : (lists : List (List X)) (k : ℕ) → lists_joined (drop k lists) ≡ get_or lists k [] ++ lists_joined (drop (suc k) lists)
  joined-from [] zero = refl
  joined-from [] (suc k) = refl
  joined-from (x ∷ xs) zero = refl
  joined-from (x ∷ xs) (suc k) = joined-from xs k

  joined-next : (lists : List (List X)) (k : ℕ) → lists_joined (drop (k + 1) lists) ≡ rest_in lists (k + 1) 0
  joined-next lists k = joined-from lists (k + 1) ∙ ap (λ m. get_or lists (k + 1) [] ++ lists_joined (drop m lists)) (sym (add-one (k + 1)))

  -- nothing stands in that list from there on
  pub next-list : (lists : List (List X)) (k n : ℕ) → length (get_or lists k []) ≤ n → rest_in lists k n ≡ rest_in lists (k + 1) 0
  next-list lists k n h = ap (λ l. l ++ lists_joined (drop (k + 1) lists)) (drop_of_length-le (get_or lists k []) h) ∙ joined-next lists k

  -- there is no such list
  pub no-list : (lists : List (List X)) (k n : ℕ) → length lists ≤ k → rest_in lists k n ≡ []
  no-list lists k n h = grind (arith, get_or_past, drop-nil, drop_of_length-le)

records-from : (records : List Record) (k : ℕ) → notes_of_records (drop k records) ≡ rest_in (lists_at records k) 0 0 ++ notes_of_records (drop (suc k) records)
records-from [] zero = refl
records-from [] (suc k) = refl
records-from (x ∷ xs) zero = refl
records-from (x ∷ xs) (suc k) = records-from xs k

-- nothing stands in that record from there on
pub next-record : (records : List Record) (k l n : ℕ) → rest_in (lists_at records k) l n ≡ []
    → notes_from records (record { entry = k; list = l; note = n }) ≡ notes_from records (record { entry = k + 1; list = 0; note = 0 })
next-record records k l n e =
    ap (λ (r : List Note). r ++ notes_of_records (drop (k + 1) records)) e ∙ records-from records (k + 1)
    ∙ ap (λ m. rest_in (lists_at records (k + 1)) 0 0 ++ notes_of_records (drop m records)) (sym (add-one (k + 1)))

lists-over : (records : List Record) (k : ℕ) → length records ≤ k → lists_at records k ≡ []
lists-over records k h = ap (λ o. option_map_or lists_of o []) (slice_get_past records k h)

-- there is no such record
pub no-record : (records : List Record) (told : Told) → length records ≤ told.entry → notes_from records told ≡ []
no-record records told h = grind (arith, lists-over, no-list, drop_of_length-le)

-- the lists of the record that stands there
pub lists-there : (records : List Record) (k : ℕ) (entry : Record) → slice_get records k ≡ Some entry → lists_at records k ≡ lists_of entry
lists-there records k entry e = ap (λ o. option_map_or lists_of o []) e

-- ---- what was taken, and what was not

module _ {X : Type 0} where
  joined-parts : (lists : List (List X)) (k : ℕ) → lists_joined (take k lists) ++ lists_joined (drop k lists) ≡ lists_joined lists
  joined-parts lists k = sym (flat_map-append (λ (l : List X). l) (take k lists) (drop k lists)) ∙ ap lists_joined (take-append-drop k lists)

  parts-in : (lists : List (List X)) (k n : ℕ) → before_in lists k n ++ rest_in lists k n ≡ lists_joined lists
  parts-in lists k n =
      let x = get_or lists k [] in
      let rest = lists_joined (drop (k + 1) lists) in
      append_assoc (lists_joined (take k lists)) (take n x) (drop n x ++ rest)
      ∙ ap (λ l. lists_joined (take k lists) ++ l) (sym (append_assoc (take n x) (drop n x) rest) ∙ ap (λ l. l ++ rest) (take-append-drop n x)
      ∙ ap (λ m. x ++ lists_joined (drop m lists)) (add-one k) ∙ sym (joined-from lists k))
      ∙ joined-parts lists k

-- the notes before a place, and those from there on, are all
pub all-notes : (records : List Record) (told : Told) → notes_of_records records ≡ notes_before records told ++ notes_from records told
all-notes records told =
    let k = told.entry in
    let lists = lists_at records k in
    let rest = notes_of_records (drop (k + 1) records) in
    let whole : rest_in lists 0 0 ≡ before_in lists told.list told.note ++ rest_in lists told.list told.note = sym (joined-from lists 0) ∙ sym (parts-in lists told.list told.note) in
    ap notes_of_records (sym (take-append-drop k records)) ∙ flat_map-append (λ (entry : Record). lists_joined (lists_of entry)) (take k records) (drop k records)
    ∙ ap (λ l. notes_of_records (take k records) ++ l) (records-from records k ∙ ap (λ m. rest_in lists 0 0 ++ notes_of_records (drop m records)) (sym (add-one k)) ∙ ap (λ l. l ++ rest) whole
    ∙ append_assoc (before_in lists told.list told.note) (rest_in lists told.list told.note) rest)
    ∙ sym (append_assoc (notes_of_records (take k records)) (before_in lists told.list told.note) (rest_in lists told.list told.note ++ rest))

-- so what was taken grows by what a taking gives
pub told-grows : (records : List Record) (was is : Told) (given : List Note) → notes_from records was ≡ given ++ notes_from records is → notes_before records is ≡ notes_before records was ++ given
told-grows records was is given e =
    append_cancel_right (notes_before records is) (notes_before records was ++ given) (notes_from records is)
    (sym (all-notes records is) ∙ all-notes records was ∙ ap (λ l. notes_before records was ++ l) e ∙ sym (append_assoc (notes_before records was) given (notes_from records is)))

-- ---- records that are added

lists-added : (records added : List Record) (k : ℕ) → k < length records → lists_at (records ++ added) k ≡ lists_at records k
lists-added [] added k lt = absurd (omega arith)
lists-added (x ∷ xs) added zero lt = refl
lists-added (x ∷ xs) added (suc k) lt = lists-added xs added k (omega arith)

-- the notes of the records from one on
notes-behind : (records : List Record) (k : ℕ) → notes_from records (record { entry = k; list = 0; note = 0 }) ≡ notes_of_records (drop k records)
notes-behind records k = ap (λ m. rest_in (lists_at records k) 0 0 ++ notes_of_records (drop m records)) (add-one k) ∙ sym (records-from records k)

same-told : (told : Told) (k : ℕ) → told.entry ≡ k → told.list ≡ 0 → told.note ≡ 0 → told ≡ record { entry = k; list = 0; note = 0 }
same-told told k e f g = rw (e, f, g)

-- those from a place on, and then the added records'
pub notes-added : (records added : List Record) (told : Told) → IsPlaceIn records told → notes_from (records ++ added) told ≡ notes_from records told ++ notes_of_records added
notes-added records added told place = go (cases_lt told.entry (length records))
  where
    k : ℕ
    k = told.entry

    go : (k < length records) ⊎ (length records ≤ k) → notes_from (records ++ added) told ≡ notes_from records told ++ notes_of_records added
    go (inl lt) =
        let here = rest_in (lists_at records k) told.list told.note in
        ap (λ ls. rest_in ls told.list told.note ++ notes_of_records (drop (k + 1) (records ++ added))) (lists-added records added k lt)
        ∙ ap (λ rs. here ++ notes_of_records rs) (drop-append-le (k + 1) records added (omega arith))
        ∙ ap (λ ns. here ++ ns) (flat_map-append (λ (entry : Record). lists_joined (lists_of entry)) (drop (k + 1) records) added)
        ∙ sym (append_assoc here (notes_of_records (drop (k + 1) records)) (notes_of_records added))
    go (inr over) =
        let end = place.behind over in
        let at : told ≡ record { entry = length records; list = 0; note = 0 } = same-told told (length records) (let within = place.within in omega (arith, within, over)) end.0 end.1 in
        ap (notes_from (records ++ added)) at ∙ notes-behind (records ++ added) (length records) ∙ ap notes_of_records (drop-append_seam records added)
        ∙ ap (λ ns. ns ++ notes_of_records added) (sym (no-record records told over))

-- it is a place in them too
pub place-added : (records added : List Record) (told : Told) → IsPlaceIn records told → IsPlaceIn (records ++ added) told
place-added records added told place = record {
  within = let e = length-append records added in let w = place.within in omega (arith, e, w);
  behind = λ over. place.behind (let e = length-append records added in omega (arith, e, over));
}

-- How far journals were read.

-- connections of one namespace and number are one
pub same-conn : (a b : Conn) → a.namespace ≡ b.namespace → a.number ≡ b.number → a ≡ b
same-conn a b e f = rw (e, f)

module _ (spaces : List (Space Taped)) (read : List Cursors) (namespace : ℕ) (here is : Cursors) (lt : namespace < length read) (at : here ≡ get_or read namespace here) where
  pub was-there : cursor_in (recorded_of spaces read) namespace ≡ cursor_of here
  was-there = get_or-map cursor_of read namespace here cursor_at_start lt ∙ ap cursor_of (sym at)

  is-there : cursor_in (recorded_of spaces (slice_set read namespace is)) namespace ≡ cursor_of is
  is-there = grind (arith, map-set, get_or-set_same, length-map)

  is-elsewhere : (other : ℕ) → other ≢ namespace → cursor_in (recorded_of spaces (slice_set read namespace is)) other ≡ cursor_in (recorded_of spaces read) other
  is-elsewhere other ne = grind (arith, map-set, get_or-set_other)

  -- so it is of what is seen of a namespace's cursor, where that is the same of the one that was put in the place of another
  pub same-seen : {X : Type 0} (f : Cursor → X) → f (cursor_of is) ≡ f (cursor_of here)
      → (other : ℕ) → f (cursor_in (recorded_of spaces (slice_set read namespace is)) other) ≡ f (cursor_in (recorded_of spaces read) other)
  same-seen {X} f e other = grind (arith, cases_eq, is-there, was-there, is-elsewhere)

  abbrev was : Recorded
  was = recorded_of spaces read

  abbrev now : Recorded
  now = recorded_of spaces (slice_set read namespace is)

  abbrev records : List Record
  records = records_at (journals_of spaces) namespace

  -- the notes that were not taken
  pub untold-is : untold_in was namespace ≡ notes_from records here.notes
  untold-is = ap (λ (c : Cursor). notes_from records c.notes) was-there

  -- what a taking of replies leaves
  pub takes-replies : (number : ℕ)
      → InSpace spaces namespace (λ space. IsOpened space number)
      → taken_through (cursor_of is) number ≡ length records
      → ((other : ℕ) → other ≢ number → taken_through (cursor_of is) other ≡ taken_through (cursor_of here) other)
      → is.notes ≡ here.notes
      → TakesReplies was now (record { namespace = namespace; number = number }) (untaken_in was (record { namespace = namespace; number = number }))
  takes-replies number opened cursor others notes = record {
    known = opened;
    text_is = refl;
    none = ap (λ (c : Cursor). replies_for number (drop (taken_through c number) records)) is-there ∙ ap (λ n. replies_for number (drop n records)) cursor
        ∙ ap (replies_for number) (drop_of_length-le records (omega arith));
    reached = ap (λ (c : Cursor). taken_through c number) is-there ∙ cursor;
    others = λ other ne. other-replies other ne (cases_eq other.namespace namespace);
    notes = λ n. let e = same-seen (λ c. c.notes) notes n in (ap (notes_before (records_in was n)) e, ap (notes_from (records_in was n)) e);
    spaces = refl;
  }
    where
      other-replies : (other : Conn) → other ≢ record { namespace = namespace; number = number } → (other.namespace ≡ namespace) ⊎ (other.namespace ≢ namespace)
          → untaken_in now other ≡ untaken_in was other
      other-replies other ne (inr elsewhere) =
          ap (λ (c : Cursor). replies_for other.number (drop (taken_through c other.number) (records_in was other.namespace))) (is-elsewhere other.namespace elsewhere)
      other-replies other ne (inl same) =
          let numbers = others other.number (λ e. ne (same-conn other (record { namespace = namespace; number = number }) same e)) in
          ap (λ k. replies_for other.number (drop k (records_in was other.namespace))) (same-seen (λ c. taken_through c other.number) numbers other.namespace)

  -- what a taking of a note leaves
  pub takes-note : (note : Option Note) → TakesFrom records here.notes is.notes note → (IsNone note → notes_from records here.notes ≡ [])
      → IsPlaceIn records is.notes → is.replies ≡ here.replies → TakesNote was now namespace note
  takes-note note takes none place replies = record {
    grows = ap (λ (c : Cursor). notes_before records c.notes) is-there ∙ told-grows records here.notes is.notes (option_to_list note) takes
        ∙ ap (λ (c : Cursor). notes_before records c.notes ++ option_to_list note) (sym was-there);
    left = untold-is ∙ takes ∙ ap (λ (c : Cursor). option_to_list note ++ notes_from records c.notes) (sym is-there);
    none = λ no. untold-is ∙ none no;
    place = subst (λ (c : Cursor). IsPlaceIn records c.notes) (sym is-there) place;
    all = all-notes records (cursor_in now namespace).notes;
    others = λ other ne. let e = is-elsewhere other ne in (ap (λ (c : Cursor). notes_before (records_in was other) c.notes) e, ap (λ (c : Cursor). notes_from (records_in was other) c.notes) e);
    replies = λ conn.
        let same = same-seen (λ c. taken_through c conn.number) (ap (λ (v : Vec ℕ Global). at_number 0 v.items conn.number) replies) conn.namespace in
        ap (λ k. replies_for conn.number (drop k (records_in was conn.namespace))) same;
    spaces = refl;
  }

  -- what is read stands in the journals, where what is read of this one does
  reads-here : ReadsJournals was → ReadsWithin records (cursor_of here)
  reads-here reads = subst (ReadsWithin records) was-there (reads namespace)

  reads-now : ReadsJournals was → ReadsWithin records (cursor_of is) → ReadsJournals now
  reads-now reads within other = go (cases_eq other namespace)
    where
      go : (other ≡ namespace) ⊎ (other ≢ namespace) → ReadsWithin (records_in now other) (cursor_in now other)
      go (inl same) = subst (λ n. ReadsWithin (records_in now n) (cursor_in now n)) (sym same) (subst (ReadsWithin records) (sym is-there) within)
      go (inr ne) = subst (ReadsWithin (records_in was other)) (sym (is-elsewhere other ne)) (reads other)

  -- after a taking of replies
  pub replies-read : (number : ℕ) → taken_through (cursor_of is) number ≡ length records
      → ((other : ℕ) → other ≢ number → taken_through (cursor_of is) other ≡ taken_through (cursor_of here) other)
      → is.notes ≡ here.notes → ReadsJournals was → ReadsJournals now
  replies-read number cursor others notes reads = reads-now reads (record {
    replies = λ other. go other (cases_eq other number);
    notes = subst (IsPlaceIn records) (sym notes) (reads-here reads).notes;
  })
    where
      go : (other : ℕ) → (other ≡ number) ⊎ (other ≢ number) → taken_through (cursor_of is) other ≤ length records
      go other (inl e) = let at : taken_through (cursor_of is) other ≡ length records = ap (taken_through (cursor_of is)) e ∙ cursor in omega (arith, at)
      go other (inr ne) = subst (λ n. n ≤ length records) (sym (others other ne)) ((reads-here reads).replies other)

  -- after a taking of a note
  pub notes-read : IsPlaceIn records is.notes → is.replies ≡ here.replies → ReadsJournals was → ReadsJournals now
  notes-read place replies reads = reads-now reads (record {
    replies = λ other. subst (λ (v : Vec ℕ Global). at_number 0 v.items other ≤ length records) (sym replies) ((reads-here reads).replies other);
    notes = place;
  })

-- ---- a call that is refused

cursor-same : (a b : Cursors) → a.replies.items ≡ b.replies.items → a.notes ≡ b.notes → cursor_of a ≡ cursor_of b
cursor-same a b e f = rw (e, f)

-- one that is seen as the one before it, in its place
pub same-read : (spaces : List (Space Taped)) (read : List Cursors) (k : ℕ) (here is : Cursors) → here ≡ get_or read k here → is.replies.items ≡ here.replies.items → is.notes ≡ here.notes
    → recorded_of spaces (slice_set read k is) ≡ recorded_of spaces read
same-read spaces read k here is at replies notes = ap (λ cs. record { spaces = spaces; cursors = cs }) (map-set_same cursor_of read k is here (cursor-same is here replies notes ∙ ap cursor_of at))

-- a list's first, and what is behind it
pub first-behind : {X : Type 0} (xs rest : List X) (x : X) → xs ≡ x ∷ rest → xs ≡ option_to_list (slice_get xs 0) ++ rest
first-behind xs rest x e = e ∙ ap (λ l. option_to_list (slice_get l 0) ++ rest) (sym e)

pub none-behind : {X : Type 0} (xs rest : List X) → xs ≡ [] → rest ≡ [] → xs ≡ option_to_list (slice_get xs 0) ++ rest
none-behind xs rest e f = e ∙ sym f ∙ ap (λ l. option_to_list (slice_get l 0) ++ rest) (sym e)

-- a list whose first is not there
pub first-none : {X : Type 0} (xs : List X) → IsNone (slice_get xs 0) → xs ≡ []
first-none [] none = refl
first-none (x ∷ xs) none = absurd (let h : true ≡ false = none in cc)

-- ---- at the start

-- no namespace
pub start-none : AreAtStart [] 0
start-none = record { counted = refl; none = λ n c at. absurd (none-some c at) }

-- one namespace more of which nothing was read
pub start-more : (read : List Cursors) (fresh : Cursors) (count : ℕ) → AreAtStart read count → fresh.replies.items ≡ [] → fresh.notes ≡ record { entry = 0; list = 0; note = 0 } → AreAtStart (read ++ fresh ∷ []) (count + 1)
start-more read fresh count s replies notes = record {
  counted = let l = length-append read (fresh ∷ []) in let c = s.counted in omega (arith, l, c);
  none = λ n c at. elim (front-or-end read fresh n c at) [ inl before ↦ s.none n c before | inr last ↦ (ap (λ (d : Cursors). d.replies.items) last.1 ∙ replies, ap (λ (d : Cursors). d.notes) last.1 ∙ notes) ];
}

-- a cursor at the start
fresh-cursor : (c : Cursors) → c.replies.items ≡ [] → c.notes ≡ record { entry = 0; list = 0; note = 0 } → cursor_of c ≡ cursor_at_start
fresh-cursor c e f = rw (e, f)

-- nothing was read
pub start-unread : (spaces : List (Space Taped)) (read : List Cursors) (count : ℕ) → AreAtStart read count → IsUnread (recorded_of spaces read)
start-unread spaces read count s n = go read n s.none
  where
    go : (rs : List Cursors) (n : ℕ) → ((k : ℕ) (c : Cursors) → slice_get rs k ≡ Some c → (c.replies.items ≡ []) × (c.notes ≡ record { entry = 0; list = 0; note = 0 })) → get_or (map cursor_of rs) n cursor_at_start ≡ cursor_at_start
    go [] zero none = refl
    go [] (suc n) none = refl
    go (r ∷ rs) zero none = let e = none zero r refl in fresh-cursor r e.0 e.1
    go (r ∷ rs) (suc n) none = go rs n (λ k c at. none (suc k) c at)

-- what was not read stands in the journals
pub start-reads : (spaces : List (Space Taped)) (read : List Cursors) (count : ℕ) → AreAtStart read count → ReadsJournals (recorded_of spaces read)
start-reads spaces read count s n = subst (ReadsWithin (records_in (recorded_of spaces read) n)) (sym (start-unread spaces read count s n)) (record {
  replies = λ number. none number;
  notes = record { within = omega arith; behind = λ over. (refl, refl) };
})
  where
    none : (number : ℕ) → at_number 0 [] number ≤ length (records_in (recorded_of spaces read) n)
    none zero = omega arith
    none (suc number) = omega arith
