-- The order of use of a part: keys of records, what waits, and what a read, a write and a removal move.
use Rattle.std.proofs.Common.{◌≡◌, refl, ap, sym, ◌∙◌, subst, ℕ, arith, Bool, true, false, cond, not, List, [], ◌∷◌, ◌++◌, Option, option_map, Some, None, map, reverse, length, inl, inr, ◌⊎◌, eqb, ◌<◌, is_some, suc, ◌+◌, ◌≤◌, true≢false, take, slice_get, IsPermutation, remove, nat_lt, if◌then◌else◌}
use Rattle.std.specs.List.{cons_option, list_any, filter}
use Rattle.std.proofs.lemmas.Bool.{eqb-true, eqb-false, eq-eqb, ne_eqb, ltb-true, cases_eq, lt-ltb, le-ltb, cases_Bool}
use Rattle.std.proofs.lemmas.List.{reverse-append, append-nil, length-reverse, length-append, take-append-le, length-map}
use Rattle.std.proofs.lemmas.List.Elements.{filter_map-append, filter-append}
use Rattle.std.proofs.lemmas.List.Sorted.{IsPermutation-remove, IsPermutation-map, IsPermutation-cons, IsPermutation-trans, IsPermutation-refl, length_permutation, list_any-IsPermutation, IsPermutation-reverse}
use Rattle.std.proofs.lemmas.Option.{get_or_from_slice_get, slice_get_within, none-some}
use Rattle.audit_model.specs.Bytewise.{same}
use Rattle.audit_model.specs.Recency as recent
use Rattle.engine_reference.specs.declared.data.Record.{Record}
use Rattle.engine_reference.specs.Records.{record_at, held_at, without_record, without, held_entries, admitted_weight, changed_at, moved_to_back, settled_in, held_weight}
use Rattle.engine_reference.specs.Soundness.{IsIn, Each, AreNumbered, AreOnce, IsAccounted, IsSound}
use Rattle.engine_reference.proofs.Accounts.{each-map, each-both, each-without, none_there, numbered-without, IsIn-moved, not_in-without}
use Rattle.engine_reference.proofs.HeldRecords.{held-without, record_at-number}
use Rattle.engine_reference.proofs.Unapplied.{record_at-without}
use Rattle.engine_reference.proofs.run_laws.Fewer.{weight-cons}
use Rattle.engine_reference.proofs.run_laws.Fronting.{each-at}
use Rattle.cache_commands.proofs.SameKeys.{same-refl, same-flip_false, equal_from_same}
use Rattle.cache_front.specs.Recent.{key_numbered, keys_numbered, with_reads, with_writes, applied, keys_used, IsLasting, IsUncovered}
use Rattle.cache_front.proofs.parts.Writing.{Rec, unlike_none, unlike_other}
use Rattle.engine_reference.specs.declared.data.Read.{Read}
use Rattle.engine_reference.specs.declared.data.Read.TheVariants.{Hit, Miss}
use Rattle.engine_reference.specs.declared.data.Write.{Write}
use Rattle.engine_reference.specs.Runs.{after_read, after_write, Step, reads, writes, grows, leaves, evicts, ends, Steps, Runs, IsApplied, is_due_for, with_left, next_to_evict, after_removal, counting}
use Rattle.engine_reference.specs.State.{State}
use Rattle.engine_reference.specs.declared.rules.causes.RemovalCause.{RemovalCause}
use Rattle.engine_reference.specs.declared.rules.causes.RemovalCause.TheVariants as cause
use Rattle.audit_model.specs.declared.config.Weight.{Weight}
use Rattle.engine_reference.specs.declared.data.Entry.{Entry}
use Rattle.engine_reference.specs.Admission.{is_above, admit, verdict}
use Rattle.engine_reference.specs.Times.{has_come}
use Rattle.engine_reference.specs.Visible.{is_covered}
use Rattle.engine_reference.proofs.Evicting.{settled_in-left, first-there}
use Rattle.engine_reference.proofs.SoundSteps.{after_write-frame, step-sound, IsCounted, counted}
use Rattle.engine_reference.proofs.TellingSteps.{steps_tell}
use Rattle.engine_reference.proofs.run_laws.Swept.{each-step, changed-other, push-other, sent-one}
use Rattle.cache_front.specs.Parts.{Part, Stored, service_answers, value_put, put_entry, key_taken_out}
use Rattle.audit_model.specs.declared.config.Weight.TheVariants.{One}
use Rattle.audit_model.specs.History.{weight_of}
use Rattle.cache_commands.specs.Recency.{put_first, used_first}
use Rattle.engine_reference.specs.declared.rules.settings.EvictionPolicy.TheVariants.{Lru}
use Rattle.engine_reference.specs.declared.data.Unsent.{Unsent}
use Rattle.engine_reference.specs.declared.data.Upsert.{Upsert}
use Rattle.engine_reference.specs.declared.data.Write.TheVariants.{Put, Removed}
use Rattle.engine_reference.specs.Calls.{with_read, used_entry, with_room, with_written, with_removed, removal_told, sent}
use Rattle.engine_reference.proofs.SoundCalls.{held_at-only}
use Rattle.engine_reference.proofs.run_laws.Shown.{RecordsApart, held_at-match}

module _ {K V : Type 0} where
  -- the same keys stand under these numbers
  pub keys-alike : (rs rs' : List (Record K V)) (ns : List ℕ) → ((n : ℕ) → IsIn n ns → key_numbered rs' n ≡ key_numbered rs n) → keys_numbered rs' ns ≡ keys_numbered rs ns
  keys-alike rs rs' [] h = refl
  keys-alike rs rs' (n ∷ ns) h = ap (λ o. cons_option o (keys_numbered rs' ns)) (h n (inl refl)) ∙ ap (λ ks. cons_option (key_numbered rs n) ks) (keys-alike rs rs' ns (λ m i. h m (inr i)))

  -- a number under which there is no record
  pub keys-passed : (rs : List (Record K V)) (n : ℕ) (ns : List ℕ) → record_at rs n ≡ None → keys_numbered rs (without n ns) ≡ keys_numbered rs ns
  keys-passed rs n [] none = refl
  keys-passed rs n (m ∷ ns) none = grind (arith, keys-passed rs n ns none, eqb m n, eqb-true m n)

  -- a number at the back
  pub keys-back : (rs : List (Record K V)) (n : ℕ) (key : K) (ns : List ℕ) → key_numbered rs n ≡ Some key → reverse (keys_numbered rs (ns ++ n ∷ [])) ≡ key ∷ reverse (keys_numbered rs ns)
  keys-back rs n key ns here = grind (arith, filter_map-append, reverse-append)

  -- where each record is listed, they are the keys that are held, in another order
  pub keys-held : (rs : List (Record K V)) (ns : List ℕ) → AreNumbered rs → AreOnce ns → Each (λ r. (r.is_held ≡ true) × IsIn r.number ns) rs → IsPermutation (map (λ e. e.key) (held_entries rs)) (keys_numbered rs ns)
  keys-held [] [] numbered once all = IsPermutation-refl []
  keys-held (r ∷ rs) [] numbered once all = elim all.0.1 [ ]
  keys-held rs (n ∷ ns) numbered once all = go (record_at rs n) refl (λ xs a b. keys-held xs ns a once.1 b)
    where
      past : (m : ℕ) → (m ≡ n → ⊥) → (n ≡ m) ⊎ IsIn m ns → IsIn m ns
      past m other (inl e) = absurd (other (sym e))
      past m other (inr i) = i

      go : (o : Option (Record K V)) → record_at rs n ≡ o
          → ((xs : List (Record K V)) → AreNumbered xs → Each (λ r. (r.is_held ≡ true) × IsIn r.number ns) xs → IsPermutation (map (λ e. e.key) (held_entries xs)) (keys_numbered xs ns))
          → IsPermutation (map (λ e. e.key) (held_entries rs)) (cons_option (option_map (λ r. r.entry.key) o) (keys_numbered rs ns))
      go None none behind = behind rs numbered
          (each-map (λ r. ((r.is_held ≡ true) × ((n ≡ r.number) ⊎ IsIn r.number ns)) × (r.number ≡ n → ⊥)) (λ r. (r.is_held ≡ true) × IsIn r.number ns) (λ r k. (k.0.0, past r.number k.1 k.0.1)) rs
          (each-both (λ r. (r.is_held ≡ true) × ((n ≡ r.number) ⊎ IsIn r.number ns)) (λ r. r.number ≡ n → ⊥) rs all (none_there n rs none)))
      go (Some x) there behind =
          let held = each-at (λ r. (r.is_held ≡ true) × ((n ≡ r.number) ⊎ IsIn r.number ns)) rs n x all there in
          let g = held-without rs n x there held.0 in
          let es = held_entries rs in
          let rest = without_record n rs in
          let first : IsPermutation (map (λ e. e.key) es) (x.entry.key ∷ map (λ e. e.key) (held_entries rest)) =
          subst (λ l. IsPermutation (map (λ e. e.key) es) (x.entry.key ∷ map (λ e. e.key) l)) (sym g.after)
          (IsPermutation-map (λ e. e.key) es (x.entry ∷ remove es g.place) (IsPermutation-remove es g.place x.entry (slice_get_within es g.place x.entry g.there) (sym (get_or_from_slice_get es g.place x.entry x.entry g.there)))) in
          let later = behind rest (numbered-without n rs numbered)
          (each-without n (λ r. (r.is_held ≡ true) × ((n ≡ r.number) ⊎ IsIn r.number ns)) (λ r. (r.is_held ≡ true) × IsIn r.number ns) (λ r other k. (k.0, past r.number other k.1)) rs numbered all) in
          IsPermutation-trans (map (λ e. e.key) es) (x.entry.key ∷ map (λ e. e.key) (held_entries rest)) (x.entry.key ∷ keys_numbered rs ns) first
          (IsPermutation-cons x.entry.key (map (λ e. e.key) (held_entries rest)) (keys_numbered rs ns)
          (subst (λ ks. IsPermutation (map (λ e. e.key) (held_entries rest)) ks)
          (keys-alike rs rest ns (λ m i. ap (option_map (λ (r : Record K V). r.entry.key)) (record_at-without n rs m (λ same_number. once.0 (subst (λ k. IsIn k ns) (sym same_number) i))))) later))

  -- each that counts with one
  pub weight-ones : (rs : List (Record K V)) → Each (λ r. (r.is_held ≡ true) × (r.counts ≡ Some 1)) rs → admitted_weight rs ≡ length (held_entries rs)
  weight-ones [] all = refl
  weight-ones (r ∷ rs) all = grind (arith, weight-ones rs all.1, weight-cons r rs)

-- ---- keys that are unlike

-- a filter goes through a reversal
pub filter-reverse : {X : Type 0} (test : X → Bool) (xs : List X) → filter test (reverse xs) ≡ reverse (filter test xs)
filter-reverse test [] = refl
filter-reverse test (x ∷ xs) = grind (arith, reverse-append (x ∷ []) xs, filter-append test (reverse xs) (x ∷ []), reverse xs, filter-reverse test xs, reverse (filter test xs), reverse-append (x ∷ []) (filter test xs), append-nil (reverse (filter test xs)))

-- a key that is not there
pub without-absent : (key : List ℕ) (keys : List (List ℕ)) → list_any (λ k. same k key) keys ≡ false → recent.keys_without key keys ≡ keys
without-absent key [] h = refl
without-absent key (k ∷ keys) h = grind (arith, without-absent key keys)

-- where the record of a number has the key, and no other of the list has it
pub keys-without : (rs : List Rec) (n : ℕ) (key : List ℕ) (ns : List ℕ) → key_numbered rs n ≡ Some key → ((m : ℕ) (x : Rec) → (m ≡ n → ⊥) → record_at rs m ≡ Some x → same x.entry.key key ≡ false)
    → keys_numbered rs (without n ns) ≡ recent.keys_without key (keys_numbered rs ns)
keys-without rs n key [] here others = refl
keys-without rs n key (m ∷ ns) here others = grind (arith, keys-without rs n key ns here others, eqb m n, Rec, eqb-true m n, same-refl key, eqb-false m n)

-- a key that no record has is not on the list
pub keys-none : (rs : List Rec) (key : List ℕ) (ns : List ℕ) → held_at same rs key ≡ None → Each (λ (r : Rec). r.is_held ≡ true) rs → list_any (λ k. same k key) (keys_numbered rs ns) ≡ false
keys-none rs key [] none all = refl
keys-none rs key (n ∷ ns) none all = grind (arith, keys-none rs key ns none all, Rec, same-flip_false key, unlike_none key rs n, each-at (λ (r : Rec). r.is_held ≡ true) rs n)

-- one that a listed record has is
pub keys-some : (rs : List Rec) (key : List ℕ) (n : ℕ) (ns : List ℕ) → IsIn n ns → key_numbered rs n ≡ Some key → list_any (λ k. same k key) (keys_numbered rs ns) ≡ true
keys-some rs key n [] i here = elim i [ ]
keys-some rs key n (m ∷ ns) (inl e) here = grind (arith, same-refl key)
keys-some rs key n (m ∷ ns) (inr i) here = grind (arith, keys-some rs key n ns i here)

-- ---- records by number, and what pending reads and a write make of the access list

-- ---- records by number

module _ {K V : Type 0} where
  -- the record that changes
  pub changed-own : (n : ℕ) (f : Record K V → Record K V) (rs : List (Record K V)) (r : Record K V) → ((x : Record K V) → (f x).number ≡ x.number) → record_at rs n ≡ Some r → record_at (changed_at n f rs) n ≡ Some (f r)
  changed-own n f [] r number there = absurd (none-some r there)
  changed-own n f (x ∷ rs) r number there = grind (arith, eqb x.number n, changed-own n f rs r number, eq-eqb (f x).number n, eqb-true x.number n)

  -- the record that is new
  pub push-own : (rs : List (Record K V)) (x : Record K V) → record_at rs x.number ≡ None → record_at (rs ++ x ∷ []) x.number ≡ Some x
  push-own [] x none = ap (λ b. cond b (Some x) None) (eq-eqb x.number x.number refl)
  push-own (r ∷ rs) x none = grind (arith, eqb r.number x.number, push-own rs x)

  -- no record has a number that is above all
  pub none-above : (next : ℕ) (rs : List (Record K V)) → Each (λ r. r.number < next) rs → record_at rs next ≡ None
  none-above next [] below = refl
  none-above next (r ∷ rs) below = let less = below.0 in ap (λ b. cond b (Some r) (record_at rs next)) (ne_eqb r.number next (λ e. omega (arith, less, e))) ∙ none-above next rs below.1

-- ---- what reads make of the access list

module _ {K V : Type 0} where
  -- the access list after a look-up found this record
  abbrev pub hit_moves : Option (Record K V) → List ℕ → List ℕ
  hit_moves None ns = ns
  hit_moves (Some r) ns = cond (is_some r.counts) (moved_to_back r.number ns) ns

  -- after a read
  abbrev pub read_moves : Read → List (Record K V) → List ℕ → List ℕ
  read_moves (Hit n hash) rs ns = hit_moves (record_at rs n) ns
  read_moves (Miss hash) rs ns = ns

  -- after reads
  abbrev pub reads_move : List Read → List (Record K V) → List ℕ → List ℕ
  reads_move [] rs ns = ns
  reads_move (r ∷ rest) rs ns = reads_move rest rs (read_moves r rs ns)

  -- records that count alike
  pub moves-alike : (reads : List Read) (rs rs' : List (Record K V)) (ns : List ℕ) → ((n : ℕ) (ms : List ℕ) → hit_moves (record_at rs' n) ms ≡ hit_moves (record_at rs n) ms) → reads_move reads rs' ns ≡ reads_move reads rs ns
  moves-alike [] rs rs' ns h = refl
  moves-alike (Miss hash ∷ rest) rs rs' ns h = moves-alike rest rs rs' ns h
  moves-alike (Hit n hash ∷ rest) rs rs' ns h = ap (reads_move rest rs') (h n ns) ∙ moves-alike rest rs rs' (hit_moves (record_at rs n) ns) h

  -- one more read
  pub moves-append : (reads : List Read) (r : Read) (rs : List (Record K V)) (ns : List ℕ) → reads_move (reads ++ r ∷ []) rs ns ≡ read_moves r rs (reads_move reads rs ns)
  moves-append [] r rs ns = refl
  moves-append (x ∷ rest) r rs ns = moves-append rest r rs (read_moves x rs ns)

  -- what is listed stays so
  pub moves-listed : (reads : List Read) (rs : List (Record K V)) (ns : List ℕ) (m : ℕ) → IsIn m ns → IsIn m (reads_move reads rs ns)
  moves-listed [] rs ns m i = i
  moves-listed (Miss hash ∷ rest) rs ns m i = moves-listed rest rs ns m i
  moves-listed (Hit n hash ∷ rest) rs ns m i = grind (arith, moves-listed rest rs (hit_moves (record_at rs n) ns) m, IsIn-moved)

module _ {K V P S R : Type 0} where
  -- what reads leave of a state
  pub record HasRead (s t : State K V P S R) (ns : List ℕ) : Type 0 where
    pub records : t.records ≡ s.records
    pub access : t.access ≡ ns
    pub writes : t.writes ≡ s.writes
    pub settings : t.settings ≡ s.settings

  -- a read does so
  one-read : (r : Read) (s : State K V P S R) → HasRead s (after_read r s) (read_moves r s.records s.access)
  one-read (Miss hash) s = record { records = refl; access = refl; writes = refl; settings = refl }
  one-read (Hit n hash) s = grind arith

  -- and so do reads
  pub all-read : (reads : List Read) (s : State K V P S R) → HasRead s (with_reads reads s) (reads_move reads s.records s.access)
  all-read [] s = record { records = refl; access = refl; writes = refl; settings = refl }
  all-read (r ∷ rest) s = grind (arith, one-read r, all-read rest)

  -- the keys used last, where no write waits
  pub keys-read : (s : State K V P S R) → s.writes ≡ [] → keys_used (applied s) ≡ reverse (keys_numbered s.records (reads_move s.reads s.records s.access))
  keys-read s none = grind (arith, all-read s.reads s, reverse)

  -- where one does, by what it makes of the records and of the access list
  pub keys-written : (s : State K V P S R) (w : Write) (of_records : List (Record K V) → List (Record K V)) (of_access : List ℕ → List ℕ) → s.writes ≡ w ∷ []
      → ((v : State K V P S R) → v.records ≡ s.records → v.settings ≡ s.settings → ((after_write w v).records ≡ of_records v.records) × ((after_write w v).access ≡ of_access v.access))
      → keys_used (applied s) ≡ reverse (keys_numbered (of_records s.records) (of_access (reads_move s.reads s.records s.access)))
  keys-written s w of_records of_access one makes = grind (arith, all-read s.reads s, reverse)

-- ---- what waits, applied, and what a step of a run makes of the keys used last

module _ {K V P S R : Type 0} where
  -- ---- what waits

  -- a read leaves both queues as they are
  read-queues : (r : Read) (s : State K V P S R) → ((after_read r s).reads ≡ s.reads) × ((after_read r s).writes ≡ s.writes)
  read-queues (Miss hash) s = (refl, refl)
  read-queues (Hit n hash) s = grind arith

  -- nothing waits
  pub applied-rest : (s : State K V P S R) → s.reads ≡ [] → s.writes ≡ [] → applied s ≡ s
  applied-rest s none_read none_written = ap (λ ws. with_writes ws (with_reads s.reads s)) none_written ∙ ap (λ rs. with_reads rs s) none_read

  -- the first read is applied
  pub applied-read : (r : Read) (rest : List Read) (s : State K V P S R) → s.reads ≡ r ∷ rest → applied (after_read r (record s { reads = rest })) ≡ applied s
  applied-read r rest s e = grind (arith, read-queues r (record s { reads = rest }))

  -- the first write is applied, where no read waits
  pub applied-write : (w : Write) (rest : List Write) (s : State K V P S R) → s.reads ≡ [] → s.writes ≡ w ∷ rest → applied (after_write w (record s { writes = rest })) ≡ applied s
  applied-write w rest s none e = grind (arith, after_write-frame w (record s { writes = rest }))

-- ---- records

-- what is so of each entry that is held is so of each record that is held
entries-each : (Q : Entry (List ℕ) Stored → Type 0) (rs : List Rec) → ((place : ℕ) (e : Entry (List ℕ) Stored) → slice_get (held_entries rs) place ≡ Some e → Q e) → Each (λ r. r.is_held ≡ true → Q r.entry) rs
entries-each Q [] all = tt
entries-each Q (r ∷ rs) all = elim (cases_Bool r.is_held) [
  | inl t ↦ let all = rw t at all in ((λ held. all 0 r.entry refl), entries-each Q rs (λ place e there. all (suc place) e there))
  | inr t ↦ ((λ held. absurd (true≢false (sym held ∙ t))), entries-each Q rs (rw t at all))
]

-- the keys are those of its settled records
keys-settled : (rs : List Rec) (ns : List ℕ) → Each IsCounted rs → keys_numbered rs ns ≡ map (λ (r : Rec). r.entry.key) (settled_in rs ns)
keys-settled rs [] all = refl
keys-settled rs (m ∷ ns) all = grind (arith, each-at, eq-eqb, keys-settled rs ns all)

-- ---- a part in which no time ends a value and none is covered

module _ {S : Type 0} where
  pub record IsSteady (n : ℕ) (s : Part S) : Type 0 where
    pub sound : IsSound s
    pub sent : s.unsent ≡ []
    pub capacity : s.settings.capacity ≡ Some (suc n)
    pub live : s.settings.live ≡ None
    pub idle : s.settings.idle ≡ None
    pub lasting : Each IsLasting s.records
    pub uncovered : Each (IsUncovered s) s.records

  module _ (n now : ℕ) where
    -- a step keeps it so
    pub step-steady : (s t : Part S) → IsSteady n s → Step service_answers now s t → IsSteady n t
    step-steady s t h step =
        let k = (steps_tell (List ℕ) Stored (List ℕ) S Weight service_answers now s t step).keeps in
        record {
          sound = step-sound service_answers now s t h.sound step;
          sent = k.unsent ∙ h.sent;
          capacity = ap (λ c. c.capacity) k.settings ∙ h.capacity;
          live = ap (λ c. c.live) k.settings ∙ h.live;
          idle = ap (λ c. c.idle) k.settings ∙ h.idle;
          lasting = each-step IsLasting (λ r a c q. q) service_answers now s t h.sound h.lasting step;
          uncovered = each-map (λ r. (r.is_held ≡ true → is_covered service_answers s r.entry ≡ false) × (r.is_held ≡ true → is_covered service_answers t r.entry ≡ is_covered service_answers s r.entry)) (IsUncovered t)
              (λ r q held. q.1 held ∙ q.0 held) t.records
              (each-both (IsUncovered s) (λ r. r.is_held ≡ true → is_covered service_answers t r.entry ≡ is_covered service_answers s r.entry) t.records
              (each-step (IsUncovered s) (λ r a c q. q) service_answers now s t h.sound h.uncovered step)
              (entries-each (λ e. is_covered service_answers t e ≡ is_covered service_answers s e) t.records k.covered));
        }

    -- no deadline comes
    pub never-comes : (s : Part S) (r : Rec) → IsSteady n s → record_at s.records r.number ≡ Some r → r.is_held ≡ true → has_come s.settings now r.entry ≡ false
    never-comes s r h there held = grind (arith, each-at IsLasting s.records r.number r h.lasting there held)

    -- none is due
    none-due : (s : Part S) (r : Rec) (why : RemovalCause) → IsSteady n s → record_at s.records r.number ≡ Some r → r.is_held ≡ true → is_due_for service_answers s now r why ≡ true → ⊥
    none-due s r cause.Expired h there held due = true≢false (sym due ∙ never-comes s r h there held)
    none-due s r cause.Explicit h there held due = true≢false (sym due ∙ each-at (IsUncovered s) s.records r.number r h.uncovered there held)
    none-due s r cause.Replaced h there held due = true≢false (sym due)
    none-due s r cause.Size h there held due = true≢false (sym due)

  -- ---- where nothing waits

  -- every record counts with one
  pub all-counted : (n : ℕ) (s : Part S) → IsSteady n s → s.writes ≡ [] → Each IsCounted s.records
  all-counted n s h none =
      each-map (IsAccounted [] []) IsCounted counted s.records
      (subst (λ us. Each (IsAccounted us []) s.records) h.sent (subst (λ ws. Each (IsAccounted s.unsent ws) s.records) none h.sound.records.accounted))

  -- the keys of the access list are those of the records held
  pub keys-here : (n : ℕ) (s : Part S) → IsSteady n s → s.writes ≡ [] → IsPermutation (map (λ e. e.key) (held_entries s.records)) (keys_numbered s.records s.access)
  keys-here n s h none =
      keys-held s.records s.access h.sound.records.numbered h.sound.records.once
      (each-map (λ r. IsCounted r × (is_some r.counts ≡ true → IsIn r.number s.access)) (λ r. (r.is_held ≡ true) × IsIn r.number s.access) (λ r k. (k.0.held, k.1 (ap (λ o. is_some o) k.0.counts))) s.records
      (each-both IsCounted (λ r. is_some r.counts ≡ true → IsIn r.number s.access) s.records (all-counted n s h none) h.sound.records.listed))

  -- they are as many as the weight
  pub weight-here : (n : ℕ) (s : Part S) → IsSteady n s → s.writes ≡ [] → admitted_weight s.records ≡ length (keys_used s)
  weight-here n s h none =
      weight-ones s.records
      (each-map (λ r. IsCounted r × (r.is_held ≡ true → (r.entry.weight ≡ 1) × (r.entry.expires ≡ None))) (λ r. (r.is_held ≡ true) × (r.counts ≡ Some 1)) (λ r k. (k.0.held, k.0.counts ∙ ap Some (k.1 k.0.held).0)) s.records
      (each-both IsCounted IsLasting s.records (all-counted n s h none) h.lasting))
      ∙ sym (length-map (held_entries s.records) (λ (e : Entry (List ℕ) Stored). e.key))
      ∙ sym (length_permutation (map (λ e. e.key) (held_entries s.records)) (keys_numbered s.records s.access) (keys-here n s h none))
      ∙ sym (length-reverse (keys_numbered s.records s.access))

  -- the one that an eviction takes is the last
  keys-evicted : (n : ℕ) (s : Part S) (r : Rec) → IsSteady n s → s.writes ≡ [] → next_to_evict s ≡ Some r → keys_used s ≡ keys_used (with_left cause.Size s (Some r)) ++ r.entry.key ∷ []
  keys-evicted n s r h none next =
      let rs = without_record r.number s.records in
      let ns = without r.number s.access in
      let counted = all-counted n s h none in
      let stay : Each IsCounted rs = each-without r.number IsCounted IsCounted (λ x other c. c) s.records h.sound.records.numbered counted in
      let is : keys_numbered s.records s.access ≡ r.entry.key ∷ keys_numbered rs ns =
      keys-settled s.records s.access counted ∙ ap (map (λ (x : Rec). x.entry.key)) (settled_in-left s.records s.access r h.sound.records.once next) ∙ ap (λ ks. r.entry.key ∷ ks) (sym (keys-settled rs ns stay)) in
      ap reverse is ∙ reverse-append (r.entry.key ∷ []) (keys_numbered rs ns)

  -- ---- a step

  module _ (n now : ℕ) where
    -- the `suc n` keys used last, once all is applied
    abbrev pub front : Part S → List (List ℕ)
    front s = take (suc n) (keys_used (applied s))

    -- nothing waits, before and after
    front-rest : (s t : Part S) → IsApplied s → IsApplied t → take (suc n) (keys_used t) ≡ take (suc n) (keys_used s) → front t ≡ front s
    front-rest s t a b e = grind (arith, applied-rest t b.reads b.writes, applied-rest s a.reads a.writes)

    -- each step of a run keeps the `suc n` keys used last
    pub step-front : (s t : Part S) → IsSteady n s → Step service_answers now s t → front t ≡ front s
    step-front s t h (reads r rest e after) = ap front after ∙ ap (λ (x : Part S). take (suc n) (keys_used x)) (applied-read r rest s e)
    step-front s t h (writes w rest none e after) = ap front after ∙ ap (λ (x : Part S). take (suc n) (keys_used x)) (applied-write w rest s none e)
    step-front s t h (grows words a wants capacity is_set size after) = ap front after ∙ front-rest s _ a (record { reads = a.reads; writes = a.writes }) refl
    step-front s t h (leaves r why a there held due after) = absurd (none-due n now s r why h there held due)
    step-front s t h (evicts r a clean above next after) =
        let u : Part S = with_left cause.Size s (Some r) in
        let is : t ≡ u = after ∙ ap (λ o. with_left cause.Size s o) (first-there s.records s.access r next) in
        let last = keys-evicted n s r h a.writes next in
        let over : suc n < admitted_weight s.records = ltb-true (suc n) (admitted_weight s.records) (sym (ap (λ c. is_above c (admitted_weight s.records)) h.capacity) ∙ above) in
        let many : length (keys_used s) ≡ length (keys_used u) + 1 = ap length last ∙ length-append (keys_used u) (r.entry.key ∷ []) in
        let enough : suc n ≤ length (keys_used u) = omega (arith, over, many, weight-here n s h a.writes) in
        ap front is ∙ front-rest s u a (record { reads = a.reads; writes = a.writes }) (sym (ap (take (suc n)) last ∙ take-append-le (suc n) (keys_used u) (r.entry.key ∷ []) enough))
    step-front s t h (ends place p a there none after) = ap front after ∙ front-rest s _ a (record { reads = a.reads; writes = a.writes }) refl

    -- and so does a whole run, cut or not
    pub steps-front : (stages : List (Part S)) (s last : Part S) → IsSteady n s → Steps service_answers now s stages last → (front last ≡ front s) × IsSteady n last
    steps-front [] s last h e = (ap front e, subst (λ x. IsSteady n x) (sym e) h)
    steps-front (mid ∷ stages) s last h e = grind (arith, steps-front stages mid last (step-steady n now s mid h e.0) e.1, step-steady n now s mid h e.0, step-front s mid h e.0)

    -- a run keeps them, and nothing waits then
    pub run-front : (s new : Part S) → IsSteady n s → Runs service_answers now s new → (front new ≡ front s) × IsSteady n new × IsApplied new
    run-front s new h run =
        let k = steps-front run.stages s run.last h run.steps in
        let a = run.applied in (
          ap front run.after ∙ front-rest run.last _ a (record { reads = a.reads; writes = a.writes }) refl ∙ k.0,
          subst (λ x. IsSteady n x) (sym run.after) (record { sound = record { records = k.1.sound.records; named = k.1.sound.named }; sent = k.1.sent; capacity = k.1.capacity; live = k.1.live; idle = k.1.idle; lasting = k.1.lasting; uncovered = k.1.uncovered }),
          subst (λ x. IsApplied x) (sym run.after) (record { reads = a.reads; writes = a.writes }),
        )

    -- ---- a run where nothing waits and the weight is not above the capacity

    -- what it leaves as it was
    pub record IsStill (s t : Part S) : Type 0 where
      pub records : t.records ≡ s.records
      pub access : t.access ≡ s.access
      pub reads : t.reads ≡ s.reads
      pub writes : t.writes ≡ s.writes
      pub settings : t.settings ≡ s.settings

    -- a step does
    step-still : (s t : Part S) → IsSteady n s → IsApplied s → is_above s.settings.capacity (admitted_weight s.records) ≡ false → Step service_answers now s t → IsStill s t
    step-still s t h a fits (reads r rest e after) = absurd (let both : [] ≡ r ∷ rest = sym a.reads ∙ e in cc)
    step-still s t h a fits (writes w rest none e after) = absurd (let both : [] ≡ w ∷ rest = sym a.writes ∙ e in cc)
    step-still s t h a fits (grows words b wants capacity is_set size after) = subst (λ x. IsStill s x) (sym after) (record { records = refl; access = refl; reads = refl; writes = refl; settings = refl })
    step-still s t h a fits (leaves r why b there held due after) = absurd (none-due n now s r why h there held due)
    step-still s t h a fits (evicts r b clean above next after) = absurd (true≢false (sym above ∙ fits))
    step-still s t h a fits (ends place p b there none after) = subst (λ x. IsStill s x) (sym after) (record { records = refl; access = refl; reads = refl; writes = refl; settings = refl })

    -- steps do
    steps-still : (stages : List (Part S)) (s last : Part S) → IsSteady n s → IsApplied s → is_above s.settings.capacity (admitted_weight s.records) ≡ false → Steps service_answers now s stages last → IsStill s last
    steps-still [] s last h a fits e = subst (λ x. IsStill s x) (sym e) (record { records = refl; access = refl; reads = refl; writes = refl; settings = refl })
    steps-still (mid ∷ stages) s last h a fits e = grind (arith, step-still s mid h a fits e.0, steps-still stages mid last (step-steady n now s mid h e.0), step-steady n now s mid h e.0)

    -- it leaves the records and the access list as they were
    pub run-still : (s new : Part S) → IsSteady n s → IsApplied s → is_above s.settings.capacity (admitted_weight s.records) ≡ false → Runs service_answers now s new → IsStill s new
    run-still s new h a fits run = grind (arith, steps-still run.stages)

-- ---- a read and a write move their key to the front and a removal takes it out, where no other write waits

module _ {S : Type 0} (s : Part S) (now : ℕ) where
  -- the part after a removal, by the record that it finds
  abbrev pub taking : Option Rec → Option Rec → Part S
  taking o None = s
  taking o (Some r) = sent s.next_ticket (removal_told service_answers r.entry now (with_removed o s))

module _ {S : Type 0} (n : ℕ) (s : Part S) (h : IsSteady n s) (apart : RecordsApart same s.records) (none : s.writes ≡ []) where
  -- the access list once the reads are applied
  abbrev listed : List ℕ
  listed = reads_move s.reads s.records s.access

  -- the keys used last
  abbrev used : List (List ℕ)
  used = keys_used (applied s)

  -- they are those of the access list once the reads are applied
  used_is : used ≡ reverse (keys_numbered s.records listed)
  used_is = keys-read s none

  -- no number twice
  numbered : AreNumbered s.records
  numbered = h.sound.records.numbered

  -- every record counts
  counts : Each IsCounted s.records
  counts = all-counted n s h none

  -- and is held
  held-all : Each (λ (r : Rec). r.is_held ≡ true) s.records
  held-all = each-map IsCounted (λ r. r.is_held ≡ true) (λ r c. c.held) s.records counts

  -- a key of no record
  unused : (key : List ℕ) → held_at same s.records key ≡ None → list_any (λ k. same k key) used ≡ false
  unused key gone =
      let ispermutation = list_any-IsPermutation (λ k. same k key) (keys_numbered s.records listed) (reverse (keys_numbered s.records listed)) (IsPermutation-reverse (keys_numbered s.records listed)) in
      grind (arith, used_is, ispermutation, reverse (keys_numbered s.records listed), IsPermutation-reverse (keys_numbered s.records listed), keys-none s.records key listed gone held-all, held-all)

  -- the key of a record
  module _ (key : List ℕ) (r : Rec) (some : held_at same s.records key ≡ Some r) where
    -- it is found under its number
    there : record_at s.records r.number ≡ Some r
    there = held_at-only same s.records key r numbered some

    -- with the key
    key_is : key_numbered s.records r.number ≡ Some key
    key_is = ap (option_map (λ (x : Rec). x.entry.key)) there ∙ ap (λ k. Some k) (sym (equal_from_same key r.entry.key (held_at-match same s.records key r some)))

    -- it counts
    was_counted : IsCounted r
    was_counted = each-at IsCounted s.records r.number r counts there

    -- no other record has the key
    others : (m : ℕ) (x : Rec) → (m ≡ r.number → ⊥) → record_at s.records m ≡ Some x → same x.entry.key key ≡ false
    others m x other at = grind (arith, record_at-number, same-flip_false, unlike_other, numbered, each-at, held-all)

    -- the key is among those used
    used-there : list_any (λ k. same k key) used ≡ true
    used-there =
        ap (list_any (λ k. same k key)) used_is
        ∙ sym (list_any-IsPermutation (λ k. same k key) (keys_numbered s.records listed) (reverse (keys_numbered s.records listed)) (IsPermutation-reverse (keys_numbered s.records listed)))
        ∙ keys-some s.records key r.number listed
        (moves-listed s.reads s.records s.access r.number (each-at (λ (x : Rec). is_some x.counts ≡ true → IsIn x.number s.access) s.records r.number r h.sound.records.listed there (ap (λ o. is_some o) was_counted.counts))) key_is

    -- the other keys, in records that have them under the same numbers
    rest : (rs : List Rec) → ((m : ℕ) → (m ≡ r.number → ⊥) → key_numbered rs m ≡ key_numbered s.records m) → reverse (keys_numbered rs (without r.number listed)) ≡ recent.keys_without key used
    rest rs alike =
        ap reverse (keys-alike s.records rs (without r.number listed) (λ m i. alike m (λ e. not_in-without r.number listed (subst (λ k. IsIn k (without r.number listed)) e i))) ∙ keys-without s.records r.number key listed key_is others)
        ∙ sym (filter-reverse (λ k. not (same k key)) (keys_numbered s.records listed)) ∙ ap (recent.keys_without key) (sym used_is)

    -- its number goes to the back of the access list: the key goes first
    moved : (rs : List Rec) → key_numbered rs r.number ≡ Some key → ((m : ℕ) → (m ≡ r.number → ⊥) → key_numbered rs m ≡ key_numbered s.records m) → reverse (keys_numbered rs (moved_to_back r.number listed)) ≡ put_first key used
    moved rs here alike = keys-back rs r.number key (without r.number listed) here ∙ ap (λ ks. key ∷ ks) (rest rs alike)

    -- where its record changes, but for number and key
    changed-key : (f : Rec → Rec) → ((x : Rec) → (f x).number ≡ x.number) → (m : ℕ) → (m ≡ r.number → ⊥) → key_numbered (changed_at r.number f s.records) m ≡ key_numbered s.records m
    changed-key f number m other = ap (option_map (λ (x : Rec). x.entry.key)) (changed-other r.number m f number s.records other)

    -- or for what counts
    changed-listed : (f : Rec → Rec) → ((x : Rec) → (f x).number ≡ x.number) → ((x : Rec) → (f x).counts ≡ x.counts) → reads_move s.reads (changed_at r.number f s.records) s.access ≡ listed
    changed-listed f number same_counts = grind (arith, moves-alike, cases_eq, hit_moves, changed-own, there, counts, changed-other)

  -- ---- a read

  -- A LOOK-UP PUTS ITS KEY FIRST, where it is there
  pub read-moves : (key : List ℕ) (hash now : ℕ) (o : Option Rec) → held_at same s.records key ≡ o → keys_used (applied (with_read service_answers o hash now s)) ≡ used_first key used
  read-moves key hash now None gone = grind (arith, keys-read (with_read service_answers None hash now s) none, reverse, moves-append s.reads (Miss hash) s.records s.access, used_is, unused key gone)
  read-moves key hash now (Some r) some =
      let f : Rec → Rec = λ x. record x { entry = used_entry service_answers s now x.entry } in
      let rs = changed_at r.number f s.records in
      let own = changed-own r.number f s.records r (λ x. refl) (there key r some) in
      let c = was_counted key r some in
      keys-read (with_read service_answers (Some r) hash now s) none
      ∙ ap (λ ns. reverse (keys_numbered rs ns))
      (moves-append s.reads (Hit r.number hash) rs s.access
      ∙ ap (λ o. hit_moves o (reads_move s.reads rs s.access)) own
      ∙ ap (λ b. cond (is_some b) (moved_to_back r.number (reads_move s.reads rs s.access)) (reads_move s.reads rs s.access)) c.counts
      ∙ ap (moved_to_back r.number) (changed-listed key r some f (λ x. refl) (λ x. refl)))
      ∙ moved key r some rs (ap (option_map (λ (x : Rec). x.entry.key)) own ∙ sym (ap (option_map (λ (x : Rec). x.entry.key)) (there key r some)) ∙ key_is key r some) (changed-key key r some f (λ x. refl))
      ∙ sym (ap (λ b. if b then put_first key used else used) (used-there key r some))

  -- ---- a write

  -- a record after a write of it counts
  abbrev counts-with : Upsert → Rec → Rec
  counts-with w r = record r { applied = w.write; counts = Some w.weight }

  -- the policy admits what weighs one
  admits : (v : Part S) (w : Upsert) → v.settings.capacity ≡ Some (suc n) → v.settings.policy ≡ Lru → w.weight ≡ 1 → verdict v w ≡ admit
  admits v w capacity policy one = grind (arith, le-ltb (suc n) w.weight)

  -- a write that is later than what was applied counts, where its record is admitted or the policy admits it
  put-counts : (v : Part S) (w : Upsert) (x : Rec) → record_at v.records w.number ≡ Some x → nat_lt x.applied w.write ≡ true → (is_some x.counts ≡ true) ⊎ (verdict v w ≡ admit) → after_write (Put w) v ≡ counting w v
  put-counts v w x at later why = grind arith

  module _ (policy : s.settings.policy ≡ Lru) (rules : s.rules ≡ One) (key : List ℕ) (hash : ℕ) (value : Stored) (now step : ℕ) where
    -- the write weighs one
    weighs : (put_entry s key value now step).weight ≡ 1
    weighs = ap (λ w. weight_of w value.bytes) rules

    -- A WRITE PUTS ITS KEY FIRST
    pub value_put-moves : keys_used (applied (value_put key hash value now step s)) ≡ put_first key used
    value_put-moves = go (held_at same s.records key) refl
      where
        go : (o : Option Rec) → held_at same s.records key ≡ o → keys_used (applied (sent s.next_ticket (with_written service_answers o (with_room s) key hash value now step))) ≡ put_first key used
        go None gone =
            let x : Rec = record { number = s.next_number; hash = hash; entry = put_entry s key value now step; is_held = true; writes = 1; applied = 0; counts = None } in
            let rs = s.records ++ x ∷ [] in
            let w : Upsert = record { number = s.next_number; write = 1; weight = (put_entry s key value now step).weight; hash = hash; kept = held_weight rs } in
            let u : Unsent = record { ticket = s.next_ticket; write = Put w } in
            let t = with_written service_answers None (with_room s) key hash value now step in
            let is = sent-one u t (ap (λ us. us ++ u ∷ []) h.sent) in
            let t1 : Part S = record t { unsent = []; writes = s.writes ++ Put w ∷ [] } in
            let absent = none-above s.next_number s.records h.sound.records.below in
            let own = push-own s.records x absent in
            let new = changed_at s.next_number (counts-with w) rs in
            let more : ((m : ℕ) (ms : List ℕ) → hit_moves (record_at rs m) ms ≡ hit_moves (record_at s.records m) ms) = λ m ms. elim (cases_eq m s.next_number) [
              | inl e ↦ ap (λ k. hit_moves (record_at rs k) ms) e ∙ ap (λ o. hit_moves o ms) own ∙ sym (ap (λ k. hit_moves (record_at s.records k) ms) e ∙ ap (λ o. hit_moves o ms) absent)
              | inr other ↦ ap (λ o. hit_moves o ms) (push-other m s.records x other)
            ] in
            ap (λ (y : Part S). keys_used (applied y)) is
            ∙ keys-written t1 (Put w) (changed_at s.next_number (counts-with w)) (moved_to_back s.next_number) (ap (λ ws. ws ++ Put w ∷ []) none)
            (λ v e c.
            let k = put-counts v w x (ap (λ l. record_at l s.next_number) e ∙ own) refl (inr (admits v w (ap (λ z. z.capacity) c ∙ h.capacity) (ap (λ z. z.policy) c ∙ policy) weighs)) in
            (ap (λ (y : Part S). y.records) k, ap (λ (y : Part S). y.access) k))
            ∙ ap (λ ns. reverse (keys_numbered new (moved_to_back s.next_number ns))) (moves-alike s.reads s.records rs s.access more)
            ∙ keys-back new s.next_number key (without s.next_number listed) (ap (option_map (λ (y : Rec). y.entry.key)) (changed-own s.next_number (counts-with w) rs x (λ y. refl) own))
            ∙ ap (λ ks. key ∷ reverse ks)
            (keys-alike s.records new (without s.next_number listed)
            (λ m i.
            let other : (m ≡ s.next_number → ⊥) = λ e. not_in-without s.next_number listed (subst (λ k. IsIn k (without s.next_number listed)) e i) in
            ap (option_map (λ (y : Rec). y.entry.key)) (changed-other s.next_number m (counts-with w) (λ y. refl) rs other ∙ push-other m s.records x other))
            ∙ keys-passed s.records s.next_number listed absent)
            ∙ ap (λ ks. key ∷ ks) (sym used_is ∙ sym (without-absent key used (unused key gone)))
        go (Some r) some =
            let f : Rec → Rec = λ x. record x { entry = put_entry s key value now step; writes = x.writes + 1 } in
            let rs = changed_at r.number f s.records in
            let w : Upsert = record { number = r.number; write = r.writes + 1; weight = (put_entry s key value now step).weight; hash = hash; kept = held_weight rs } in
            let u : Unsent = record { ticket = s.next_ticket; write = Put w } in
            let t = with_written service_answers (Some r) (with_room s) key hash value now step in
            let is = sent-one u t (ap (λ us. us ++ u ∷ []) h.sent) in
            let t1 : Part S = record t { unsent = []; writes = s.writes ++ Put w ∷ [] } in
            let own = changed-own r.number f s.records r (λ x. refl) (there key r some) in
            let c = was_counted key r some in
            let settled = c.settled in
            let new = changed_at r.number (counts-with w) rs in
            ap (λ (y : Part S). keys_used (applied y)) is
            ∙ keys-written t1 (Put w) (changed_at r.number (counts-with w)) (moved_to_back r.number) (ap (λ ws. ws ++ Put w ∷ []) none)
            (λ v e settings.
            let k = put-counts v w (f r) (ap (λ l. record_at l r.number) e ∙ own) (lt-ltb r.applied (r.writes + 1) (omega (arith, settled))) (inl (ap (λ o. is_some o) c.counts)) in
            (ap (λ (y : Part S). y.records) k, ap (λ (y : Part S). y.access) k))
            ∙ ap (λ ns. reverse (keys_numbered new (moved_to_back r.number ns))) (changed-listed key r some f (λ x. refl) (λ x. refl))
            ∙ moved key r some new (ap (option_map (λ (y : Rec). y.entry.key)) (changed-own r.number (counts-with w) rs (f r) (λ y. refl) own))
            (λ m other. ap (option_map (λ (y : Rec). y.entry.key)) (changed-other r.number m (counts-with w) (λ y. refl) rs other) ∙ changed-key key r some f (λ x. refl) m other)

  -- ---- a removal

  module _ (key : List ℕ) (now : ℕ) where
    -- A REMOVAL TAKES ITS KEY OUT
    pub removal-moves : keys_used (applied (key_taken_out key now s)) ≡ recent.keys_without key used
    removal-moves = go (held_at same s.records key) refl
      where
        go : (o : Option Rec) → held_at same s.records key ≡ o → keys_used (applied (taking s now o o)) ≡ recent.keys_without key used
        go None gone = sym (without-absent key used (unused key gone))
        go (Some r) some =
            let f : Rec → Rec = λ x. record x { is_held = false; writes = x.writes + 1 } in
            let rs = changed_at r.number f s.records in
            let u : Unsent = record { ticket = s.next_ticket; write = Removed r.number } in
            let t = removal_told service_answers r.entry now (with_removed (Some r) s) in
            let is = sent-one u t (ap (λ us. us ++ u ∷ []) h.sent) in
            let t1 : Part S = record t { unsent = []; writes = s.writes ++ Removed r.number ∷ [] } in
            let own = changed-own r.number f s.records r (λ x. refl) (there key r some) in
            ap (λ (y : Part S). keys_used (applied y)) is
            ∙ keys-written t1 (Removed r.number) (without_record r.number) (without r.number) (ap (λ ws. ws ++ Removed r.number ∷ []) none)
            (λ v e c. let k = ap (λ o. after_removal o v) (ap (λ l. record_at l r.number) e ∙ own) in (ap (λ (y : Part S). y.records) k, ap (λ (y : Part S). y.access) k))
            ∙ ap (λ ns. reverse (keys_numbered (without_record r.number rs) (without r.number ns))) (changed-listed key r some f (λ x. refl) (λ x. refl))
            ∙ rest key r some (without_record r.number rs) (λ m other. ap (option_map (λ (y : Rec). y.entry.key)) (record_at-without r.number rs m (λ e. other (sym e))) ∙ changed-key key r some f (λ x. refl) m other)
