-- The clauses of a store on recency, from those of its part.
use Rattle.std.proofs.Common.{◌≡◌, refl, ap, sym, ◌∙◌, subst, ℕ, zero, suc, ◌≤◌, arith, Bool, true, false, true≢false, List, [], ◌∷◌, ◌++◌, Option, Some, None, is_none, map, length, take, inl, inr, ◌⊎◌, slice_get, IsTrue, append-nil, IsPermutation, IsSome, slice_set}
use Rattle.std.proofs.lemmas.Option.{none-some}
use Rattle.std.proofs.lemmas.List.Sorted.{IsPermutation-map, IsPermutation-trans, IsPermutation-refl}
use Rattle.audit_model.specs.Bytewise.{same}
use Rattle.audit_model.specs.History.{part_count}
use Rattle.audit_model.specs.Recency.{keys_without}
use Rattle.audit_model.specs.Situation.{HeldValue}
use Rattle.audit_model.specs.declared.config.Config.{Config}
use Rattle.cache_commands.specs.Promises.{Frame}
use Rattle.cache_commands.specs.Recency.{AreKeysOf, IsPlainLru, put_first, used_first}
use Rattle.audit_model.specs.declared.config.Weight.{Weight}
use Rattle.audit_model.specs.declared.transcript.Note.{Note}
use Rattle.engine_reference.specs.declared.data.Settings.{Settings}
use Rattle.engine_reference.specs.Calls.{IsNew, with_read}
use Rattle.engine_reference.specs.Records.{held_entries}
use Rattle.engine_reference.specs.Runs.{Runs}
use Rattle.engine_reference.specs.Visible.{visible_record}
use Rattle.engine_reference.proofs.Accounts.{each-map}
use Rattle.cache_commands.specs.Held.{plain}
use Rattle.cache_commands.proofs.Held.{permutation}
use Rattle.cache_front.specs.Parts.{Part, Stands, Stored, IsProper, service_answers, items_of, items_in, as_held_value, value_put, key_taken_out, drained}
use Rattle.cache_front.specs.Recent.{IsLasting, IsPlain, IsRecent, IsFresh, IsRecentOver, MovesRecency}
use Rattle.cache_front.proofs.parts.Items.{apart-of}
use Rattle.cache_front.proofs.parts.Moving.{run-front}
use Rattle.cache_front.proofs.parts.Recency.{steady, run_keeps, cut_run_keeps, look-recent, put_moves, removal_moves, taking_keeps, new_is, held-steady}
use Rattle.cache_front.proofs.parts.Joining.{Maintained, idle, ran}
use Rattle.cache_front.proofs.parts.Syncing.{AllRan, none, next}
use Rattle.cache_front.proofs.parts.Writing.{Kept, Rec}
use Rattle.cache_front.specs.Keeping.{AreKeptParts, IsKeptPart}
use Rattle.cache_front.proofs.kept.Storing.{enough-parted}

-- what is none
none_from : (o : Option ℕ) → is_none o ≡ true → o ≡ None
none_from None e = refl
none_from (Some x) e = absurd (cc)

-- the capacity says how many
same_number : (m n : ℕ) → Some (suc m) ≡ Some (suc n) → m ≡ n
same_number m n e = let same_capacity : suc m ≡ suc n = cc in omega (arith, same_capacity)

-- a value has no deadline of its own where none may
brief_from : (o : Option ℕ) (own : Bool) → own ≡ false → (IsSome o → IsTrue own) → o ≡ None
brief_from None own e h = refl
brief_from (Some m) own e h = absurd (true≢false (sym (h refl) ∙ e))

-- the keys of values held, leaving aside which may be evicted
keys-plain : (held : List HeldValue) → map (λ (h : HeldValue). h.value.key) (map plain held) ≡ map (λ (h : HeldValue). h.value.key) held
keys-plain [] = refl
keys-plain (h ∷ held) = ap (λ ks. h.value.key ∷ ks) (keys-plain held)

module _ {S : Type 0} where
  -- ---- a part

  -- a part under plain LRU
  pub plain_kept : (frame : Frame) (n part step : ℕ) (s : Part S) → IsPlainLru frame.config n → IsKeptPart frame part step s → IsPlain n s
  plain_kept frame n part step s p k = grind (arith, idle, each-map (λ r. r.is_held ≡ true → IsProper frame part step r.entry) IsLasting, Rec, none_from)

  -- what is written at a step not before its own is not covered
  fresh_kept : (frame : Frame) (part step next_step : ℕ) (s : Part S) → IsKeptPart frame part step s → step ≤ next_step → IsFresh next_step s
  fresh_kept frame part step next_step s k later = grind arith

  -- ---- there is one part

  -- the part that changed is all of them
  only : (part k : ℕ) (parts : List (Part S)) (s x y : Part S) → length parts ≡ 1 → slice_get parts part ≡ Some s → slice_get (slice_set parts part x) k ≡ Some y → y ≡ x
  only part k [] s x y one there at = absurd (none-some s there)
  only zero zero (p ∷ []) s x y one there at = cc
  only zero (suc k) (p ∷ []) s x y one there at = absurd (none-some y at)
  only (suc part) k (p ∷ []) s x y one there at = absurd (none-some s there)
  only part k (p ∷ q ∷ parts) s x y one there at = absurd (omega (arith, one))

  -- a call of that part: its notices are taken
  moves : (config : Config) (parts : List (Part S)) (part : ℕ) (s x : Part S) (moved : List (List ℕ) → List (List ℕ)) → length parts ≡ part_count config → slice_get parts part ≡ Some s
      → ((n : ℕ) (keys : List (List ℕ)) → IsPlainLru config n → IsRecent n s true keys → IsRecent n x false (moved keys)) → MovesRecency config parts (slice_set parts part (drained x)) moved
  moves config parts part s x moved number there call n keys p r = record {
    held = λ e. absurd (true≢false (sym e));
    recent = λ m k y q at. subst (λ z. IsRecent m z false (moved keys)) (sym (only part k parts s (drained x) y (number ∙ q.parts) there at)) (taking_keeps m x false (moved keys) (call m keys q (r.recent m part s q there)));
  }

  -- maintenance came, or it did not
  may_run : (now : ℕ) (s mid : Part S) → Maintained now s mid → (mid ≡ s) ⊎ Runs service_answers now s mid
  may_run now s mid (idle e) = inl e
  may_run now s mid (ran run) = inr run.runs

  -- what a call left, a run keeps
  after-run : (n now : ℕ) (s new : Part S) (keys : List (List ℕ)) → IsPlain n s → IsRecent n s false keys → (new ≡ s) ⊎ Runs service_answers now s new → IsRecent n new false keys
  after-run n now s new keys p r (inl e) = subst (λ x. IsRecent n x false keys) (sym e) r
  after-run n now s new keys p r (inr run) = cut_run_keeps n now s new false keys p r run

  -- ---- the clauses

  -- `look_up`
  pub look_ups : (frame : Frame) (step : ℕ) (parts : List (Part S)) (part : ℕ) (s mid : Part S) (key : List ℕ) (hash now : ℕ) → AreKeptParts frame step parts → slice_get parts part ≡ Some s → Maintained now s mid
      → MovesRecency frame.config parts (slice_set parts part (drained (with_read service_answers (visible_record service_answers same s now key) hash now mid))) (used_first key)
  look_ups frame step parts part s mid key hash now kept there maintained =
      moves frame.config parts part s (with_read service_answers (visible_record service_answers same s now key) hash now mid) (used_first key) kept.number there
      (λ n keys p r. look-recent n now hash s mid key keys (plain_kept frame n part step s p (kept.each part s there)) r (may_run now s mid maintained))

  -- `accept`
  pub accepts : (frame : Frame) (step next : ℕ) (parts : List (Part S)) (part : ℕ) (s new : Part S) (key : List ℕ) (value : Stored) (hash now : ℕ) → AreKeptParts frame step parts → slice_get parts part ≡ Some s
      → step ≤ next → (IsSome value.milliseconds → IsTrue frame.config.own_deadlines) → Maintained now (value_put key hash value now next s) new → MovesRecency frame.config parts (slice_set parts part (drained new)) (put_first key)
  accepts frame step next_step parts part s new key value hash now kept there later timed maintained =
      moves frame.config parts part s new (put_first key) kept.number there
      (λ n keys p r.
      let k = kept.each part s there in
      let t = value_put key hash value now next_step s in
      let m = put_moves n now hash next_step s key value keys (plain_kept frame n part step s p k) (fresh_kept frame part step next_step s k later) (brief_from value.milliseconds frame.config.own_deadlines p.own timed) r in
      after-run n now t new (put_first key keys) m.0 m.1 (may_run now t new maintained))

  -- `remove`
  pub removes : (frame : Frame) (step : ℕ) (parts : List (Part S)) (part : ℕ) (s new : Part S) (key : List ℕ) (now : ℕ) → AreKeptParts frame step parts → slice_get parts part ≡ Some s
      → Maintained now (key_taken_out key now s) new → MovesRecency frame.config parts (slice_set parts part (drained new)) (keys_without key)
  removes frame step parts part s new key now kept there maintained =
      moves frame.config parts part s new (keys_without key) kept.number there
      (λ n keys p r.
      let t = key_taken_out key now s in
      let m = removal_moves n now s key keys (plain_kept frame n part step s p (kept.each part s there)) r in
      after-run n now t new (keys_without key keys) m.0 m.1 (may_run now t new maintained))

  -- ---- keys as values held

  -- the keys of the entries of a part
  keys-items : (part : ℕ) (s : Part S) (es : List Kept) → map (λ (h : HeldValue). h.value.key) (map (as_held_value part s) es) ≡ map (λ (e : Kept). e.key) es
  keys-items part s [] = refl
  keys-items part s (e ∷ es) = ap (λ ks. e.key ∷ ks) (keys-items part s es)

  -- a run of the one part
  pub runs_all : (frame : Frame) (step now : ℕ) (parts news : List (Part S)) (notes : List Note) → AreKeptParts frame step parts → AllRan now parts news notes → (n : ℕ) (settled : Bool) (keys : List (List ℕ))
      → IsPlainLru frame.config n → IsRecentOver frame.config parts settled keys → IsRecentOver frame.config news true (take (suc n) keys)
  runs_all frame step now [] news notes kept all n settled keys p r = absurd (let one : 0 ≡ 1 = kept.number ∙ p.parts in omega (arith, one))
  runs_all frame step now (x ∷ y ∷ parts) news notes kept all n settled keys p r = absurd (let one : suc (suc (length parts)) ≡ 1 = kept.number ∙ p.parts in omega (arith, one))
  runs_all frame step now (x ∷ []) news notes kept (next s new run none) n settled keys p r = record {
    held = λ e.
        subst (λ ks. IsPermutation ks (take (suc n) keys)) (sym (ap (map (λ (h : HeldValue). h.value.key)) (append-nil (items_in 0 (drained new))) ∙ keys-items 0 (drained new) (held_entries new.records)))
        (held-steady n new (take (suc n) keys) (run-front n now x new (steady n x settled keys before recent) run.runs).1 after);
    recent = λ m k y q at.
        let number : m ≡ n = same_number m n (sym q.capacity ∙ p.capacity) in
        subst (λ i. IsRecent i y true (take (suc n) keys)) (sym number)
        (subst (λ z. IsRecent n z true (take (suc n) keys)) (sym (only 0 k (x ∷ []) x (drained new) y refl refl at)) (taking_keeps n new true (take (suc n) keys) after));
  }
    where
      before : IsPlain n x
      before = plain_kept frame n 0 step x p (kept.each 0 x refl)

      recent : IsRecent n x settled keys
      recent = r.recent n 0 x p refl

      after : IsRecent n new true (take (suc n) keys)
      after = run_keeps n now x new settled keys before recent run

  -- ---- the keys in their order of use are those held

  -- `ordered`
  pub keys_held : (frame : Frame) (step : ℕ) (parts : List (Part S)) (held : List HeldValue) (keys : List (List ℕ)) → AreKeptParts frame step parts → Stands parts held → IsRecentOver frame.config parts true keys → AreKeysOf held keys
  keys_held frame step parts held keys kept stands r =
      let items = items_of 0 parts in
      let apart = apart-of frame.part_of 0 parts (enough-parted frame step parts kept) in
      IsPermutation-trans (map (λ (h : HeldValue). h.value.key) held) (map (λ (h : HeldValue). h.value.key) items) keys
      (subst (λ ks. IsPermutation ks (map (λ (h : HeldValue). h.value.key) items)) (keys-plain held) (IsPermutation-map (λ (h : HeldValue). h.value.key) (map plain held) items (permutation items held apart stands.same))) (r.held refl)

  -- ---- a store that was just made

  -- where no part has a record no value is held
  pub none-yet : (first : ℕ) (parts : List (Part S)) → ((k : ℕ) (s : Part S) → slice_get parts k ≡ Some s → s.records ≡ []) → items_of first parts ≡ []
  none-yet first [] each = refl
  none-yet first (s ∷ parts) each = ap (λ rs. map (as_held_value first s) (held_entries rs) ++ items_of (suc first) parts) (each 0 s refl) ∙ none-yet (suc first) parts (λ k x there. each (suc k) x there)

  -- it has no keys
  pub made : (config : Config) (name : Option (List ℕ)) (settings : Settings) (hasher : S) (rules : Weight) (parts : List (Part S)) → ((part : ℕ) (s : Part S) → slice_get parts part ≡ Some s → IsNew name settings hasher rules s) → IsRecentOver config parts true []
  made config name settings hasher rules parts new = record {
    held = λ e. subst (λ xs. IsPermutation (map (λ (h : HeldValue). h.value.key) xs) []) (sym (none-yet 0 parts (λ k s there. (new k s there).records))) (IsPermutation-refl []);
    recent = λ n k s p there. new_is n name settings hasher rules s (new k s there);
  }
