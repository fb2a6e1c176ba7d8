-- Exact recency of a part.
use Rattle.std.proofs.Common.{◌≡◌, refl, ap, sym, ◌∙◌, ℕ, Bool, true, false, List, [], ◌∷◌, Option, Some, None, arith, subst, suc, ◌+◌, true≢false, ◌++◌, map, reverse, take, inl, inr, ◌⊎◌, IsPermutation, option_map}
use Rattle.engine_reference.specs.declared.rules.causes.RemovalCause.{RemovalCause}
use Rattle.engine_reference.specs.declared.rules.causes.RemovalCause.TheVariants as cause
use Rattle.engine_reference.specs.declared.data.Record.{Record}
use Rattle.engine_reference.specs.declared.data.Read.{Read}
use Rattle.engine_reference.specs.declared.data.Read.TheVariants.{Hit, Miss}
use Rattle.engine_reference.specs.declared.data.Upsert.{Upsert}
use Rattle.engine_reference.specs.declared.data.Write.{Write}
use Rattle.engine_reference.specs.declared.data.Write.TheVariants.{Put, Removed}
use Rattle.engine_reference.specs.Admission.{Verdict, admit, displace, refuse}
use Rattle.engine_reference.specs.Records.{held_at, changed_at, admitted_weight, held_entries, held_weight}
use Rattle.engine_reference.specs.Runs.{left, all_left, after_read, after_write, counting, judged, Runs, RunsToEnd, IsApplied}
use Rattle.engine_reference.specs.State.{State}
use Rattle.cache_front.specs.Recent.{with_reads, with_writes, applied, keys_used, IsLasting, IsUncovered, keys_numbered, IsPlain, IsRecent, IsFresh}
use Rattle.std.proofs.lemmas.Bool.{ltb-false}
use Rattle.std.proofs.lemmas.List.{take_all}
use Rattle.std.proofs.lemmas.List.Sorted.{IsPermutation-trans, IsPermutation-reverse}
use Rattle.audit_model.specs.Bytewise.{same}
use Rattle.audit_model.specs.History.{weight_of}
use Rattle.audit_model.specs.Recency as recent
use Rattle.audit_model.specs.declared.config.Weight.{Weight}
use Rattle.cache_commands.specs.Recency.{put_first, used_first}
use Rattle.engine_reference.specs.declared.data.Entry.{Entry}
use Rattle.engine_reference.specs.declared.data.Unsent.{Unsent}
use Rattle.engine_reference.specs.Calls.{IsNew, with_read, used_entry, with_room, with_written, with_removed, removal_told, sent}
use Rattle.engine_reference.specs.Soundness.{Each}
use Rattle.engine_reference.specs.Times.{own_expiration}
use Rattle.engine_reference.specs.Visible.{is_covered, visible_record}
use Rattle.engine_reference.proofs.Accounts.{each-changed}
use Rattle.engine_reference.proofs.SoundCalls.{held_at-only, held_at-each, each-push}
use Rattle.engine_reference.proofs.run_laws.Fronting.{each-at}
use Rattle.engine_reference.proofs.run_laws.Ordering.{runs_stay_in_order}
use Rattle.engine_reference.proofs.run_laws.Shown.{RecordsApart, to-records}
use Rattle.engine_reference.proofs.run_laws.Swept.{sent-one}
use Rattle.cache_front.specs.Parts.{Part, Stored, service_answers, value_put, put_entry, nanos, key_taken_out}
use Rattle.engine_reference.specs.declared.data.Settings.{Settings}
use Rattle.cache_front.proofs.parts.Joining.{fresh_is}
use Rattle.cache_front.proofs.parts.Moving.{taking, read-moves, value_put-moves, removal-moves, IsSteady, never-comes, keys-here, weight-here, run-front, run-still, applied-rest}
use Rattle.cache_front.proofs.parts.Removing.{took_out}
use Rattle.cache_front.proofs.parts.Writing.{Rec, all_units, wrote}

module _ {K V P S R : Type 0} where
  -- the state without its notices
  abbrev pub quiet : State K V P S R → State K V P S R
  quiet s = record s { notices = [] }

  -- a record leaves
  left-quiet : (why : RemovalCause) (n : ℕ) (s : State K V P S R) → quiet (left why n s) ≡ quiet (left why n (quiet s))
  left-quiet why n s = grind arith

  -- records leave
  all_left-quiet : (why : RemovalCause) (vs : List (Record K V)) (s : State K V P S R) → quiet (all_left why vs s) ≡ quiet (all_left why vs (quiet s))
  all_left-quiet why [] s = refl
  all_left-quiet why (v ∷ vs) s = all_left-quiet why vs (left why v.number s) ∙ ap (λ x. quiet (all_left why vs x)) (left-quiet why v.number s) ∙ sym (all_left-quiet why vs (left why v.number (quiet s)))

  -- a write is judged
  judged-quiet : (u : Upsert) (r : Record K V) (s : State K V P S R) (v : Verdict K V) → quiet (judged u r s v) ≡ quiet (judged u r (quiet s) v)
  judged-quiet u r s admit = refl
  judged-quiet u r s (displace vs) = ap (λ x. quiet (counting u x)) (all_left-quiet cause.Size vs s)
  judged-quiet u r s refuse = grind (arith, left-quiet cause.Size u.number s)

  -- a write is applied
  write-quiet : (w : Write) (s : State K V P S R) → quiet (after_write w s) ≡ quiet (after_write w (quiet s))
  write-quiet (Put u) s = grind (arith, judged-quiet u)
  write-quiet (Removed n) s = grind arith

  -- a read is applied
  read-quiet : (r : Read) (s : State K V P S R) → quiet (after_read r s) ≡ quiet (after_read r (quiet s))
  read-quiet (Miss hash) s = refl
  read-quiet (Hit n hash) s = grind arith

  -- reads are applied
  reads-quiet : (rs : List Read) (s : State K V P S R) → quiet (with_reads rs s) ≡ quiet (with_reads rs (quiet s))
  reads-quiet [] s = refl
  reads-quiet (r ∷ rest) s = grind (arith, reads-quiet rest, read-quiet r)

  -- writes are applied
  writes-quiet : (ws : List Write) (s : State K V P S R) → quiet (with_writes ws s) ≡ quiet (with_writes ws (quiet s))
  writes-quiet [] s = refl
  writes-quiet (w ∷ rest) s = grind (arith, writes-quiet rest, write-quiet w)

  -- the keys used last are the same without the notices
  pub keys-quiet : (s : State K V P S R) → keys_used (applied (quiet s)) ≡ keys_used (applied s)
  keys-quiet s = grind (arith, writes-quiet s.writes (with_reads s.reads s), reads-quiet s.reads s, writes-quiet s.writes (with_reads s.reads (quiet s)))

-- ---- exact recency of a part

module _ {S : Type 0} where
  -- what steps of a run need
  pub steady : (n : ℕ) (s : Part S) (settled : Bool) (keys : List (List ℕ)) → IsPlain n s → IsRecent n s settled keys → IsSteady n s
  steady n s settled keys p r = record { sound = p.in_order.sound; sent = p.sent; capacity = p.capacity; live = p.live; idle = p.idle; lasting = p.lasting; uncovered = r.uncovered }

  -- of a settled part
  rested : (n : ℕ) (s : Part S) (keys : List (List ℕ)) → IsRecent n s true keys → IsApplied s
  rested n s keys r = let w = r.whole refl in record { reads = w.0; writes = w.1 }

  -- its keys are those used last
  whole_is : (n : ℕ) (s : Part S) (keys : List (List ℕ)) → IsRecent n s true keys → keys ≡ keys_used (applied s)
  whole_is n s keys r = let w = r.whole refl in w.2 ∙ ap (λ (x : Part S). keys_used x) (sym (applied-rest s w.0 w.1))

  -- what is held is seen
  visible-held : (n now : ℕ) (s : Part S) (key : List ℕ) → IsSteady n s → visible_record service_answers same s now key ≡ held_at same s.records key
  visible-held n now s key h = grind (arith, Rec, held_at-only same s.records key, held_at-each, all_units s.records, never-comes n now s, each-at (IsUncovered s) s.records)

  -- ---- runs

  -- A RUN TO ITS END KEEPS THE KEYS USED LAST, as many as the capacity
  pub run_keeps : (n now : ℕ) (s new : Part S) (settled : Bool) (keys : List (List ℕ)) → IsPlain n s → IsRecent n s settled keys → RunsToEnd service_answers now s new → IsRecent n new true (take (suc n) keys)
  run_keeps n now s new settled keys p r run =
      let front = run-front n now s new (steady n s settled keys p r) run.runs in
      let order = runs_stay_in_order (List ℕ) Stored (List ℕ) S Weight service_answers now s new p.in_order.sound p.sent in
      grind (arith, front, steady n s settled keys p r, applied-rest new, order, ltb-false (suc n) (admitted_weight new.records), take_all (suc n) (keys_used new), weight-here n new)

  -- a run that may be cut keeps them too
  pub cut_run_keeps : (n now : ℕ) (s new : Part S) (settled : Bool) (keys : List (List ℕ)) → IsPlain n s → IsRecent n s settled keys → Runs service_answers now s new → IsRecent n new false keys
  cut_run_keeps n now s new settled keys p r run = grind (arith, run-front n now s new (steady n s settled keys p r) run, steady n s settled keys p r, true≢false)

  -- a run of a settled part leaves it so
  pub still-recent : (n now : ℕ) (s mid : Part S) (keys : List (List ℕ)) → IsPlain n s → IsRecent n s true keys → Runs service_answers now s mid → IsRecent n mid true keys
  still-recent n now s mid keys p r run = grind (arith, steady n s true keys p r, run-still n now s mid, rested n s keys r, run-front n now s mid, reverse, applied-rest mid)

  -- ---- a look-up

  -- a read of a record that is held, or of none, puts the key first, where it is there
  read-recent : (n now hash : ℕ) (s : Part S) (key : List ℕ) (keys : List (List ℕ)) (o : Option Rec) → IsSteady n s → RecordsApart same s.records → s.writes ≡ [] → held_at same s.records key ≡ o → keys ≡ keys_used (applied s)
      → IsRecent n (with_read service_answers o hash now s) false (used_first key keys)
  read-recent n now hash s key keys o h apart none e is = record {
    cut = ap (take (suc n)) (ap (used_first key) is ∙ sym (read-moves n s h apart none key hash now o e));
    whole = λ e. absurd (true≢false (sym e));
    uncovered = uncovered o;
  }
    where
      uncovered : (o : Option Rec) → Each (IsUncovered (with_read service_answers o hash now s)) (with_read service_answers o hash now s).records
      uncovered None = h.uncovered
      uncovered (Some r) =
          each-changed r.number (λ x. record x { entry = used_entry service_answers s now x.entry }) (IsUncovered s) (IsUncovered s)
          (λ x same k. k) (λ x other k. k) s.records h.sound.records.numbered h.uncovered

  -- after a run, if one came
  pub look-recent : (n now hash : ℕ) (s mid : Part S) (key : List ℕ) (keys : List (List ℕ)) → IsPlain n s → IsRecent n s true keys → (mid ≡ s) ⊎ Runs service_answers now s mid
      → IsRecent n (with_read service_answers (visible_record service_answers same s now key) hash now mid) false (used_first key keys)
  look-recent n now hash s mid key keys p r (inl e) = grind (arith, steady n s true keys p r, read-recent n now hash s key keys (visible_record service_answers same s now key), to-records same s.records p.apart, rested n s keys r, visible-held n now s key, whole_is n s keys r)
  look-recent n now hash s mid key keys p r (inr run) =
      let h = steady n s true keys p r in
      let a = rested n s keys r in
      let k = run-still n now s mid h a p.in_order.within run in
      let f = run-front n now s mid h run in
      read-recent n now hash mid key keys (visible_record service_answers same s now key) f.1 (subst (λ rs. RecordsApart same rs) (sym k.records) (to-records same s.records p.apart)) f.2.writes
      (ap (λ rs. held_at same rs key) k.records ∙ sym (visible-held n now s key h)) (whole_is n mid keys (still-recent n now s mid keys p r run))

  -- ---- a write

  -- what the new entry is
  entry-lasts : (n now step : ℕ) (s : Part S) (key : List ℕ) (value : Stored) → IsPlain n s → value.milliseconds ≡ None → ((put_entry s key value now step).weight ≡ 1) × ((put_entry s key value now step).expires ≡ None)
  entry-lasts n now step s key value p brief = (ap (λ w. weight_of w value.bytes) p.rules, ap (λ o. own_expiration now (option_map nanos o)) brief)

  -- what holds of the records and the rules after it
  record PutLeaves (s t : Part S) : Type 0 where
    lasting : Each IsLasting t.records
    uncovered : Each (IsUncovered t) t.records
    rules : t.rules ≡ s.rules

  -- a write leaves them so
  value_put-leaves : (n now hash step : ℕ) (s : Part S) (key : List ℕ) (value : Stored) → IsPlain n s → IsFresh step s → value.milliseconds ≡ None → Each (IsUncovered s) s.records
      → PutLeaves s (value_put key hash value now step s)
  value_put-leaves n now hash step s key value p fresh brief uncovered = go (held_at same s.records key)
    where
      e : Entry (List ℕ) Stored
      e = put_entry s key value now step

      lasts : (e.weight ≡ 1) × (e.expires ≡ None)
      lasts = entry-lasts n now step s key value p brief

      seen : is_covered service_answers s e ≡ false
      seen = fresh_is s e fresh.cleared fresh.predicates

      go : (o : Option Rec) → PutLeaves s (sent s.next_ticket (with_written service_answers o (with_room s) key hash value now step))
      go None =
          let x : Rec = record { number = s.next_number; hash = hash; entry = e; is_held = true; writes = 1; applied = 0; counts = None } in
          let w : Upsert = record { number = s.next_number; write = 1; weight = e.weight; hash = hash; kept = held_weight (s.records ++ x ∷ []) } in
          let u : Unsent = record { ticket = s.next_ticket; write = Put w } in
          let t = with_written service_answers None (with_room s) key hash value now step in
          subst (λ y. PutLeaves s y) (sym (sent-one u t (ap (λ us. us ++ u ∷ []) p.sent))) (record {
            lasting = each-push IsLasting s.records x p.lasting (λ held. lasts);
            uncovered = each-push (IsUncovered s) s.records x uncovered (λ held. seen);
            rules = refl;
          })
      go (Some r) =
          let f : Rec → Rec = λ x. record x { entry = e; writes = x.writes + 1 } in
          let w : Upsert = record { number = r.number; write = r.writes + 1; weight = e.weight; hash = hash; kept = held_weight (changed_at r.number f s.records) } in
          let u : Unsent = record { ticket = s.next_ticket; write = Put w } in
          let t = with_written service_answers (Some r) (with_room s) key hash value now step in
          let numbered = p.in_order.sound.records.numbered in
          subst (λ y. PutLeaves s y) (sym (sent-one u t (ap (λ us. us ++ u ∷ []) p.sent))) (record {
            lasting = each-changed r.number f IsLasting IsLasting
                (λ x same k held. lasts) (λ x other k. k) s.records numbered p.lasting;
            uncovered = each-changed r.number f (IsUncovered s) (IsUncovered s)
                (λ x same k held. seen) (λ x other k. k) s.records numbered uncovered;
            rules = refl;
          })

  -- a write puts its key first, where no other write waits
  value_put-recent : (n now hash step : ℕ) (s : Part S) (key : List ℕ) (value : Stored) (keys : List (List ℕ)) → IsPlain n s → IsFresh step s → value.milliseconds ≡ None → IsSteady n s → s.writes ≡ [] → keys ≡ keys_used (applied s)
      → IsPlain n (value_put key hash value now step s) × IsRecent n (value_put key hash value now step s) false (put_first key keys)
  value_put-recent n now hash step s key value keys p fresh brief h none is =
      let moves = value_put-moves n s h (to-records same s.records p.apart) none p.policy p.rules key hash value now step in
      grind (arith, wrote key hash value now step s p.in_order p.apart p.tells p.sent, value_put-leaves n now hash step s key value p fresh brief h.uncovered, moves, to-records same s.records p.apart, true≢false)

  -- and so from a settled part
  pub put_moves : (n now hash step : ℕ) (s : Part S) (key : List ℕ) (value : Stored) (keys : List (List ℕ)) → IsPlain n s → IsFresh step s → value.milliseconds ≡ None → IsRecent n s true keys
      → IsPlain n (value_put key hash value now step s) × IsRecent n (value_put key hash value now step s) false (put_first key keys)
  put_moves n now hash step s key value keys p fresh brief r = value_put-recent n now hash step s key value keys p fresh brief (steady n s true keys p r) (rested n s keys r).writes (whole_is n s keys r)

  -- ---- a removal

  -- a removal takes its key out
  pub removal_moves : (n now : ℕ) (s : Part S) (key : List ℕ) (keys : List (List ℕ)) → IsPlain n s → IsRecent n s true keys → IsPlain n (key_taken_out key now s) × IsRecent n (key_taken_out key now s) false (recent.keys_without key keys)
  removal_moves n now s key keys p r =
      let h = steady n s true keys p r in
      let cut = ap (take (suc n)) (ap (recent.keys_without key) (whole_is n s keys r) ∙ sym (removal-moves n s h (to-records same s.records p.apart) (rested n s keys r).writes key now)) in
      let k = leaves (held_at same s.records key) refl in
      (k.0, record { cut = cut; whole = λ e. absurd (true≢false (sym e)); uncovered = k.1 })
    where
      leaves : (o : Option Rec) → held_at same s.records key ≡ o → IsPlain n (taking s now o o) × Each (IsUncovered (taking s now o o)) (taking s now o o).records
      leaves None e = (p, r.uncovered)
      leaves (Some x) e =
          let w = took_out key now s x p.in_order p.apart p.tells p.sent e in
          let f : Rec → Rec = λ x. record x { is_held = false; writes = x.writes + 1 } in
          let u : Unsent = record { ticket = s.next_ticket; write = Removed x.number } in
          let t = removal_told service_answers x.entry now (with_removed (Some x) s) in
          let t1 : Part S = record t { unsent = []; writes = s.writes ++ Removed x.number ∷ [] } in
          let is = sent-one u t (ap (λ us. us ++ u ∷ []) p.sent) in
          let numbered = p.in_order.sound.records.numbered in (
            record {
              capacity = ap (λ c. c.capacity) w.settings ∙ p.capacity;
              policy = ap (λ c. c.policy) w.settings ∙ p.policy;
              tells = ap (λ c. c.tells) w.settings ∙ p.tells;
              live = ap (λ c. c.live) w.settings ∙ p.live;
              idle = ap (λ c. c.idle) w.settings ∙ p.idle;
              rules = ap (λ (y : Part S). y.rules) is ∙ p.rules;
              in_order = w.in_order;
              sent = w.unsent;
              apart = w.apart;
              lasting = subst (λ (y : Part S). Each IsLasting y.records) (sym is)
                  (each-changed x.number f IsLasting IsLasting
                  (λ y same k held. absurd (true≢false (sym held))) (λ y other k. k) s.records numbered p.lasting);
            },
            subst (λ (y : Part S). Each (IsUncovered y) y.records) (sym is)
                (each-changed x.number f (IsUncovered s) (IsUncovered s)
                (λ y same k held. absurd (true≢false (sym held))) (λ y other k. k) s.records numbered r.uncovered),
          )

  -- ---- notices, a new part, and the keys held

  -- notices do not matter
  pub taking_keeps : (n : ℕ) (s : Part S) (settled : Bool) (keys : List (List ℕ)) → IsRecent n s settled keys → IsRecent n (record s { notices = [] }) settled keys
  taking_keeps n s settled keys r = record { cut = r.cut ∙ ap (take (suc n)) (sym (keys-quiet s)); whole = r.whole; uncovered = r.uncovered }

  -- a new part has no keys
  pub new_is : (n : ℕ) (name : Option (List ℕ)) (settings : Settings) (hasher : S) (rules : Weight) (s : Part S) → IsNew name settings hasher rules s → IsRecent n s true []
  new_is n name settings hasher rules s new = grind (arith, reverse, applied-rest s new.reads new.writes)

  -- the keys of a settled part are those held
  pub held-steady : (n : ℕ) (s : Part S) (keys : List (List ℕ)) → IsSteady n s → IsRecent n s true keys → IsPermutation (map (λ (e : Entry (List ℕ) Stored). e.key) (held_entries s.records)) keys
  held-steady n s keys h r = grind (arith, IsPermutation-trans (map (λ (e : Entry (List ℕ) Stored). e.key) (held_entries s.records)) (keys_numbered s.records s.access) (keys_used s), keys-here n s h, IsPermutation-reverse (keys_numbered s.records s.access))
