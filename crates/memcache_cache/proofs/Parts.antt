-- What calls leave visible in one part.
use Rattle.std.proofs.Common.{◌≡◌, ℕ, ◌+◌, ◌<◌, ◌≤◌, arith, Bool, true, false, cond, not, ◌&&◌, ◌||◌, List, [], ◌∷◌, ◌++◌, Option, Some, None, inl, inr, ◌⊎◌, refl, sym, ap, subst, ◌∙◌, max}
use Rattle.std.proofs.Math.Bool.{and-false}
use Rattle.std.proofs.lemmas.Bool.{cases_Bool, cond_both, eqb-true, eq-eqb, lt-ltb, le-ltb, ltb-true}
use Rattle.std.proofs.lemmas.Option.{cond_some, none-some, same_Some}
use Rattle.std.specs.Cmp.{IsEquivalence}
use Rattle.std.specs.List.{list_any}
use Rattle.std.specs.Option.{option_map}
use Rattle.std.specs.Prelude.{MatchOption}
use Rattle.engine_reference.specs.declared.data.Entry.{Entry}
use Rattle.engine_reference.specs.declared.data.Record.{Record}
use Rattle.engine_reference.specs.declared.data.Write.{Write}
use Rattle.engine_reference.specs.Calls.{MaintainsIfDue, cleared_by, first_entry, next_entry, sent, unsent_at, used_entry, with_read, with_removed, with_room, with_sent, with_written, written}
use Rattle.engine_reference.specs.Records.{changed_at, held_at, held_entries, record_at}
use Rattle.engine_reference.specs.Runs.{RunsToEnd, is_due}
use Rattle.engine_reference.specs.RunLaws.Just.{ComesFrom}
use Rattle.engine_reference.specs.Scanning.{NotesLookUp}
use Rattle.engine_reference.specs.Soundness.{AreNumbered, Each, IsSound}
use Rattle.engine_reference.specs.State.{Answers, State}
use Rattle.engine_reference.specs.Telling.{AreApart}
use Rattle.engine_reference.specs.Times.{has_come, is_reached, deadline_of}
use Rattle.engine_reference.specs.Visible.{is_covered, is_covered_by, is_visible, passing, visible, visible_record, visible_value}
use Rattle.engine_reference.proofs.Seeing.{sending_keeps_visible}
use Rattle.engine_reference.proofs.SoundCalls.{calls_stay_sound, held_at-each, held_at-only}
use Rattle.engine_reference.proofs.StayingVisible.{runs_keep_visible}
use Rattle.engine_reference.proofs.run_laws.Shown.{RecordsApart, calls_keep_apart, found-changed, held_at-match, only_writes_show, to-records}
use Rattle.engine_reference.proofs.run_laws.Swept.{run-leaves}
use Rattle.front_reference.specs.Parts.{Inserts, TakesOut, taken_out, takes_nothing}

-- the same, or nothing
abbrev pub Left : {X : Type 0} → Option X → Option X → Type 0
Left is was = (is ≡ was) ⊎ (is ≡ None)

pub left-trans : {X : Type 0} (a b c : Option X) → Left a b → Left b c → Left a c
left-trans a b c (inl e) (inl k) = inl (e ∙ k)
left-trans a b c (inl e) (inr k) = inr (e ∙ k)
left-trans a b c (inr e) l = inr e

left-map : {X Y : Type 0} (f : X → Y) (a b : Option X) → Left a b → Left (option_map f a) (option_map f b)
left-map f a b (inl e) = inl (ap (option_map f) e)
left-map f a b (inr e) = inr (ap (option_map f) e)

-- what is there is this
left-some : {X : Type 0} (o w : Option X) → ((x : X) → o ≡ Some x → w ≡ Some x) → Left o w
left-some None w h = inr refl
left-some (Some x) w h = inl (sym (h x refl))

sooner : (o : Option ℕ) (first later : ℕ) → first ≤ later → is_reached o first ≡ true → is_reached o later ≡ true
sooner None first later before e = e
sooner (Some m) first later before e = grind (arith, ltb-true, le-ltb)

-- a run came, or none was due
pub ran_if_due : {K V P S R : Type 0} (answers : Answers K V P R) (now : ℕ) (old new : State K V P S R) → MaintainsIfDue answers now old new → RunsToEnd answers now old new ⊎ (new ≡ old)
ran_if_due answers now old new m = elim (cases_Bool (is_due old now)) [ inl due ↦ inl (rw due at m) | inr rests ↦ inr (rw rests at m) ]

module _ {K V : Type 0} where
  -- what is seen of a record
  abbrev shown_of : Bool → Record K V → Option V
  shown_of b r = option_map (λ e. e.value) (option_map (λ (x : Record K V). x.entry) (cond b (Some r) None))

module _ {K V : Type 0} (eq : K → K → Bool) (equal : (a b : K) → eq a b ≡ true → a ≡ b) where
  -- the key's record that was changed
  found-at : (key : K) (f : Record K V → Record K V) (rs : List (Record K V)) (r : Record K V) → AreNumbered rs → held_at eq rs key ≡ Some r → (f r).is_held ≡ true → eq key (f r).entry.key ≡ true → held_at eq (changed_at r.number f rs) key ≡ Some (f r)
  found-at key f [] r numbered h held match = absurd (none-some r h)
  found-at key f (x ∷ rs) r numbered h held match = grind (arith, found-at key f rs r numbered.1, held_at-only eq rs key r numbered.1, eqb-true x.number r.number, eq-eqb r.number r.number refl, none-some r)

  -- and that was removed
  gone-at : (key : K) (f : Record K V → Record K V) (rs : List (Record K V)) (r : Record K V) → ((x : Record K V) → (f x).is_held ≡ false) → RecordsApart eq rs → AreNumbered rs → held_at eq rs key ≡ Some r → held_at eq (changed_at r.number f rs) key ≡ None
  gone-at key f [] r out apart numbered h = absurd (none-some r h)
  gone-at key f (x ∷ rs) r out apart numbered h = grind (arith, gone-at key f rs r out apart.1 numbered.1, held_at-only eq rs key r numbered.1, eqb-true x.number r.number, eq-eqb r.number r.number refl, equal key x.entry.key, apart.0, out x, none-some r)

  held-pushed : (key : K) (rs : List (Record K V)) (x : Record K V) → held_at eq rs key ≡ None → held_at eq (rs ++ x ∷ []) key ≡ held_at eq (x ∷ []) key
  held-pushed key [] x none = refl
  held-pushed key (r ∷ rs) x none = grind (arith, none, held-pushed key rs x, none-some r)

module _ {K V P S R : Type 0} (answers : Answers K V P R) (eq : K → K → Bool) (laws : IsEquivalence eq) (equal : (a b : K) → eq a b ≡ true → a ≡ b) where
  abbrev seen : State K V P S R → ℕ → K → Option V
  seen s moment q = visible_value answers eq s moment q

  abbrev seen_of : State K V P S R → ℕ → Option (Record K V) → Option V
  seen_of s moment o = option_map (λ e. e.value) (option_map (λ (x : Record K V). x.entry) (passing (λ r. is_visible answers s moment r.entry) o))

  -- what is seen is held, and visible
  seen-held : (s : State K V P S R) (moment : ℕ) (o : Option (Record K V)) (v : V) → seen_of s moment o ≡ Some v → (r : Record K V) × (o ≡ Some r) × (r.entry.value ≡ v)
  seen-held s moment None v e = absurd (none-some v e)
  seen-held s moment (Some r) v e = (r, refl, grind (arith, e, none-some v))

  maintained : (now : ℕ) (old new : State K V P S R) → AreApart eq (held_entries old.records) → MaintainsIfDue answers now old new → (moment : ℕ) (q : K) → Left (seen new moment q) (seen old moment q)
  maintained now old new apart m moment q = elim (ran_if_due answers now old new m) [
    | inl run ↦ elim ((runs_keep_visible K V P S R eq laws answers now old new apart run.runs).stays moment q) [
      | inl e ↦ inl (ap (option_map (λ e. e.value)) e)
      | inr k ↦ inr (ap (option_map (λ e. e.value)) k.0)
    ]
    | inr same ↦ inl (ap (λ s. seen s moment q) same)
  ]

  sent-records : (ticket : ℕ) (s : State K V P S R) → (sent ticket s).records ≡ s.records
  sent-records ticket s = go (unsent_at s.unsent ticket)
    where
      go : (o : Option Write) → (with_sent ticket o s).records ≡ s.records
      go None = refl
      go (Some w) = refl

  -- ---- a write

  wrote : (s : State K V P S R) (key : K) (hash : ℕ) (value : V) (now step : ℕ) → IsSound s → (o : Option (Record K V)) → held_at eq s.records key ≡ o → (z : Record K V) → held_at eq (with_written answers o s key hash value now step).records key ≡ Some z → z.entry.value ≡ value
  wrote s key hash value now step sound None none z is =
      let x : Record K V = record { number = s.next_number; hash = hash; entry = first_entry answers s key value now step; is_held = true; writes = 1; applied = 0; counts = None } in
      let here : held_at eq (x ∷ []) key ≡ Some x = ap (λ b. cond b (Some x) None) (laws.refl key) in
      sym (ap (λ (y : Record K V). y.entry.value) (same_Some x z (sym here ∙ sym (held-pushed eq equal key s.records x none) ∙ is)))
  wrote s key hash value now step sound (Some r) some z is =
      let f : Record K V → Record K V = λ x. record x { entry = next_entry answers s r.entry key value now step; writes = x.writes + 1 } in
      let held = (held_at-each (λ (x : Record K V). x.number < s.next_number) eq s.records key r sound.records.below some).1 in
      let here = found-at eq equal key f s.records r sound.records.numbered some held (laws.refl key) in
      sym (ap (λ (y : Record K V). y.entry.value) (same_Some (f r) z (sym here ∙ is)))

  written-own : (s : State K V P S R) (key : K) (hash : ℕ) (value : V) (now step moment : ℕ) → IsSound s → Left (seen (written answers eq s key hash value now step) moment key) (Some value)
  written-own s key hash value now step moment sound =
      let t = written answers eq s key hash value now step in
      left-some (seen t moment key) (Some value) (λ v e.
      let k = seen-held t moment (held_at eq t.records key) v e in
      ap Some (sym (wrote s key hash value now step sound (held_at eq s.records key) refl k.0 k.1) ∙ k.2))

  pub bare-seen : (s : State K V P S R) (moment : ℕ) (q : K) → s.records ≡ [] → seen s moment q ≡ None
  bare-seen s moment q bare = ap (λ rs. seen_of s moment (held_at eq rs q)) bare

  -- a value was inserted: its key shows it, others what they showed, or nothing
  pub inserts : (key : K) (hash : ℕ) (value : V) (now step : ℕ) (old new : State K V P S R) → IsSound old → AreApart eq (held_entries old.records) → (takes_nothing old.settings.capacity ≡ true → old.records ≡ []) → Inserts answers eq key hash value now step old new → (q : K)
      → Left (seen new now q) (cond (eq q key) (Some value) (seen old now q))
  inserts key hash value now step old new sound apart bare i q = elim (cases_Bool (takes_nothing old.settings.capacity)) [
    | inl off ↦ inr (ap (λ s. seen s now q) (i.off off) ∙ bare-seen old now q (bare off))
    | inr on ↦
        let all_sent = sent roomy.next_ticket mid in
        let apart_mid = (calls_keep_apart K V P S R).written eq laws answers roomy key hash value now step sound_roomy apart in
        let apart_sent : AreApart eq (held_entries all_sent.records) = subst (λ (rs : List (Record K V)). AreApart eq (held_entries rs)) (sym (sent-records roomy.next_ticket mid)) apart_mid in
        left-trans (seen new now q) (seen all_sent now q) (cond (eq q key) (Some value) (seen old now q)) (maintained now all_sent new apart_sent (i.takes on) now q)
        (left-trans (seen all_sent now q) (seen mid now q) (cond (eq q key) (Some value) (seen old now q)) (inl (ap (option_map (λ e. e.value)) (sending_keeps_visible K V P S R eq answers roomy.next_ticket mid now q)))
        of_key)
  ]
    where
      roomy : State K V P S R
      roomy = with_room old

      mid : State K V P S R
      mid = written answers eq roomy key hash value now step

      sound_roomy : IsSound roomy
      sound_roomy = (calls_stay_sound K V P S R).room old sound

      of_key : Left (seen mid now q) (cond (eq q key) (Some value) (seen old now q))
      of_key = cond_both (eq q key) _ _ (Left (seen mid now q))
          (λ t. subst (λ k. Left (seen mid now k) (Some value)) (sym (equal q key t)) (written-own roomy key hash value now step now sound_roomy))
          (λ t. inl (ap (option_map (λ e. e.value)) ((only_writes_show K V P S R).written eq laws answers roomy key hash value now step now q sound_roomy t)))

  -- ---- a removal

  -- a key was removed: it shows nothing, others what they showed, or nothing
  pub takes_out : (key : K) (now : ℕ) (old new : State K V P S R) → IsSound old → AreApart eq (held_entries old.records) → TakesOut answers eq key now old new → (q : K)
      → Left (seen new now q) (cond (eq q key) None (seen old now q))
  takes_out key now old new sound apart takes q = go (held_at eq old.records key) refl takes
    where
      f : Record K V → Record K V
      f x = record x { is_held = false; writes = x.writes + 1 }

      absent : held_at eq old.records key ≡ None → new ≡ old → Left (seen new now q) (cond (eq q key) None (seen old now q))
      absent none same = cond_both (eq q key) _ _ (Left (seen new now q))
          (λ t. inr (ap (λ s. seen s now q) same ∙ ap (λ k. seen old now k) (equal q key t) ∙ ap (seen_of old now) none))
          (λ _. inl (ap (λ s. seen s now q) same))

      of_key : (r : Record K V) → held_at eq old.records key ≡ Some r → Left (seen (with_removed (Some r) old) now q) (cond (eq q key) None (seen old now q))
      of_key r some =
          let mid = with_removed (Some r) old in
          let shows = (only_writes_show K V P S R).removed eq laws answers old key now q apart in
          cond_both (eq q key) _ _ (Left (seen mid now q))
          (λ t. inr (ap (λ k. seen mid now k) (equal q key t) ∙ ap (seen_of mid now) (gone-at eq equal key f old.records r (λ x. refl) (to-records eq old.records apart) sound.records.numbered some)))
          (λ _. left-map (λ e. e.value) (visible answers eq mid now q) (visible answers eq old now q)
          (subst (λ (o : Option (Record K V)). Left (visible answers eq (with_removed o old) now q) (visible answers eq old now q)) some shows))

      go : (o : Option (Record K V)) → held_at eq old.records key ≡ o → MatchOption o (new ≡ old) (λ r. MaintainsIfDue answers now (taken_out answers r now old) new) → Left (seen new now q) (cond (eq q key) None (seen old now q))
      go None none same = absent none same
      go (Some r) some m =
          let out = taken_out answers r now old in
          let mid = with_removed (Some r) old in
          let apart_mid : AreApart eq (held_entries mid.records) = subst (λ (o : Option (Record K V)). AreApart eq (held_entries (with_removed o old).records)) some ((calls_keep_apart K V P S R).removed eq laws key old apart) in
          let apart_out : AreApart eq (held_entries out.records) = subst (λ (rs : List (Record K V)). AreApart eq (held_entries rs)) (sym (sent-records old.next_ticket mid)) apart_mid in
          left-trans (seen new now q) (seen out now q) (cond (eq q key) None (seen old now q)) (maintained now out new apart_out m now q)
          (left-trans (seen out now q) (seen mid now q) (cond (eq q key) None (seen old now q)) (inl (ap (option_map (λ e. e.value)) (sending_keeps_visible K V P S R eq answers old.next_ticket mid now q)))
          (of_key r some))

  -- ---- a look-up

  -- a record after a run that was due was there before it
  came : (now : ℕ) (old mid : State K V P S R) → IsSound old → old.unsent ≡ [] → MaintainsIfDue answers now old mid → (q : K) (x : Record K V) → held_at eq mid.records q ≡ Some x → ComesFrom old.records x
  came now old mid sound sent_all m q x at = elim (ran_if_due answers now old mid m) [
    | inl run ↦ (held_at-each (ComesFrom old.records) eq mid.records q x (run-leaves answers now old mid sound sent_all run.runs).from at).0
    | inr same ↦ record {
      owner = x;
      there = held_at-only eq old.records q x sound.records.numbered (sym (ap (λ s. held_at eq s.records q) same) ∙ at);
      number = refl;
      entry = refl;
      held = refl;
    }
  ]

  -- a visible record
  passed : (s : State K V P S R) (moment : ℕ) (o : Option (Record K V)) (r : Record K V) → passing (λ r. is_visible answers s moment r.entry) o ≡ Some r → o ≡ Some r
  passed s moment None r e = absurd (none-some r e)
  passed s moment (Some x) r e = ap Some (cond_some _ x r e).1

  -- each key shows what it showed, or nothing
  pub looked : (key : K) (hash now : ℕ) (old new : State K V P S R) → IsSound old → old.unsent ≡ [] → AreApart eq (held_entries old.records) → NotesLookUp answers eq key hash now false old new → (q : K) → Left (seen new now q) (seen old now q)
  looked key hash now old new sound sent_all apart h q = go (visible_record answers eq old now key) refl h.reads
    where
      run : Left (seen h.mid now q) (seen old now q)
      run = maintained now old h.mid apart h.maintains now q

      go : (o : Option (Record K V)) → visible_record answers eq old now key ≡ o → new ≡ with_read answers o hash now h.mid → Left (seen new now q) (seen old now q)
      go None none is = left-trans (seen new now q) (seen h.mid now q) (seen old now q) (inl (ap (λ s. seen s now q) is)) run
      go (Some r) found is = elim (found-changed eq r.number f (λ x. refl) (λ x. refl) h.mid.records q) [
        | inl same ↦ left-trans (seen new now q) (seen h.mid now q) (seen old now q) (inl (ap (λ s. seen s now q) is ∙ ap (seen_of h.mid now) same)) run
        | inr k ↦ left-some (seen new now q) (seen old now q) (λ v e. used k.0 k.1 k.2 k.3 v e)
      ]
        where
          f : Record K V → Record K V
          f x = record x { entry = used_entry answers h.mid now x.entry }

          used : (x : Record K V) → held_at eq h.mid.records q ≡ Some x → x.number ≡ r.number → held_at eq (changed_at r.number f h.mid.records) q ≡ Some (f x) → (v : V) → seen new now q ≡ Some v → seen old now q ≡ Some v
          used x at number at_new v e =
              let there = passed old now (held_at eq old.records key) r found in
              let from = came now old h.mid sound sent_all h.maintains q x at in
              let owner_is : from.owner ≡ r = same_Some from.owner r (sym from.there ∙ ap (record_at old.records) (from.number ∙ number) ∙ held_at-only eq old.records key r sound.records.numbered there) in
              let entry_is : x.entry ≡ r.entry = sym from.entry ∙ ap (λ (y : Record K V). y.entry) owner_is in
              let q_is : q ≡ key = equal q x.entry.key (held_at-match eq h.mid.records q x at) ∙ ap (λ (y : Entry K V). y.key) entry_is ∙ sym (equal key r.entry.key (held_at-match eq old.records key r there)) in
              let z = seen-held h.mid now (Some (f x)) v (sym (ap (λ s. seen s now q) is ∙ ap (seen_of h.mid now) at_new) ∙ e) in
              let value_is : r.entry.value ≡ v = sym (ap (λ (y : Entry K V). y.value) entry_is) ∙ ap (λ (y : Record K V). y.entry.value) (same_Some (f x) z.0 z.1) ∙ z.2 in
              ap (λ k. seen old now k) q_is ∙ ap (option_map (λ e. e.value)) (ap (option_map (λ (y : Record K V). y.entry)) found) ∙ ap Some value_is

  -- ---- a clear, and time

  -- what was written at earlier steps is not seen
  pub clears : (step last : ℕ) (s : State K V P S R) → Each (λ r. r.entry.step ≤ last) s.records → last < step → (moment : ℕ) (q : K) → seen (cleared_by step s) moment q ≡ None
  clears step last s low below moment q = go (held_at eq s.records q) refl
    where
      go : (o : Option (Record K V)) → held_at eq s.records q ≡ o → seen_of (cleared_by step s) moment o ≡ None
      go None is = refl
      go (Some r) is =
          let early = (held_at-each (λ (x : Record K V). x.entry.step ≤ last) eq s.records q r low is).0 in
          let under : r.entry.step < max s.cleared step = omega arith in
          let covered : is_covered answers (cleared_by step s) r.entry ≡ true = ap (λ b. b || list_any (λ p. is_covered_by answers s.rules p r.entry) s.predicates) (lt-ltb r.entry.step (max s.cleared step) under) in
          ap (λ b. shown_of b r) (ap (λ c. not (has_come s.settings moment r.entry) && not c) covered ∙ and-false (not (has_come s.settings moment r.entry)))

  -- what is seen later was seen before
  pub passes : (s : State K V P S R) (first later : ℕ) → first ≤ later → (q : K) → Left (seen s later q) (seen s first q)
  passes s first later before q = go (held_at eq s.records q)
    where
      go : (o : Option (Record K V)) → Left (seen_of s later o) (seen_of s first o)
      go None = inl refl
      go (Some r) = grind (arith, sooner (deadline_of s.settings r.entry) first later before)
