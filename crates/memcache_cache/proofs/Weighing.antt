-- What items weigh together.
use Rattle.std.proofs.Common.{inl, inr, ◌≡◌, ℕ, suc, ◌+◌, ◌≤◌, arith, Bool, true, false, true≢false, cond, List, [], ◌∷◌, map, length, Option, Some, None, ⊎_elim, refl, sym, ap, subst, ◌∙◌, eqb}
use Rattle.std.proofs.lemmas.Bool.{cases_Bool, cases_eq, cond_both, ltb-false, or_left, or_parts, or_right}
use Rattle.std.proofs.lemmas.Slice.Eq.{bytes_eq-Decides}
use Rattle.std.specs.List.{list_any}
use Rattle.std.specs.Option.{option_map, option_map_or}
use Rattle.std.specs.Prelude.{MatchOption, unwrap_or}
use Rattle.engine_reference.specs.declared.data.Record.{Record}
use Rattle.engine_reference.specs.declared.data.Unsent.{Unsent}
use Rattle.engine_reference.specs.declared.data.Write.{Write}
use Rattle.engine_reference.specs.declared.data.Write.TheVariants.{Put, Removed}
use Rattle.engine_reference.specs.Admission.{is_above}
use Rattle.engine_reference.specs.Calls.{MaintainsIfDue, first_entry, next_entry, sent, unsent_at, used_entry, with_read, with_removed, with_room, with_sent, with_written, written}
use Rattle.engine_reference.specs.Records.{admitted_weight, changed_at, held_at, record_at, weight_at}
use Rattle.engine_reference.specs.RunLaws.Points.{IsInOrder}
use Rattle.engine_reference.specs.Scanning.{NotesLookUp}
use Rattle.engine_reference.specs.Soundness.{Each, IsAccounted, IsIn, IsLastOf, IsSound, number_of}
use Rattle.engine_reference.specs.State.{Answers, State}
use Rattle.engine_reference.specs.Visible.{is_visible, passing, visible_record, visible_value}
use Rattle.engine_reference.proofs.SoundCalls.{calls_stay_sound, each-push, held_at-each, held_at-only}
use Rattle.engine_reference.proofs.run_laws.Fewer.{weight-cons}
use Rattle.engine_reference.proofs.run_laws.Shown.{held_at-match}
use Rattle.engine_reference.proofs.run_laws.Swept.{each-run}
use Rattle.front_reference.specs.Parts.{Inserts, TakesOut, taken_out, takes_nothing}
use Rattle.memcache_cache.proofs.Parts.{ran_if_due}
use Rattle.std.specs.Str.{bytes_eq}
use Rattle.memcache_model.specs.Items.{Item}
use Rattle.memcache_service.specs.Shelves.{AreBeside}

-- ---- each record has the weight of its item

module _ {K V : Type 0} (weigh : K → V → ℕ) where
  abbrev pub IsWeighed : Record K V → Type 0
  IsWeighed r = r.entry.weight ≡ weigh r.entry.key r.entry.value

  abbrev pub AreWeighed : {P S R : Type 0} → State K V P S R → Type 0
  AreWeighed s = Each IsWeighed s.records

  kept-at : (n : ℕ) (f : Record K V → Record K V) → ((r : Record K V) → IsWeighed r → IsWeighed (f r)) → (rs : List (Record K V)) → Each IsWeighed rs → Each IsWeighed (changed_at n f rs)
  kept-at n f keeps [] h = tt
  kept-at n f keeps (r ∷ rs) h = cond_both (eqb r.number n) _ _ (Each IsWeighed) (λ _. (keeps r h.0, h.1)) (λ _. (h.0, kept-at n f keeps rs h.1))

module _ {K V P S R : Type 0} (answers : Answers K V P R) (eq : K → K → Bool) (weigh : K → V → ℕ) (weighs : (rules : R) (key : K) (value : V) → answers.weight_of rules key value ≡ weigh key value) where
  run-weighed : (now : ℕ) (old new : State K V P S R) → IsSound old → MaintainsIfDue answers now old new → AreWeighed weigh old → AreWeighed weigh new
  run-weighed now old new sound m h = elim (ran_if_due answers now old new m) [
    | inl run ↦ each-run (IsWeighed weigh) (λ r applied counts k. k) answers now old new sound h run.runs
    | inr is ↦ subst (λ t. AreWeighed weigh t) (sym is) h
  ]

  sent-weighed : (ticket : ℕ) (s : State K V P S R) → AreWeighed weigh s → AreWeighed weigh (sent ticket s)
  sent-weighed ticket s h = go (unsent_at s.unsent ticket)
    where
      go : (o : Option Write) → AreWeighed weigh (with_sent ticket o s)
      go None = h
      go (Some w) = h

  written-weighed : (s : State K V P S R) (key : K) (hash : ℕ) (value : V) (now step : ℕ) → AreWeighed weigh s → AreWeighed weigh (written answers eq s key hash value now step)
  written-weighed s key hash value now step h = go (held_at eq s.records key)
    where
      go : (o : Option (Record K V)) → AreWeighed weigh (with_written answers o s key hash value now step)
      go None = each-push (IsWeighed weigh) s.records (record { number = s.next_number; hash = hash; entry = first_entry answers s key value now step; is_held = true; writes = 1; applied = 0; counts = None }) h (weighs s.rules key value)
      go (Some r) = kept-at weigh r.number (λ x. record x { entry = next_entry answers s r.entry key value now step; writes = x.writes + 1 }) (λ x k. weighs s.rules key value) s.records h

  removed-weighed : (o : Option (Record K V)) (s : State K V P S R) → AreWeighed weigh s → AreWeighed weigh (with_removed o s)
  removed-weighed None s h = h
  removed-weighed (Some r) s h = kept-at weigh r.number (λ x. record x { is_held = false; writes = x.writes + 1 }) (λ x k. k) s.records h

  pub inserts-weighed : (key : K) (hash : ℕ) (value : V) (now step : ℕ) (old new : State K V P S R) → IsSound old → Inserts answers eq key hash value now step old new → AreWeighed weigh old → AreWeighed weigh new
  inserts-weighed key hash value now step old new sound i h = elim (cases_Bool (takes_nothing old.settings.capacity)) [
    | inl off ↦ subst (λ t. AreWeighed weigh t) (sym (i.off off)) h
    | inr on ↦ run-weighed now (sent roomy.next_ticket mid) new ((calls_stay_sound K V P S R).sent roomy.next_ticket mid sound_mid) (i.takes on) (sent-weighed roomy.next_ticket mid (written-weighed roomy key hash value now step h))
  ]
    where
      roomy : State K V P S R
      roomy = with_room old

      mid : State K V P S R
      mid = written answers eq roomy key hash value now step

      sound_mid : IsSound mid
      sound_mid = (calls_stay_sound K V P S R).written eq answers roomy key hash value now step ((calls_stay_sound K V P S R).room old sound)

  pub takes_out-weighed : (key : K) (now : ℕ) (old new : State K V P S R) → IsSound old → TakesOut answers eq key now old new → AreWeighed weigh old → AreWeighed weigh new
  takes_out-weighed key now old new sound takes h = go (held_at eq old.records key) refl takes
    where
      go : (o : Option (Record K V)) → held_at eq old.records key ≡ o → MatchOption o (new ≡ old) (λ r. MaintainsIfDue answers now (taken_out answers r now old) new) → AreWeighed weigh new
      go None none is = subst (λ t. AreWeighed weigh t) (sym is) h
      go (Some r) some m =
          let mid = with_removed (Some r) old in
          let sound_mid : IsSound mid = subst (λ (o : Option (Record K V)). IsSound (with_removed o old)) some ((calls_stay_sound K V P S R).removed eq key old sound) in
          let all_sent = sent old.next_ticket mid in
          let sound_out = (calls_stay_sound K V P S R).removal_told answers r.entry now all_sent ((calls_stay_sound K V P S R).sent old.next_ticket mid sound_mid) in
          let weighed_out : AreWeighed weigh (taken_out answers r now old) = sent-weighed old.next_ticket mid (removed-weighed (Some r) old h) in
          run-weighed now (taken_out answers r now old) new sound_out m weighed_out

  pub looks-weighed : (key : K) (hash now : ℕ) (old new : State K V P S R) → IsSound old → NotesLookUp answers eq key hash now false old new → AreWeighed weigh old → AreWeighed weigh new
  looks-weighed key hash now old new sound looks h = go (visible_record answers eq old now key) looks.reads
    where
      ran : AreWeighed weigh looks.mid
      ran = run-weighed now old looks.mid sound looks.maintains h

      go : (o : Option (Record K V)) → new ≡ with_read answers o hash now looks.mid → AreWeighed weigh new
      go None is = subst (λ t. AreWeighed weigh t) (sym is) ran
      go (Some r) is = subst (λ t. AreWeighed weigh t) (sym is) (kept-at weigh r.number (λ x. record x { entry = used_entry answers looks.mid now x.entry }) (λ x k. k) looks.mid.records ran)

-- ---- keys

bytes_eq-self : (key : List ℕ) → bytes_eq key key ≡ true
bytes_eq-self key = (bytes_eq-Decides key key).1 refl

bytes_eq-is : (a b : List ℕ) → bytes_eq a b ≡ true → a ≡ b
bytes_eq-is a b e = (bytes_eq-Decides a b).0 e

-- so much for a key, nothing for others
abbrev hit : List ℕ → ℕ → List ℕ → ℕ
hit k w key = cond (bytes_eq key k) w 0

abbrev pub total : (List ℕ → ℕ) → List (List ℕ) → ℕ
total f [] = 0
total f (key ∷ keys) = f key + total f keys

no-hits : (k : List ℕ) (w : ℕ) (others keys : List (List ℕ)) → list_any (bytes_eq k) others ≡ true → AreBeside others keys → total (hit k w) keys ≡ 0
no-hits k w others [] among beside = refl
no-hits k w others (key ∷ keys) among beside =
    let rest = no-hits k w (key ∷ others) keys (or_right (bytes_eq k key) (list_any (bytes_eq k) others) among) beside.1 in
    cond_both (bytes_eq key k) _ _ (λ n. n + total (hit k w) keys ≡ 0)
    (λ t. absurd (true≢false (sym among ∙ ap (λ z. list_any (bytes_eq z) others) (sym (bytes_eq-is key k t)) ∙ beside.0))) (λ _. omega (arith, rest))

one-hit : (k : List ℕ) (w : ℕ) (others keys : List (List ℕ)) → AreBeside others keys → total (hit k w) keys ≤ w
one-hit k w others [] beside = omega arith
one-hit k w others (key ∷ keys) beside = cond_both (bytes_eq key k) _ _ (λ n. n + total (hit k w) keys ≤ w)
    (λ t. (let among : list_any (bytes_eq k) (key ∷ others) ≡ true = or_left (bytes_eq k key) (list_any (bytes_eq k) others) (ap (λ z. bytes_eq k z) (bytes_eq-is key k t) ∙ bytes_eq-self k) in
    let none = no-hits k w (key ∷ others) keys among beside.1 in
    omega (arith, none)))
    (λ _. (let rest = one-hit k w (key ∷ others) keys beside.1 in omega (arith, rest)))

added : (f g h : List ℕ → ℕ) → ((key : List ℕ) → f key ≤ g key + h key) → (keys : List (List ℕ)) → total f keys ≤ total g keys + total h keys
added f g h each [] = omega arith
added f g h each (key ∷ keys) = let one = each key in let more = added f g h each keys in omega (arith, one, more)

none-together : (f : List ℕ → ℕ) → ((key : List ℕ) → f key ≡ 0) → (keys : List (List ℕ)) → total f keys ≤ 0
none-together f none [] = omega arith
none-together f none (key ∷ keys) = let one = none key in let more = none-together f none keys in omega (arith, one, more)

at-most : (f g : List ℕ → ℕ) (waiting others keys : List (List ℕ)) → ((key : List ℕ) → list_any (bytes_eq key) others ≡ false → list_any (bytes_eq key) waiting ≡ false)
    → ((key : List ℕ) → list_any (bytes_eq key) waiting ≡ false → f key ≤ g key) → AreBeside others keys → total f keys ≤ total g keys
at-most f g waiting others [] less each beside = omega arith
at-most f g waiting others (key ∷ keys) less each beside =
    let one = each key (less key beside.0) in
    let more = at-most f g waiting (key ∷ others) keys (λ k e. less k (or_parts (bytes_eq k key) (list_any (bytes_eq k) others) e).1) each beside.1 in
    omega (arith, one, more)

module _ {V : Type 0} where
  -- what counts of a key
  abbrev counted : List (Record (List ℕ) V) → List ℕ → ℕ
  counted rs key = option_map_or weight_at (held_at bytes_eq rs key) 0

  counts-one : (r : Record (List ℕ) V) (rs : List (Record (List ℕ) V)) (key : List ℕ) → counted (r ∷ rs) key ≤ hit r.entry.key (weight_at r) key + counted rs key
  counts-one r rs key = grind arith

  -- the keys' records count at most as much as all
  counts-all : (rs : List (Record (List ℕ) V)) (others keys : List (List ℕ)) → AreBeside others keys → total (counted rs) keys ≤ admitted_weight rs
  counts-all [] others keys beside = none-together _ (λ key. refl) keys
  counts-all (r ∷ rs) others keys beside =
      let more = added (counted (r ∷ rs)) (hit r.entry.key (weight_at r)) (counted rs) (counts-one r rs) keys in
      let one = one-hit r.entry.key (weight_at r) others keys beside in
      let rest = counts-all rs others keys beside in
      let all = weight-cons r rs in
      omega (arith, more, one, rest, all)

  -- ---- the keys whose writes wait

  abbrev with_key : Option (Record (List ℕ) V) → List (List ℕ) → List (List ℕ)
  with_key None keys = keys
  with_key (Some r) keys = r.entry.key ∷ keys

  abbrev pub waiting_of : List (Record (List ℕ) V) → List Write → List (List ℕ)
  waiting_of rs [] = []
  waiting_of rs (w ∷ ws) = with_key (record_at rs (number_of w)) (waiting_of rs ws)

  pub waiting-few : (rs : List (Record (List ℕ) V)) (ws : List Write) → length (waiting_of rs ws) ≤ length ws
  waiting-few rs [] = omega arith
  waiting-few rs (w ∷ ws) = go (record_at rs (number_of w)) (waiting-few rs ws)
    where
      go : (o : Option (Record (List ℕ) V)) → length (waiting_of rs ws) ≤ length ws → length (with_key o (waiting_of rs ws)) ≤ suc (length ws)
      go None less = omega (arith, less)
      go (Some r) less = omega (arith, less)

  waits-among : (rs : List (Record (List ℕ) V)) (ws : List Write) (w : Write) (r : Record (List ℕ) V) → IsIn w ws → record_at rs (number_of w) ≡ Some r → list_any (bytes_eq r.entry.key) (waiting_of rs ws) ≡ true
  waits-among rs [] w r is there = absurd is
  waits-among rs (y ∷ ys) w r is there = ⊎_elim first (λ k. later (record_at rs (number_of y)) (waits-among rs ys w r k there)) is
    where
      first : y ≡ w → list_any (bytes_eq r.entry.key) (with_key (record_at rs (number_of y)) (waiting_of rs ys)) ≡ true
      first e =
          subst (λ (o : Option (Record (List ℕ) V)). list_any (bytes_eq r.entry.key) (with_key o (waiting_of rs ys)) ≡ true) (sym there ∙ ap (λ z. record_at rs (number_of z)) (sym e))
          (or_left (bytes_eq r.entry.key r.entry.key) (list_any (bytes_eq r.entry.key) (waiting_of rs ys)) (bytes_eq-self r.entry.key))

      later : (o : Option (Record (List ℕ) V)) → list_any (bytes_eq r.entry.key) (waiting_of rs ys) ≡ true → list_any (bytes_eq r.entry.key) (with_key o (waiting_of rs ys)) ≡ true
      later None rest = rest
      later (Some z) rest = or_right (bytes_eq r.entry.key z.entry.key) (list_any (bytes_eq r.entry.key) (waiting_of rs ys)) rest

last-number : {K V : Type 0} (w : Write) (r : Record K V) → IsLastOf w r → number_of w ≡ r.number
last-number (Put u) r last = last.0
last-number (Removed n) r last = last.0

module _ {P S R : Type 0} (answers : Answers (List ℕ) Item P R) (weigh : List ℕ → Item → ℕ) (weighs : (rules : R) (key : List ℕ) (value : Item) → answers.weight_of rules key value ≡ weigh key value) where
  -- a key beside those that wait shows no more than what counts of it
  shown-counted : (s : State (List ℕ) Item P S R) → IsSound s → s.unsent ≡ [] → AreWeighed weigh s → (moment : ℕ) (key : List ℕ) → list_any (bytes_eq key) (waiting_of s.records s.writes) ≡ false
      → option_map_or (weigh key) (visible_value answers bytes_eq s moment key) 0 ≤ counted s.records key
  shown-counted s sound none weighed moment key beside = go (held_at bytes_eq s.records key) refl
    where
      settled : (r : Record (List ℕ) Item) → held_at bytes_eq s.records key ≡ Some r → key ≡ r.entry.key → r.counts ≡ Some r.entry.weight
      settled r at is =
          let accounted = (held_at-each (IsAccounted s.unsent s.writes) bytes_eq s.records key r sound.records.accounted at).0 in
          elim (cases_eq r.applied r.writes) [
            | inl e ↦ (accounted.counts e).1
            | inr behind ↦
                let waits = accounted.waits behind in
                let inside : IsIn waits.0 s.writes = ⊎_elim (λ k. absurd (subst (λ (us : List Unsent). IsIn waits.0 (map (λ u. u.write) us)) none k)) (λ k. k) waits.1 in
                let there = ap (record_at s.records) (last-number waits.0 r waits.2) ∙ held_at-only bytes_eq s.records key r sound.records.numbered at in
                let among = waits-among s.records s.writes waits.0 r inside there in
                absurd (true≢false (sym among ∙ ap (λ z. list_any (bytes_eq z) (waiting_of s.records s.writes)) (sym is) ∙ beside))
          ]

      go : (o : Option (Record (List ℕ) Item)) → held_at bytes_eq s.records key ≡ o → option_map_or (weigh key) (option_map (λ e. e.value) (option_map (λ (x : Record (List ℕ) Item). x.entry) (passing (λ r. is_visible answers s moment r.entry) o))) 0 ≤ option_map_or weight_at o 0
      go None at = omega arith
      go (Some r) at =
          let is = bytes_eq-is key r.entry.key (held_at-match bytes_eq s.records key r at) in
          let counts = settled r at is in
          let weight = (held_at-each (IsWeighed weigh) bytes_eq s.records key r weighed at).0 in
          let all : weight_at r ≡ weigh key r.entry.value = ap (λ o. unwrap_or o 0) counts ∙ weight ∙ ap (λ z. weigh z r.entry.value) (sym is) in
          grind (arith, all)

  -- beside those that wait all that a part shows weighs at most its capacity
  pub shown-within : (s : State (List ℕ) Item P S R) (capacity : ℕ) → IsInOrder s → s.unsent ≡ [] → s.settings.capacity ≡ Some capacity → AreWeighed weigh s → (moment : ℕ) (keys : List (List ℕ))
      → AreBeside (waiting_of s.records s.writes) keys → total (λ key. option_map_or (weigh key) (visible_value answers bytes_eq s moment key) 0) keys ≤ capacity
  shown-within s capacity order none is weighed moment keys beside =
      let waiting = waiting_of s.records s.writes in
      let less = at-most (λ key. option_map_or (weigh key) (visible_value answers bytes_eq s moment key) 0) (counted s.records) waiting waiting keys (λ key e. e) (λ key e. shown-counted s order.sound none weighed moment key e) beside in
      let all = counts-all s.records waiting keys beside in
      let within = ltb-false capacity (admitted_weight s.records) (sym (ap (λ o. is_above o (admitted_weight s.records)) is) ∙ order.within) in
      omega (arith, less, all, within)
