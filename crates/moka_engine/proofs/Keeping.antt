-- Each call keeps a cache well kept.
use Rattle.std.proofs.Common.{◌≡◌, refl, ap, sym, ◌∙◌, subst, ℕ, ◌+◌, ◌-◌, ◌<◌, ◌≤◌, ◌^◌, arith, Bool, true, false, cond, not, ◌&&◌, eqb, List, [], ◌∷◌, ◌++◌, Option, Some, None, ◌⊎◌, inl, inr}
use Rattle.std.specs.Prelude.{Result, Ok, Err, IfOk, OnErr, MatchBool, is_some}
use Rattle.std.proofs.Math.Logic.{∥∥₁_map, ∥∥₁_elim}
use Rattle.std.proofs.Props.{props}
use Rattle.engine_reference.specs.declared.data.Notice.{Notice}
use Rattle.engine_reference.specs.declared.data.Record.{Record}
use Rattle.engine_reference.specs.declared.data.Registered.{Registered}
use Rattle.engine_reference.specs.declared.data.Settings.{Settings}
use Rattle.engine_reference.specs.declared.data.Write.{Write}
use Rattle.engine_reference.specs.Calls.{IsNew, MaintainsIfDue, sent, with_sent, unsent_at, written, with_written, with_removed, with_removal_room, with_reserved_removal, removal_rooms, taken_out, with_read, first_entry, next_entry, used_entry}
use Rattle.engine_reference.specs.Records.{held_at, record_at, changed_at}
use Rattle.engine_reference.specs.Runs.{RunsToEnd, is_due}
use Rattle.engine_reference.specs.Soundness.{IsSound, AreNumbered}
use Rattle.engine_reference.specs.State.{State, Answers}
use Rattle.engine_reference.proofs.HeldRecords.{record_at-number}
use Rattle.engine_reference.proofs.RestKept.{run-rest}
use Rattle.engine_reference.proofs.SoundCalls.{calls_stay_sound, used-sound}
use Rattle.engine_reference.proofs.SoundSteps.{runs_stay_sound}
use Rattle.engine_reference.proofs.run_laws.Fronting.{each-at}
use Rattle.engine_reference.proofs.run_laws.Swept.{changed-from}
use Rattle.engine_cells.specs.Kept.{Kept}
use Rattle.engine_calls.specs.Bounds.{IsBounded, AreBounded}
use Rattle.engine_calls.specs.Finding.{WasFound}
use Rattle.moka_engine.specs.Keeping.{IsWellKept, NotesRead}
use Rattle.moka_engine.proofs.RunsKeep.{IsSame, ComeFrom, run-keeps}

-- what was found was found by some hash
pub found_so : {K V P S R : Type 0} (t : Kept K V P S R) (hash : ℕ) (place : Option ℕ) (o : Option (Record K V)) → WasFound t hash place o → (h : ℕ) × (p : Option (Record K V)) × WasFound t h place p
found_so t hash place o w = (hash, o, w)

-- what keeps a cache sound
pub kept_sound : {K V P S R : Type 0} (s : State K V P S R) → IsWellKept s → ∥ IsSound s ∥₁
kept_sound s k = k.sound

both-true : (a b : Bool) → (a && b) ≡ true → (a ≡ true) × (b ≡ true)
both-true true b h = (refl, h)
both-true false b h = absurd (cc)

none-of : {X : Type 0} (o : Option X) → not (is_some o) ≡ true → o ≡ None
none-of None h = refl
none-of (Some x) h = absurd (cc)

module _ {K V : Type 0} where
  -- ---- no number twice, as a test

  abbrev are-numbered : List (Record K V) → Bool
  are-numbered [] = true
  are-numbered (r ∷ rs) = not (is_some (record_at rs r.number)) && are-numbered rs

  numbered-to : (rs : List (Record K V)) → AreNumbered rs → are-numbered rs ≡ true
  numbered-to [] h = refl
  numbered-to (r ∷ rs) h = ap (λ o. not (is_some o) && are-numbered rs) h.0 ∙ numbered-to rs h.1

  numbered-back : (rs : List (Record K V)) → are-numbered rs ≡ true → AreNumbered rs
  numbered-back [] h = tt
  numbered-back (r ∷ rs) h = let p = both-true (not (is_some (record_at rs r.number))) (are-numbered rs) h in (none-of (record_at rs r.number) p.0, numbered-back rs p.1)

  -- ---- bounds

  -- a record with the bounds of fewer tickets
  more-tickets : (tickets later : ℕ) (r : Record K V) → tickets ≤ later → IsBounded tickets r → IsBounded later r
  more-tickets tickets later r le h = let w = h.writes in record { writes = omega arith; written = h.written }

  abbrev AreBoundedBy : ℕ → List (Record K V) → Type 0
  AreBoundedBy tickets rs = (number : ℕ) (r : Record K V) → record_at rs number ≡ Some r → IsBounded tickets r

  -- the record of a number changes within bounds
  bounded-changed : (tickets later m : ℕ) (change : Record K V → Record K V) → ((x : Record K V) → (change x).number ≡ x.number) → tickets ≤ later
      → ((x : Record K V) → IsBounded tickets x → IsBounded later (change x)) → (rs : List (Record K V)) → AreBoundedBy tickets rs → AreBoundedBy later (changed_at m change rs)
  bounded-changed tickets later m change same le keeps rs h n r e =
      let p = changed-from m n change same rs r e in
      let b = h n p.0 p.1 in
      elim p.2 [
        | inl is ↦ subst (λ y. IsBounded later y) (sym is) (more-tickets tickets later p.0 le b)
        | inr is ↦ subst (λ y. IsBounded later y) (sym is) (keeps p.0 b)
      ]

  pushed-from : (rs : List (Record K V)) (x : Record K V) (n : ℕ) (r : Record K V) → record_at (rs ++ x ∷ []) n ≡ Some r → (record_at rs n ≡ Some r) ⊎ (r ≡ x)
  pushed-from [] x n r e = go (eqb x.number n) e
    where
      go : (c : Bool) → cond c (Some x) None ≡ Some r → (None ≡ Some r) ⊎ (r ≡ x)
      go true e = inr (let same : r ≡ x = cc in same)
      go false e = inl e
  pushed-from (y ∷ rs) x n r e = go (eqb y.number n) e (pushed-from rs x n r)
    where
      go : (c : Bool) → cond c (Some y) (record_at (rs ++ x ∷ []) n) ≡ Some r → (record_at (rs ++ x ∷ []) n ≡ Some r → (record_at rs n ≡ Some r) ⊎ (r ≡ x)) → (cond c (Some y) (record_at rs n) ≡ Some r) ⊎ (r ≡ x)
      go true e later = inl e
      go false e later = later e

  bounded-push : (tickets later : ℕ) (rs : List (Record K V)) (x : Record K V) → tickets ≤ later → IsBounded later x → AreBoundedBy tickets rs → AreBoundedBy later (rs ++ x ∷ [])
  bounded-push tickets later rs x le b h n r e = elim (pushed-from rs x n r e) [
    | inl f ↦ more-tickets tickets later r le (h n r f)
    | inr is ↦ subst (λ y. IsBounded later y) (sym is) b
  ]

  same-bounds : (tickets : ℕ) (o r : Record K V) → IsSame o r → IsBounded tickets o → IsBounded tickets r
  same-bounds tickets o r same b = record { writes = subst (λ n. n ≤ tickets) (sym same.writes) b.writes; written = subst (λ e. e.written < 2 ^ 64 - 1) (sym same.entry) b.written }

one-more : (n m : ℕ) → n ≤ m → n + 1 ≤ m + 1
one-more n m h = omega arith

module _ {K V P S R : Type 0} where
  pub numbered-from : (s : State K V P S R) → ∥ IsSound s ∥₁ → AreNumbered s.records
  numbered-from s h = numbered-back s.records (∥∥₁_elim h (Prim.hlevel props) (λ k. numbered-to s.records k.records.numbered))

  -- a number that is there was given
  pub made-before : (s : State K V P S R) → ∥ IsSound s ∥₁ → (n : ℕ) (r : Record K V) → record_at s.records n ≡ Some r → n < s.next_number
  made-before s h n r there = ∥∥₁_elim h (Prim.hlevel props) (λ k. subst (λ m. m < s.next_number) (record_at-number s.records n r there) (each-at (λ x. x.number < s.next_number) s.records n r k.records.below there))

  -- ---- what keeps a cache well

  pub well-as : (new mid : State K V P S R) → new ≡ mid → IsWellKept mid → IsWellKept new
  well-as new mid e h = subst (λ s. IsWellKept s) (sym e) h

  -- after a call of tables that leaves them as they were, or makes well kept ones of them; they say it of their state, or of all that they show
  pub well-call : {X E : Type 0} (result : Result X E) (old new : Kept K V P S R) (made : X → State K V P S R) → IfOk result (λ x. new.state ≡ made x) → OnErr result (new ≡ old)
      → ((x : X) → IsWellKept old.state → IsWellKept (made x)) → IsWellKept old.state → IsWellKept new.state
  well-call (Ok x) old new made ok err keeps h = well-as new.state (made x) ok (keeps x h)
  well-call (Err e) old new made ok err keeps h = well-as new.state old.state (ap (λ (t : Kept K V P S R). t.state) err) h

  pub well-whole : {X E : Type 0} (result : Result X E) (old new : Kept K V P S R) (made : X → State K V P S R) → IfOk result (λ x. new ≡ record old { state = made x }) → OnErr result (new ≡ old)
      → ((x : X) → IsWellKept old.state → IsWellKept (made x)) → IsWellKept old.state → IsWellKept new.state
  well-whole (Ok x) old new made ok err keeps h = well-as new.state (made x) (ap (λ (t : Kept K V P S R). t.state) ok) (keeps x h)
  well-whole (Err e) old new made ok err keeps h = well-as new.state old.state (ap (λ (t : Kept K V P S R). t.state) err) h

  pub well-empty : (name : Option (List ℕ)) (settings : Settings) (hasher : S) (rules : R) (s : State K V P S R) → IsNew name settings hasher rules s → IsWellKept s
  well-empty name settings hasher rules s h = record {
    sound = ∣ (calls_stay_sound K V P S R).empty s h.records h.access h.unsent h.writes ∣₁;
    bounded = λ n r e. absurd (let none : None ≡ Some r = sym (ap (λ rs. record_at rs n) h.records) ∙ e in cc);
  }

  pub well-room : (s : State K V P S R) (room : ℕ) → IsWellKept s → IsWellKept (record s { reserved = room })
  well-room s room h = record { sound = ∥∥₁_map h.sound (λ k. record { records = k.records; named = k.named }); bounded = h.bounded }

  pub well-cleared : (s : State K V P S R) (step : ℕ) → IsWellKept s → IsWellKept (record s { cleared = step })
  well-cleared s step h = record { sound = ∥∥₁_map h.sound (λ k. record { records = k.records; named = k.named }); bounded = h.bounded }

  pub well-told : (s : State K V P S R) (notices : List (Notice K V)) (room : ℕ) → IsWellKept s → IsWellKept (record s { notices = notices; reserved = room })
  well-told s notices room h = record { sound = ∥∥₁_map h.sound (λ k. record { records = k.records; named = k.named }); bounded = h.bounded }

  pub well-registered : (s : State K V P S R) (predicates : List (Registered P)) (room : ℕ) → IsWellKept s → IsWellKept (record s { predicates = predicates; reserved = room })
  well-registered s predicates room h = record { sound = ∥∥₁_map h.sound (λ k. record { records = k.records; named = k.named }); bounded = h.bounded }

  sent-bounded : (ticket : ℕ) (o : Option Write) (s : State K V P S R) → AreBounded s → AreBounded (with_sent ticket o s)
  sent-bounded ticket None s h = h
  sent-bounded ticket (Some w) s h = h

  pub well-sent : (ticket : ℕ) (s : State K V P S R) → IsWellKept s → IsWellKept (sent ticket s)
  well-sent ticket s h = record { sound = ∥∥₁_map h.sound (λ k. (calls_stay_sound K V P S R).sent ticket s k); bounded = sent-bounded ticket (unsent_at s.unsent ticket) s h.bounded }

  -- ---- removal by key

  removed-bounded : (o : Option (Record K V)) (s : State K V P S R) → AreBounded s → AreBounded (with_removed o s)
  removed-bounded None s h = h
  removed-bounded (Some r) s h =
      bounded-changed s.next_ticket (s.next_ticket + 1) r.number (λ x. record x { is_held = false; writes = x.writes + 1 }) (λ x. refl) (omega arith)
      (λ x b. record { writes = one-more x.writes s.next_ticket b.writes; written = b.written }) s.records h

  reserved-sound : (eq : K → K → Bool) (key : K) (s : State K V P S R) → IsSound s → IsSound (with_reserved_removal (held_at eq s.records key) s)
  reserved-sound eq key s h = go (held_at eq s.records key) refl
    where
      go : (o : Option (Record K V)) → held_at eq s.records key ≡ o → IsSound (with_reserved_removal o s)
      go None e = h
      go (Some r) e =
          let less : State K V P S R = record s { reserved = s.reserved - removal_rooms s.settings } in
          subst (λ o. IsSound (with_removed o less)) e ((calls_stay_sound K V P S R).removed eq key less (record { records = h.records; named = h.named }))

  reserved-bounded : (o : Option (Record K V)) (s : State K V P S R) → AreBounded s → AreBounded (with_reserved_removal o s)
  reserved-bounded None s h = h
  reserved-bounded (Some r) s h = removed-bounded (Some r) (record s { reserved = s.reserved - removal_rooms s.settings }) h

  pub well-reserved_removal : (eq : K → K → Bool) (key : K) (s : State K V P S R) → IsWellKept s → IsWellKept (with_reserved_removal (held_at eq s.records key) s)
  well-reserved_removal eq key s h = record { sound = ∥∥₁_map h.sound (reserved-sound eq key s); bounded = reserved-bounded (held_at eq s.records key) s h.bounded }

  pub well-removal_room : (o : Option (Record K V)) (s : State K V P S R) → IsWellKept s → IsWellKept (with_removal_room o s)
  well-removal_room None s h = h
  well-removal_room (Some r) s h = well-room s (s.reserved + removal_rooms s.settings) h

module _ {K V P S R : Type 0} (answers : Answers K V P R) where
  -- ---- writes

  written-bounded : (o : Option (Record K V)) (s : State K V P S R) (key : K) (hash : ℕ) (value : V) (now step : ℕ) → now < 2 ^ 64 - 1 → AreBounded s → AreBounded (with_written answers o s key hash value now step)
  written-bounded None s key hash value now step moment h =
      bounded-push s.next_ticket (s.next_ticket + 1) s.records (record { number = s.next_number; hash = hash; entry = first_entry answers s key value now step; is_held = true; writes = 1; applied = 0; counts = None })
      (omega arith) (record { writes = omega arith; written = moment }) h
  written-bounded (Some r) s key hash value now step moment h =
      bounded-changed s.next_ticket (s.next_ticket + 1) r.number (λ x. record x { entry = next_entry answers s r.entry key value now step; writes = x.writes + 1 }) (λ x. refl) (omega arith)
      (λ x b. record { writes = one-more x.writes s.next_ticket b.writes; written = moment }) s.records h

  pub well-written : (eq : K → K → Bool) (s : State K V P S R) (key : K) (hash : ℕ) (value : V) (now step : ℕ) → now < 2 ^ 64 - 1 → IsWellKept s → IsWellKept (written answers eq s key hash value now step)
  well-written eq s key hash value now step moment h = record {
    sound = ∥∥₁_map h.sound (λ k. (calls_stay_sound K V P S R).written eq answers s key hash value now step k);
    bounded = written-bounded (held_at eq s.records key) s key hash value now step moment h.bounded;
  }

  -- ---- removals that are sent and told at once

  well-removed : (eq : K → K → Bool) (key : K) (r : Record K V) (s : State K V P S R) → held_at eq s.records key ≡ Some r → IsWellKept s → IsWellKept (with_removed (Some r) s)
  well-removed eq key r s there h = record {
    sound = ∥∥₁_map h.sound (λ k. subst (λ o. IsSound (with_removed o s)) there ((calls_stay_sound K V P S R).removed eq key s k));
    bounded = removed-bounded (Some r) s h.bounded;
  }

  pub well-taken_out : (eq : K → K → Bool) (key : K) (r : Record K V) (now : ℕ) (s : State K V P S R) → held_at eq s.records key ≡ Some r → IsWellKept s → IsWellKept (taken_out answers r now s)
  well-taken_out eq key r now s there h = well-told (sent s.next_ticket (with_removed (Some r) s)) _ _ (well-sent s.next_ticket (with_removed (Some r) s) (well-removed eq key r s there h))

  -- ---- look-ups

  read-bounded : (o : Option (Record K V)) (hash now : ℕ) (s : State K V P S R) → AreBounded s → AreBounded (with_read answers o hash now s)
  read-bounded None hash now s h = h
  read-bounded (Some r) hash now s h =
      bounded-changed s.next_ticket s.next_ticket r.number (λ x. record x { entry = used_entry answers s now x.entry }) (λ x. refl) (omega arith)
      (λ x b. record { writes = b.writes; written = b.written }) s.records h

  pub well-read : (o : Option (Record K V)) (hash now : ℕ) (s : State K V P S R) → IsWellKept s → IsWellKept (with_read answers o hash now s)
  well-read o hash now s h = record { sound = ∥∥₁_map h.sound (λ k. used-sound answers o hash now s k); bounded = read-bounded o hash now s h.bounded }

  -- ---- runs

  pub run-from : (now : ℕ) (old new : State K V P S R) → IsWellKept old → RunsToEnd answers now old new → ComeFrom old.records new.records
  run-from now old new h run = run-keeps answers now old new (numbered-from old h.sound) run.runs

  pub well-run : (now : ℕ) (old new : State K V P S R) → IsWellKept old → RunsToEnd answers now old new → IsWellKept new
  well-run now old new h run = record {
    sound = ∥∥₁_map h.sound (λ k. runs_stay_sound K V P S R answers now old new k run.runs);
    bounded = λ n r e.
        let p = run-from now old new h run n r e in
        subst (λ t. IsBounded t r) (sym (ap (λ q. q.next_ticket) (run-rest answers now old new run.runs))) (same-bounds old.next_ticket p.0 r p.2 (h.bounded n p.0 p.1));
  }

  pub well-maintained : (now : ℕ) (old new : State K V P S R) → IsWellKept old → MaintainsIfDue answers now old new → IsWellKept new
  well-maintained now old new h k = go (is_due old now) k
    where
      go : (b : Bool) → MatchBool b (RunsToEnd answers now old new) (new ≡ old) → IsWellKept new
      go true run = well-run now old new h run
      go false e = well-as new old e h

  pub well-noted : (o : Option (Record K V)) (hash now : ℕ) (old new : State K V P S R) → IsWellKept old → NotesRead answers o hash now old new → IsWellKept new
  well-noted o hash now old new h k = well-as new (with_read answers o hash now k.mid) k.reads (well-read o hash now k.mid (well-maintained now old k.mid h k.maintains))
