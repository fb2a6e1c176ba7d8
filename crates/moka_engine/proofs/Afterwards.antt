-- A look-up's second half: what was found before a run is found again after it, or is gone.
use Rattle.std.proofs.Common.{◌≡◌, refl, ap, sym, ◌∙◌, subst, ℕ, ◌<◌, arith, Bool, true, false, [], Option, Some, None, length}
use Rattle.std.specs.Prelude.{MatchBool, nat_le, ◌||◌}
use Rattle.std.proofs.lemmas.Bool.{leb-false}
use Rattle.std.proofs.lemmas.Option.{same_Some}
use Rattle.engine_reference.specs.declared.data.Record.{Record}
use Rattle.engine_reference.specs.Calls.{MaintainsIfDue, with_read}
use Rattle.engine_reference.specs.Records.{record_at}
use Rattle.engine_reference.specs.Runs.{RunsToEnd, is_due}
use Rattle.engine_reference.specs.Times.{end_of, is_reached}
use Rattle.engine_reference.specs.State.{State, Answers}
use Rattle.engine_reference.proofs.RestKept.{run-rest}
use Rattle.moka_engine.specs.Keeping.{IsWellKept, NotesRead}
use Rattle.moka_engine.proofs.Keeping.{run-from, made-before}

not-both : (a b c : Bool) → (a || b || c) ≡ false → b ≡ false
not-both true b c h = absurd (cc)
not-both false true c h = absurd (cc)
not-both false false c h = refl

few : (n : ℕ) → nat_le 64 n ≡ false → n < 64
few n h = leb-false 64 n h

module _ {K V P S R : Type 0} where
  -- where no run is due there is room for a read
  pub room-unless-due : (s : State K V P S R) (now : ℕ) → is_due s now ≡ false → length s.reads < 64
  room-unless-due s now h = few (length s.reads) (not-both (nat_le 64 (length s.writes)) (nat_le 64 (length s.reads)) (is_reached (end_of s.ran (Some 300000000)) now) h)

module _ {K V P S R : Type 0} (answers : Answers K V P R) (now : ℕ) (old new : State K V P S R) (run : RunsToEnd answers now old new) where
  -- a run leaves room for reads
  pub run-room : length new.reads < 64
  run-room =
      let none : new.reads ≡ [] = ap (λ (s : State K V P S R). s.reads) run.runs.after ∙ run.runs.applied.reads in
      let many : length new.reads ≡ 0 = ap (λ l. length l) none in
      omega arith

  pub run-made : IsWellKept old → (n : ℕ) (r : Record K V) → record_at old.records n ≡ Some r → n < new.next_number
  run-made h n r there = subst (λ m. n < m) (sym (ap (λ q. q.next_number) (run-rest answers now old new run.runs))) (made-before old h.sound n r there)

  -- what is there after it under a number is what was
  pub run-holds : IsWellKept old → (n hash : ℕ) (o : Record K V) → record_at old.records n ≡ Some o → o.is_held ≡ true → o.hash ≡ hash → (r : Record K V) → record_at new.records n ≡ Some r → (r.is_held ≡ true) × (r.hash ≡ hash)
  run-holds h n hash o there held hash_is r e =
      let p = run-from answers now old new h run n r e in
      let same : p.0 ≡ o = same_Some _ _ (sym p.1 ∙ there) in
      (p.2.held ∙ ap (λ x. x.is_held) same ∙ held, p.2.hash ∙ ap (λ x. x.hash) same ∙ hash_is)

module _ {K V P S R : Type 0} (answers : Answers K V P R) where
  pub noted-after_run : (hash now : ℕ) (old mid new : State K V P S R) (r : Record K V) (o : Option (Record K V)) → is_due old now ≡ true → RunsToEnd answers now old mid → o ≡ Some r → new ≡ with_read answers (Some r) hash now mid
      → NotesRead answers o hash now old new
  noted-after_run hash now old mid new r o due run is made = record {
    mid = mid;
    maintains = subst (λ b. MatchBool b (RunsToEnd answers now old mid) (mid ≡ old)) (sym due) run;
    reads = made ∙ ap (λ x. with_read answers x hash now mid) (sym is);
  }

  pub noted-at_once : (hash now : ℕ) (old new : State K V P S R) (r : Record K V) (o : Option (Record K V)) → is_due old now ≡ false → o ≡ Some r → new ≡ with_read answers (Some r) hash now old → NotesRead answers o hash now old new
  noted-at_once hash now old new r o due is made = record {
    mid = old;
    maintains = subst (λ b. MatchBool b (RunsToEnd answers now old old) (old ≡ old)) (sym due) refl;
    reads = made ∙ ap (λ x. with_read answers x hash now old) (sym is);
  }

  pub noted-none : (hash now : ℕ) (old mid new : State K V P S R) (o : Option (Record K V)) → o ≡ None → MaintainsIfDue answers now old mid → new ≡ with_read answers None hash now mid → NotesRead answers o hash now old new
  noted-none hash now old mid new o none maintains made = record { mid = mid; maintains = maintains; reads = made ∙ ap (λ x. with_read answers x hash now mid) (sym none) }
