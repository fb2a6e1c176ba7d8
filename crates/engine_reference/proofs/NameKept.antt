-- The name, which nothing changes but giving one.
use Rattle.std.proofs.Common.{inr, inl, ◌≡◌, refl, ap, ◌∙◌, ℕ, Option, Some, None}
use Rattle.engine_reference.specs.declared.data.Record.{Record}
use Rattle.engine_reference.specs.declared.data.Write.{Write}
use Rattle.engine_reference.specs.Calls.{with_sent, unsent_at, with_removed, with_written, MaintainsIfDue, with_read}
use Rattle.engine_reference.specs.Laws.{NameIsKept}
use Rattle.engine_reference.specs.Records.{held_at}
use Rattle.engine_reference.specs.Runs.{is_due}
use Rattle.engine_reference.specs.State.{State, Answers}
use Rattle.engine_reference.specs.Visible.{visible_record}
use Rattle.engine_reference.proofs.RestKept.{run-rest}
use Rattle.std.proofs.lemmas.Bool.{cases_Bool}

module _ {K V P S R : Type 0} where
  with_sent-name : (ticket : ℕ) (o : Option Write) (s : State K V P S R) → (with_sent ticket o s).name ≡ s.name
  with_sent-name ticket None s = refl
  with_sent-name ticket (Some w) s = refl

  with_removed-name : (o : Option (Record K V)) (s : State K V P S R) → (with_removed o s).name ≡ s.name
  with_removed-name None s = refl
  with_removed-name (Some r) s = refl

  with_written-name : (answers : Answers K V P R) (o : Option (Record K V)) (s : State K V P S R) (key : K) (hash : ℕ) (value : V) (now step : ℕ) → (with_written answers o s key hash value now step).name ≡ s.name
  with_written-name answers None s key hash value now step = refl
  with_written-name answers (Some r) s key hash value now step = refl

  with_read-name : (answers : Answers K V P R) (o : Option (Record K V)) (hash now : ℕ) (s : State K V P S R) → (with_read answers o hash now s).name ≡ s.name
  with_read-name answers None hash now s = refl
  with_read-name answers (Some r) hash now s = refl

  maintained-name : (answers : Answers K V P R) (now : ℕ) (old new : State K V P S R) → MaintainsIfDue answers now old new → new.name ≡ old.name
  maintained-name answers now old new k = elim (cases_Bool (is_due old now)) [ inl is ↦ ap (λ r. r.name) (run-rest answers now old new (rw is at k).runs) | inr is ↦ ap (λ s. s.name) (rw is at k) ]

module _ (K V P S R : Type 0) where
  pub name_is_kept : NameIsKept K V P S R
  name_is_kept = record {
    runs = λ answers now old new k. ap (λ r. r.name) (run-rest answers now old new k);
    written = λ eq answers s key hash value now step. with_written-name answers (held_at eq s.records key) s key hash value now step;
    sent = λ ticket s. with_sent-name ticket (unsent_at s.unsent ticket) s;
    removed = λ eq key s. with_removed-name (held_at eq s.records key) s;
    removal_told = λ answers e now s. refl;
    looks_up = λ answers eq key hash now old new k.
        ap (λ s. s.name) k.reads ∙ with_read-name answers (visible_record answers eq old now key) hash now k.mid ∙ maintained-name answers now old k.mid k.maintains;
    cleared = λ step s. refl;
    covered = λ p s. refl;
    room = λ s. refl;
    released = λ s. refl;
    taken = λ s. refl;
  }
