-- What a selector of a handle that holds an `rt` says, said of the key and the lock that it was made of.
use Rattle.std.proofs.Common.{◌≡◌, ◌∙◌, ℕ, Bool, ap, subst, Option, Result, Ok}
use Rattle.front_parts.specs.Access.Entries.{result_shown}
use Rattle.front_parts.specs.Access.Selecting.{ComputesEntry, GivesOption, GivesResult, IsResultShown, PutsAlways, PutsEntry, option_shown}
use Rattle.front_parts.specs.declared.access.entry.CompResult.{CompResult}
use Rattle.front_parts.specs.declared.access.entry.Entry.{Entry}
use Rattle.front_parts.specs.declared.access.selector.EntrySelector.{EntrySelector}
use Rattle.front_reference.specs.declared.data.Computed.{Computed}
use Rattle.front_reference.specs.declared.data.Made.{Made}
use Rattle.front_reference.specs.declared.data.Op.{Op}
use Rattle.front_state.specs.Calls.{Ways}
use Rattle.moka_sync.specs.Making.{DoesUnderLock}
use Rattle.moka_sync.specs.Selecting.{ComputesAsDecided, PutsAsMade}

module _ {K V P S R C W : Type 0} (ways : Ways K V P S R) (lock : ℕ) (sees : C → W → K → Option V → Type 0) (computed : C → W → K → Op V → Computed V → C → Type 0)
    (s : EntrySelector K C W) (new : C) (key : K) (same : s.key ≡ key) (lift : (does : Op V) (done : Computed V) → computed s.owner.now s.when s.key does done new → DoesUnderLock ways lock key does done) where
  pub decided-of_key : {E : Type 0} (Says : K → Option V → Result (Op V) E → Type 0) (shown : Result (CompResult K V) E)
      → ComputesEntry sees computed s new (Says s.key) shown → ComputesAsDecided ways lock key (Says key) shown
  decided-of_key Says shown h = record {
    answer = h.answer;
    does = record {
      seen = h.computes.seen;
      sees = tt;
      decided = h.computes.decided;
      says = subst (λ k. Says k h.computes.seen h.computes.decided) same h.computes.says;
      done = h.computes.done;
      does = lift _ _ h.computes.does;
      fits = h.computes.fits;
      answers = h.computes.answers;
    };
    shows = h.shows ∙ ap (λ k. result_shown k h.answer) same;
  }

  pub put-of_key : (Makes : K → Option V → V → Type 0) (shown : Entry K V) → PutsEntry sees computed s new (Makes s.key) shown → PutsAsMade ways lock key (Makes key) shown
  put-of_key Makes shown h = record {
    done = h.done;
    does = decided-of_key (λ k. PutsAlways (Makes k)) (Ok h.done) h.computes;
    entry = h.entry;
    fresh = h.fresh;
  }

module _ {K V F : Type 0} {key named : K} (same : key ≡ named) (A B : Made V F → Bool → Type 0) (more : (answer : Made V F) (is_fresh : Bool) → A answer is_fresh → B answer is_fresh) where
  pub option-of_key : (shown : Option (Entry K V)) → GivesOption key A shown → GivesOption named B shown
  option-of_key shown h = record { answer = h.answer; is_fresh = h.is_fresh; suits = h.suits; answers = more h.answer h.is_fresh h.answers; shows = h.shows ∙ ap (λ k. option_shown k h.is_fresh h.answer) same }

  pub result-of_key : (shown : Result (Entry K V) F) → GivesResult key A shown → GivesResult named B shown
  result-of_key shown h = record { answer = h.answer; is_fresh = h.is_fresh; answers = more h.answer h.is_fresh h.answers; shows = subst (λ k. IsResultShown k h.is_fresh h.answer shown) same h.shows }
