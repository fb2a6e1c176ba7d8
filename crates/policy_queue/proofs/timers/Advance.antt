-- The turns of an advance.
use Rattle.std.proofs.Common.{◌≡◌, ℕ, ◌+◌, ◌<◌, ◌≤◌, cond, leb, List, [], ◌∷◌, ◌++◌, Option, Some, None, is_some, refl, sym, ap, ◌∙◌, inl, inr, arith, subst}
use Rattle.std.specs.List.Sorted.{IsPermutation}
use Rattle.std.proofs.lemmas.Bool.{cases_eq, cond-true, cond-false, le-leb, lt-leb}
use Rattle.std.proofs.lemmas.List.{append_assoc}
use Rattle.std.proofs.lemmas.List.Sums.{sum_by-append, sum_by-cons}
use Rattle.std.proofs.lemmas.List.Sorted.{IsPermutation-refl, sum_by-IsPermutation}
use Rattle.std.proofs.lemmas.List.Elements.{All-push}
use Rattle.slab.specs.Slab.{Slab, get, with_value}
use Rattle.slab.proofs.SlabLemmas.{Updates-with_value}
use Rattle.policy_base.specs.declared.records.Slot.{Slot}
use Rattle.policy_queue.specs.declared.timers.array.Timer.{Timer}
use Rattle.policy_queue.specs.declared.timers.events.TimerEvent.{TimerEvent}
use Rattle.policy_queue.specs.declared.timers.events.TimerEvent.TheVariants.{Expired, Rescheduled, Descheduled}
use Rattle.policy_queue.specs.Timers.Entries.{due_at, due_of, timerless, forgotten_at, forgotten, all_forgotten}
use Rattle.policy_queue.specs.Timers.Timers.{Timers, KeepsAllButTimers, moved}
use Rattle.policy_queue.specs.Timers.Events.{pending, HaveNoTime, EventIs, entries_after, AdvanceStep, SameTimes}

pub KeepsAllButTimers-trans : (a b c : Timers) → KeepsAllButTimers a b → KeepsAllButTimers b c → KeepsAllButTimers a c
KeepsAllButTimers-trans a b c h k = record {
  is_enabled = k.is_enabled ∙ h.is_enabled;
  origin = k.origin ∙ h.origin;
  moment = k.moment ∙ h.moment;
  next_serial = k.next_serial ∙ h.next_serial;
  room = let x = h.room in let y = k.room in omega arith;
}

module _ {K : Type 0} where
  -- an entry without its timer keeps its time
  pub forgotten_times : (e : ℕ) (s : Slab (Slot K)) → SameTimes s (forgotten e s)
  forgotten_times e s k = go (get s e) refl
    where
      go : (o : Option (Slot K)) → get s e ≡ o → due_of (forgotten_at o e s) k ≡ due_of s k
      go None at = refl
      go (Some v) at =
          let r : Slab (Slot K) = with_value s e (timerless v) in
          let u = Updates-with_value s e (timerless v) (ap is_some at) in
          elim (cases_eq k e) [
            | inl same ↦ ap (λ j. due_at (get r j)) same ∙ ap due_at u.changed ∙ ap due_at (sym at) ∙ ap (λ j. due_at (get s j)) (sym same)
            | inr other ↦ ap due_at (u.others k other)
          ]

  pub all_forgotten_times : (ts : List Timer) (s : Slab (Slot K)) → SameTimes s (all_forgotten ts s)
  all_forgotten_times [] s k = refl
  all_forgotten_times (t ∷ ts) s k = all_forgotten_times ts (forgotten t.node.entry_info s) k ∙ forgotten_times t.node.entry_info s k

  pub all_forgotten-push : (ts : List Timer) (t : Timer) (s : Slab (Slot K)) → all_forgotten (ts ++ t ∷ []) s ≡ forgotten t.node.entry_info (all_forgotten ts s)
  all_forgotten-push [] t s = refl
  all_forgotten-push (u ∷ ts) t s = all_forgotten-push ts t (forgotten u.node.entry_info s)

  pub after_times : (event : Option TimerEvent) (s : Slab (Slot K)) → SameTimes s (entries_after event s)
  after_times None s k = refl
  after_times (Some (Expired node)) s k = forgotten_times node.entry_info s k
  after_times (Some (Rescheduled u)) s k = refl
  after_times (Some Descheduled) s k = refl

  -- after some turns of an advance: the timers that left had no time
  pub record Advancing (entries₀ : Slab (Slot K)) (wheel₀ : Timers) (entries : Slab (Slot K)) (wheel : Timers) : Type 0 where
    pub keeps : KeepsAllButTimers wheel₀ wheel
    pub gone : List Timer
    pub had_none : HaveNoTime entries₀ gone
    pub rest : wheel₀.timers ≡ gone ++ wheel.timers
    pub forgot : entries ≡ all_forgotten gone entries₀

  module _ (entries₀ entries : Slab (Slot K)) (wheel₀ wheel : Timers) (h : Advancing entries₀ wheel₀ entries wheel) where
    pub advancing_times : SameTimes entries₀ entries
    advancing_times k = ap (λ s. due_of s k) h.forgot ∙ all_forgotten_times h.gone entries₀ k

    -- one more timer left, since it had no time
    pub Advancing-gone : (entries' : Slab (Slot K)) (wheel' : Timers) (t : Timer) → KeepsAllButTimers wheel wheel' → wheel.timers ≡ t ∷ wheel'.timers → due_of entries t.node.entry_info ≡ None → entries' ≡ forgotten t.node.entry_info entries → Advancing entries₀ wheel₀ entries' wheel'
    Advancing-gone entries' wheel' t keeps taken none forgets = record {
      keeps = KeepsAllButTimers-trans wheel₀ wheel wheel' h.keeps keeps;
      gone = h.gone ++ t ∷ [];
      had_none = All-push (λ (u : Timer). due_of entries₀ u.node.entry_info ≡ None) h.gone t h.had_none (sym (advancing_times t.node.entry_info) ∙ none);
      rest = h.rest ∙ ap (λ r. h.gone ++ r) taken ∙ sym (append_assoc h.gone (t ∷ []) wheel'.timers);
      forgot = forgets ∙ ap (forgotten t.node.entry_info) h.forgot ∙ sym (all_forgotten-push h.gone t entries₀);
    }

    EventIs-before : (now : ℕ) (after : List Timer) (event : Option TimerEvent) → EventIs entries now wheel.timers after event → EventIs entries₀ now wheel.timers after event
    EventIs-before now after None e = e
    EventIs-before now after (Some (Expired node)) e = record { timer = e.timer; recorded = e.recorded; timers = e.timers; due = e.due; is_due = sym (advancing_times node.entry_info) ∙ e.is_due; reached = e.reached; placed = e.placed }
    EventIs-before now after (Some (Rescheduled u)) e = record { timer = e.timer; others = e.others; timers = e.timers; due = e.due; is_due = sym (advancing_times e.timer.node.entry_info) ∙ e.is_due; later = e.later; placed = e.placed; moves = e.moves }
    EventIs-before now after (Some Descheduled) e = absurd e

    -- the event that ends the turns
    pub AdvanceStep-from : (entries' : Slab (Slot K)) (now : ℕ) (after : List Timer) (event : Option TimerEvent) → EventIs entries now wheel.timers after event → entries' ≡ entries_after event entries → AdvanceStep entries₀ entries' now wheel₀.timers after event
    AdvanceStep-from entries' now after event e changed = record {
      gone = h.gone;
      left = wheel.timers;
      parts = subst (λ ts. IsPermutation wheel₀.timers ts) h.rest (IsPermutation-refl wheel₀.timers);
      had_none = h.had_none;
      is = EventIs-before now after event e;
      entries = changed ∙ ap (entries_after event) h.forgot;
    }

    pub advanced_times : (entries' : Slab (Slot K)) (event : Option TimerEvent) → entries' ≡ entries_after event entries → SameTimes entries₀ entries'
    advanced_times entries' event changed k = ap (λ s. due_of s k) changed ∙ after_times event entries k ∙ advancing_times k

abbrev is_pending : ℕ → Timer → ℕ
is_pending now t = cond (leb t.placed now) 1 0

counted_one : (now : ℕ) (t : Timer) → t.placed ≤ now → is_pending now t ≡ 1
counted_one now t le = cond-true (leb t.placed now) 1 0 (le-leb t.placed now le)

counted_none : (now : ℕ) (t : Timer) → now < t.placed → is_pending now t ≡ 0
counted_none now t lt = cond-false (leb t.placed now) 1 0 (lt-leb t.placed now lt)

pending-cons : (now : ℕ) (t : Timer) (ts : List Timer) → pending now (t ∷ ts) ≡ is_pending now t + pending now ts
pending-cons now t ts = sum_by-cons (λ (u : Timer). cond (leb u.placed now) 1 0) t ts

pending-permutation : (now : ℕ) (xs ys : List Timer) → IsPermutation xs ys → pending now ys ≡ pending now xs
pending-permutation now xs ys p = sum_by-IsPermutation (λ (t : Timer). cond (leb t.placed now) 1 0) xs ys p

pending-append : (now : ℕ) (xs ys : List Timer) → pending now (xs ++ ys) ≡ pending now xs + pending now ys
pending-append now xs ys = sum_by-append (λ (t : Timer). cond (leb t.placed now) 1 0) xs ys

less : (after before both gone left more one : ℕ) → both ≡ before → both ≡ gone + left → more ≡ left → one ≡ 1 → more ≡ one + after → after < before
less after before both gone left more one a b c d e = omega arith

less_later : (after before both gone left more one others moved none : ℕ) → both ≡ before → both ≡ gone + left → more ≡ left → one ≡ 1 → after ≡ moved → none ≡ 0 → more ≡ one + others → moved ≡ none + others → after < before
less_later after before both gone left more one others moved none a b c d e f x y = omega arith

-- each event leaves fewer timers to come
pub pending_fewer : {K : Type 0} (old new : Slab (Slot K)) (now : ℕ) (before after : List Timer) (event : TimerEvent) → AdvanceStep old new now before after (Some event) → pending now after < pending now before
pending_fewer old new now before after (Expired node) h =
    let a = pending-permutation now before (h.gone ++ h.left) h.parts in
    let b = pending-append now h.gone h.left in
    let c = pending-permutation now h.left (h.is.timer ∷ after) h.is.timers in
    let d = counted_one now h.is.timer h.is.placed in
    let e = pending-cons now h.is.timer after in
    less (pending now after) (pending now before) (pending now (h.gone ++ h.left)) (pending now h.gone) (pending now h.left) (pending now (h.is.timer ∷ after)) (is_pending now h.is.timer) a b c d e
pending_fewer old new now before after (Rescheduled u) h =
    let a = pending-permutation now before (h.gone ++ h.left) h.parts in
    let b = pending-append now h.gone h.left in
    let c = pending-permutation now h.left (h.is.timer ∷ h.is.others) h.is.timers in
    let d = counted_one now h.is.timer h.is.placed in
    let later = moved h.is.timer h.is.due.time h.is.due.expiry_gen in
    let e = pending-permutation now (later ∷ h.is.others) after h.is.moves in
    let f = counted_none now later h.is.later in
    let x = pending-cons now h.is.timer h.is.others in
    let y = pending-cons now later h.is.others in
    less_later (pending now after) (pending now before) (pending now (h.gone ++ h.left)) (pending now h.gone) (pending now h.left) (pending now (h.is.timer ∷ h.is.others)) (is_pending now h.is.timer) (pending now h.is.others) (pending now (later ∷ h.is.others)) (is_pending now later) a b c d e f x y
pending_fewer old new now before after Descheduled h = absurd h.is
