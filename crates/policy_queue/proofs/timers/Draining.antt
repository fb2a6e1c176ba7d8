-- The turns of a whole advance.
use Rattle.std.proofs.Common.{◌≡◌, ℕ, zero, suc, ◌<◌, List, [], ◌∷◌, ◌++◌, get_or, Option, Some, None, refl, sym, ap, ◌∙◌, arith, subst}
use Rattle.std.specs.List.{All}
use Rattle.std.specs.List.Sorted.{IsPermutation}
use Rattle.std.proofs.lemmas.List.{append_assoc, append-nil}
use Rattle.std.proofs.lemmas.List.Sorted.{IsPermutation-refl, IsPermutation-trans, IsPermutation-append_right, All-permutation}
use Rattle.std.proofs.lemmas.List.Elements.{All-push}
use Rattle.slab.specs.Slab.{Slab}
use Rattle.policy_base.specs.declared.records.Slot.{Slot}
use Rattle.policy_queue.specs.declared.timers.array.Timer.{Timer}
use Rattle.policy_queue.specs.declared.timers.array.TimerNode.{TimerNode}
use Rattle.policy_queue.specs.declared.timers.array.Due.{Due}
use Rattle.policy_queue.specs.declared.timers.events.TimerEvent.{TimerEvent}
use Rattle.policy_queue.specs.declared.timers.events.TimerEvent.TheVariants.{Expired, Rescheduled, Descheduled}
use Rattle.policy_queue.specs.Timers.Entries.{due_of, all_forgotten}
use Rattle.policy_queue.proofs.timers.Advance.{after_times, all_forgotten_times}
use Rattle.policy_queue.specs.Timers.Events.{HaveNoTime, Expires, Postpones, AdvanceStep, SameTimes}
use Rattle.policy_queue.specs.Timers.Advances.{IsDue, ArePlaced, given_at, given_of, Drains, nodes_of, Advances}

module _ {K : Type 0} (entries : Slab (Slot K)) (now : ℕ) where
  given_of-append : (xs ys : List Timer) → given_of entries (xs ++ ys) ≡ given_of entries xs ++ given_of entries ys
  given_of-append [] ys = refl
  given_of-append (t ∷ xs) ys = go (due_of entries t.node.entry_info) (given_of-append xs ys)
    where
      go : (o : Option Due) → given_of entries (xs ++ ys) ≡ given_of entries xs ++ given_of entries ys → given_at o t.node (given_of entries (xs ++ ys)) ≡ given_at o t.node (given_of entries xs) ++ given_of entries ys
      go None h = h
      go (Some d) h = ap (λ r. t.node ∷ r) h

  given_of-none : (xs : List Timer) → HaveNoTime entries xs → given_of entries xs ≡ []
  given_of-none [] h = refl
  given_of-none (t ∷ xs) h = ap (λ o. given_at o t.node (given_of entries xs)) (h zero t (omega arith)) ∙ given_of-none xs (λ k d lt. h (suc k) d (omega arith))

  given_of-one : (t : Timer) (d : Due) → due_of entries t.node.entry_info ≡ Some d → given_of entries (t ∷ []) ≡ t.node ∷ []
  given_of-one t d e = ap (λ o. given_at o t.node []) e

  -- so far: what was given is due, and, where all were placed well, nothing but what left is missing
  pub record Draining (before ts : List Timer) (nodes : List TimerNode) : Type 0 where
    pub due : All (λ (node : TimerNode). IsDue entries now node.entry_info) nodes
    pub left : List Timer
    pub given : given_of entries left ≡ nodes
    pub parts : ArePlaced entries before → IsPermutation before (left ++ ts)

  pub Draining-start : (ts : List Timer) → Draining ts ts []
  Draining-start ts = record { due = λ k d lt. absurd (omega arith); left = []; given = refl; parts = λ _. IsPermutation-refl ts }

  parts_step : (before ts left gone rest : List Timer) → IsPermutation before (left ++ ts) → IsPermutation ts (gone ++ rest) → IsPermutation before ((left ++ gone) ++ rest)
  parts_step before ts left gone rest p q =
      subst (λ xs. IsPermutation before xs) (sym (append_assoc left gone rest)) (IsPermutation-trans before (left ++ ts) (left ++ (gone ++ rest)) p (IsPermutation-append_right left ts (gone ++ rest) q))

  pub Draining-expired : (before ts after : List Timer) (nodes : List TimerNode) (node : TimerNode) (gone rest : List Timer) → Draining before ts nodes → IsPermutation ts (gone ++ rest) → HaveNoTime entries gone → Expires entries now rest after node → Draining before after (nodes ++ node ∷ [])
  Draining-expired before ts after nodes node gone rest h parts none e =
      let t : Timer = e.timer in
      let is_due : due_of entries t.node.entry_info ≡ Some e.due = ap (λ (n : TimerNode). due_of entries n.entry_info) e.recorded ∙ e.is_due in
      record {
        due = All-push (λ (n : TimerNode). IsDue entries now n.entry_info) nodes node h.due (record { due = e.due; is_due = e.is_due; reached = e.reached });
        left = (h.left ++ gone) ++ t ∷ [];
        given = given_of-append (h.left ++ gone) (t ∷ []) ∙ ap (λ r. r ++ given_of entries (t ∷ [])) (given_of-append h.left gone ∙ ap (λ r. given_of entries h.left ++ r) (given_of-none gone none) ∙ append-nil (given_of entries h.left) ∙ h.given) ∙ ap (λ r. nodes ++ r) (given_of-one t e.due is_due ∙ ap (λ (n : TimerNode). n ∷ []) e.recorded);
        parts = λ placed. parts_step before rest (h.left ++ gone) (t ∷ []) after (parts_step before ts h.left gone rest (h.parts placed) parts) e.timers;
      }

  late_head : (xs : List Timer) (t : Timer) (others : List Timer) → ArePlaced entries xs → IsPermutation xs (t ∷ others) → (due : Due) → due_of entries t.node.entry_info ≡ Some due → due.time ≡ t.placed
  late_head xs t others placed p due e = All-permutation (λ (u : Timer). (d : Due) → due_of entries u.node.entry_info ≡ Some d → d.time ≡ u.placed) xs (t ∷ others) p placed zero t (omega arith) due e

  All-right : (P : Timer → Type 0) (xs ys : List Timer) → All P (xs ++ ys) → All P ys
  All-right P [] ys h = h
  All-right P (x ∷ xs) ys h = All-right P xs ys (λ k d lt. h (suc k) d (omega arith))

  pub Draining-postponed : (before ts after : List Timer) (nodes : List TimerNode) (gone rest : List Timer) → Draining before ts nodes → IsPermutation ts (gone ++ rest) → Postpones entries now rest after → Draining before after nodes
  Draining-postponed before ts after nodes gone rest h parts e = record {
    due = h.due;
    left = h.left;
    given = h.given;
    parts = λ placed.
        let P : Timer → Type 0 = λ u. (d : Due) → due_of entries u.node.entry_info ≡ Some d → d.time ≡ u.placed in
        let all : All P (h.left ++ ts) = All-permutation P before (h.left ++ ts) (h.parts placed) placed in
        let now_all : All P (gone ++ rest) = All-permutation P ts (gone ++ rest) parts (All-right P h.left ts all) in
        let same = late_head rest e.timer e.others (All-right P gone rest now_all) e.timers e.due e.is_due in
        let later = e.later in
        let early = e.placed in
        absurd (omega arith);
  }

  pub Draining-ended : (before ts after : List Timer) (nodes : List TimerNode) (gone rest : List Timer) → Draining before ts nodes → IsPermutation ts (gone ++ rest) → HaveNoTime entries gone → IsPermutation rest after → All (λ (t : Timer). now < t.placed) after → Drains entries now before after nodes
  Draining-ended before ts after nodes gone rest h parts none same later = record {
    due = h.due;
    later = later;
    left = h.left ++ gone;
    given = given_of-append h.left gone ∙ ap (λ r. given_of entries h.left ++ r) (given_of-none gone none) ∙ append-nil (given_of entries h.left) ∙ h.given;
    parts = λ placed. IsPermutation-trans before ((h.left ++ gone) ++ rest) ((h.left ++ gone) ++ after) (parts_step before ts h.left gone rest (h.parts placed) parts) (IsPermutation-append_right (h.left ++ gone) rest after same);
  }

-- the same, where the entries are those of a later turn
module _ {K : Type 0} (entries₀ entries : Slab (Slot K)) (times : SameTimes entries₀ entries) (now : ℕ) where
  earlier_none : (ts : List Timer) → HaveNoTime entries ts → HaveNoTime entries₀ ts
  earlier_none ts h k d lt = sym (times (get_or ts k d).node.entry_info) ∙ h k d lt

  pub drained_expired : (new : Slab (Slot K)) (before ts after : List Timer) (nodes : List TimerNode) (node : TimerNode) → Draining entries₀ now before ts nodes → AdvanceStep entries new now ts after (Some (Expired node)) → Draining entries₀ now before after (nodes ++ node ∷ [])
  drained_expired new before ts after nodes node h s =
      Draining-expired entries₀ now before ts after nodes node s.gone s.left h s.parts (earlier_none s.gone s.had_none)
      (record { timer = s.is.timer; recorded = s.is.recorded; timers = s.is.timers; due = s.is.due; is_due = sym (times node.entry_info) ∙ s.is.is_due; reached = s.is.reached; placed = s.is.placed })

  pub drained_postponed : (new : Slab (Slot K)) (before ts after : List Timer) (nodes : List TimerNode) (u : Unit {0}) → Draining entries₀ now before ts nodes → AdvanceStep entries new now ts after (Some (Rescheduled u)) → Draining entries₀ now before after nodes
  drained_postponed new before ts after nodes u h s =
      Draining-postponed entries₀ now before ts after nodes s.gone s.left h s.parts
      (record { timer = s.is.timer; others = s.is.others; timers = s.is.timers; due = s.is.due; is_due = sym (times s.is.timer.node.entry_info) ∙ s.is.is_due; later = s.is.later; placed = s.is.placed; moves = s.is.moves })

  pub drained : (new : Slab (Slot K)) (before ts after : List Timer) (nodes : List TimerNode) → Draining entries₀ now before ts nodes → AdvanceStep entries new now ts after None → Drains entries₀ now before after nodes
  drained new before ts after nodes h s = Draining-ended entries₀ now before ts after nodes s.gone s.left h s.parts (earlier_none s.gone s.had_none) s.is.0 s.is.1

  step_times : (new : Slab (Slot K)) (ts after : List Timer) (event : Option TimerEvent) → AdvanceStep entries new now ts after event → SameTimes entries₀ new
  step_times new ts after event s k = ap (λ e. due_of e k) s.entries ∙ after_times event (all_forgotten s.gone entries) k ∙ all_forgotten_times s.gone entries k ∙ times k

-- a whole advance drains the wheel
pub drains : {K : Type 0} (entries₀ : Slab (Slot K)) (now : ℕ) (before : List Timer) (events : List TimerEvent) (entries : Slab (Slot K)) (ts after : List Timer) (nodes : List TimerNode) → SameTimes entries₀ entries → Draining entries₀ now before ts nodes → Advances events entries now ts after → Drains entries₀ now before after (nodes ++ nodes_of events)
drains entries₀ now before [] entries ts after nodes times h a =
    subst (λ ns. Drains entries₀ now before after ns) (sym (append-nil nodes)) (drained entries₀ entries times now a.0 before ts after nodes h a.1)
drains entries₀ now before (Expired node ∷ rest) entries ts after nodes times h a =
    subst (λ ns. Drains entries₀ now before after ns) (append_assoc nodes (node ∷ []) (nodes_of rest))
    (drains entries₀ now before rest a.0 a.1 after (nodes ++ node ∷ []) (step_times entries₀ entries times now a.0 ts a.1 _ a.2) (drained_expired entries₀ entries times now a.0 before ts a.1 nodes node h a.2) a.3)
drains entries₀ now before (Rescheduled u ∷ rest) entries ts after nodes times h a =
    drains entries₀ now before rest a.0 a.1 after nodes (step_times entries₀ entries times now a.0 ts a.1 _ a.2) (drained_postponed entries₀ entries times now a.0 before ts a.1 nodes u h a.2) a.3
drains entries₀ now before (Descheduled ∷ rest) entries ts after nodes times h a = absurd a.2.is
