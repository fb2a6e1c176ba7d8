-- A step in its turn: the place of the step is the same in the history and in the situation, and a right step leads on.
use Rattle.std.proofs.Common.{inr, inl, ◌≡◌, refl, ap, ◌∙◌, sym, subst, ℕ, Bool, true, false, true≢false, ◌&&◌, ◌||◌, cond, List, [], ◌∷◌, map, Option, Some, None, is_some}
use Rattle.std.specs.Prelude.{unwrap_or}
use Rattle.std.specs.Option.{option_map, option_map_or}
use Rattle.std.proofs.lemmas.Bool.{cases_Bool, and_parts, eqb-true, not-true, or_right}
use Rattle.audit_model.specs.Bytewise.{cut_at}
use Rattle.audit_model.specs.Changes.{left_held, connection_after, after_step}
use Rattle.audit_model.specs.Commands.{deed_of, covers}
use Rattle.audit_model.specs.Follows.{line_in, placed_step_in}
use Rattle.audit_model.specs.History.{Value, Action, Effect, Happening, History, latest_moment, Storing, Ran}
use Rattle.audit_model.specs.Places.{left_after, step_happens, line_due, placed_step}
use Rattle.audit_model.specs.Seen.{view_of}
use Rattle.audit_model.specs.Situation.{Connection, Situation, connection_in, Ready, Held, Waiting}
use Rattle.audit_model.specs.Steps.{Task, action_in, effect_in, PlacedStep, is_task_of, is_in_turn, is_held_rightly, has_right_line, has_right_reply, has_right_load, has_right_acceptance, has_right_notes, is_quiet_where_silent, keeps_shares, is_right, Store, Deliver, RunAgain, RunHeld, RunLines}
use Rattle.audit_model.specs.Stream.{holds, waits, behind_lines, unanswered, without_return, first_line, is_open, may_run, times_waited}
use Rattle.audit_model.specs.Summary.{connection_from, situation_of}
use Rattle.audit_model.specs.Values.{held_values}
use Rattle.audit_model.specs.Replies.{offer_of}
use Rattle.audit_model.specs.View.{View}
use Rattle.audit_model.specs.declared.config.Config.{Config}
use Rattle.audit_model.specs.declared.event.Outcome.{Outcome}
use Rattle.audit_model.specs.declared.transcript.Step.{Step}
use Rattle.audit_laws.proofs.StepReads.{Reads, reads-ran, reads-stored}
use Rattle.audit_laws.proofs.HeldAll.{same-held}
use Rattle.audit_laws.proofs.Views.{views-agree}
use Rattle.audit_laws.proofs.Connections.{facts, open_in, connection_of_facts, connection-of, unread_in}
use Rattle.audit_laws.proofs.Changes.{StepFits, StoreFits, is_of_conn, of_conn-happens, situation-ran, situation-stored}
use Rattle.audit_laws.proofs.Leaving.{NotJoined}
use Rattle.audit_laws.proofs.InOrder.{idle-away, holds_idle}
use Rattle.audit_laws.proofs.Sound.{Sound}
use Rattle.audit_laws.proofs.SoundSteps.{sound-ran, sound-stored}
use Rattle.audit_laws.proofs.InOrder.{InOrder, RunsFirst, task_conn, in_order-ran, in_order-stored, rest-in_order}
use Rattle.audit_laws.proofs.Rightly.{held-silent, uncovering, dated, sends-rightly, line-due}

-- ---- the parts of a right step

pub record Parts (config : Config) (placed : PlacedStep) : Type 0 where
  pub in_turn : is_in_turn placed ≡ true
  pub line : has_right_line placed ≡ true
  pub reply : has_right_reply config placed ≡ true
  pub load : has_right_load placed ≡ true
  pub accepted : has_right_acceptance config placed ≡ true
  pub told : has_right_notes config placed ≡ true
  pub quiet : is_quiet_where_silent placed ≡ true

pub parts-of : (config : Config) (placed : PlacedStep) → is_right config placed ≡ true → Parts config placed
parts-of config placed e =
    let p8 = and_parts _ _ e in
    let p7 = and_parts _ _ p8.0 in
    let p6 = and_parts _ _ p7.0 in
    let p5 = and_parts _ _ p6.0 in
    let p4 = and_parts _ _ p5.0 in
    let p3 = and_parts _ _ p4.0 in
    let p2 = and_parts _ _ p3.0 in
    let p1 = and_parts _ _ p2.0 in
    record { in_turn = p1.0; line = p2.1; reply = p3.1; load = p4.1; accepted = p5.1; told = p6.1; quiet = p7.1 }

-- ---- the connection whose task it is

pub task-is : (conn : ℕ) (task : Task) → is_of_conn (Some task) ≡ true → is_task_of conn (Some task) ≡ true → task_conn task ≡ Some conn
task-is conn (Store key outcome) o e = absurd (true≢false (sym o))
task-is conn (Deliver c outcome) o e = ap (λ x. Some x) (eqb-true c conn e)
task-is conn (RunAgain c) o e = ap (λ x. Some x) (eqb-true c conn e)
task-is conn (RunHeld c) o e = ap (λ x. Some x) (eqb-true c conn e)
task-is conn (RunLines c) o e = ap (λ x. Some x) (eqb-true c conn e)

runs_open : (c : ℕ) (past : History) → may_run c past ≡ true → is_open c past ≡ true
runs_open c past e = (and_parts (is_open c past) _ (and_parts _ _ (and_parts _ _ e).0).0).0

pub task-open : (conn : ℕ) (past : History) (task : Task) (tasks : List Task) → InOrder past (task ∷ tasks) → RunsFirst (λ c. may_run c past) (task ∷ tasks)
    → is_of_conn (Some task) ≡ true → is_task_of conn (Some task) ≡ true → is_open conn past ≡ true
task-open conn past (Store key outcome) tasks h r o e = absurd (true≢false (sym o))
task-open conn past (Deliver c outcome) tasks h r o e = subst (λ x. is_open x past ≡ true) (eqb-true c conn e) h.awaits.0.0
task-open conn past (RunAgain c) tasks h r o e = subst (λ x. is_open x past ≡ true) (eqb-true c conn e) h.awaits.0.0
task-open conn past (RunHeld c) tasks h r o e = subst (λ x. is_open x past ≡ true) (eqb-true c conn e) h.awaits.0.0
task-open conn past (RunLines c) tasks h r o e = subst (λ x. is_open x past ≡ true) (eqb-true c conn e) (runs_open c past r)

read_ready : (conn : ℕ) (past : History) → may_run conn past ≡ true → behind_lines 1 (unread_in (facts conn past)) ≡ behind_lines 1 (unanswered conn past)
read_ready conn past e =
    let p = and_parts _ _ e in
    let q = and_parts _ _ p.0 in
    let w = and_parts (is_open conn past) _ q.0 in
    ap (λ b. behind_lines 1 (cond (b || waits conn past) (behind_lines 1 (unanswered conn past)) (unanswered conn past))) (not-true (holds conn past) q.1)
    ∙ ap (λ b. behind_lines 1 (cond b (behind_lines 1 (unanswered conn past)) (unanswered conn past))) (not-true (waits conn past) w.1)

read_waiting : (conn : ℕ) (past : History) → waits conn past ≡ true → unread_in (facts conn past) ≡ behind_lines 1 (unanswered conn past)
read_waiting conn past e =
    ap (λ b. cond b (behind_lines 1 (unanswered conn past)) (unanswered conn past)) (or_right (holds conn past) (waits conn past) e)

read_held : (conn : ℕ) (past : History) → holds conn past ≡ true → unread_in (facts conn past) ≡ behind_lines 1 (unanswered conn past)
read_held conn past e = ap (λ b. cond (b || waits conn past) (behind_lines 1 (unanswered conn past)) (unanswered conn past)) e

pub task-reads : (conn : ℕ) (past : History) (task : Task) (tasks : List Task) (step : Step) (effect : Effect) → InOrder past (task ∷ tasks) → RunsFirst (λ c. may_run c past) (task ∷ tasks)
    → is_of_conn (Some task) ≡ true → is_task_of conn (Some task) ≡ true
    → (connection_after (Some task) step effect (connection_of_facts conn (facts conn past))).unread ≡ behind_lines 1 (unanswered conn past)
task-reads conn past (Store key outcome) tasks step effect h r o e = absurd (true≢false (sym o))
task-reads conn past (Deliver c outcome) tasks step effect h r o e = read_waiting conn past (subst (λ x. waits x past ≡ true) (eqb-true c conn e) h.awaits.0.1)
task-reads conn past (RunAgain c) tasks step effect h r o e = read_waiting conn past (subst (λ x. waits x past ≡ true) (eqb-true c conn e) h.awaits.0.1)
task-reads conn past (RunHeld c) tasks step effect h r o e = read_held conn past (subst (λ x. holds x past ≡ true) (eqb-true c conn e) h.awaits.0.1)
task-reads conn past (RunLines c) tasks step effect h r o e = read_ready conn past (subst (λ x. may_run x past ≡ true) (eqb-true c conn e) r)

pub task-away : (conn : ℕ) (past : History) (task : Task) (tasks : List Task) → InOrder past (task ∷ tasks) → RunsFirst (λ c. may_run c past) (task ∷ tasks)
    → is_of_conn (Some task) ≡ true → is_task_of conn (Some task) ≡ true → NotJoined past conn
task-away conn past (Store key outcome) tasks h r o e = absurd (true≢false (sym o))
task-away conn past (Deliver c outcome) tasks h r o e = subst (NotJoined past) (eqb-true c conn e) h.awaits.0.2
task-away conn past (RunAgain c) tasks h r o e = subst (NotJoined past) (eqb-true c conn e) h.awaits.0.2
task-away conn past (RunHeld c) tasks h r o e = idle-away conn past (holds_idle conn past (subst (λ x. holds x past ≡ true) (eqb-true c conn e) h.awaits.0.1))
task-away conn past (RunLines c) tasks h r o e =
    let m = subst (λ x. may_run x past ≡ true) (eqb-true c conn e) r in
    idle-away conn past (not-true (waits conn past) (and_parts (is_open conn past) _ (and_parts _ _ (and_parts _ _ m).0).0).1)

line_of_conn : (task : Task) (conn : ℕ) (past : History) → is_of_conn (Some task) ≡ true → line_due (Some task) conn past ≡ first_line (unanswered conn past)
line_of_conn (Store key outcome) conn past o = absurd (true≢false (sym o))
line_of_conn (Deliver c outcome) conn past o = refl
line_of_conn (RunAgain c) conn past o = refl
line_of_conn (RunHeld c) conn past o = refl
line_of_conn (RunLines c) conn past o = refl

-- ---- the placed steps agree

some_unwrap : (bytes : List ℕ) → is_some (cut_at 10 bytes).1 ≡ true → Some (unwrap_or (first_line bytes) []) ≡ first_line bytes
some_unwrap bytes e =
    ap (λ b. Some (unwrap_or (cond b (Some (without_return (cut_at 10 bytes).0)) None) [])) e ∙ sym (ap (λ b. cond b (Some (without_return (cut_at 10 bytes).0)) None) e)

abbrev connection_by : ℕ → Bool → Bool → List ℕ → ℕ → Connection
connection_by conn held waiting bytes waited =
    record { number = conn; unread = cond (held || waiting) (behind_lines 1 bytes) bytes; standing = cond held (Held (unwrap_or (first_line bytes) [])) (cond waiting (Waiting (unwrap_or (first_line bytes) [])) Ready); waited = waited }

line_by : (task : Task) (conn : ℕ) (held waiting : Bool) (bytes : List ℕ) (waited : ℕ) → is_of_conn (Some task) ≡ true → ((held || waiting) ≡ true → is_some (cut_at 10 bytes).1 ≡ true)
    → line_in (Some task) (Some (connection_by conn held waiting bytes waited)) ≡ first_line bytes
line_by (Store key outcome) conn held waiting bytes waited o f = absurd (true≢false (sym o))
line_by (Deliver c outcome) conn true waiting bytes waited o f = some_unwrap bytes (f refl)
line_by (Deliver c outcome) conn false true bytes waited o f = some_unwrap bytes (f refl)
line_by (Deliver c outcome) conn false false bytes waited o f = refl
line_by (RunAgain c) conn true waiting bytes waited o f = some_unwrap bytes (f refl)
line_by (RunAgain c) conn false true bytes waited o f = some_unwrap bytes (f refl)
line_by (RunAgain c) conn false false bytes waited o f = refl
line_by (RunHeld c) conn true waiting bytes waited o f = some_unwrap bytes (f refl)
line_by (RunHeld c) conn false true bytes waited o f = some_unwrap bytes (f refl)
line_by (RunHeld c) conn false false bytes waited o f = refl
line_by (RunLines c) conn true waiting bytes waited o f = some_unwrap bytes (f refl)
line_by (RunLines c) conn false true bytes waited o f = some_unwrap bytes (f refl)
line_by (RunLines c) conn false false bytes waited o f = refl

pub reads-task : (config : Config) (seen : View) (waited : ℕ) (task : Task) (step : Step)
    → Reads (step_happens (Some task) step (effect_in config seen (action_in config waited (Some task) step) step)) (effect_in config seen (action_in config waited (Some task) step) step)
reads-task config seen waited (Store key outcome) step = reads-stored _
reads-task config seen waited (Deliver c outcome) step = reads-ran step.conn _
reads-task config seen waited (RunAgain c) step = reads-ran step.conn _
reads-task config seen waited (RunHeld c) step = reads-ran step.conn _
reads-task config seen waited (RunLines c) step = reads-ran step.conn _

not_right : (config : Config) (placed : PlacedStep) → is_in_turn placed ≡ false → is_right config placed ≡ false
not_right config placed e =
    ap (λ b. b && is_held_rightly placed && has_right_line placed && has_right_reply config placed && has_right_load placed
    && has_right_acceptance config placed && has_right_notes config placed && is_quiet_where_silent placed && keeps_shares config placed) e

module _ (config : Config) (made : ℕ) (past : History) (h : Sound past) (task : Task) (tasks : List Task) (order : InOrder past (task ∷ tasks)) (runs : RunsFirst (λ c. may_run c past) (task ∷ tasks)) (step : Step) where
  abbrev s : Situation
  s = situation_of config made past

  abbrev seen : View
  seen = view_of config past (latest_moment made past)

  abbrev action : Action
  action = action_in config (times_waited step.conn past) (Some task) step

  abbrev effect : Effect
  effect = effect_in config seen action step

  abbrev happens : Happening
  happens = step_happens (Some task) step effect

  abbrev placed : PlacedStep
  placed = placed_step config made past (Some task) step

  fresh : (v : Value) → effect.value ≡ Some v → (covers v.key effect ≡ false) × (v.accepted_at ≡ effect.at)
  fresh v e = (uncovering config seen (option_map (λ a. a.part) step.accepted) effect v e, dated config seen.now (offer_of config seen action) (option_map (λ a. a.part) step.accepted) v e)

  abbrev made_of : View → Action → Option (List ℕ) → PlacedStep
  made_of v d l =
      record { task = Some task; line = l; seen = v; step = step; effect = effect_in config v d step; held = map (λ k. k.value) (left_held s.held (deed_of (effect_in config v d step)) step.notices) }

  held-same : map (λ k. k.value) (left_held s.held (deed_of effect) effect.notes) ≡ held_values (happens ∷ past)
  held-same = same-held config made past happens effect (reads-task config seen (times_waited step.conn past) task step) refl h.stand fresh

  placed-made : placed ≡ made_of seen action (line_due (Some task) step.conn past)
  placed-made = ap (λ vs. record placed { held = vs }) (sym held-same)

  connection-open : is_open step.conn past ≡ true → connection_in step.conn s ≡ Some (connection_from past step.conn)
  connection-open e = connection-of config made past step.conn ∙ ap (λ b. cond b (Some (connection_from past step.conn)) None) e

  placed-open : is_of_conn (Some task) ≡ true → is_open step.conn past ≡ true → placed ≡ placed_step_in config s (Some task) step
  placed-open o e =
      placed-made
      ∙ ap (λ l. made_of seen action l) (line_of_conn task step.conn past o
      ∙ sym (ap (line_in (Some task)) (connection-open e) ∙ line_by task step.conn (holds step.conn past) (waits step.conn past) (unanswered step.conn past) (times_waited step.conn past) o (h.complete step.conn).read))
      ∙ ap (λ x. made_of seen (action_in config (option_map_or (λ m. m.waited) x 0) (Some task) step) (line_in (Some task) (connection_in step.conn s))) (sym (connection-open e))
      ∙ ap (λ v. made_of v (action_in config (option_map_or (λ m. m.waited) (connection_in step.conn s) 0) (Some task) step) (line_in (Some task) (connection_in step.conn s))) (views-agree config made past h.stand)

  -- ---- a right step leads on

  pub record Next : Type 0 where
    pub same : placed ≡ placed_step_in config s (Some task) step
    pub situation : situation_of config made (happens ∷ past) ≡ after_step config s (Some task) step effect
    pub sound : Sound (happens ∷ past)
    pub left : InOrder (happens ∷ past) (left_after (task ∷ tasks))

  right-open : is_of_conn (Some task) ≡ true → is_right config placed ≡ is_right config (placed_step_in config s (Some task) step)
  right-open o =
      elim (cases_Bool (is_task_of step.conn (Some task))) [
        | inl is ↦ ap (is_right config) (placed-open o (task-open step.conn past task tasks order runs o is))
        | inr is ↦ not_right config placed is ∙ sym (not_right config (placed_step_in config s (Some task) step) is)
      ]

  module _ (o : is_of_conn (Some task) ≡ true) (right : is_right config placed ≡ true) where
    parts : Parts config placed
    parts = parts-of config placed right

    opened : is_open step.conn past ≡ true
    opened = task-open step.conn past task tasks order runs o parts.in_turn

    fits : StepFits config made past (Some task) step effect
    fits =
        let sent = sends-rightly config past seen (λ key. refl) refl h.unsettled placed.held step.conn (λ d. open_in (facts d past)) opened effect parts.load parts.reply in
        record {
          of_conn = o;
          at_now = refl;
          is_open = opened;
          held_silent = held-silent config seen placed.held effect parts.reply;
          reads = task-reads step.conn past task tasks step effect order runs o parts.in_turn;
          line = sym (line_of_conn task step.conn past o) ∙ line-due (line_due (Some task) step.conn past) step.line parts.line;
          sends = sent.0;
          numbers = sent.1;
          away = task-away step.conn past task tasks order runs o parts.in_turn;
          fresh = fresh;
          notes = parts.told;
        }

    as_ran : happens ≡ Ran step.conn effect
    as_ran = of_conn-happens (Some task) step effect o

    pub next-open : Next
    next-open =
        record {
          same = placed-open o opened;
          situation = subst (λ x. situation_of config made (x ∷ past) ≡ after_step config s (Some task) step effect) (sym as_ran) (situation-ran config made past (Some task) step effect h.stand fits);
          sound = subst (λ x. Sound (x ∷ past)) (sym as_ran) (sound-ran past h config made (Some task) step effect fits);
          left = subst (λ x. InOrder (x ∷ past) (left_after (task ∷ tasks))) (sym as_ran) (in_order-ran step.conn effect past task tasks (task-is step.conn task o parts.in_turn) order);
        }

module _ (config : Config) (made : ℕ) (past : History) (h : Sound past) (key : Option (List ℕ)) (outcome : Outcome) (tasks : List Task) (order : InOrder past (Store key outcome ∷ tasks)) (runs : RunsFirst (λ c. may_run c past) (Store key outcome ∷ tasks)) (step : Step) where
  abbrev store : Task
  store = Store key outcome

  stored-same : placed config made past h store tasks order runs step ≡ placed_step_in config (situation_of config made past) (Some store) step
  stored-same =
      placed-made config made past h store tasks order runs step
      ∙ ap (λ v. made_of config made past h store tasks order runs step v (Storing key outcome) (Some [])) (views-agree config made past h.stand)

  next-stored : is_right config (placed_step config made past (Some store) step) ≡ true → Next config made past h store tasks order runs step
  next-stored right =
      let fits : StoreFits config made past key outcome (effect config made past h store tasks order runs step) =
      record { action = refl; at_now = refl; fresh = fresh config made past h store tasks order runs step; notes = (parts-of config (placed_step config made past (Some store) step) right).told } in
      record {
        same = stored-same;
        situation = situation-stored config made past key outcome step (effect config made past h store tasks order runs step) h.stand fits;
        sound = sound-stored past h config made key outcome step (effect config made past h store tasks order runs step) fits;
        left = in_order-stored (effect config made past h store tasks order runs step) past tasks (rest-in_order past store tasks order);
      }

pub right-same : (config : Config) (made : ℕ) (past : History) (h : Sound past) (task : Task) (tasks : List Task) (order : InOrder past (task ∷ tasks)) (runs : RunsFirst (λ c. may_run c past) (task ∷ tasks)) (step : Step)
    → is_right config (placed_step config made past (Some task) step) ≡ is_right config (placed_step_in config (situation_of config made past) (Some task) step)
right-same config made past h (Store key outcome) tasks order runs step = ap (is_right config) (stored-same config made past h key outcome tasks order runs step)
right-same config made past h (Deliver c outcome) tasks order runs step = right-open config made past h (Deliver c outcome) tasks order runs step refl
right-same config made past h (RunAgain c) tasks order runs step = right-open config made past h (RunAgain c) tasks order runs step refl
right-same config made past h (RunHeld c) tasks order runs step = right-open config made past h (RunHeld c) tasks order runs step refl
right-same config made past h (RunLines c) tasks order runs step = right-open config made past h (RunLines c) tasks order runs step refl

pub next : (config : Config) (made : ℕ) (past : History) (h : Sound past) (task : Task) (tasks : List Task) (order : InOrder past (task ∷ tasks)) (runs : RunsFirst (λ c. may_run c past) (task ∷ tasks)) (step : Step)
    → is_right config (placed_step config made past (Some task) step) ≡ true → Next config made past h task tasks order runs step
next config made past h (Store key outcome) tasks order runs step right = next-stored config made past h key outcome tasks order runs step right
next config made past h (Deliver c outcome) tasks order runs step right = next-open config made past h (Deliver c outcome) tasks order runs step refl right
next config made past h (RunAgain c) tasks order runs step right = next-open config made past h (RunAgain c) tasks order runs step refl right
next config made past h (RunHeld c) tasks order runs step right = next-open config made past h (RunHeld c) tasks order runs step refl right
next config made past h (RunLines c) tasks order runs step right = next-open config made past h (RunLines c) tasks order runs step refl right
