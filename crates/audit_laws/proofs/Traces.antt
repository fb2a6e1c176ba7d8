-- All that a history says of what is to come. It is kept also of histories with events that are refused, and each test of a transcript is a test of it.
use Rattle.std.proofs.Common.{◌≡◌, refl, ap, ◌∙◌, sym, append_assoc, ℕ, suc, ◌+◌, max, Bool, true, false, not, ◌&&◌, ◌||◌, cond, List, [], ◌∷◌, ◌++◌, map, length, Option, Some, None, is_some}
use Rattle.std.specs.Prelude.{◌==◌}
use Rattle.std.specs.List.{list_all, list_any, filter, filter_map, find, flat_map}
use Rattle.std.specs.Option.{option_map, option_to_list}
use Rattle.std.proofs.lemmas.List.Elements.{filter_map-append}
use Rattle.std.proofs.Math.Bool.{and_assoc}
use Rattle.audit_model.specs.Bytewise.{same, is_empty}
use Rattle.audit_model.specs.Commands.{is_step_that, looks_up, covers, deletes, syncs, drops, quits}
use Rattle.audit_model.specs.History.{History, Happening, Opened, Closed, Fed, Settled, Stored, Ran, Effect, Value, value_of, effect_of, latest_moment}
use Rattle.audit_model.specs.Loads.{Sent, key_loaded, sent_by, loads_sent, is_load_settled, sends_for, waits_for, joined, waiting_for}
use Rattle.audit_model.specs.Notes.{is_over, tells_size}
use Rattle.audit_model.specs.Obeys.{is_numbered, has_right_own_value, accepted_values, is_right_record}
use Rattle.audit_model.specs.Places.{happening_of, tasks_to_answer, tasks_to_give_up, tasks_to_feed, due, first_due, left_after, step_happens, tasks_of, placed_step, Walk, walk, steps_of, PlacedRecord, placed_record, placed_records_after, history_after}
use Rattle.audit_model.specs.Seen.{was_over, has_dropped}
use Rattle.audit_model.specs.Steps.{Task, Store, Deliver, RunAgain, RunHeld, RunLines, PlacedStep, action_in, effect_in, is_right}
use Rattle.audit_model.specs.Stream.{opened_count, is_held, is_waiting, first_line}
use Rattle.audit_model.specs.Values.{accepts, moment_of, deadline, deadline_has_come, last_accepted, is_key_covered, is_deleted, untold_after, held_values, last_use, sorted}
use Rattle.audit_model.specs.View.{View}
use Rattle.audit_model.specs.declared.config.Config.{Config}
use Rattle.audit_model.specs.declared.event.Event.{Event}
use Rattle.audit_model.specs.declared.event.Event.TheVariants as event
use Rattle.audit_model.specs.declared.transcript.Record.{Record}
use Rattle.audit_model.specs.declared.transcript.Step.{Step}
use Rattle.audit_laws.proofs.Connections.{Facts, facts, last_is, bytes_left, unread_in, open_in}

pub record Traces : Type 0 where
  pub moment : ℕ
  pub used : List ℕ → ℕ
  pub covered : List ℕ → Bool
  pub deleted : List ℕ → Bool
  pub last : List ℕ → Option Value
  pub kept : List Value
  pub over : List ℕ → ℕ → Bool
  pub dropped : Bool
  pub sent : List Sent
  pub settled : ℕ → Bool
  pub waiters : List ℕ → List ℕ
  pub count : ℕ
  pub connection : ℕ → Facts

pub record Walked : Type 0 where
  pub placed : List PlacedStep
  pub left : List Task
  pub after : Traces

-- a connection's facts after a step, which is its own or not
abbrev pub ran_on : Effect → Facts → Bool → Facts
ran_on effect f own =
    record f {
      quit = (own && quits effect) || f.quit;
      effect = cond own (Some effect) f.effect;
      replies = cond (own && is_some effect.reply) 1 0 + f.replies;
      times = cond own (cond (is_some effect.reply) 0 (cond (is_waiting effect) 1 0 + f.times)) f.times;
    }

module _ (config : Config) where
  -- a value, where it lives
  abbrev pub living : Traces → List ℕ → ℕ → Option Value → Option Value
  living t key now None = None
  living t key now (Some value) =
      cond (not (t.deleted key) && not (t.covered key) && not (not (list_any (λ v. same key v.key) t.kept)) && not (deadline_has_come (deadline config value (t.used key)) now)) (Some value) None

  -- what happens to values
  abbrev pub valued : Happening → Traces → Traces
  valued h t =
      record t {
        used = λ key. cond (accepts key h) (moment_of h) (cond (is_step_that (looks_up key) h && is_some (living t key (moment_of h) (t.last key))) (moment_of h) (t.used key));
        covered = λ key. cond (accepts key h) false (is_step_that (covers key) h || t.covered key);
        deleted = λ key. cond (accepts key h) false (is_step_that (deletes key) h || t.deleted key);
        last = λ key. cond (accepts key h) (value_of h) (t.last key);
        kept = untold_after (effect_of h) t.kept;
        over =
            λ key part. is_over config part (untold_after (effect_of h) t.kept)
            || (not (accepts key h) && not (is_step_that syncs h) && not (is_step_that (λ effect. tells_size part (t.kept ++ option_to_list effect.value) effect.notes) h) && t.over key part);
        dropped = is_step_that drops h || t.dropped;
      }

  -- what happens
  abbrev pub then_traces : Happening → Traces → Traces
  then_traces (Opened d) t = record (valued (Opened d) t) { count = suc t.count; connection = λ c. record (t.connection c) { opened = (d == c) || (t.connection c).opened } }
  then_traces (Closed d) t = record (valued (Closed d) t) { connection = λ c. record (t.connection c) { closed = (d == c) || (t.connection c).closed } }
  then_traces (Fed d piece m) t =
      record (valued (Fed d piece m) t) { moment = max m t.moment; connection = λ c. record (t.connection c) { bytes = (t.connection c).bytes ++ cond (d == c) piece [] } }
  then_traces (Settled load m) t = record (valued (Settled load m) t) { moment = max m t.moment; settled = λ n. (load == n) || t.settled n }
  then_traces (Stored effect) t = valued (Stored effect) t
  then_traces (Ran d effect) t =
      record (valued (Ran d effect) t) {
        sent = sent_by (key_loaded effect.action) effect.load ++ t.sent;
        waiters = λ key. cond (sends_for key effect) [] (filter (λ c. not (c == d)) (t.waiters key)) ++ cond (waits_for key effect) (d ∷ []) [];
        connection = λ c. ran_on effect (t.connection c) (d == c);
      }

  abbrev pub traces : ℕ → History → Traces
  traces made past =
      record {
        moment = latest_moment made past;
        used = λ key. last_use config key past;
        covered = λ key. is_key_covered key past;
        deleted = λ key. is_deleted key past;
        last = λ key. last_accepted key past;
        kept = held_values past;
        over = λ key part. was_over config key part past;
        dropped = has_dropped past;
        sent = loads_sent past;
        settled = λ n. is_load_settled n past;
        waiters = λ key. joined key past;
        count = opened_count past;
        connection = λ c. facts c past;
      }

  pub traces-then : (made : ℕ) (h : Happening) (past : History) → traces made (h ∷ past) ≡ then_traces h (traces made past)
  traces-then made (Opened d) past = refl
  traces-then made (Closed d) past = refl
  traces-then made (Fed d piece m) past = refl
  traces-then made (Settled load m) past = refl
  traces-then made (Stored effect) past = refl
  traces-then made (Ran d effect) past = refl

  -- ---- what a step sees, and what is due

  abbrev pub under_way : Traces → List Sent
  under_way t = filter (λ sent. not (t.settled sent.number)) t.sent

  abbrev pub view_by : Traces → View
  view_by t =
      record {
        now = t.moment;
        live = λ key. living t key t.moment (t.last key);
        live_keys = sorted (filter_map (λ v. option_map (λ w. w.key) (living t v.key t.moment (t.last v.key))) t.kept);
        load_of_key = λ key. option_map (λ sent. sent.number) (find (λ sent. same sent.key key) (under_way t));
        next_load = suc (length t.sent);
        dropped = t.dropped;
        held = map (λ v. record { value = v; dead = deadline_has_come (deadline config v (t.used v.key)) t.moment; covered = t.covered v.key; evictable = t.over v.key v.part; new = false }) t.kept;
      }

  abbrev pub may_by : Traces → ℕ → Bool
  may_by t c =
      let f = t.connection c in
      open_in f && not (last_is is_waiting f.effect) && not (last_is is_held f.effect) && is_some (first_line (unread_in f))

  abbrev pub line_by : Traces → Option Task → ℕ → Option (List ℕ)
  line_by t (Some (Store key outcome)) conn = Some []
  line_by t task conn = first_line (bytes_left (t.connection conn))

  abbrev pub waiting_by : Traces → Option (List ℕ) → List ℕ
  waiting_by t None = []
  waiting_by t (Some key) = filter (λ c. open_in (t.connection c)) (t.waiters key)

  abbrev pub key_by : Traces → ℕ → Option (List ℕ)
  key_by t load = option_map (λ sent. sent.key) (find (λ sent. sent.number == load) (under_way t))

  abbrev pub tasks_by : Traces → Event → List Task
  tasks_by t (event.Open conn) = []
  tasks_by t (event.Close conn) = []
  tasks_by t (event.Feed conn piece moment) = tasks_to_feed conn (last_is is_held (t.connection conn).effect)
  tasks_by t (event.Answer load outcome moment) = tasks_to_answer (key_by t load) outcome (waiting_by t (key_by t load))
  tasks_by t (event.GiveUp load moment) = tasks_to_give_up (waiting_by t (key_by t load))

  abbrev pub effect_by : Traces → Option Task → Step → Effect
  effect_by t task step = effect_in config (view_by t) (action_in config (t.connection step.conn).times task step) step

  abbrev pub placed_by : Traces → Option Task → Step → PlacedStep
  placed_by t task step =
      record { task = task; line = line_by t task step.conn; seen = view_by t; step = step; effect = effect_by t task step; held = untold_after (effect_of (step_happens task step (effect_by t task step))) t.kept }

  -- ---- steps, records and transcripts

  abbrev pub then_step : Traces → Option Task → Step → Traces
  then_step t task step = then_traces (step_happens task step (effect_by t task step)) t

  abbrev pub walk_by : Traces → List Task → List Step → Walked
  walk_by t tasks [] = record { placed = []; left = due (may_by t) tasks; after = t }
  walk_by t tasks (step ∷ steps) =
      let now_due = due (may_by t) tasks in
      let rest = walk_by (then_step t (first_due now_due) step) (left_after now_due) steps in
      record { placed = placed_by t (first_due now_due) step ∷ rest.placed; left = rest.left; after = rest.after }

  abbrev pub walked_by : Traces → Record → Walked
  walked_by t entry = walk_by (then_traces (happening_of entry.event) t) (tasks_by t entry.event) (steps_of entry)

  abbrev pub is_right_by : Traces → Record → Bool
  is_right_by t entry =
      is_numbered t.count entry.event && is_empty (walked_by t entry).left && has_right_own_value entry && list_all (is_right config) (walked_by t entry).placed

  abbrev pub are_right_by : Traces → List Record → Bool
  are_right_by t [] = true
  are_right_by t (entry ∷ entries) = is_right_by t entry && are_right_by (walked_by t entry).after entries

  abbrev pub values_by : Traces → List Record → List Value
  values_by t [] = []
  values_by t (entry ∷ entries) = accepted_values (walked_by t entry).placed ++ values_by (walked_by t entry).after entries

  abbrev pub traces_after : Traces → List Record → Traces
  traces_after t [] = t
  traces_after t (entry ∷ entries) = traces_after (walked_by t entry).after entries

  module _ (made : ℕ) where
    abbrev walked : Walk → Walked
    walked w = record { placed = w.placed_steps; left = w.left; after = traces made w.after }

    placed-same : (past : History) (task : Option Task) (step : Step) → placed_step config made past task step ≡ placed_by (traces made past) task step
    placed-same past None step = refl
    placed-same past (Some (Store key outcome)) step = refl
    placed-same past (Some (Deliver c outcome)) step = refl
    placed-same past (Some (RunAgain c)) step = refl
    placed-same past (Some (RunHeld c)) step = refl
    placed-same past (Some (RunLines c)) step = refl

    abbrev onto : PlacedStep → Walked → Walked
    onto placed w = record { placed = placed ∷ w.placed; left = w.left; after = w.after }

    step-same : (past : History) (step : Step) (steps : List Step)
        → ((past' : History) (tasks : List Task) → walked (walk config made past' tasks steps) ≡ walk_by (traces made past') tasks steps)
        → (now_due : List Task)
        → (let placed = placed_step config made past (first_due now_due) step in onto placed (walked (walk config made (step_happens placed.task step placed.effect ∷ past) (left_after now_due) steps)))
        ≡ onto (placed_by (traces made past) (first_due now_due) step) (walk_by (then_step (traces made past) (first_due now_due) step) (left_after now_due) steps)
    step-same past step steps ih now_due =
        let happened = step_happens (first_due now_due) step (effect_by (traces made past) (first_due now_due) step) in
        ap (λ (p : PlacedStep). onto p (walked (walk config made (step_happens p.task step p.effect ∷ past) (left_after now_due) steps))) (placed-same past (first_due now_due) step)
        ∙ ap (onto (placed_by (traces made past) (first_due now_due) step)) (ih (happened ∷ past) (left_after now_due) ∙ ap (λ t. walk_by t (left_after now_due) steps) (traces-then made happened past))

    -- the steps of a record by the traces alone
    pub walk-same : (steps : List Step) (past : History) (tasks : List Task) → walked (walk config made past tasks steps) ≡ walk_by (traces made past) tasks steps
    walk-same [] past tasks = refl
    walk-same (step ∷ steps) past tasks = step-same past step steps (walk-same steps) (due (may_by (traces made past)) tasks)

    waiting-same : (past : History) (key : Option (List ℕ)) → waiting_for key past ≡ waiting_by (traces made past) key
    waiting-same past None = refl
    waiting-same past (Some key) = refl

    tasks-same : (past : History) (e : Event) → tasks_of past e ≡ tasks_by (traces made past) e
    tasks-same past (event.Open conn) = refl
    tasks-same past (event.Close conn) = refl
    tasks-same past (event.Feed conn piece moment) = refl
    tasks-same past (event.Answer load outcome moment) = ap (tasks_to_answer (key_by (traces made past) load) outcome) (waiting-same past (key_by (traces made past) load))
    tasks-same past (event.GiveUp load moment) = ap tasks_to_give_up (waiting-same past (key_by (traces made past) load))

    pub record-same : (past : History) (entry : Record) → walked (placed_record config made past entry).walked ≡ walked_by (traces made past) entry
    record-same past entry =
        walk-same (steps_of entry) (happening_of entry.event ∷ past) (tasks_of past entry.event)
        ∙ ap (λ t. walk_by t (tasks_of past entry.event) (steps_of entry)) (traces-then made (happening_of entry.event) past)
        ∙ ap (λ ts. walk_by (then_traces (happening_of entry.event) (traces made past)) ts (steps_of entry)) (tasks-same past entry.event)

    pub right-same : (entries : List Record) (past : History) → list_all (is_right_record config) (placed_records_after config made past entries) ≡ are_right_by (traces made past) entries
    right-same [] past = refl
    right-same (entry ∷ entries) past =
        ap (λ b. is_right_record config (placed_record config made past entry) && b) (right-same entries (placed_record config made past entry).walked.after)
        ∙ ap (λ (w : Walked). (is_numbered (opened_count past) entry.event && is_empty w.left && has_right_own_value entry && list_all (is_right config) w.placed) && are_right_by w.after entries) (record-same past entry)

    pub values-same : (entries : List Record) (past : History)
        → accepted_values (flat_map (λ (placed : PlacedRecord). placed.walked.placed_steps) (placed_records_after config made past entries)) ≡ values_by (traces made past) entries
    values-same [] past = refl
    values-same (entry ∷ entries) past =
        filter_map-append (λ placed. placed.effect.value) (placed_record config made past entry).walked.placed_steps (flat_map (λ (placed : PlacedRecord). placed.walked.placed_steps) (placed_records_after config made (placed_record config made past entry).walked.after entries))
        ∙ ap (λ vs. accepted_values (placed_record config made past entry).walked.placed_steps ++ vs) (values-same entries (placed_record config made past entry).walked.after)
        ∙ ap (λ (w : Walked). accepted_values w.placed ++ values_by w.after entries) (record-same past entry)

    pub after-same : (entries : List Record) (past : History) → traces made (history_after config made past entries) ≡ traces_after (traces made past) entries
    after-same [] past = refl
    after-same (entry ∷ entries) past =
        after-same entries (placed_record config made past entry).walked.after
        ∙ ap (λ (w : Walked). traces_after w.after entries) (record-same past entry)

  -- ---- records in a row

  pub right-append : (t : Traces) (xs ys : List Record) → are_right_by t (xs ++ ys) ≡ (are_right_by t xs && are_right_by (traces_after t xs) ys)
  right-append t [] ys = refl
  right-append t (x ∷ xs) ys = ap (λ b. is_right_by t x && b) (right-append (walked_by t x).after xs ys) ∙ sym (and_assoc (is_right_by t x) (are_right_by (walked_by t x).after xs) _)

  pub after-append : (t : Traces) (xs ys : List Record) → traces_after t (xs ++ ys) ≡ traces_after (traces_after t xs) ys
  after-append t [] ys = refl
  after-append t (x ∷ xs) ys = after-append (walked_by t x).after xs ys

  pub values-append : (t : Traces) (xs ys : List Record) → values_by t (xs ++ ys) ≡ values_by t xs ++ values_by (traces_after t xs) ys
  values-append t [] ys = refl
  values-append t (x ∷ xs) ys = ap (λ vs. accepted_values (walked_by t x).placed ++ vs) (values-append (walked_by t x).after xs ys) ∙ sym (append_assoc (accepted_values (walked_by t x).placed) (values_by (walked_by t x).after xs) _)
