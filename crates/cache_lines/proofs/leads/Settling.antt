-- Connections that wait, told of their load.
use Rattle.std.proofs.Common.{refl, sym, ap, ◌∙◌, subst, arith, ◌≡◌, ℕ, suc, ◌+◌, ◌≤◌, Bool, true, false, ◌&&◌, ◌||◌, ◌==◌, List, [], ◌∷◌, ◌++◌, map, Option, Some, None, if◌then◌else◌, Ok, codes, nat_le, is_none}
use Rattle.std.proofs.Math.Bool.{or-false}
use Rattle.std.proofs.lemmas.Bool.{eq-eqb}
use Rattle.std.proofs.lemmas.List.{append-nil}
use Rattle.std.specs.Option.{option_map_or}
use Rattle.audit_model.specs.Belongs.{refusal_of}
use Rattle.audit_model.specs.Bytewise.{same}
use Rattle.audit_model.specs.Changes.{after_step, connection_after, join_by}
use Rattle.audit_model.specs.Follows.{line_in, without_load, after_event, after_steps, known_in, tasks_in}
use Rattle.audit_model.specs.Grammar.{reading}
use Rattle.audit_model.specs.History.{Action, Running, Holding, Delivering, Abandoning, Storing}
use Rattle.audit_model.specs.Obeys.{has_right_own_value, is_numbered}
use Rattle.audit_model.specs.Places.{due, left_after, tasks_to_answer, tasks_to_give_up, steps_of}
use Rattle.audit_model.specs.Replies.{load_sent_by, outcome_text}
use Rattle.audit_model.specs.Situation.{Situation, Connection, HeldValue, connection_in, is_waiting_now, pending_key, live_at, may_run_in, view_in, waiting_in, with_connection}
use Rattle.audit_model.specs.Steps.{Task, Deliver, RunAgain, RunLines, action_by, action_in, action_of_line, effect_in, is_right, Store}
use Rattle.audit_model.specs.declared.config.Config.{Config}
use Rattle.audit_model.specs.declared.event.Outcome.{Outcome}
use Rattle.audit_model.specs.declared.transcript.Accepted.{Accepted}
use Rattle.audit_model.specs.declared.transcript.Note.{Note}
use Rattle.audit_model.specs.declared.transcript.Record.{Record}
use Rattle.audit_model.specs.declared.transcript.Step.{Step}
use Rattle.audit_laws.proofs.waiting.Counts.{one_if}
use Rattle.audit_laws.proofs.waiting.Records.{settled-tidy, told-again, told-delivers, told-lines}
use Rattle.audit_laws.proofs.waiting.Standing.{wait_of}
use Rattle.audit_laws.proofs.waiting.Turns.{found-number}
use Rattle.audit_laws.specs.Waiting.Tidy.{Tidy}
use Rattle.cache_commands.proofs.Drawn.{draws-none, spends-kept}
use Rattle.cache_commands.specs.Answered.{says_drop}
use Rattle.cache_commands.specs.Loading.{step_silent, step_waiting}
use Rattle.cache_commands.specs.Loads.Pending.{number_to_send, when_joined, when_sent}
use Rattle.cache_commands.specs.Order.{Order, Unknown, order_by}
use Rattle.cache_commands.specs.Right.{DoesRight, held_when_run, placed_doing, step_saying}
use Rattle.cache_lines.proofs.Drawn.{draws-kept, held-draws, step-kept}
use Rattle.cache_lines.proofs.LineRuns.{right-held}
use Rattle.cache_lines.proofs.ReadyEnds.{joins, placed-is, right-turn, sends}
use Rattle.cache_lines.proofs.leads.Leading.{means, one}
use Rattle.cache_lines.specs.Drawing.{Identifiers, StepDraws, refuses_id, StepsDraw}
use Rattle.cache_lines.specs.Leads.Laws.{record_answered, record_given_up, when_stored}
use Rattle.cache_lines.specs.Leads.Leads.{still_told, SettlingLeads}
use Rattle.cache_lines.specs.Leading.{StepLeads, StepsLead, point}
use Rattle.cache_lines.specs.Lines.{has_its_part, is_timely_after, ready, set_in}
use Rattle.cache_lines.specs.Making.{Making}
use Rattle.cache_lines.specs.Ordered.{order_behind_step}
use Rattle.cache_lines.specs.Tape.Taped.{step_held}
use Rattle.cache_commands.specs.Identifiers.{KeepsIdentifiers}
use Rattle.cache_lines.specs.Waiting.{holding_load, waiting_with, with_loads}
use Rattle.audit_model.specs.declared.command.Command.TheVariants as says
use Rattle.audit_model.specs.declared.event.Outcome.TheVariants as came
use Rattle.audit_model.specs.declared.event.Event.TheVariants as event

-- ---- whose turn it is

-- where something is counted of a connection that may be there, it is there, and its `LOAD` waits
pub counted : (o : Option Connection) → 1 ≤ wait_of o → (c : Connection) × (o ≡ Some c) × (is_waiting_now c.standing ≡ true)
counted None some = absurd (omega arith)
counted (Some c) some = (c, refl, grind arith)

pub told-waits : (n : ℕ) (told : List ℕ) (s : Situation) → Tidy (n ∷ told) s → (c : Connection) × (connection_in n s ≡ Some c) × (c.number ≡ n) × (is_waiting_now c.standing ≡ true)
told-waits n told s tidy =
    let once = tidy.once n in
    let own : one_if (n == n) ≡ 1 = ap one_if (eq-eqb n n refl) in
    let waits : 1 ≤ wait_of (connection_in n s) = omega arith in
    let c = counted (connection_in n s) waits in
    (c.0, c.1, found-number n s.connections c.0 c.1, c.2)

pub answer-tidy : (load moment : ℕ) (outcome : Outcome) (s : Situation) → Tidy [] s → Tidy (still_told (tasks_to_answer (pending_key load s) outcome (waiting_in load s))) (without_load load moment s)
answer-tidy load moment outcome s tidy =
    let conns = waiting_in load s in
    subst (λ told. Tidy told (without_load load moment s)) (sym (told-delivers outcome conns (map RunLines conns) ∙ ap (λ ds. conns ++ ds) (told-lines conns) ∙ append-nil conns)) (settled-tidy load moment s tidy)

pub give-up-tidy : (load moment : ℕ) (s : Situation) → Tidy [] s → Tidy (still_told (tasks_to_give_up (waiting_in load s))) (without_load load moment s)
give-up-tidy load moment s tidy = subst (λ told. Tidy told (without_load load moment s)) (sym (told-again (waiting_in load s))) (settled-tidy load moment s tidy)

-- ---- the step's place

-- a step of a connection that waits, in all that it leads to
waiter : (making : Making) (places : ℕ) (s t : Situation) (n : ℕ) (line bytes : List ℕ) (times : ℕ) (task : Task) (rest : List Task) (action : Action) (step : Step) (a b : Identifiers) (order : Order)
    → connection_in step.conn s ≡ Some (waiting_with n line bytes times)
    → due (may_run_in s) (task ∷ rest) ≡ task ∷ rest → left_after (task ∷ rest) ≡ rest → line_in (Some task) (Some (waiting_with n line bytes times)) ≡ Some line → action_in making.config times (Some task) step ≡ action
    → is_right making.config (placed_doing making.config s (Some task) (Some line) action step) ≡ true
    → after_step making.config s (Some task) step (placed_doing making.config s (Some task) (Some line) action step).effect ≡ t
    → has_its_part making.part_of (placed_doing making.config s (Some task) (Some line) action step).effect ≡ true
    → is_timely_after making.config making.made (placed_doing making.config s (Some task) (Some line) action step).effect t ≡ true
    → StepDraws making.config step a b → order_behind_step making.config (suc places) order step ≡ Unknown
    → StepsLead making places (point s a order) (task ∷ rest) (step ∷ []) (point t b Unknown) rest
waiter making places s t n line bytes times task rest action step a b order found is_due leaves due_line does right after in_part in_time draws lost =
    let config = making.config in
    let placed = placed-is config s task step (waiting_with n line bytes times) line action found due_line does in
    subst (λ ts. StepsLead making places (point s a order) (task ∷ rest) (step ∷ []) (point t b Unknown) ts) leaves (one making places (point s a order) (point t b Unknown) task (task ∷ rest) rest step is_due (record {
      right = ap (is_right config) placed ∙ right;
      after = ap (λ p. after_step config s (Some task) step p.effect) placed ∙ after;
      parted = ap (λ p. has_its_part making.part_of p.effect) placed ∙ in_part;
      timely = ap (λ p. is_timely_after config making.made p.effect t) placed ∙ in_time;
      draws = draws;
      orders = lost;
      keys = λ plain. tt;
    }))

-- a step that refuses no identifier draws none
pub draws-no : (config : Config) (step : Step) (drawn : Identifiers) → refuses_id config step ≡ false → StepDraws config step drawn drawn
draws-no config step drawn no_refusal = record {
  draws = draws-none drawn.stream drawn.registered;
  used_up = λ e. let no : false ≡ true = sym no_refusal ∙ e in cc;
}

and-no : (a b : Bool) → b ≡ false → (a && b) ≡ false
and-no true b e = e
and-no false b e = refl

-- a reply to a load's outcome is none to a `DROPIF`
no-outcome : (outcome : Outcome) → same (outcome_text outcome) (codes "ERR id\n") ≡ false
no-outcome (came.Value bytes ms) = refl
no-outcome came.None = refl
no-outcome (came.Fault text) = refl

-- ---- told something

-- what a step does to the connection that waits, which joins no load
put-after : (s : Situation) (n : ℕ) (c d : Connection) (left : List HeldValue) (more : Bool) (f : Connection → Connection) → connection_in n s ≡ Some c → f c ≡ d → more ≡ false
    → (let u = record s { held = left; dropped = s.dropped || more } in option_map_or (λ k. with_connection false (f k) u) (connection_in n s) u) ≡ set_in s left d
put-after s n c d left more f found is none =
    ap (λ o. let u = record s { held = left; dropped = s.dropped || more } in option_map_or (λ k. with_connection false (f k) u) o u) found
    ∙ ap (λ k. with_connection false k (record s { held = left; dropped = s.dropped || more })) is
    ∙ ap (λ b. with_connection false d (record s { held = left; dropped = s.dropped || b })) none
    ∙ ap (λ b. with_connection false d (record s { held = left; dropped = b })) (or-false s.dropped)

pub delivered : (making : Making) (places : ℕ) (s : Situation) (n : ℕ) (line bytes : List ℕ) (times : ℕ) (outcome : Outcome) (tasks : List Task) (drawn : Identifiers) (order : Order)
    → connection_in n s ≡ Some (waiting_with n line bytes times) → DoesRight making.config s (Delivering outcome) (step_saying 0 [] (outcome_text outcome) None [])
    → order_behind_step making.config (suc places) order (step_saying n line (outcome_text outcome) None []) ≡ Unknown
    → StepsLead making places (point s drawn order) (Deliver n outcome ∷ tasks) (step_saying n line (outcome_text outcome) None [] ∷ [])
    (point (set_in s (held_when_run making.config s (Delivering outcome) (step_saying 0 [] (outcome_text outcome) None [])) (ready n bytes)) drawn Unknown) tasks
delivered making places s n line bytes times outcome tasks drawn order found right lost =
    let config = making.config in
    let step = step_saying n line (outcome_text outcome) None [] in
    let effect = effect_in config (view_in config s) (Delivering outcome) step in
    waiter making places s _ n line bytes times (Deliver n outcome) tasks (Delivering outcome) step drawn drawn order found refl refl refl refl
    (right-turn config s (Deliver n outcome) n line (Delivering outcome) step right (eq-eqb n n refl))
    (put-after s n (waiting_with n line bytes times) (ready n bytes) (held_when_run config s (Delivering outcome) (step_saying 0 [] (outcome_text outcome) None [])) false (connection_after (Some (Deliver n outcome)) step effect) found refl refl)
    refl refl (draws-no config step drawn (and-no (says_drop (reading config line)) (same (outcome_text outcome) (codes "ERR id\n")) (no-outcome outcome))) lost

pub abandoned : (making : Making) (places : ℕ) (s : Situation) (n : ℕ) (line bytes : List ℕ) (times : ℕ) (tasks : List Task) (drawn : Identifiers) (order : Order)
    → connection_in n s ≡ Some (waiting_with n line bytes times) → nat_le 200 times ≡ true → DoesRight making.config s Abandoning (step_saying 0 [] (codes "ERR abandoned\n") None [])
    → order_behind_step making.config (suc places) order (step_saying n line (codes "ERR abandoned\n") None []) ≡ Unknown
    → StepsLead making places (point s drawn order) (RunAgain n ∷ tasks) (step_saying n line (codes "ERR abandoned\n") None [] ∷ [])
    (point (set_in s (held_when_run making.config s Abandoning (step_saying 0 [] (codes "ERR abandoned\n") None [])) (ready n bytes)) drawn Unknown) tasks
abandoned making places s n line bytes times tasks drawn order found last right lost =
    let config = making.config in
    let step = step_saying n line (codes "ERR abandoned\n") None [] in
    let effect = effect_in config (view_in config s) Abandoning step in
    waiter making places s _ n line bytes times (RunAgain n) tasks Abandoning step drawn drawn order found refl refl refl (ap (λ b. if b then Abandoning else action_of_line config step) last)
    (right-turn config s (RunAgain n) n line Abandoning step right (eq-eqb n n refl))
    (put-after s n (waiting_with n line bytes times) (ready n bytes) (held_when_run config s Abandoning (step_saying 0 [] (codes "ERR abandoned\n") None [])) false (connection_after (Some (RunAgain n)) step effect) found refl refl)
    refl refl (draws-no config step drawn (and-no (says_drop (reading config line)) false refl)) lost

-- what the line of a `LOAD` that runs again does
runs-load : (config : Config) (line key : List ℕ) (times : ℕ) (step : Step) → step.held ≡ false → step.line ≡ line → nat_le 200 times ≡ false → reading config line ≡ Ok (says.Load key)
    → (if nat_le 200 times then Abandoning else action_of_line config step) ≡ Running (says.Load key)
runs-load config line key times step stays is few reads =
    ap (λ b. if b then Abandoning else action_of_line config step) few ∙ ap (λ b. if b then Holding else action_by (reading config step.line)) stays
    ∙ ap (λ l. action_by (reading config l)) is ∙ ap action_by reads

pub answered : (making : Making) (places : ℕ) (s : Situation) (n : ℕ) (line bytes key reply : List ℕ) (times : ℕ) (told : List Note) (tasks : List Task) (drawn drawing : Identifiers) (order : Order)
    → connection_in n s ≡ Some (waiting_with n line bytes times) → nat_le 200 times ≡ false → reading making.config line ≡ Ok (says.Load key)
    → DoesRight making.config s (Running (says.Load key)) (step_saying 0 [] reply None told) → StepDraws making.config (step_saying n line reply None told) drawn drawing
    → StepsLead making places (point s drawn order) (RunAgain n ∷ tasks) (step_saying n line reply None told ∷ [])
    (point (set_in s (held_when_run making.config s (Running (says.Load key)) (step_saying 0 [] reply None told)) (ready n bytes)) drawing Unknown) tasks
answered making places s n line bytes key reply times told tasks drawn drawing order found few reads right draws =
    let config = making.config in
    let step = step_saying n line reply None told in
    let effect = effect_in config (view_in config s) (Running (says.Load key)) step in
    waiter making places s _ n line bytes times (RunAgain n) tasks (Running (says.Load key)) step drawn drawing order found refl refl refl (runs-load config line key times step refl refl few reads)
    (right-turn config s (RunAgain n) n line (Running (says.Load key)) step right (eq-eqb n n refl))
    (put-after s n (waiting_with n line bytes times) (ready n bytes) (held_when_run config s (Running (says.Load key)) (step_saying 0 [] reply None told)) false (connection_after (Some (RunAgain n)) step effect) found refl refl)
    refl refl draws (ap (λ r. order_by (suc places) r order) reads)

-- ---- held back

pub held_back : (making : Making) (places : ℕ) (s : Situation) (n : ℕ) (line bytes : List ℕ) (times : ℕ) (tasks : List Task) (drawn : Identifiers) (order : Order)
    → connection_in n s ≡ Some (waiting_with n line bytes times) → nat_le 200 times ≡ false
    → StepsLead making places (point s drawn order) (RunAgain n ∷ tasks) (step_held n line ∷ [])
    (point (set_in s (held_when_run making.config s Holding (step_held n line)) (holding_load n line bytes times)) drawn Unknown) tasks
held_back making places s n line bytes times tasks drawn order found few =
    let config = making.config in
    let step = step_held n line in
    let effect = effect_in config (view_in config s) Holding step in
    waiter making places s _ n line bytes times (RunAgain n) tasks Holding step drawn drawn order found refl refl refl (ap (λ b. if b then Abandoning else action_of_line config step) few)
    (right-held config s (RunAgain n) n line (eq-eqb n n refl) refl)
    (put-after s n (waiting_with n line bytes times) (holding_load n line bytes times) (held_when_run config s Holding step) false (connection_after (Some (RunAgain n)) step effect) found
    (let e : 0 + times ≡ times = omega arith in ap (λ k. holding_load n line bytes k) e) refl)
    refl refl (held-draws config n line drawn) refl

-- ---- waiting again

-- what the step does to the loads and to the connection
put-waiting : (s : Situation) (n : ℕ) (line bytes key : List ℕ) (times : ℕ) (number : Option ℕ) (left : List HeldValue) (f : Connection → Connection) → connection_in n s ≡ Some (waiting_with n line bytes times) → f (waiting_with n line bytes times) ≡ waiting_with n line bytes (suc times)
    → (let u = record s { held = left; dropped = s.dropped || false } in option_map_or (λ k. with_connection false (f k) (join_by n true (Some key) number u)) (connection_in n s) u)
    ≡ set_in (with_loads (when_sent number s.sent) (when_joined n key number s.pending) s) left (waiting_with n line bytes (suc times))
put-waiting s n line bytes key times number left f found is =
    ap (λ o. let u = record s { held = left; dropped = s.dropped || false } in option_map_or (λ k. with_connection false (f k) (join_by n true (Some key) number u)) o u) found
    ∙ ap (λ k. with_connection false k (join_by n true (Some key) number (record s { held = left; dropped = s.dropped || false }))) is
    ∙ ap (λ b. with_connection false (waiting_with n line bytes (suc times)) (join_by n true (Some key) number (record s { held = left; dropped = b }))) (or-false s.dropped)
    ∙ ap (with_connection false (waiting_with n line bytes (suc times))) (joins n key number (record s { held = left }))

pub waits_again : (making : Making) (places : ℕ) (s : Situation) (n : ℕ) (line bytes key : List ℕ) (times : ℕ) (tasks : List Task) (drawn : Identifiers) (order : Order)
    → connection_in n s ≡ Some (waiting_with n line bytes times) → nat_le 200 times ≡ false → reading making.config line ≡ Ok (says.Load key) → live_at making.config s.latest s.held key ≡ None
    → DoesRight making.config s (Running (says.Load key)) (step_waiting making.config s key 0 [])
    → (let number = number_to_send key s.sent s.pending in
    StepsLead making places (point s drawn order) (RunAgain n ∷ tasks) (step_silent n line number None [] ∷ [])
    (point (set_in (with_loads (when_sent number s.sent) (when_joined n key number s.pending) s) (held_when_run making.config s (Running (says.Load key)) (step_waiting making.config s key 0 [])) (waiting_with n line bytes (suc times))) drawn Unknown) tasks)
waits_again making places s n line bytes key times tasks drawn order found few reads none right =
    let config = making.config in
    let number = load_sent_by (view_in config s) (Running (says.Load key)) in
    let step = step_silent n line number None [] in
    let effect = effect_in config (view_in config s) (Running (says.Load key)) step in
    let left = held_when_run config s (Running (says.Load key)) (step_waiting config s key 0 []) in
    subst (λ k. StepsLead making places (point s drawn order) (RunAgain n ∷ tasks) (step_silent n line k None [] ∷ [])
    (point (set_in (with_loads (when_sent k s.sent) (when_joined n key k s.pending) s) left (waiting_with n line bytes (suc times))) drawn Unknown) tasks)
    (sends config s key none)
    (waiter making places s _ n line bytes times (RunAgain n) tasks (Running (says.Load key)) step drawn drawn order found refl refl refl (runs-load config line key times step refl refl few reads)
    (right-turn config s (RunAgain n) n line (Running (says.Load key)) step right (eq-eqb n n refl))
    (put-waiting s n line bytes key times number left (connection_after (Some (RunAgain n)) step effect) found (let e : 1 + times ≡ suc times = omega arith in ap (λ k. waiting_with n line bytes k) e))
    refl refl (draws-no config step drawn (and-no (says_drop (reading config line)) false refl)) (ap (λ r. order_by (suc places) r order) reads))

-- The records of an answer and of a give-up, from their steps.

-- a record whose steps lead from its event to their end
settled : (making : Making) (places : ℕ) (s t : Situation) (entry : Record) (drawn drawing : Identifiers) (order behind : Order)
    → refusal_of making.config (known_in s) entry.event ≡ None → is_numbered s.opened entry.event ≡ true → has_right_own_value entry ≡ true
    → StepsLead making places (point (after_event entry.event s) drawn order) (tasks_in s entry.event) (steps_of entry) (point t drawing behind) [] → StepsDraw making.config entry.steps drawn drawing
    → SettlingLeads making places s entry t drawn drawing order behind
settled making places s t entry drawn drawing order behind admitted numbered owned leads draws =
    let config = making.config in
    let rest = after_steps config (after_event entry.event s) (tasks_in s entry.event) (steps_of entry) in
    record {
      follows =
          ap (λ o. if is_none o && is_numbered s.opened entry.event && has_right_own_value entry then rest else None) admitted
          ∙ ap (λ b. if b && has_right_own_value entry then rest else None) numbered
          ∙ ap (λ b. if b then rest else None) owned
          ∙ (means making places (point (after_event entry.event s) drawn order) (point t drawing behind) (tasks_in s entry.event) [] (steps_of entry) leads).follows refl;
      leads = leads;
      draws = draws;
    }

-- its value is stored, and then the steps of connections come
pub answer : (making : Making) (places : ℕ) (s t : Situation) (load moment : ℕ) (key : List ℕ) (outcome : Outcome) (accepted : Option Accepted) (told : List Note) (ran : List Step) (drawn kept drawing : Identifiers) (order behind : Order)
    → refusal_of making.config (known_in s) (event.Answer load outcome (record { nanos = moment })) ≡ None → pending_key load s ≡ Some key
    → has_right_own_value (record_answered load outcome moment accepted told ran) ≡ true
    → DoesRight making.config (without_load load moment s) (Storing (Some key) outcome) (step_silent 0 [] None accepted told)
    → has_its_part making.part_of (effect_in making.config (view_in making.config (without_load load moment s)) (Storing (Some key) outcome) (step_silent 0 [] None accepted told)) ≡ true
    → KeepsIdentifiers drawn.stream kept.stream drawn.registered kept.registered
    → StepsLead making places (point (when_stored making.config (without_load load moment s) key outcome accepted told) kept Unknown) (map (λ conn. Deliver conn outcome) (waiting_in load s) ++ map RunLines (waiting_in load s)) ran (point t drawing behind) []
    → SettlingLeads making places s (record_answered load outcome moment accepted told ran) t drawn drawing order behind
answer making places s t load moment key outcome accepted told ran drawn kept drawing order behind admitted keyed owned right parted keeps leads =
    let config = making.config in
    let own = step_silent 0 [] None accepted told in
    let tasks = map (λ conn. Deliver conn outcome) (waiting_in load s) ++ map RunLines (waiting_in load s) in
    let u = without_load load moment s in
    let stored = when_stored config u key outcome accepted told in
    let own_leads : StepLeads making places (Some (Store (Some key) outcome)) own (point u drawn order) (point stored kept Unknown) = record {
      right = right-turn config u (Store (Some key) outcome) 0 [] (Storing (Some key) outcome) own right refl;
      after = ap (λ b. record u { held = held_when_run config u (Storing (Some key) outcome) own; dropped = b }) (or-false u.dropped);
      parted = parted;
      timely = refl;
      draws = step-kept config own drawn drawn kept (draws-no config own drawn refl) keeps;
      orders = refl;
      keys = λ plain. tt;
    } in
    settled making places s t (record_answered load outcome moment accepted told ran) drawn drawing order behind admitted refl owned
    (subst (λ ts. StepsLead making places (point u drawn order) ts (own ∷ ran) (point t drawing behind) []) (sym (ap (λ k. tasks_to_answer k outcome (waiting_in load s)) keyed)) (point stored kept Unknown, own_leads, leads))
    (draws-kept config ran drawn kept drawing (spends-kept drawn.stream kept.stream drawn.registered kept.registered keeps)
    (means making places (point stored kept Unknown) (point t drawing behind) tasks [] ran leads).draws)

pub give-up : (making : Making) (places : ℕ) (s t : Situation) (load moment : ℕ) (ran : List Step) (drawn drawing : Identifiers) (order behind : Order)
    → refusal_of making.config (known_in s) (event.GiveUp load (record { nanos = moment })) ≡ None
    → StepsLead making places (point (without_load load moment s) drawn order) (tasks_to_give_up (waiting_in load s)) ran (point t drawing behind) []
    → SettlingLeads making places s (record_given_up load moment ran) t drawn drawing order behind
give-up making places s t load moment ran drawn drawing order behind admitted leads =
    settled making places s t (record_given_up load moment ran) drawn drawing order behind admitted refl refl leads
    (means making places (point (without_load load moment s) drawn order) (point t drawing behind) (tasks_to_give_up (waiting_in load s)) [] ran leads).draws
