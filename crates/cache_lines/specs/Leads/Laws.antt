-- What one piece of the record of a settled load leads to, and what all of them lead to.
use Rattle.std.specs.Prelude.{◌≡◌, ℕ, suc, nat_le, true, false, List, [], ◌∷◌, ◌++◌, map, Option, Some, None, Ok, codes, IsTrue}
use Rattle.audit_laws.proofs.waiting.Records.{has_no_held}
use Rattle.audit_laws.specs.Waiting.Tidy.{Tidy}
use Rattle.audit_model.specs.Follows.{known_in, without_load}
use Rattle.audit_model.specs.Grammar.{reading}
use Rattle.audit_model.specs.History.{Running, Delivering, Abandoning, Storing, Holding}
use Rattle.audit_model.specs.Obeys.{has_right_own_value}
use Rattle.audit_model.specs.Places.{tasks_to_answer, tasks_to_give_up}
use Rattle.audit_model.specs.Situation.{Situation, Connection, connection_in, is_waiting_now, pending_key, live_at, may_run_in, view_in, waiting_in}
use Rattle.audit_model.specs.Steps.{Task, Deliver, RunAgain, RunLines, effect_in}
use Rattle.audit_model.specs.declared.config.Config.{Config}
use Rattle.audit_model.specs.declared.event.Outcome.{Outcome}
use Rattle.audit_model.specs.declared.transcript.Accepted.{Accepted}
use Rattle.audit_model.specs.declared.transcript.Note.{Note}
use Rattle.audit_model.specs.declared.transcript.Record.{Record}
use Rattle.audit_model.specs.declared.transcript.Step.{Step}
use Rattle.cache_commands.specs.Loading.{step_silent, step_waiting}
use Rattle.cache_commands.specs.Loads.Pending.{number_to_send, when_joined, when_sent}
use Rattle.cache_commands.specs.Order.{Order, Unknown}
use Rattle.cache_commands.specs.Right.{DoesRight, held_when_run, step_saying}
use Rattle.audit_model.specs.Belongs.{refusal_of}
use Rattle.audit_model.specs.Replies.{outcome_text}
use Rattle.audit_model.specs.declared.command.Command.TheVariants as says
use Rattle.audit_model.specs.declared.event.Event.TheVariants as event
use Rattle.cache_lines.specs.Drawing.{Identifiers, StepDraws}
use Rattle.cache_lines.specs.Leading.{Point, StepsLead, point}
use Rattle.cache_lines.specs.Lines.{has_its_part, ready, set_in}
use Rattle.cache_lines.specs.Tape.Taped.{step_held}
use Rattle.cache_lines.specs.Making.{Making}
use Rattle.cache_lines.specs.Waiting.{holding_load, waiting_with, with_loads}
use Rattle.cache_lines.specs.Leads.Leads.{SettlingLeads, still_told}
use Rattle.cache_lines.specs.Ordered.{order_behind_step}
use Rattle.cache_commands.specs.Identifiers.{KeepsIdentifiers}

-- no step leads nowhere else
abbrev pub NothingLeads : Type 0
NothingLeads =
    (making : Making) (places : ℕ) (a : Point) (tasks : List Task)
    → StepsLead making places a tasks [] a tasks

-- steps lead on from where others led
abbrev pub StepsLeadOn : Type 0
StepsLeadOn =
    (making : Making) (places : ℕ) (a b c : Point) (tasks left last : List Task)
    (steps more : List Step)
    → StepsLead making places a tasks steps b left → StepsLead making places b left more c last
    → StepsLead making places a tasks (steps ++ more) c last

-- each connection that still has to be told of its load waits, once, as it did before the steps
abbrev pub StepsKeepTidy : Type 0
StepsKeepTidy =
    (making : Making) (places : ℕ) (a b : Point) (tasks left : List Task) (steps : List Step)
    → StepsLead making places a tasks steps b left → IsTrue (has_no_held tasks)
    → Tidy (still_told tasks) a.situation → Tidy (still_told left) b.situation

-- a connection whose turn it is to be told waits, and no other one is told in its place
abbrev pub ToldWaits : Type 0
ToldWaits =
    (n : ℕ) (told : List ℕ) (s : Situation) → Tidy (n ∷ told) s → (c : Connection)
    × (connection_in n s ≡ Some c) × (c.number ≡ n) × (is_waiting_now c.standing ≡ true)

-- when a load is settled, each connection that waited for it still has to be told, once, if it is answered
abbrev pub AnswerTidy : Type 0
AnswerTidy =
    (load moment : ℕ) (outcome : Outcome) (s : Situation) → Tidy [] s
    → Tidy (still_told (tasks_to_answer (pending_key load s) outcome (waiting_in load s)))
    (without_load load moment s)

-- or given up
abbrev pub GiveUpTidy : Type 0
GiveUpTidy =
    (load moment : ℕ) (s : Situation) → Tidy [] s
    → Tidy (still_told (tasks_to_give_up (waiting_in load s))) (without_load load moment s)

-- A waiting `LOAD` receives the outcome: its connection runs lines again. Here and below, nothing is known after the step about the order
-- of use.
abbrev pub DeliveredLeads : Type 0
DeliveredLeads =
    (making : Making) (places : ℕ) (s : Situation) (n : ℕ) (line bytes : List ℕ) (times : ℕ)
    (outcome : Outcome) (tasks : List Task) (drawn : Identifiers) (order : Order)
    → connection_in n s ≡ Some (waiting_with n line bytes times)
    → DoesRight making.config s (Delivering outcome)
    (step_saying 0 [] (outcome_text outcome) None [])
    → order_behind_step making.config (suc places) order
    (step_saying n line (outcome_text outcome) None []) ≡ Unknown
    → StepsLead making places (point s drawn order) (Deliver n outcome ∷ tasks)
    (step_saying n line (outcome_text outcome) None [] ∷ [])
    (point (set_in s (held_when_run making.config s (Delivering outcome)
    (step_saying 0 [] (outcome_text outcome) None [])) (ready n bytes)) drawn Unknown) tasks

-- a `LOAD` that is given up for the 200th time is abandoned
abbrev pub AbandonedLeads : Type 0
AbandonedLeads =
    (making : Making) (places : ℕ) (s : Situation) (n : ℕ) (line bytes : List ℕ) (times : ℕ)
    (tasks : List Task) (drawn : Identifiers) (order : Order)
    → connection_in n s ≡ Some (waiting_with n line bytes times) → nat_le 200 times ≡ true
    → DoesRight making.config s Abandoning (step_saying 0 [] (codes "ERR abandoned\n") None [])
    → order_behind_step making.config (suc places) order
    (step_saying n line (codes "ERR abandoned\n") None []) ≡ Unknown
    → StepsLead making places (point s drawn order) (RunAgain n ∷ tasks)
    (step_saying n line (codes "ERR abandoned\n") None [] ∷ [])
    (point (set_in s (held_when_run making.config s Abandoning
    (step_saying 0 [] (codes "ERR abandoned\n") None [])) (ready n bytes)) drawn Unknown) tasks

-- a `LOAD` that is given up and finds a live value is answered
abbrev pub AnsweredLeads : Type 0
AnsweredLeads =
    (making : Making) (places : ℕ) (s : Situation) (n : ℕ) (line bytes key reply : List ℕ)
    (times : ℕ) (told : List Note) (tasks : List Task) (drawn drawing : Identifiers)
    (order : Order)
    → connection_in n s ≡ Some (waiting_with n line bytes times) → nat_le 200 times ≡ false
    → reading making.config line ≡ Ok (says.Load key)
    → DoesRight making.config s (Running (says.Load key)) (step_saying 0 [] reply None told)
    → StepDraws making.config (step_saying n line reply None told) drawn drawing
    → StepsLead making places (point s drawn order) (RunAgain n ∷ tasks)
    (step_saying n line reply None told ∷ [])
    (point (set_in s (held_when_run making.config s (Running (says.Load key))
    (step_saying 0 [] reply None told)) (ready n bytes)) drawing Unknown) tasks

-- a `LOAD` that is given up and finds none waits once more: it joins the load of its key, or sends the next one
abbrev pub WaitsAgainLeads : Type 0
WaitsAgainLeads =
    (making : Making) (places : ℕ) (s : Situation) (n : ℕ) (line bytes key : List ℕ)
    (times : ℕ) (tasks : List Task) (drawn : Identifiers) (order : Order)
    → connection_in n s ≡ Some (waiting_with n line bytes times) → nat_le 200 times ≡ false
    → reading making.config line ≡ Ok (says.Load key)
    → live_at making.config s.latest s.held key ≡ None
    → DoesRight making.config s (Running (says.Load key)) (step_waiting making.config s key 0 [])
    → (let number = number_to_send key s.sent s.pending in
    StepsLead making places (point s drawn order) (RunAgain n ∷ tasks)
    (step_silent n line number None [] ∷ [])
    (point
    (set_in (with_loads (when_sent number s.sent) (when_joined n key number s.pending) s)
    (held_when_run making.config s (Running (says.Load key))
    (step_waiting making.config s key 0 [])) (waiting_with n line bytes (suc times))) drawn Unknown)
    tasks)

-- a `LOAD` that is given up, and for which memory is lacking, is held back; how often it waited stays
abbrev pub HeldBackLeads : Type 0
HeldBackLeads =
    (making : Making) (places : ℕ) (s : Situation) (n : ℕ) (line bytes : List ℕ) (times : ℕ)
    (tasks : List Task) (drawn : Identifiers) (order : Order)
    → connection_in n s ≡ Some (waiting_with n line bytes times) → nat_le 200 times ≡ false
    → StepsLead making places (point s drawn order) (RunAgain n ∷ tasks) (step_held n line ∷ [])
    (point (set_in s (held_when_run making.config s Holding (step_held n line))
    (holding_load n line bytes times)) drawn Unknown) tasks

-- steps that leave no task lead on to those that stand behind theirs
abbrev pub LinesLead : Type 0
LinesLead =
    (making : Making) (places : ℕ) (a b : Point) (tasks more : List Task) (steps : List Step)
    → StepsLead making places a tasks steps b []
    → StepsLead making places a (tasks ++ more) steps b more

-- a connection of which no line may run has no step
abbrev pub NoLinesLead : Type 0
NoLinesLead =
    (making : Making) (places : ℕ) (a : Point) (n : ℕ) (tasks : List Task)
    → may_run_in a.situation n ≡ false
    → StepsLead making places a (RunLines n ∷ tasks) [] a tasks

-- the record of an answer, whose value was accepted or not, with what this reported
abbrev pub record_answered : ℕ → Outcome → ℕ → Option Accepted → List Note → List Step → Record
record_answered load outcome moment accepted told steps =
    record {
      event = event.Answer load outcome (record { nanos = moment });
      own = accepted;
      notices = told;
      steps = steps;
    }

-- the record of a give-up
abbrev pub record_given_up : ℕ → ℕ → List Step → Record
record_given_up load moment steps =
    record {
      event = event.GiveUp load (record { nanos = moment });
      own = None;
      notices = [];
      steps = steps;
    }

-- the situation in which an answer's value was stored
abbrev pub when_stored : Config → Situation → List ℕ → Outcome → Option Accepted → List Note
    → Situation
when_stored config s key outcome accepted told =
    record s {
      held = held_when_run config s (Storing (Some key) outcome) (step_silent 0 [] None accepted told);
    }

-- An answer that is not refused: its value is stored, then each waiting `LOAD` receives the outcome in order, then the lines of each
-- connection run in the same order. From these pieces its record follows.
abbrev pub AnswerSettles : Type 0
AnswerSettles =
    (making : Making) (places : ℕ) (s t : Situation) (load moment : ℕ) (key : List ℕ)
    (outcome : Outcome) (accepted : Option Accepted) (told : List Note) (steps : List Step)
    (drawn kept drawing : Identifiers) (order behind : Order)
    → refusal_of making.config (known_in s) (event.Answer load outcome (record {
      nanos = moment;
    })) ≡ None → pending_key load s ≡ Some key
    → has_right_own_value (record_answered load outcome moment accepted told steps) ≡ true
    → DoesRight making.config (without_load load moment s) (Storing (Some key) outcome)
    (step_silent 0 [] None accepted told)
    → IsTrue
    (has_its_part making.part_of
    (effect_in making.config (view_in making.config (without_load load moment s))
    (Storing (Some key) outcome) (step_silent 0 [] None accepted told)))
    → KeepsIdentifiers drawn.stream kept.stream drawn.registered kept.registered
    → StepsLead making places
    (point (when_stored making.config (without_load load moment s) key outcome accepted told) kept
    Unknown)
    (map (λ conn. Deliver conn outcome) (waiting_in load s) ++ map RunLines (waiting_in load s))
    steps (point t drawing behind) []
    → SettlingLeads making places s (record_answered load outcome moment accepted told steps) t
    drawn drawing order behind

-- A give-up that is not refused: each waiting `LOAD` runs again in order, each followed by its connection's lines. From these pieces its
-- record follows.
abbrev pub GiveUpSettles : Type 0
GiveUpSettles =
    (making : Making) (places : ℕ) (s t : Situation) (load moment : ℕ) (steps : List Step)
    (drawn drawing : Identifiers) (order behind : Order)
    → refusal_of making.config (known_in s) (event.GiveUp load (record { nanos = moment })) ≡ None
    → StepsLead making places (point (without_load load moment s) drawn order)
    (tasks_to_give_up (waiting_in load s)) steps (point t drawing behind) []
    → SettlingLeads making places s (record_given_up load moment steps) t drawn drawing order
    behind
