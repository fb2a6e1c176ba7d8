-- Records of one connection that alone waits.
use Rattle.std.proofs.Common.{arith, ◌≡◌, ℕ, max, Bool, true, false, not, ◌==◌, List, [], ◌∷◌, ◌++◌, map, Option, Some, None, refl}
use Rattle.std.specs.List.{find}
use Rattle.std.specs.Option.{option_map_or}
use Rattle.audit_model.specs.Changes.{after_step}
use Rattle.audit_model.specs.Follows.{Follows, after_event, after_steps, placed_step_in, tasks_in, without_load}
use Rattle.audit_model.specs.Places.{steps_of, tasks_to_feed, tasks_to_give_up}
use Rattle.audit_model.specs.Situation.{Situation, Connection, PendingLoad, connection_in, is_holding_in, pending_key, waiting_in, with_connection}
use Rattle.audit_model.specs.Steps.{Task, Store, Deliver, RunLines}
use Rattle.audit_model.specs.declared.config.Config.{Config}
use Rattle.audit_model.specs.declared.event.Event.{Event}
use Rattle.audit_model.specs.declared.event.Event.TheVariants as event
use Rattle.audit_model.specs.declared.event.Outcome.{Outcome}
use Rattle.audit_model.specs.declared.transcript.Record.{Record}
use Rattle.audit_model.specs.declared.transcript.Step.{Step}
use Rattle.audit_laws.specs.Waiting.Alone.{AreAll, IsTurnOf, StepsOf, WaitsAlone}
use Rattle.audit_laws.proofs.waiting.Steps.{TasksOf, alone-filter, alone-put, alone-steps, alone-without}
use Rattle.std.proofs.lemmas.Bool.Decides.{nat_tests}
use Rattle.audit_laws.proofs.Following.{passed}

-- ---- what is due

pub found-alone : (conn number : ℕ) (loads : List PendingLoad) → WaitsAlone conn loads → AreAll conn (option_map_or (λ (load : PendingLoad). load.waiting) (find (λ load. load.number == number) loads) [])
found-alone conn number [] alone = tt
found-alone conn number (load ∷ loads) alone = let next = found-alone conn number loads alone.1 in grind (arith, nat_tests, next)

pub delivers-of : (conn : ℕ) (outcome : Outcome) (conns : List ℕ) (tasks : List Task) → AreAll conn conns → TasksOf conn tasks → TasksOf conn (map (λ c. Deliver c outcome) conns ++ tasks)
delivers-of conn outcome [] tasks all of = of
delivers-of conn outcome (c ∷ cs) tasks all of = (all.0, delivers-of conn outcome cs tasks all.1 of)

pub lines-of : (conn : ℕ) (conns : List ℕ) → AreAll conn conns → TasksOf conn (map RunLines conns)
lines-of conn [] all = tt
lines-of conn (c ∷ cs) all = (all.0, lines-of conn cs all.1)

pub again-of : (conn : ℕ) (conns : List ℕ) → AreAll conn conns → TasksOf conn (tasks_to_give_up conns)
again-of conn [] all = tt
again-of conn (c ∷ cs) all = (all.0, (all.0, again-of conn cs all.1))

pub feed-of : (conn c : ℕ) (held : Bool) → c ≡ conn → TasksOf conn (tasks_to_feed c held)
feed-of conn c true is = (is, (is, tt))
feed-of conn c false is = (is, tt)

-- ---- events

fed-alone : (conn : ℕ) (piece : List ℕ) (u : Situation) → WaitsAlone conn u.pending → (o : Option Connection) → WaitsAlone conn (option_map_or (λ c. with_connection false (record c { unread = c.unread ++ piece }) u) o u).pending
fed-alone conn piece u alone None = alone
fed-alone conn piece u alone (Some c) = alone-put conn false (record c { unread = c.unread ++ piece }) u alone

-- an answer's own step is no connection's, and changes no load
stored : (config : Config) (conn : ℕ) (s t : Situation) (key : Option (List ℕ)) (outcome : Outcome) (tasks : List Task) (own : Step) (more : List Step) → TasksOf conn tasks → WaitsAlone conn s.pending
    → after_steps config s (Store key outcome ∷ tasks) (own ∷ more) ≡ Some t → StepsOf conn more × WaitsAlone conn t.pending
stored config conn s t key outcome tasks own more of alone e =
    alone-steps config conn (after_step config s (Some (Store key outcome)) own (placed_step_in config s (Some (Store key outcome)) own).effect) t tasks more of alone (passed _ _ _ e).rest

by-event : (config : Config) (s t : Situation) (entry : Record) (conn : ℕ) (happened : Event) → entry.event ≡ happened → IsTurnOf conn happened → WaitsAlone conn s.pending
    → after_steps config (after_event happened s) (tasks_in s happened) (steps_of (record entry { event = happened })) ≡ Some t → StepsOf conn entry.steps × WaitsAlone conn t.pending
by-event config s t entry conn (event.Open c) is turn alone e = absurd turn
by-event config s t entry conn (event.Close c) is turn alone e = absurd turn
by-event config s t entry conn (event.Feed c piece moment) is turn alone e =
    alone-steps config conn (after_event (event.Feed c piece moment) s) t (tasks_to_feed c (is_holding_in s c)) entry.steps (feed-of conn c (is_holding_in s c) turn)
    (fed-alone conn piece (record s { latest = max moment.nanos s.latest }) alone (connection_in c s)) e
by-event config s t entry conn (event.Answer load outcome moment) is turn alone e =
    let waiting = found-alone conn load s.pending alone in
    let conns = waiting_in load s in
    stored config conn (without_load load moment.nanos s) t (pending_key load s) outcome (map (λ c. Deliver c outcome) conns ++ map RunLines conns)
    (record { conn = 0; line = []; held = false; reply = None; load = None; accepted = entry.own; notices = entry.notices }) entry.steps
    (delivers-of conn outcome conns (map RunLines conns) waiting (lines-of conn conns waiting)) (alone-filter conn (λ l. not (l.number == load)) s.pending alone) e
by-event config s t entry conn (event.GiveUp load moment) is turn alone e =
    let waiting = found-alone conn load s.pending alone in
    alone-steps config conn (without_load load moment.nanos s) t (tasks_to_give_up (waiting_in load s)) entry.steps (again-of conn (waiting_in load s) waiting) (alone-filter conn (λ l. not (l.number == load)) s.pending alone) e

pub records : (config : Config) (s t : Situation) (entry : Record) (conn : ℕ) → Follows config s entry t → IsTurnOf conn entry.event → WaitsAlone conn s.pending → StepsOf conn entry.steps × WaitsAlone conn t.pending
records config s t entry conn e turn alone = by-event config s t entry conn entry.event refl turn alone (passed _ _ _ e).rest

-- an opening or a closing leaves it so
abbrev pub IsQuiet : Event → Type 0
IsQuiet (event.Open c) = Unit {0}
IsQuiet (event.Close c) = Unit {0}
IsQuiet (event.Feed c piece moment) = ⊥
IsQuiet (event.Answer load outcome moment) = ⊥
IsQuiet (event.GiveUp load moment) = ⊥

quiet-event : (config : Config) (s t : Situation) (entry : Record) (conn : ℕ) (happened : Event) → IsQuiet happened → WaitsAlone conn s.pending
    → after_steps config (after_event happened s) (tasks_in s happened) (steps_of (record entry { event = happened })) ≡ Some t → WaitsAlone conn t.pending
quiet-event config s t entry conn (event.Open c) still alone e = (alone-steps config conn (after_event (event.Open c) s) t [] entry.steps tt alone e).1
quiet-event config s t entry conn (event.Close c) still alone e = (alone-steps config conn (after_event (event.Close c) s) t [] entry.steps tt (alone-without conn c s.pending alone) e).1
quiet-event config s t entry conn (event.Feed c piece moment) still alone e = absurd still
quiet-event config s t entry conn (event.Answer load outcome moment) still alone e = absurd still
quiet-event config s t entry conn (event.GiveUp load moment) still alone e = absurd still

pub quiet : (config : Config) (s t : Situation) (entry : Record) (conn : ℕ) → Follows config s entry t → IsQuiet entry.event → WaitsAlone conn s.pending → WaitsAlone conn t.pending
quiet config s t entry conn e still alone = quiet-event config s t entry conn entry.event still alone (passed _ _ _ e).rest
