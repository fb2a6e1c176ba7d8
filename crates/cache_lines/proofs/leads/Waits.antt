-- What waits are `LOAD`s, record after record.
use Rattle.std.proofs.Common.{arith, max, refl, sym, ap, ◌∙◌, subst, inl, inr, ◌≡◌, ℕ, Bool, true, false, not, ◌&&◌, ◌||◌, ◌==◌, List, [], ◌∷◌, ◌++◌, map, Option, Some, None, if◌then◌else◌, Ok, Err, codes, is_none, is_some, ◌⊎◌}
use Rattle.std.proofs.lemmas.Bool.{and_parts}
use Rattle.std.proofs.lemmas.Bool.Decides.{nat_tests}
use Rattle.std.proofs.lemmas.Option.{same_Some}
use Rattle.std.specs.List.{find}
use Rattle.std.specs.Option.{option_eq, option_map_or}
use Rattle.audit_laws.proofs.Following.{passed}
use Rattle.audit_laws.proofs.waiting.Standing.{found-left}
use Rattle.audit_model.specs.Bytewise.{same, text_line}
use Rattle.audit_model.specs.Changes.{after_step, connection_after, join_by, join_load}
use Rattle.audit_model.specs.Commands.{quits}
use Rattle.audit_model.specs.Follows.{Follows, after_event, after_steps, placed_step_in, tasks_in, without_load}
use Rattle.audit_model.specs.Grammar.{Reading, reading}
use Rattle.audit_model.specs.History.{Action, Effect, Running, Faulting, Holding, Delivering, Abandoning, Storing, Value}
use Rattle.audit_model.specs.Places.{due, first_due, left_after, steps_of}
use Rattle.audit_model.specs.Replies.{may_refuse, reply_of}
use Rattle.audit_model.specs.Situation.{Situation, Connection, Standing, Ready, Held, Waiting, connection_in, is_overlong, may_run_in, with_connection, without_number, without_waiting}
use Rattle.audit_model.specs.Steps.{Task, Store, Deliver, RunAgain, RunHeld, RunLines, action_by, action_in, action_of_line, is_right}
use Rattle.audit_model.specs.Stream.{is_held, is_waiting}
use Rattle.audit_model.specs.declared.config.Config.{Config}
use Rattle.audit_model.specs.declared.transcript.Record.{Record}
use Rattle.audit_model.specs.declared.transcript.Step.{Step}
use Rattle.cache_lines.specs.Waiting.{is_load}
use Rattle.audit_model.specs.Loads.{key_loaded}
use Rattle.audit_model.specs.View.{View}
use Rattle.audit_model.specs.declared.command.Command.TheVariants as says
use Rattle.audit_model.specs.declared.event.Event.{Event}
use Rattle.audit_model.specs.declared.event.Event.TheVariants as event
use Rattle.cache_lines.specs.Leads.Waiters.{WaitForLoads}

-- ---- a step that leaves its connection waiting runs a `LOAD`

abbrev is_loading : Action → Bool
is_loading a = is_some (key_loaded a)

abbrev is_storing : Action → Bool
is_storing (Storing key outcome) = true
is_storing a = false

abbrev is_holding_back : Action → Bool
is_holding_back Holding = true
is_holding_back a = false

-- no other action owes no reply
only-loads : (config : Config) (seen : View) (held : List Value) (a : Action)
    → (option_eq same None (reply_of config seen held a) || (may_refuse seen a && option_eq same None (Some (text_line (codes "ERR id"))))) ≡ true → is_holding_back a ≡ false → is_storing a ≡ false
    → is_loading a ≡ true
only-loads config seen held (Running (says.Load key)) e h s = refl
only-loads config seen held (Running (says.Set key ms value)) e h s = e
only-loads config seen held (Running (says.Get key)) e h s = e
only-loads config seen held (Running (says.Has key)) e h s = e
only-loads config seen held (Running (says.Del key)) e h s = e
only-loads config seen held (Running (says.Add key ms n)) e h s = e
only-loads config seen held (Running says.Clear) e h s = e
only-loads config seen held (Running (says.DropIf prefix)) e h s = go seen.dropped e
  where
    go : (b : Bool) → (false || (b && false)) ≡ true → false ≡ true
    go true k = k
    go false k = k
only-loads config seen held (Running says.Keys) e h s = e
only-loads config seen held (Running says.Sync) e h s = e
only-loads config seen held (Running says.Quit) e h s = e
only-loads config seen held (Faulting error) e h s = e
only-loads config seen held Holding e h s = let no : true ≡ false = h in cc
only-loads config seen held (Delivering outcome) e h s = e
only-loads config seen held Abandoning e h s = e
only-loads config seen held (Storing key outcome) e h s = let no : true ≡ false = s in cc

by-reading : (r : Reading) → is_loading (action_by r) ≡ true → is_load r ≡ true
by-reading (Err error) e = e
by-reading (Ok (says.Load key)) e = refl
by-reading (Ok (says.Set key ms value)) e = e
by-reading (Ok (says.Get key)) e = e
by-reading (Ok (says.Has key)) e = e
by-reading (Ok (says.Del key)) e = e
by-reading (Ok (says.Add key ms n)) e = e
by-reading (Ok says.Clear) e = e
by-reading (Ok (says.DropIf prefix)) e = e
by-reading (Ok says.Keys) e = e
by-reading (Ok says.Sync) e = e
by-reading (Ok says.Quit) e = e

by-line : (config : Config) (step : Step) → is_loading (action_of_line config step) ≡ true → is_load (reading config step.line) ≡ true
by-line config step e = let reads = by-reading (reading config step.line) in grind (arith, reads)

by-task : (config : Config) (times : ℕ) (task : Option Task) (step : Step) → is_loading (action_in config times task step) ≡ true → is_load (reading config step.line) ≡ true
by-task config times None step e = by-line config step e
by-task config times (Some (Store key outcome)) step e = let no : false ≡ true = e in cc
by-task config times (Some (Deliver conn outcome)) step e = let no : false ≡ true = e in cc
by-task config times (Some (RunAgain conn)) step e = let line = by-line config step in grind (arith, line)
by-task config times (Some (RunHeld conn)) step e = by-line config step e
by-task config times (Some (RunLines conn)) step e = by-line config step e

no-reply : (o : Option (List ℕ)) → is_none o ≡ true → o ≡ None
no-reply None e = refl
no-reply (Some r) e = let no : false ≡ true = e in cc

held-of : (effect : Effect) → is_held effect ≡ is_holding_back effect.action
held-of effect = go effect.action
  where
    go : (a : Action) → is_held (record effect { action = a }) ≡ is_holding_back a
    go (Running command) = refl
    go (Faulting error) = refl
    go Holding = refl
    go (Delivering outcome) = refl
    go Abandoning = refl
    go (Storing key outcome) = refl

-- how a connection stands when it waits
stands-for : (line last : List ℕ) (none held : Bool) → (if held then Held last else (if none && not held then Waiting last else Ready)) ≡ Waiting line → (held ≡ false) × (none ≡ true) × (last ≡ line)
stands-for line last none true e = let no : Held last ≡ Waiting line = e in cc
stands-for line last true false e = (refl, refl, line-of e)
  where
    line_in : Standing → List ℕ
    line_in (Waiting l) = l
    line_in other = []

    line-of : Waiting last ≡ Waiting line → last ≡ line
    line-of h = ap line_in h
stands-for line last false false e = let no : Ready ≡ Waiting line = e in cc

-- the step of a connection
waits-for-load : (config : Config) (s : Situation) (task : Option Task) (step : Step) (c : Connection) (line : List ℕ)
    → is_right config (placed_step_in config s task step) ≡ true → is_storing (placed_step_in config s task step).effect.action ≡ false
    → (connection_after task step (placed_step_in config s task step).effect c).standing ≡ Waiting line → is_load (reading config line) ≡ true
waits-for-load config s task step c line right no_store e =
    let placed = placed_step_in config s task step in
    let effect = placed.effect in
    let parts = and_parts _ _ (and_parts _ _ (and_parts _ _ (and_parts _ _ (and_parts _ _ right).0).0).0).0 in
    let replies = (and_parts _ _ parts.0).1 in
    let stood = stands-for line step.line (is_none effect.reply) (is_held effect) e in
    let none = no-reply effect.reply stood.1 in
    let owed = subst (λ r. (option_eq same r (reply_of config placed.seen placed.held effect.action) || (may_refuse placed.seen effect.action && option_eq same r (Some (text_line (codes "ERR id"))))) ≡ true) none replies in
    let loading = only-loads config placed.seen placed.held effect.action owed (sym (held-of effect) ∙ stood.0) no_store in
    subst (λ l. is_load (reading config l) ≡ true) stood.2 (by-task config (option_map_or (λ (k : Connection). k.waited) (connection_in step.conn s) 0) task step loading)

-- ---- connections after one of them changed

abbrev numbered : ℕ → List Connection → Option Connection
numbered n ks = find (λ k. k.number == n) ks

found-put : (n : ℕ) (k c : Connection) (ks : List Connection) → numbered n (map (λ x. if x.number == k.number then k else x) ks) ≡ Some c → (c ≡ k) ⊎ (numbered n ks ≡ Some c)
found-put n k c [] e = inr e
found-put n k c (x ∷ xs) e = let next = found-put n k c xs in grind (arith, nat_tests, next)

found-none : (n : ℕ) (ks : List Connection) → numbered n (without_number n ks) ≡ None
found-none n [] = refl
found-none n (x ∷ xs) = let next = found-none n xs in grind (arith, next)

found-without : (n m : ℕ) (c : Connection) (ks : List Connection) → numbered n (without_number m ks) ≡ Some c → numbered n ks ≡ Some c
found-without n m c ks e = let none = found-none n ks in let left = found-left n m ks in grind (arith, nat_tests, none, left)

found-more : (n : ℕ) (k c : Connection) (ks : List Connection) → numbered n (ks ++ k ∷ []) ≡ Some c → (c ≡ k) ⊎ (numbered n ks ≡ Some c)
found-more n k c [] e = grind arith
found-more n k c (x ∷ xs) e = let next = found-more n k c xs in grind (arith, next)

-- a connection of which only a `LOAD` waits
abbrev ReadsLoad : Config → Connection → Type 0
ReadsLoad config k = (line : List ℕ) → k.standing ≡ Waiting line → is_load (reading config line) ≡ true

either : (config : Config) (n : ℕ) (k c : Connection) (s : Situation) (line : List ℕ) → WaitForLoads config s → ReadsLoad config k → c.standing ≡ Waiting line → (c ≡ k) ⊎ (connection_in n s ≡ Some c) → is_load (reading config line) ≡ true
either config n k c s line waits own e (inl is) = own line (ap (λ (x : Connection). x.standing) (sym is) ∙ e)
either config n k c s line waits own e (inr at) = waits n c line at e

put-waits : (config : Config) (s t : Situation) (k : Connection) (quits : Bool) → t.connections ≡ s.connections → WaitForLoads config s → ReadsLoad config k → WaitForLoads config (with_connection quits k t)
put-waits config s t k quits same waits own = go (quits || is_overlong k) refl
  where
    go : (b : Bool) → (quits || is_overlong k) ≡ b → WaitForLoads config (with_connection quits k t)
    go true e = subst (λ b. WaitForLoads config (record t { connections = if b then without_number k.number t.connections else map (λ x. if x.number == k.number then k else x) t.connections; pending = if b then map (without_waiting k.number) t.pending else t.pending })) (sym e)
        (λ n c line at stands. waits n c line (found-without n k.number c s.connections (ap (λ ks. numbered n (without_number k.number ks)) (sym same) ∙ at)) stands)
    go false e = subst (λ b. WaitForLoads config (record t { connections = if b then without_number k.number t.connections else map (λ x. if x.number == k.number then k else x) t.connections; pending = if b then map (without_waiting k.number) t.pending else t.pending })) (sym e)
        (λ n c line at stands. either config n k c s line waits own stands (found-put n k c s.connections (ap (λ ks. numbered n (map (λ x. if x.number == k.number then k else x) ks)) (sym same) ∙ at)))

same-waits : (config : Config) (s t : Situation) → t.connections ≡ s.connections → WaitForLoads config s → WaitForLoads config t
same-waits config s t same waits n c line at e = waits n c line (ap (numbered n) (sym same) ∙ at) e

-- ---- a step

joined-same : (n : ℕ) (waits : Bool) (key : Option (List ℕ)) (load : Option ℕ) (s : Situation) → (join_by n waits key load s).connections ≡ s.connections
joined-same n waits None load s = refl
joined-same n waits (Some key) (Some number) s = refl
joined-same n true (Some key) None s = refl
joined-same n false (Some key) None s = refl

own-waits : (config : Config) (task : Option Task) (step : Step) (effect : Effect) (s t : Situation) → t.connections ≡ s.connections → WaitForLoads config s → ((c : Connection) → ReadsLoad config (connection_after task step effect c))
    → (o : Option Connection) → WaitForLoads config (option_map_or (λ c. with_connection (quits effect) (connection_after task step effect c) (join_load step.conn effect t)) o t)
own-waits config task step effect s t same waits own None = same-waits config s t same waits
own-waits config task step effect s t same waits own (Some c) =
    put-waits config s (join_load step.conn effect t) (connection_after task step effect c) (quits effect) (joined-same step.conn (is_waiting effect) (key_loaded effect.action) effect.load t ∙ same) waits (own c)

line-stores-not : (config : Config) (step : Step) → is_storing (action_of_line config step) ≡ false
line-stores-not config step = go step.held (reading config step.line)
  where
    go : (b : Bool) (r : Reading) → is_storing (if b then Holding else action_by r) ≡ false
    go true r = refl
    go false (Ok command) = refl
    go false (Err error) = refl

again-stores-not : (config : Config) (times : ℕ) (conn : ℕ) (step : Step) → is_storing (action_in config times (Some (RunAgain conn)) step) ≡ false
again-stores-not config times conn step = let line = line-stores-not config step in grind (arith, line)

step-waits : (config : Config) (s : Situation) (task : Option Task) (step : Step) → is_right config (placed_step_in config s task step) ≡ true → WaitForLoads config s
    → WaitForLoads config (after_step config s task step (placed_step_in config s task step).effect)
step-waits config s (Some (Store key outcome)) step right waits = λ n c line at e. waits n c line at e
step-waits config s None step right waits =
    own-waits config None step (placed_step_in config s None step).effect s _ refl waits (λ c line e. waits-for-load config s None step c line right (line-stores-not config step) e) (connection_in step.conn s)
step-waits config s (Some (Deliver conn outcome)) step right waits =
    own-waits config (Some (Deliver conn outcome)) step (placed_step_in config s (Some (Deliver conn outcome)) step).effect s _ refl waits (λ c line e. waits-for-load config s (Some (Deliver conn outcome)) step c line right refl e) (connection_in step.conn s)
step-waits config s (Some (RunAgain conn)) step right waits =
    own-waits config (Some (RunAgain conn)) step (placed_step_in config s (Some (RunAgain conn)) step).effect s _ refl waits
    (λ c line e. waits-for-load config s (Some (RunAgain conn)) step c line right (again-stores-not config (option_map_or (λ (k : Connection). k.waited) (connection_in step.conn s) 0) conn step) e) (connection_in step.conn s)
step-waits config s (Some (RunHeld conn)) step right waits =
    own-waits config (Some (RunHeld conn)) step (placed_step_in config s (Some (RunHeld conn)) step).effect s _ refl waits (λ c line e. waits-for-load config s (Some (RunHeld conn)) step c line right (line-stores-not config step) e) (connection_in step.conn s)
step-waits config s (Some (RunLines conn)) step right waits =
    own-waits config (Some (RunLines conn)) step (placed_step_in config s (Some (RunLines conn)) step).effect s _ refl waits (λ c line e. waits-for-load config s (Some (RunLines conn)) step c line right (line-stores-not config step) e) (connection_in step.conn s)

steps-wait : (config : Config) (s t : Situation) (tasks : List Task) (steps : List Step) → after_steps config s tasks steps ≡ Some t → WaitForLoads config s → WaitForLoads config t
steps-wait config s t tasks [] e waits = let ends = passed _ _ t e in subst (WaitForLoads config) (same_Some s t ends.rest) waits
steps-wait config s t tasks (step ∷ steps) e waits =
    let now_due = due (may_run_in s) tasks in
    let runs = passed _ _ t e in
    let next = λ (u : Situation) (left : List Task). steps-wait config u t left steps in
    next _ (left_after now_due) runs.rest (step-waits config s (first_due now_due) step runs.test waits)

-- ---- an event

fed-waits : (config : Config) (conn : ℕ) (piece : List ℕ) (s u : Situation) → u.connections ≡ s.connections → WaitForLoads config s → (o : Option Connection) → connection_in conn s ≡ o
    → WaitForLoads config (option_map_or (λ c. with_connection false (record c { unread = c.unread ++ piece }) u) o u)
fed-waits config conn piece s u same waits None at = same-waits config s u same waits
fed-waits config conn piece s u same waits (Some c) at = put-waits config s u (record c { unread = c.unread ++ piece }) false same waits (λ line e. waits conn c line at e)

event-waits : (config : Config) (s : Situation) (happened : Event) → WaitForLoads config s → WaitForLoads config (after_event happened s)
event-waits config s (event.Open conn) waits = λ n c line at e.
    either config n (record { number = conn; unread = []; standing = Ready; waited = 0 }) c s line waits (λ l h. let no : Ready ≡ Waiting l = h in cc) e (found-more n (record { number = conn; unread = []; standing = Ready; waited = 0 }) c s.connections at)
event-waits config s (event.Close conn) waits = λ n c line at e. waits n c line (found-without n conn c s.connections at) e
event-waits config s (event.Feed conn piece moment) waits = fed-waits config conn piece s (record s { latest = max moment.nanos s.latest }) refl waits (connection_in conn s) refl
event-waits config s (event.Answer load outcome moment) waits = same-waits config s (without_load load moment.nanos s) refl waits
event-waits config s (event.GiveUp load moment) waits = same-waits config s (without_load load moment.nanos s) refl waits

pub records-wait : (config : Config) (s t : Situation) (entry : Record) → Follows config s entry t → WaitForLoads config s → WaitForLoads config t
records-wait config s t entry e waits =
    let runs = passed _ _ t e in
    steps-wait config (after_event entry.event s) t (tasks_in s entry.event) (steps_of entry) runs.rest (event-waits config s entry.event waits)
