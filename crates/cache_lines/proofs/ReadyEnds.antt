-- Lines that end with a `LOAD` that begins to wait.
use Rattle.std.proofs.Common.{arith, refl, ap, ◌∙◌, subst, sym, ◌≡◌, ℕ, suc, Bool, true, false, ◌||◌, List, [], map, Option, Some, None, if◌then◌else◌, Ok, is_some, take, ◌∷◌, true≢false, drop, unwrap_or}
use Rattle.std.proofs.Math.Bool.{or-false}
use Rattle.std.proofs.lemmas.Bool.{and_from, eq-eqb, and_parts}
use Rattle.std.specs.Option.{option_map_or}
use Rattle.audit_model.specs.Changes.{connection_after, join_by, join_load, after_step, all_held_after}
use Rattle.audit_model.specs.Commands.{drops, quits}
use Rattle.audit_model.specs.Follows.{line_in, placed_step_in}
use Rattle.audit_model.specs.Grammar.{reading}
use Rattle.audit_model.specs.History.{Action, Effect, Running}
use Rattle.audit_model.specs.Replies.{load_sent_by}
use Rattle.audit_model.specs.Situation.{Situation, Connection, HeldValue, PendingLoad, connection_in, is_overlong, live_at, load_in, may_run_in, view_in, with_connection, without_number, without_waiting}
use Rattle.audit_model.specs.Steps.{Task, action_by, action_in, effect_in, is_right, is_in_turn, is_held_rightly, is_task_of, RunLines}
use Rattle.audit_model.specs.Stream.{behind_lines, without_return}
use Rattle.audit_model.specs.declared.config.Config.{Config}
use Rattle.audit_model.specs.declared.transcript.Step.{Step}
use Rattle.audit_lines.proofs.Lines.{IsLine-first_line, long_from}
use Rattle.audit_lines.specs.Next.{IsLine}
use Rattle.cache_commands.specs.Promises.{no_deed, Frame}
use Rattle.cache_commands.specs.Recency.{IsPlainLru}
use Rattle.cache_commands.specs.Values.{IsSoundStore, Values}
use Rattle.cache_commands.proofs.Answering.{same-refl}
use Rattle.cache_commands.proofs.Drawn.{draws-none}
use Rattle.cache_commands.specs.Answered.{says_drop, Agrees}
use Rattle.cache_commands.specs.Loading.{step_silent}
use Rattle.cache_commands.specs.Loads.Pending.{number_to_send, when_joined, when_sent}
use Rattle.cache_commands.specs.Order.{AgreesWith, Order, order_by}
use Rattle.cache_commands.specs.Right.{DoesRight, placed_doing, KeepsFrame}
use Rattle.cache_lines.proofs.LineRuns.{RanLines, RanTo, find-dropped, frames-more, fresh-gather, gather-none, line-fits, line-next, line-one, may-run, ran-kept, ran-then, ready-held, ready-stopped, stops-long, stops-partial, stops-quit}
use Rattle.cache_lines.proofs.Placing.{dropped-swapped, found-there, numbered, swap, swapped-again}
use Rattle.cache_lines.proofs.WholeLines.{has-line}
use Rattle.cache_lines.proofs.leads.Leading.{leads-to, none-due}
use Rattle.cache_lines.specs.Bases.{Seen}
use Rattle.cache_lines.specs.Drawing.{Identifiers, StepDraws, identifiers_in}
use Rattle.cache_lines.specs.Ended.{RanReady, RunsReady, AddsSteps, StopsBy, ends_by_quit, line_in_front}
use Rattle.cache_lines.specs.Gathered.{LineStage, gather, gathered, stage, HasNothingOutside}
use Rattle.cache_lines.specs.Leading.{TasksLead}
use Rattle.cache_lines.specs.Lines.{IsThere, ready, set_in, with_drops, has_its_part, is_timely_after, says_quit, holding, situation_behind}
use Rattle.cache_lines.specs.Making.{Making, making_of}
use Rattle.cache_lines.specs.Ordered.{HasKeys, order_behind_step}
use Rattle.cache_lines.specs.Ran.{RanLine, WaitsLine}
use Rattle.cache_lines.specs.Tape.Taped.{Taped, step_held}
use Rattle.cache_lines.specs.Waiting.{waiting_with, with_loads, with_under_way, UnderWay, load_sent_for, loads_in, when_waiting}
use Rattle.cache_lines.specs.Whole.{held_line}
use Rattle.cache_lines.specs.declared.looping.End.{End}
use Rattle.audit_model.specs.declared.command.Command.TheVariants as says
use Rattle.cache_commands.proofs.Answering as loading
use Rattle.cache_lines.specs.declared.looping.End.TheVariants as at

-- ---- what a step does to the loads

-- a `LOAD` that waits joins the key's load, or the one that it sends
pub joins : (conn : ℕ) (key : List ℕ) (number : Option ℕ) (s : Situation) → join_by conn true (Some key) number s ≡ with_loads (when_sent number s.sent) (when_joined conn key number s.pending) s
joins conn key None s = refl
joins conn key (Some number) s = refl

-- a connection put in its place again, with other loads under way
set-loads : (base : Situation) (held left : List HeldValue) (n : ℕ) (c d : Connection) (dropped : Bool) (sent : ℕ) (pending : List PendingLoad) → is_overlong (numbered n c) ≡ false
    → with_connection false (numbered n d) (with_loads sent pending (record (set_in base held (numbered n c)) { held = left; dropped = dropped }))
    ≡ set_in (with_loads sent pending (with_drops dropped base)) left (numbered n d)
set-loads base held left n c d dropped sent pending fits =
    ap (λ b. record base {
      held = left;
      dropped = dropped;
      sent = sent;
      connections = if is_overlong (numbered n d) then without_number n (if b then without_number n base.connections else map (swap n c) base.connections) else map (swap n d) (if b then without_number n base.connections else map (swap n c) base.connections);
      pending = if is_overlong (numbered n d) then map (without_waiting n) pending else pending;
    }) fits
    ∙ ap (λ ks. record base {
      held = left;
      dropped = dropped;
      sent = sent;
      connections = if is_overlong (numbered n d) then ks else map (swap n d) (map (swap n c) base.connections);
      pending = if is_overlong (numbered n d) then map (without_waiting n) pending else pending;
    }) (dropped-swapped n c base.connections)
    ∙ ap (λ ks. record base {
      held = left;
      dropped = dropped;
      sent = sent;
      connections = if is_overlong (numbered n d) then without_number n base.connections else ks;
      pending = if is_overlong (numbered n d) then map (without_waiting n) pending else pending;
    }) (swapped-again n c d base.connections)

-- the loads under way stay, where a connection that is not closed was put in its place
pub pending-put : (base : Situation) (held : List HeldValue) (n : ℕ) (c : Connection) → is_overlong (numbered n c) ≡ false → (set_in base held (numbered n c)).pending ≡ base.pending
pending-put base held n c fits = ap (λ b. if b then map (without_waiting n) base.pending else base.pending) fits

-- a step that joins a load, or none, and puts its connection in its place again
pub placed-joined : (base : Situation) (held left : List HeldValue) (n : ℕ) (c d : Connection) (effect : Effect) (after : Connection → Connection) (sent : ℕ) (pending : List PendingLoad)
    → IsThere n base → is_overlong (numbered n c) ≡ false → quits effect ≡ false → after (numbered n c) ≡ numbered n d
    → ((s : Situation) → s.sent ≡ base.sent → s.pending ≡ base.pending → join_load n effect s ≡ with_loads sent pending s)
    → (let s = record (set_in base held (numbered n c)) { held = left; dropped = base.dropped || drops effect } in
    option_map_or (λ k. with_connection (quits effect) (after k) (join_load n effect s)) (connection_in n s) s)
    ≡ set_in (with_loads sent pending (with_drops (base.dropped || drops effect) base)) left (numbered n d)
placed-joined base held left n c d effect after sent pending there fits stays e joined =
    let s = record (set_in base held (numbered n c)) { held = left; dropped = base.dropped || drops effect } in
    ap (λ o. option_map_or (λ k. with_connection (quits effect) (after k) (join_load n effect s)) o s) (found-there base held n c there fits)
    ∙ ap (λ b. with_connection b (after (numbered n c)) (join_load n effect s)) stays
    ∙ ap (λ t. with_connection false (after (numbered n c)) t) (joined s refl (pending-put base held n c fits))
    ∙ ap (λ k. with_connection false k (with_loads sent pending s)) e
    ∙ set-loads base held left n c d (base.dropped || drops effect) sent pending fits

-- ---- steps that are right, in their turn

-- a step that is not held back, of that connection and line
abbrev pub turned : Step → ℕ → List ℕ → Step
turned step conn line = record step { conn = conn; line = line; held = false }

-- a step that is right in all but turn and line, whose line is due, is right
pub right-turn : (config : Config) (s : Situation) (task : Task) (conn : ℕ) (line : List ℕ) (action : Action) (step : Step) → DoesRight config s action (turned step 0 [])
    → is_in_turn (placed_doing config s (Some task) (Some line) action (turned step conn line)) ≡ true
    → is_right config (placed_doing config s (Some task) (Some line) action (turned step conn line)) ≡ true
right-turn config s task conn line action step r turn =
    let placed = placed_doing config s (Some task) (Some line) action (turned step conn line) in
    and_from _ _ (and_from _ _ (and_from _ _ (and_from _ _ (and_from _ _ (and_from _ _ (and_from _ _ (and_from (is_in_turn placed) (is_held_rightly placed) turn refl) (same-refl line)) r.replies) r.loads) r.accepts) r.tells) r.silent) r.within

-- the step in its place, by its line and what it does
pub placed-is : (config : Config) (s : Situation) (task : Task) (step : Step) (c : Connection) (line : List ℕ) (action : Action)
    → connection_in step.conn s ≡ Some c → line_in (Some task) (Some c) ≡ Some line → action_in config c.waited (Some task) step ≡ action
    → placed_step_in config s (Some task) step ≡ placed_doing config s (Some task) (Some line) action step
placed-is config s task step c line action found due does =
    ap (λ o. placed_doing config s (Some task) (line_in (Some task) o) (action_in config (option_map_or (λ (k : Connection). k.waited) o 0) (Some task) step) step) found
    ∙ ap (λ l. placed_doing config s (Some task) l (action_in config c.waited (Some task) step) step) due
    ∙ ap (λ a. placed_doing config s (Some task) (Some line) a step) does

-- ---- a `LOAD` that begins to wait

-- the load that it sends, by the loads under way
pub sends : (config : Config) (s : Situation) (key : List ℕ) → live_at config s.latest s.held key ≡ None → load_sent_by (view_in config s) (Running (says.Load key)) ≡ number_to_send key s.sent s.pending
sends config s key none = ap (λ o. if is_some o || is_some (load_in s key) then None else Some (suc s.sent)) none

abbrev pub step_waits : ℕ → List ℕ → Option ℕ → Step
step_waits conn line load = step_silent conn line load None []

-- what it leaves, where it is a line, a held one, or one given up
pub after-waits : (config : Config) (base : Situation) (held left : List HeldValue) (n : ℕ) (c d : Connection) (task : Task) (key line : List ℕ) (number : Option ℕ) (effect : Effect)
    → IsThere n base → is_overlong (numbered n c) ≡ false → number ≡ number_to_send key base.sent base.pending
    → effect ≡ effect_in config (view_in config (set_in base held (numbered n c))) (Running (says.Load key)) (step_waits n line number)
    → connection_after (Some task) (step_waits n line number) (effect_in config (view_in config (set_in base held (numbered n c))) (Running (says.Load key)) (step_waits n line number)) (numbered n c) ≡ numbered n d
    → (let s = record (set_in base held (numbered n c)) { held = left; dropped = base.dropped || false } in
    option_map_or (λ k. with_connection (quits effect) (connection_after (Some task) (step_waits n line number) effect k) (join_load n effect s)) (connection_in n s) s)
    ≡ set_in (with_loads (when_sent number base.sent) (when_joined n key number base.pending) base) left (numbered n d)
after-waits config base held left n c d task key line number effect there fits sent is after =
    ap (λ (f : Effect). let s = record (set_in base held (numbered n c)) { held = left; dropped = base.dropped || false } in
    option_map_or (λ k. with_connection (quits f) (connection_after (Some task) (step_waits n line number) f k) (join_load n f s)) (connection_in n s) s) is
    ∙ placed-joined base held left n c d effect_is (connection_after (Some task) (step_waits n line number) effect_is) (when_sent number base.sent) (when_joined n key number base.pending) there fits refl after
    (λ s a b. joins n key number s ∙ ap (λ k. with_loads (when_sent number k) (when_joined n key number s.pending) s) a ∙ ap (λ ps. with_loads (when_sent number base.sent) (when_joined n key number ps) s) b)
    ∙ ap (λ b. set_in (with_loads (when_sent number base.sent) (when_joined n key number base.pending) (with_drops b base)) left (numbered n d)) (or-false base.dropped)
  where
    effect_is : Effect
    effect_is = effect_in config (view_in config (set_in base held (numbered n c))) (Running (says.Load key)) (step_waits n line number)

-- a connection whose `LOAD` waits runs no line, also where it was closed
pub stops-waiting : (base : Situation) (left : List HeldValue) (n : ℕ) (line bytes : List ℕ) (times : ℕ) → IsThere n base → may_run_in (set_in base left (waiting_with n line bytes times)) n ≡ false
stops-waiting base left n line bytes times there =
    let found = found-there base left n (waiting_with n line bytes times) there in
    let none = find-dropped n base.connections in
    grind (arith, found, none)

-- a step that is right in all but turn and line, of a connection whose line is due, is right
pub turn-right : (config : Config) (base : Situation) (held : List HeldValue) (n : ℕ) (c : Connection) (task : Task) (line : List ℕ) (action : Action) (step : Step)
    → IsThere n base → is_overlong (numbered n c) ≡ false → line_in (Some task) (Some (numbered n c)) ≡ Some line → action_in config c.waited (Some task) (turned step n line) ≡ action → is_task_of n (Some task) ≡ true
    → DoesRight config (set_in base held (numbered n c)) action (turned step 0 []) → is_right config (placed_step_in config (set_in base held (numbered n c)) (Some task) (turned step n line)) ≡ true
turn-right config base held n c task line action step there fits due does turn right =
    let s = set_in base held (numbered n c) in
    ap (is_right config) (placed-is config s task (turned step n line) (numbered n c) line action (found-there base held n c there fits) due does) ∙ right-turn config s task n line action step right turn

-- ---- one step of such a `LOAD`

-- it is right in all but turn and line
pub waits-right : (config : Config) (base : Situation) (held : List HeldValue) (n : ℕ) (c : Connection) (key : List ℕ) (load : Option ℕ) → is_overlong (numbered n c) ≡ false
    → load ≡ number_to_send key base.sent base.pending → live_at config base.latest held key ≡ None
    → DoesRight config (set_in base held (numbered n c)) (Running (says.Load key)) (step_silent 0 [] load None [])
waits-right config base held n c key load fits is none =
    let s = set_in base held (numbered n c) in
    let sent : load_sent_by (view_in config s) (Running (says.Load key)) ≡ load =
    sends config s key none ∙ ap (λ (ps : List PendingLoad). number_to_send key base.sent ps) (pending-put base held n c fits) ∙ sym is in
    let w = loading.waits config s key (λ held. Unit {0}) none tt in
    subst (λ l. DoesRight config s (Running (says.Load key)) (step_silent 0 [] l None [])) sent w.right

-- it draws no identifier
pub waits-draws : (config : Config) (number : ℕ) (line : List ℕ) (load : Option ℕ) (a : Identifiers) → StepDraws config (step_waits number line load) a a
waits-draws config number line load a = record {
  draws = draws-none a.stream a.registered;
  used_up = λ e. let no : false ≡ true = (and_parts (says_drop (reading config line)) false e).1 in cc;
}

-- nothing is known after it about the order of use
pub waits-order : (config : Config) (Used : Bool → List (List ℕ) → Type 0) (number : ℕ) (line key : List ℕ) (load : Option ℕ) (held : List HeldValue) → reading config line ≡ Ok (says.Load key)
    → (places : ℕ) (order : Order) → IsPlainLru config places → AgreesWith Used places order
    → AgreesWith Used places (order_behind_step config (suc places) order (step_waits number line load)) × HasKeys (order_behind_step config (suc places) order (step_waits number line load)) held
waits-order config Used number line key load held reads = λ places order plain agrees.
    subst (λ r. AgreesWith Used places (order_by (suc places) r order) × HasKeys (order_by (suc places) r order) held) (sym reads) (tt, tt)

-- the values that it leaves held
abbrev pub left_waiting : Config → Situation → List HeldValue → List ℕ → List HeldValue
left_waiting config base held key = all_held_after config base.latest held (record no_deed { uses = Some key }) []

pub waits-left : (config : Config) (base : Situation) (held : List HeldValue) (key : List ℕ) (Stands : List HeldValue → Type 0) → live_at config base.latest held key ≡ None
    → Stands (all_held_after config base.latest held no_deed []) → Stands (left_waiting config base held key)
waits-left config base held key Stands none stands = subst Stands (sym (loading.unused config base.latest held key none)) stands

-- ---- lines, of which the last one is such a `LOAD`

pub waits-lead : (making : Making) (base : Situation) (number : ℕ) (left : List HeldValue) (rest line key : List ℕ) (n : ℕ) (load : Option ℕ) (v : Values)
    → IsThere number base → IsLine rest n → line ≡ without_return (take n rest) → reading making.config line ≡ Ok (says.Load key)
    → load ≡ number_to_send key base.sent base.pending → live_at making.config base.latest left key ≡ None
    → TasksLead making (set_in base left (ready number rest)) (RunLines number ∷ []) (step_waits number line load ∷ [])
    (set_in (with_under_way (record { sent = when_sent load base.sent; pending = when_joined number key load base.pending }) base) (left_waiting making.config base left key) (waiting_with number line (behind_lines 1 rest) 1)) [] v v
waits-lead making base number left rest line key n load v there at said reads is none =
    let config = making.config in
    let t = set_in base left (ready number rest) in
    let step = step_waits number line load in
    let fits = line-fits number rest n at in
    let effect = effect_in config (view_in config t) (Running (says.Load key)) step in
    let joining = with_under_way (record { sent = when_sent load base.sent; pending = when_joined number key load base.pending }) base in
    let behind = left_waiting config base left key in
    let u = set_in joining behind (waiting_with number line (behind_lines 1 rest) 1) in
    leads-to making t u (RunLines number ∷ []) (RunLines number ∷ []) [] (step ∷ []) v v (none-due u number [] (stops-waiting joining behind number line (behind_lines 1 rest) 1 there))
    (line-one making t u number step v v (may-run base left number rest n there at)
    (turn-right config base left number (ready number rest) (RunLines number) line (Running (says.Load key)) step there fits (IsLine-first_line rest n at ∙ ap Some (sym said)) (ap action_by reads) (eq-eqb number number refl)
    (waits-right config base left number (ready number rest) key load fits is none))
    (ap (λ r. after_step config t (Some (RunLines number)) step (effect_in config (view_in config t) (action_by r) step)) reads
    ∙ after-waits config base left behind number (ready number rest) (waiting_with number line (behind_lines 1 rest) 1) (RunLines number) key line load effect there fits is refl refl)
    (ap (λ r. has_its_part making.part_of (effect_in config (view_in config t) (action_by r) step)) reads)
    (ap (λ r. is_timely_after config making.made (effect_in config (view_in config t) (action_by r) step) u) reads)
    (waits-draws config number line load (identifiers_in v)) (waits-order config v.Used number line key load u.held reads))

pub ready-waits : (making : Making) (number : ℕ) (base : Situation) (held : List HeldValue) (bytes rest line key : List ℕ) (n : ℕ) (load : Option ℕ) (old middle : LineStage) (text : List ℕ) (tape : Option Taped)
    → IsThere number base → (r : RanLines making number base held bytes false rest old middle) → IsLine rest n → line ≡ without_return (take n rest) → reading making.config line ≡ Ok (says.Load key)
    → load ≡ number_to_send key base.sent base.pending → live_at making.config base.latest r.left key ≡ None → middle.values.Stands (all_held_after making.config base.latest r.left no_deed [])
    → gathered (stage middle.values text tape) ≡ gather (gathered middle) (step_waits number line load ∷ [])
    → RanReady making number base held bytes false false true
    (λ left. set_in (with_under_way (record { sent = when_sent load base.sent; pending = when_joined number key load base.pending }) (with_drops middle.values.frame.dropped base)) left (waiting_with number line (behind_lines 1 rest) 1)) old (stage middle.values text tape)
ready-waits making number base held bytes rest line key n load old middle text tape there r at said reads is none stands gathers =
    let from = with_drops middle.values.frame.dropped base in
    let step = step_waits number line load in
    let left = left_waiting making.config base r.left key in
    let lines : List Task = RunLines number ∷ [] in
    ran-then making (set_in base held (ready number bytes)) lines lines [] false _ _ old middle (stage middle.values text tape) step left r (ap says_quit reads)
    (waits-left making.config base r.left key middle.values.Stands none stands)
    (waits-lead making from number r.left rest line key n load middle.values there at said reads is none)
    gathers

-- How the lines of a connection that is ready end.

-- what the values stand for when nothing was done to them, by what they were made with
pub idle-by : (v : Values) (config : Config) (latest : ℕ) (left : List HeldValue) → IsSoundStore v → v.frame.config ≡ config → v.Stands left → v.Stands (all_held_after config latest left no_deed [])
idle-by v config latest left sound same stands = subst (λ (k : Config). v.Stands (all_held_after k latest left no_deed [])) same (sound.idle left latest stands)

-- the load that a connection joins, by the loads under way
pub joined : (number : ℕ) (key : List ℕ) (s : Situation) (load : Option ℕ) → load ≡ load_sent_for key (loads_in s)
    → (let u : UnderWay = record { sent = when_sent load s.sent; pending = when_joined number key load s.pending } in u) ≡ when_waiting number key (loads_in s)
joined number key s load e = ap (λ l. record { sent = when_sent l s.sent; pending = when_joined number key l s.pending }) e

-- lines ran as far as that many bytes, and no load was joined
module _ (now number : ℕ) (bytes : List ℕ) (used : ℕ) (old middle : Seen) (ran : RanTo now number bytes used old.stage middle.stage) (frame : KeepsFrame old.stage.values.frame middle.stage.values.frame now) (fresh : HasNothingOutside (gathered middle.stage)) (still : middle.loads ≡ old.loads) where
  abbrev making : Making
  making = making_of old.stage.values.frame

  abbrev rest : List ℕ
  rest = drop used bytes

  abbrev values : Values
  values = middle.stage.values

  abbrev dropping : Situation → Situation
  dropping s = with_drops values.frame.dropped s

  made-same : values.frame.config ≡ making.config
  made-same = ap (λ (f : Frame). f.config) frame.rest

  fresh-with : (steps : List Step) (new : Seen) → gathered new.stage ≡ gather (gathered middle.stage) steps → HasNothingOutside (gathered new.stage)
  fresh-with steps new e = subst HasNothingOutside (sym e) (fresh-gather (gathered middle.stage) steps fresh)

  -- no line runs at what is left
  quiet : (text : List ℕ) (tape : Option Taped) (loads : UnderWay) → AddsSteps [] middle (record { stage = stage values text tape; loads = loads })
      → (s : Situation) → Agrees old.stage.values now s → IsThere number s → loads_in s ≡ old.loads
      → ((left : List HeldValue) → may_run_in (set_in (dropping s) left (ready number rest)) number ≡ false)
      → RanReady making number s s.held bytes false false false (λ left. set_in (with_under_way loads (dropping s)) left (ready number rest)) old.stage (stage values text tape)
  quiet text tape loads g s agrees there under stops =
      let lines = ran-kept making number s s.held bytes rest false old.stage values middle.stage.text text middle.stage.tape tape (ran s agrees there) (g.gathered_is ∙ gather-none (gathered middle.stage)) in
      subst (λ u. RanReady making number s s.held bytes false false false (λ left. set_in (with_under_way u (dropping s)) left (ready number rest)) old.stage (stage values text tape)) (under ∙ sym still ∙ sym g.loads_are)
      (ready-stopped making number s s.held bytes false rest old.stage (stage values text tape) lines (stops lines.left))

  -- a `QUIT` ran
  ends-quit : (n : ℕ) (new : Seen) → IsLine rest n → RanLine now number (line_in_front rest n) true middle.stage new.stage → new.loads ≡ middle.loads → RunsReady now number bytes rest at.Quit old new
  ends-quit n new at line same = record {
    ran = λ s agrees there under.
        let from = with_drops new.stage.values.frame.dropped s in
        let lines = line-next now number bytes used n true rest old.stage middle.stage new.stage frame ran at line (λ no. absurd (true≢false no)) s agrees there in
        subst (λ u. RanReady making number s s.held bytes true false false (λ left. situation_behind true (with_under_way u from) left (ready number rest)) old.stage new.stage) (under ∙ sym still ∙ sym same)
        (ready-stopped making number s s.held bytes true rest old.stage new.stage lines (stops-quit from lines.left number (ready number rest) refl));
    ends = tt;
    frame = frames-more old.stage.values.frame middle.stage.values.frame new.stage.values.frame now frame line.frame;
    fresh = line.fresh;
  }

  -- the line is held back
  held-back : (n : ℕ) (text : List ℕ) (tape : Option Taped) (loads : UnderWay) → IsSoundStore values → IsLine rest n → AddsSteps (step_held number (line_in_front rest n) ∷ []) middle (record { stage = stage values text tape; loads = loads })
      → RunsReady now number bytes rest at.Held old (record { stage = stage values text tape; loads = loads })
  held-back n text tape loads sound line g = record {
    ran = λ s agrees there under.
        let lines = ran s agrees there in
        let a = ready-held making number s s.held bytes rest (line_in_front rest n) n old.stage middle.stage text tape there lines line refl (idle-by values making.config s.latest lines.left sound made-same lines.stands) g.gathered_is in
        subst (λ u. RanReady making number s s.held bytes false true false (λ left. set_in (with_under_way u (dropping s)) left (holding number (held_line rest) (behind_lines 1 rest))) old.stage (stage values text tape)) (under ∙ sym still ∙ sym g.loads_are) a;
    ends = has-line rest n line;
    frame = frame;
    fresh = fresh-with (step_held number (line_in_front rest n) ∷ []) (record { stage = stage values text tape; loads = loads }) g.gathered_is;
  }

  -- a `LOAD` begins to wait
  waits : (n : ℕ) (text : List ℕ) (tape : Option Taped) (loads : UnderWay) → IsSoundStore values → IsLine rest n → WaitsLine now number (line_in_front rest n) middle (record { stage = stage values text tape; loads = loads })
      → RunsReady now number bytes rest at.Waits old (record { stage = stage values text tape; loads = loads })
  waits n text tape loads sound at w =
      let line = line_in_front rest n in
      let miss = w.is_miss in
      let key = miss.key in
      let reads : reading making.config line ≡ Ok (says.Load key) = subst (λ (k : Config). reading k line ≡ Ok (says.Load key)) made-same miss.reads in
      let load = load_sent_for key middle.loads in
      let said : line ≡ held_line rest = sym (ap (λ o. unwrap_or o []) (IsLine-first_line rest n at)) in
      record {
        ran = λ s agrees there under.
            let lines = ran s agrees there in
            let same = under ∙ sym still in
            let none : live_at making.config s.latest lines.left key ≡ None =
            subst (λ (k : Config). live_at k s.latest lines.left key ≡ None) made-same (subst (λ (m : ℕ). live_at values.frame.config m lines.left key ≡ None) (sym agrees.at) (miss.none lines.left lines.stands)) in
            let sent = ap (load_sent_for key) (sym same) in
            let a = ready-waits making number s s.held bytes rest line key n load old.stage middle.stage text tape there lines at refl reads sent none (idle-by values making.config s.latest lines.left sound made-same lines.stands) w.gathered_is in
            let b = subst (λ u. RanReady making number s s.held bytes false false true (λ left. set_in (with_under_way u (dropping s)) left (waiting_with number line (behind_lines 1 rest) 1)) old.stage (stage values text tape))
            (joined number key s load sent ∙ ap (when_waiting number key) same ∙ sym w.loads_are) a in
            subst (λ l. RanReady making number s s.held bytes false false true (λ left. set_in (with_under_way loads (dropping s)) left (waiting_with number l (behind_lines 1 rest) 1)) old.stage (stage values text tape)) said b;
        ends = has-line rest n at;
        frame = frame;
        fresh = fresh-with (step_silent number line load None [] ∷ []) (record { stage = stage values text tape; loads = loads }) w.gathered_is;
      }

  -- where the values stay
  with-values : (end : End) (new : Seen) → new.stage.values ≡ values → StopsBy now number rest end middle new
      → ((text : List ℕ) (tape : Option Taped) (loads : UnderWay) → StopsBy now number rest end middle (record { stage = stage values text tape; loads = loads }) → RunsReady now number bytes rest end old (record { stage = stage values text tape; loads = loads }))
      → RunsReady now number bytes rest end old new
  with-values end new same stops by =
      subst (λ (v : Values). RunsReady now number bytes rest end old (record { stage = stage v new.stage.text new.stage.tape; loads = new.loads })) (sym same)
      (by new.stage.text new.stage.tape new.loads (subst (λ (v : Values). StopsBy now number rest end middle (record { stage = stage v new.stage.text new.stage.tape; loads = new.loads })) same stops))

  -- LINES END
  pub lines-end : (end : End) (new : Seen) → IsSoundStore values → StopsBy now number rest end middle new → (ends_by_quit end ≡ false → new.stage.values ≡ values) → RunsReady now number bytes rest end old new
  lines-end at.More new sound stops same = with-values at.More new (same refl) stops (λ text tape loads by. record {
    ran = λ s agrees there under. quiet text tape loads by.1 s agrees there under (λ left. stops-partial (dropping s) left number rest there by.0);
    ends = by.0;
    frame = frame;
    fresh = fresh-with [] (record { stage = stage values text tape; loads = loads }) by.1.gathered_is;
  })
  lines-end at.TooLong new sound stops same = with-values at.TooLong new (same refl) stops (λ text tape loads by. record {
    ran = λ s agrees there under. quiet text tape loads by.1 s agrees there under (λ left. stops-long (dropping s) left number rest (ap (λ b. b || false) (long_from rest by.0)));
    ends = by.0;
    frame = frame;
    fresh = fresh-with [] (record { stage = stage values text tape; loads = loads }) by.1.gathered_is;
  })
  lines-end at.Held new sound stops same = with-values at.Held new (same refl) stops (λ text tape loads by. held-back by.0 text tape loads sound by.1 by.2)
  lines-end at.Waits new sound stops same = with-values at.Waits new (same refl) stops (λ text tape loads by. waits by.0 text tape loads sound by.1 by.2)
  lines-end at.Quit new sound stops same = ends-quit stops.0 new stops.1 stops.2.0 stops.2.1
