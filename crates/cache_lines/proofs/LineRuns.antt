-- One line of a connection runs.
use Rattle.std.proofs.Common.{arith, refl, ap, ◌∙◌, ◌≡◌, ℕ, Bool, true, false, ◌||◌, List, [], Option, Some, if◌then◌else◌, drop, sym, subst, append_assoc, suc, ◌+◌, not, ◌&&◌, ◌∷◌, ◌++◌, take, None, is_none, is_some, ◌==◌, map, unwrap_or}
use Rattle.std.proofs.Math.Bool.{or-false}
use Rattle.std.proofs.lemmas.Bool.{and_from, eq-eqb}
use Rattle.std.proofs.lemmas.Grind.{flat_map-append}
use Rattle.std.proofs.lemmas.List.{append-nil}
use Rattle.std.specs.List.{flat_map, list_all, find}
use Rattle.std.specs.Option.{option_map_or}
use Rattle.audit_model.specs.Changes.{after_step, join_load, connection_after, all_held_after}
use Rattle.audit_model.specs.Commands.{drops, quits, syncs}
use Rattle.audit_model.specs.Follows.{line_in, placed_step_in}
use Rattle.audit_model.specs.Grammar.{reading}
use Rattle.audit_model.specs.History.{Effect, Holding}
use Rattle.audit_model.specs.Situation.{Situation, Connection, HeldValue, Ready, Held, view_in, connection_in, with_connection, is_overlong, is_ready, may_run_in, without_number, candidate_at}
use Rattle.audit_model.specs.Steps.{Task, RunLines, RunHeld, action_by, effect_in, is_right, is_in_turn, is_held_rightly, is_task_of, may_hold}
use Rattle.audit_model.specs.Stream.{behind_lines, first_line, without_return}
use Rattle.audit_model.specs.declared.config.Config.{Config}
use Rattle.audit_model.specs.declared.transcript.Accepted.{Accepted}
use Rattle.audit_model.specs.declared.transcript.Note.{Note}
use Rattle.audit_model.specs.declared.transcript.Step.{Step}
use Rattle.audit_lines.proofs.Lines.{IsLine-first_line, IsLine-behind_lines, IsLine-not_long, IsPartial-first_line, IsPartial-not_long}
use Rattle.audit_lines.specs.Next.{IsLine, IsPartial}
use Rattle.cache_commands.specs.Promises.{Frame, no_deed}
use Rattle.cache_commands.specs.Recency.{IsPlainLru}
use Rattle.cache_commands.specs.Running.{is_timely}
use Rattle.cache_commands.specs.Values.{Values}
use Rattle.cache_commands.proofs.Answering.{same-refl, none_succeeded}
use Rattle.cache_commands.specs.Answered.{Agrees}
use Rattle.cache_commands.specs.Order.{AgreesWith, Order, order_by}
use Rattle.cache_commands.specs.Right.{DoesRight, step_saying, placed_doing, held_when_run, KeepsFrame}
use Rattle.cache_lines.proofs.Drawn.{held-draws}
use Rattle.cache_lines.proofs.Placing.{found-there, ended-again, numbered}
use Rattle.cache_lines.proofs.leads.Leading.{leads-nothing, leads-on, leads-one, leads-to, none-due}
use Rattle.cache_lines.specs.Drawing.{StepDraws, identifiers_in}
use Rattle.cache_lines.specs.Ended.{RanReady, RanTasks, ends_held, ends_silent, line_in_front}
use Rattle.cache_lines.specs.Gathered.{Gathered, HasNothingOutside, LineStage, gather, gathered, reply_in, stage}
use Rattle.cache_lines.specs.Leading.{TasksLead, effect_for}
use Rattle.cache_lines.specs.Lines.{TouchesOnlyValues, IsThere, situation_behind, set_in, with_drops, ends_quit, has_its_part, is_timely_after, ready, says_quit, holding}
use Rattle.cache_lines.specs.Making.{Making, making_of}
use Rattle.cache_lines.specs.Ordered.{HasKeys, order_behind_step}
use Rattle.cache_lines.specs.Ran.{RanOne, RanLine}
use Rattle.cache_lines.specs.Tape.Taped.{Taped, step_held}
use Rattle.cache_lines.specs.Whole.{held_line}

-- the effect of a step of a line
abbrev pub effect_saying : Config → Situation → ℕ → List ℕ → List ℕ → Option Accepted → List Note → Effect
effect_saying config s conn line reply accepted told = effect_in config (view_in config s) (action_by (reading config line)) (step_saying conn line reply accepted told)

-- a step that is right in all but turn and line, whose line is due, is right
pub right-in-turn : (config : Config) (s : Situation) (task : Task) (conn : ℕ) (line reply : List ℕ) (accepted : Option Accepted) (told : List Note)
    → DoesRight config s (action_by (reading config line)) (step_saying 0 [] reply accepted told)
    → is_in_turn (placed_doing config s (Some task) (Some line) (action_by (reading config line)) (step_saying conn line reply accepted told)) ≡ true
    → is_right config (placed_doing config s (Some task) (Some line) (action_by (reading config line)) (step_saying conn line reply accepted told)) ≡ true
right-in-turn config s task conn line reply accepted told r turn =
    let placed = placed_doing config s (Some task) (Some line) (action_by (reading config line)) (step_saying conn line reply accepted told) in
    and_from _ _ (and_from _ _ (and_from _ _ (and_from _ _ (and_from _ _ (and_from _ _ (and_from _ _ (and_from (is_in_turn placed) (is_held_rightly placed) turn refl) (same-refl line)) r.replies) r.loads) r.accepts) r.tells) r.silent) r.within

-- a plain step puts its connection in its place again, or closes it
pub placed-again : (base : Situation) (held left : List HeldValue) (n : ℕ) (c d : Connection) (effect : Effect) (after : Connection → Connection) (quit : Bool)
    → IsThere n base → is_overlong (numbered n c) ≡ false → quits effect ≡ quit → ((s : Situation) → join_load n effect s ≡ s) → after (numbered n c) ≡ numbered n d
    → (let s = record (set_in base held (numbered n c)) { held = left; dropped = base.dropped || drops effect } in
    option_map_or (λ k. with_connection (quits effect) (after k) (join_load n effect s)) (connection_in n s) s)
    ≡ situation_behind quit (with_drops (base.dropped || drops effect) base) left (numbered n d)
placed-again base held left n c d effect after quit there fits stays alone e =
    let put = set_in base held (numbered n c) in
    let s = record put { held = left; dropped = base.dropped || drops effect } in
    ap (λ o. option_map_or (λ k. with_connection (quits effect) (after k) (join_load n effect s)) o s) (found-there base held n c there fits)
    ∙ ap (λ b. with_connection b (after (numbered n c)) (join_load n effect s)) stays
    ∙ ap (λ k. with_connection quit (after (numbered n c)) k) (alone s)
    ∙ ap (λ k. with_connection quit k s) e
    ∙ ended-again (with_drops (base.dropped || drops effect) base) held left n c d quit fits

-- the connection that runs lines, without its first line
abbrev pub beyond : Connection → Connection
beyond c = record { number = c.number; unread = behind_lines 1 c.unread; standing = Ready; waited = 0 }

-- the connection that held a line, ready again
abbrev pub released : Connection → Connection
released c = record { number = c.number; unread = c.unread; standing = Ready; waited = 0 }

-- what a plain step of a line leaves of the situation
pub after-line : (config : Config) (base : Situation) (held : List HeldValue) (n : ℕ) (c : Connection) (line reply : List ℕ) (accepted : Option Accepted) (told : List Note) (quit : Bool)
    → IsThere n base → is_overlong (numbered n c) ≡ false → TouchesOnlyValues (effect_saying config (set_in base held (numbered n c)) n line reply accepted told) quit
    → after_step config (set_in base held (numbered n c)) (Some (RunLines n)) (step_saying n line reply accepted told) (effect_saying config (set_in base held (numbered n c)) n line reply accepted told)
    ≡ situation_behind quit (with_drops (base.dropped || drops (effect_saying config (set_in base held (numbered n c)) n line reply accepted told)) base)
    (held_when_run config (set_in base held (numbered n c)) (action_by (reading config line)) (step_saying n line reply accepted told)) (numbered n (beyond c))
after-line config base held n c line reply accepted told quit there fits plain =
    let s = set_in base held (numbered n c) in
    let effect = effect_saying config s n line reply accepted told in
    placed-again base held (held_when_run config s (action_by (reading config line)) (step_saying n line reply accepted told)) n c (beyond c) effect
    (connection_after (Some (RunLines n)) (step_saying n line reply accepted told) effect) quit there fits plain.quits (plain.loads n)
    (ap (λ b. record { number = n; unread = behind_lines 1 c.unread; standing = if b then Held line else Ready; waited = 0 }) plain.stays)

-- what a plain step of a held command leaves of the situation
pub after-held : (config : Config) (base : Situation) (held : List HeldValue) (n : ℕ) (c : Connection) (line reply : List ℕ) (accepted : Option Accepted) (told : List Note) (quit : Bool)
    → IsThere n base → is_overlong (numbered n c) ≡ false → TouchesOnlyValues (effect_saying config (set_in base held (numbered n c)) n line reply accepted told) quit
    → after_step config (set_in base held (numbered n c)) (Some (RunHeld n)) (step_saying n line reply accepted told) (effect_saying config (set_in base held (numbered n c)) n line reply accepted told)
    ≡ situation_behind quit (with_drops (base.dropped || drops (effect_saying config (set_in base held (numbered n c)) n line reply accepted told)) base)
    (held_when_run config (set_in base held (numbered n c)) (action_by (reading config line)) (step_saying n line reply accepted told)) (numbered n (released c))
after-held config base held n c line reply accepted told quit there fits plain =
    let s = set_in base held (numbered n c) in
    let effect = effect_saying config s n line reply accepted told in
    placed-again base held (held_when_run config s (action_by (reading config line)) (step_saying n line reply accepted told)) n c (released c) effect
    (connection_after (Some (RunHeld n)) (step_saying n line reply accepted told) effect) quit there fits plain.quits (plain.loads n)
    (ap (λ b. record { number = n; unread = c.unread; standing = if b then Held line else Ready; waited = 0 }) plain.stays)

-- A connection's lines run, one after another.

-- ---- what is gathered

pub gather-none : (g : Gathered) → gather g [] ≡ g
gather-none g = go g.kept
  where
    go : (kept : Option Taped) → gather (record g { kept = kept }) [] ≡ record g { kept = kept }
    go None = ap (λ t. record { text = t; kept = None; waiting = g.waiting ++ [] }) (append-nil g.text) ∙ ap (λ w. record { text = g.text; kept = None; waiting = w }) (append-nil g.waiting)
    go (Some t) = ap (λ ss. record { text = g.text; kept = Some (record t { steps = ss }); waiting = g.waiting }) (append-nil t.steps)

pub gather-more : (g : Gathered) (xs ys : List Step) → gather (gather g xs) ys ≡ gather g (xs ++ ys)
gather-more g xs ys = go g.kept
  where
    go : (kept : Option Taped) → gather (gather (record g { kept = kept }) xs) ys ≡ gather (record g { kept = kept }) (xs ++ ys)
    go None =
        ap (λ t. record { text = t; kept = None; waiting = (g.waiting ++ flat_map (λ (step : Step). step.notices) xs) ++ flat_map (λ (step : Step). step.notices) ys })
        (append_assoc g.text (flat_map reply_in xs) (flat_map reply_in ys) ∙ ap (λ r. g.text ++ r) (sym (flat_map-append reply_in xs ys)))
        ∙ ap (λ w. record { text = g.text ++ flat_map reply_in (xs ++ ys); kept = None; waiting = w })
        (append_assoc g.waiting (flat_map (λ (step : Step). step.notices) xs) (flat_map (λ (step : Step). step.notices) ys) ∙ ap (λ r. g.waiting ++ r) (sym (flat_map-append (λ (step : Step). step.notices) xs ys)))
    go (Some t) = ap (λ ss. record { text = g.text; kept = Some (record t { steps = ss }); waiting = g.waiting }) (append_assoc t.steps xs ys)

-- what is gathered stays fresh
pub fresh-gather : (g : Gathered) (steps : List Step) → HasNothingOutside g → HasNothingOutside (gather g steps)
fresh-gather g steps fresh = go g.kept fresh
  where
    go : (kept : Option Taped) → HasNothingOutside (record g { kept = kept }) → HasNothingOutside (gather (record g { kept = kept }) steps)
    go None f = tt
    go (Some t) f = f

-- ---- runs of lines

-- what is known of the keys held, as it now is, or closed by a `QUIT`
pub has-ended : (order : Order) (quit : Bool) (base : Situation) (left : List HeldValue) (c : Connection) → HasKeys order left → HasKeys order (situation_behind quit base left c).held
has-ended order true base left c h = h
has-ended order false base left c h = h

-- what a step leaves is timely, as it now is or closed by a `QUIT`
pub timely-ended : (config : Config) (made : ℕ) (effect : Effect) (quit : Bool) (base : Situation) (left : List HeldValue) (c : Connection) → (not (syncs effect) || list_all (is_timely config made base.latest) left) ≡ true
    → is_timely_after config made effect (situation_behind quit base left c) ≡ true
timely-ended config made effect true base left c timely = timely
timely-ended config made effect false base left c timely = timely

-- one more step, which is a `QUIT` or not
pub ends-quit-more : (config : Config) (steps : List Step) (step : Step) (quit : Bool) → (not step.held && says_quit (reading config step.line)) ≡ quit → ends_quit config (steps ++ step ∷ []) ≡ quit
ends-quit-more config [] step quit e = e
ends-quit-more config (x ∷ []) step quit e = e
ends-quit-more config (x ∷ y ∷ xs) step quit e = ends-quit-more config (y ∷ xs) step quit e

pub silent-more : (steps : List Step) (step : Step) → ends_silent (steps ++ step ∷ []) ≡ (is_none step.reply && not step.held)
silent-more [] step = refl
silent-more (x ∷ []) step = refl
silent-more (x ∷ y ∷ xs) step = silent-more (y ∷ xs) step

pub ends-more : (steps : List Step) (step : Step) → ends_held (steps ++ step ∷ []) ≡ step.held
ends-more [] step = refl
ends-more (x ∷ []) step = refl
ends-more (x ∷ y ∷ xs) step = ends-more (y ∷ xs) step

-- a connection with a whole line is not closed for a long one
pub line-fits : (number : ℕ) (bytes : List ℕ) (n : ℕ) → IsLine bytes n → is_overlong (ready number bytes) ≡ false
line-fits number bytes n line = ap (λ b. b || false) (IsLine-not_long bytes n line)

-- a line that may run
pub may-run : (base : Situation) (held : List HeldValue) (number : ℕ) (bytes : List ℕ) (n : ℕ) → IsThere number base → IsLine bytes n
    → may_run_in (set_in base held (ready number bytes)) number ≡ true
may-run base held number bytes n there line =
    ap (λ c. option_map_or (λ k. is_ready k.standing && is_some (first_line k.unread)) c false) (found-there base held number (ready number bytes) there (line-fits number bytes n line))
    ∙ ap is_some (IsLine-first_line bytes n line)

-- the line that is due
pub line-due : (base : Situation) (held : List HeldValue) (number : ℕ) (bytes line : List ℕ) (n : ℕ) → IsThere number base → IsLine bytes n → line ≡ without_return (take n bytes)
    → line_in (Some (RunLines number)) (connection_in number (set_in base held (ready number bytes))) ≡ Some line
line-due base held number bytes line n there at said =
    ap (line_in (Some (RunLines number))) (found-there base held number (ready number bytes) there (line-fits number bytes n at))
    ∙ IsLine-first_line bytes n at ∙ ap Some (sym said)

-- ---- the tasks of lines

-- a line may run, and lines stay due
pub line-one : (making : Making) (s t : Situation) (number : ℕ) (step : Step) (a b : Values) → may_run_in s number ≡ true
    → is_right making.config (placed_step_in making.config s (Some (RunLines number)) step) ≡ true → after_step making.config s (Some (RunLines number)) step (effect_for making.config s (Some (RunLines number)) step) ≡ t
    → has_its_part making.part_of (effect_for making.config s (Some (RunLines number)) step) ≡ true → is_timely_after making.config making.made (effect_for making.config s (Some (RunLines number)) step) t ≡ true
    → StepDraws making.config step (identifiers_in a) (identifiers_in b)
    → ((places : ℕ) (order : Order) → IsPlainLru making.config places → AgreesWith a.Used places order
    → AgreesWith b.Used places (order_behind_step making.config (suc places) order step) × HasKeys (order_behind_step making.config (suc places) order step) t.held)
    → TasksLead making s (RunLines number ∷ []) (step ∷ []) t (RunLines number ∷ []) a b
line-one making s t number step a b may right after parted timely draws keys =
    leads-one making s t (RunLines number) (RunLines number ∷ []) [] step a b (ap (λ b. if b then RunLines number ∷ [] else []) may) right after parted timely draws keys

-- a line that was answered
pub line-leads : (making : Making) (number : ℕ) (base : Situation) (held : List HeldValue) (bytes line : List ℕ) (n : ℕ) (quit : Bool) (old new : LineStage)
    → IsThere number base → IsLine bytes n → line ≡ without_return (take n bytes) → (one : RanOne making number (set_in base held (ready number bytes)) line quit old new)
    → TasksLead making (set_in base held (ready number bytes)) (RunLines number ∷ []) (step_saying number line one.reply one.accepted one.told ∷ [])
    (situation_behind quit (with_drops new.values.frame.dropped base) (held_when_run making.config (set_in base held (ready number bytes)) (action_by (reading making.config line)) (step_saying number line one.reply one.accepted one.told)) (ready number (behind_lines 1 bytes)))
    (RunLines number ∷ []) old.values new.values
line-leads making number base held bytes line n quit old new there at said one =
    let config = making.config in
    let s = set_in base held (ready number bytes) in
    let step = step_saying number line one.reply one.accepted one.told in
    let action = action_by (reading config line) in
    let effect = effect_for config s (Some (RunLines number)) step in
    let from = with_drops new.values.frame.dropped base in
    let left = held_when_run config s action step in
    let rest = ready number (behind_lines 1 bytes) in
    line-one making s (situation_behind quit from left rest) number step old.values new.values (may-run base held number bytes n there at)
    (subst (λ due. is_right config (placed_doing config s (Some (RunLines number)) due action step) ≡ true) (sym (line-due base held number bytes line n there at said))
    (right-in-turn config s (RunLines number) number line one.reply one.accepted one.told one.right (eq-eqb number number refl)))
    (after-line config base held number (ready number bytes) line one.reply one.accepted one.told quit there (line-fits number bytes n at) one.plain
    ∙ ap (λ b. situation_behind quit (with_drops b base) left rest) (sym one.dropped_is))
    one.parted (timely-ended config making.made effect quit from left rest one.timely) one.draws
    (λ places order plain agrees.
    let b = one.ordered places order plain agrees in
    (b.0, has-ended (order_by (suc places) (reading config line) order) quit from left rest b.1))

-- ---- one step more

-- the same steps lead to a situation and tasks that can be said otherwise
pub ran-to : (making : Making) (s : Situation) (tasks behind last : List Task) (quit is_held is_silent : Bool) (target next : List HeldValue → Situation) (old new : LineStage)
    → (r : RanTasks making s tasks behind quit is_held is_silent target old new) → TasksLead making s tasks r.steps (next r.left) last old.values new.values → RanTasks making s tasks last quit is_held is_silent next old new
ran-to making s tasks behind last quit is_held is_silent target next old new r leads =
    record { steps = r.steps; left = r.left; stands = r.stands; leads = leads; ends = r.ends; quits = r.quits; silent = r.silent; gathered_is = r.gathered_is }

-- a step behind those that are no last ones
pub ran-then : (making : Making) (s : Situation) (tasks between behind : List Task) (quit : Bool) (target next : List HeldValue → Situation) (old middle new : LineStage) (step : Step) (left : List HeldValue)
    → (r : RanTasks making s tasks between false false false target old middle) → (not step.held && says_quit (reading making.config step.line)) ≡ quit → new.values.Stands left
    → TasksLead making (target r.left) between (step ∷ []) (next left) behind middle.values new.values → gathered new ≡ gather (gathered middle) (step ∷ [])
    → RanTasks making s tasks behind quit step.held (is_none step.reply && not step.held) next old new
ran-then making s tasks between behind quit target next old middle new step left r says stands leads gathers = record {
  steps = r.steps ++ step ∷ [];
  left = left;
  stands = stands;
  leads = leads-on making s (target r.left) (next left) tasks between behind r.steps (step ∷ []) old.values middle.values new.values r.leads leads;
  ends = ends-more r.steps step;
  quits = ends-quit-more making.config r.steps step quit says;
  silent = silent-more r.steps step;
  gathered_is = gathers ∙ ap (λ g. gather g (step ∷ [])) r.gathered_is ∙ gather-more (gathered old) r.steps (step ∷ []);
}

-- From this situation, with these values held and these bytes unread, lines of the connection ran until those bytes were left, or the last
-- one was a `QUIT`, and what they left is the result.
abbrev pub RanLines : (making : Making) (number : ℕ) (base : Situation) (held : List HeldValue) (bytes : List ℕ) (quit : Bool) (rest : List ℕ) (old new : LineStage) → Type 0
RanLines making number base held bytes quit rest old new =
    RanTasks making (set_in base held (ready number bytes)) (RunLines number ∷ []) (RunLines number ∷ []) quit false false (λ left. situation_behind quit (with_drops new.values.frame.dropped base) left (ready number rest)) old new

-- one more line ran
pub ran-more : (making : Making) (number : ℕ) (base : Situation) (held : List HeldValue) (bytes mid rest line : List ℕ) (n : ℕ) (quit : Bool) (old middle new : LineStage)
    → IsThere number base → (r : RanLines making number base held bytes false mid old middle) → IsLine mid n → line ≡ without_return (take n mid) → (quit ≡ false → rest ≡ drop (n + 1) mid)
    → RanOne making number (set_in (with_drops middle.values.frame.dropped base) r.left (ready number mid)) line quit middle new
    → RanLines making number base held bytes quit rest old new
ran-more making number base held bytes mid rest line n quit old middle new there r at said skips one =
    let from = with_drops middle.values.frame.dropped base in
    let s = set_in from r.left (ready number mid) in
    let step = step_saying number line one.reply one.accepted one.told in
    let left = held_when_run making.config s (action_by (reading making.config line)) step in
    let lines : List Task = RunLines number ∷ [] in
    ran-then making (set_in base held (ready number bytes)) lines lines lines quit _ _ old middle new step left r one.says one.left
    (subst (λ t. TasksLead making s lines (step ∷ []) t lines middle.values new.values) (ended-rest quit (λ e. IsLine-behind_lines mid n at ∙ sym (skips e)) left) (line-leads making number from r.left mid line n quit middle new there at said one))
    one.gathered_is
  where
    ended-rest : (quit : Bool) → (quit ≡ false → behind_lines 1 mid ≡ rest) → (left : List HeldValue)
        → situation_behind quit (with_drops new.values.frame.dropped base) left (ready number (behind_lines 1 mid)) ≡ situation_behind quit (with_drops new.values.frame.dropped base) left (ready number rest)
    ended-rest true is left = refl
    ended-rest false is left = ap (λ b. set_in (with_drops new.values.frame.dropped base) left (ready number b)) (is refl)

-- no line ran yet
pub ran-none : (making : Making) (number : ℕ) (base : Situation) (held : List HeldValue) (bytes : List ℕ) (old : LineStage)
    → old.values.Stands held → base.dropped ≡ old.values.frame.dropped → RanLines making number base held bytes false bytes old old
ran-none making number base held bytes old m same =
    let s = set_in base held (ready number bytes) in
    let lines : List Task = RunLines number ∷ [] in
    record {
      steps = [];
      left = held;
      stands = m;
      leads = subst (λ b. TasksLead making s lines [] (set_in (with_drops b base) held (ready number bytes)) lines old.values old.values) same (leads-nothing making s lines old.values);
      ends = refl;
      quits = refl;
      silent = refl;
      gathered_is = sym (gather-none (gathered old));
    }

-- a line that was refused changed nothing but what room there is
pub ran-kept : (making : Making) (number : ℕ) (base : Situation) (held : List HeldValue) (bytes rest : List ℕ) (quit : Bool) (old : LineStage) (values : Values) (middle_text new_text : List ℕ) (middle_tape new_tape : Option Taped)
    → RanLines making number base held bytes quit rest old (stage values middle_text middle_tape)
    → gathered (stage values new_text new_tape) ≡ gathered (stage values middle_text middle_tape)
    → RanLines making number base held bytes quit rest old (stage values new_text new_tape)
ran-kept making number base held bytes rest quit old values middle_text new_text middle_tape new_tape r same =
    record { steps = r.steps; left = r.left; stands = r.stands; leads = r.leads; ends = r.ends; quits = r.quits; silent = r.silent; gathered_is = same ∙ r.gathered_is }

-- Lines run one after another until they stop.

pub frames-more : (a b c : Frame) (now : ℕ) → KeepsFrame a b now → KeepsFrame b c now → KeepsFrame a c now
frames-more a b c now g h = record { rest = h.rest ∙ ap (λ (f : Frame). record f { dropped = c.dropped; latest = c.latest }) g.rest; latest = h.latest }

-- what holds from round to round: from each situation that the values stood for, lines ran as far as that many bytes
abbrev pub RanTo : (now number : ℕ) (bytes : List ℕ) (used : ℕ) (old new : LineStage) → Type 0
RanTo now number bytes used old new =
    (s : Situation) → Agrees old.values now s → IsThere number s → RanLines (making_of old.values.frame) number s s.held bytes false (drop used bytes) old new

-- one line more
pub line-next : (now number : ℕ) (bytes : List ℕ) (used n : ℕ) (quit : Bool) (rest : List ℕ) (old middle new : LineStage) → KeepsFrame old.values.frame middle.values.frame now → RanTo now number bytes used old middle
    → IsLine (drop used bytes) n → RanLine now number (line_in_front (drop used bytes) n) quit middle new → (quit ≡ false → rest ≡ drop (n + 1) (drop used bytes))
    → (s : Situation) → Agrees old.values now s → IsThere number s → RanLines (making_of old.values.frame) number s s.held bytes quit rest old new
line-next now number bytes used n quit rest old middle new frame ran at line skips = λ s agrees there.
    let mid = drop used bytes in
    let r = ran s agrees there in
    let t = set_in (with_drops middle.values.frame.dropped s) r.left (ready number mid) in
    ran-more (making_of old.values.frame) number s s.held bytes mid rest (line_in_front mid n) n quit old middle new there r at refl skips
    (subst (λ (m : Making). RanOne m number t (line_in_front mid n) quit middle new) (ap making_of frame.rest) (line.ran t (record { at = agrees.at; dropped = refl; stands = r.stands })))

-- Lines of a connection that is ready, to their end.

-- ---- where lines stop

pub stops-partial : (base : Situation) (left : List HeldValue) (number : ℕ) (rest : List ℕ) → IsThere number base → IsPartial rest → may_run_in (set_in base left (ready number rest)) number ≡ false
stops-partial base left number rest there partial =
    ap (λ c. option_map_or (λ k. is_ready k.standing && is_some (first_line k.unread)) c false) (found-there base left number (ready number rest) there (ap (λ b. b || false) (IsPartial-not_long rest partial)))
    ∙ ap is_some (IsPartial-first_line rest partial)

pub find-dropped : (n : ℕ) (cs : List Connection) → find (λ c. c.number == n) (without_number n cs) ≡ None
find-dropped n [] = refl
find-dropped n (c ∷ cs) = let next = find-dropped n cs in grind (arith, next)

pub stops-long : (base : Situation) (left : List HeldValue) (number : ℕ) (rest : List ℕ) → is_overlong (ready number rest) ≡ true → may_run_in (set_in base left (ready number rest)) number ≡ false
stops-long base left number rest long =
    ap (λ c. option_map_or (λ k. is_ready k.standing && is_some (first_line k.unread)) c false)
    (ap (λ b. find (λ c. c.number == number) (if b then without_number number base.connections else map (λ c. if c.number == number then ready number rest else c) base.connections)) long
    ∙ find-dropped number base.connections)

pub stops-held : (base : Situation) (left : List HeldValue) (number : ℕ) (line rest : List ℕ) → IsThere number base → may_run_in (set_in base left (holding number line rest)) number ≡ false
stops-held base left number line rest there =
    ap (λ c. option_map_or (λ k. is_ready k.standing && is_some (first_line k.unread)) c false) (found-there base left number (holding number line rest) there refl)

pub stops-quit : (base : Situation) (left : List HeldValue) (number : ℕ) (c : Connection) → c.number ≡ number → may_run_in (situation_behind true base left c) number ≡ false
stops-quit base left number c is =
    ap (λ n. option_map_or (λ k. is_ready k.standing && is_some (first_line k.unread)) (find (λ k. k.number == number) (without_number n base.connections)) false) is
    ∙ ap (λ o. option_map_or (λ k. is_ready k.standing && is_some (first_line k.unread)) o false) (find-dropped number base.connections)

-- ---- a command held back

-- the step that holds a line back is right, for lines and for a `LOAD` that runs again
pub right-held : (config : Config) (s : Situation) (task : Task) (number : ℕ) (line : List ℕ) → is_task_of number (Some task) ≡ true → may_hold (Some task) Holding ≡ true
    → is_right config (placed_doing config s (Some task) (Some line) Holding (step_held number line)) ≡ true
right-held config s task number line turn may =
    let placed = placed_doing config s (Some task) (Some line) Holding (step_held number line) in
    and_from _ true (and_from _ true (and_from _ _ (and_from _ true (and_from _ true (and_from _ true (and_from _ _ (and_from (is_in_turn placed) (is_held_rightly placed) turn may) (same-refl line)) refl) refl) refl)
    (none_succeeded (map (candidate_at config s.latest) s.held ++ []))) refl) refl

-- a line of those that may run is held back
pub held-leads : (making : Making) (base : Situation) (number : ℕ) (left : List HeldValue) (rest line : List ℕ) (n : ℕ) (v : Values)
    → IsThere number base → IsLine rest n → line ≡ without_return (take n rest)
    → TasksLead making (set_in base left (ready number rest)) (RunLines number ∷ []) (step_held number line ∷ [])
    (set_in base (all_held_after making.config base.latest left no_deed []) (holding number line (behind_lines 1 rest))) [] v v
held-leads making base number left rest line n v there at said =
    let config = making.config in
    let t = set_in base left (ready number rest) in
    let step = step_held number line in
    let after = all_held_after config base.latest left no_deed [] in
    let c = holding number line (behind_lines 1 rest) in
    let effect = effect_in config (view_in config t) Holding step in
    leads-to making t (set_in base after c) (RunLines number ∷ []) (RunLines number ∷ []) [] (step ∷ []) v v
    (none-due (set_in base after c) number [] (stops-held base after number line (behind_lines 1 rest) there))
    (line-one making t (set_in base after c) number step v v (may-run base left number rest n there at)
    (subst (λ d. is_right config (placed_doing config t (Some (RunLines number)) d Holding step) ≡ true) (sym (line-due base left number rest line n there at said))
    (right-held config t (RunLines number) number line (eq-eqb number number refl) refl))
    (placed-again base left after number (ready number rest) c effect (connection_after (Some (RunLines number)) step effect) false there (line-fits number rest n at) refl (λ s. refl) refl
    ∙ ap (λ b. set_in (with_drops b base) after c) (or-false base.dropped))
    refl refl (held-draws config number line (identifiers_in v)) (λ places order plain agrees. (tt, tt)))

-- ---- lines of a connection that is ready

-- lines ran until less than one, or too long a one, was left, or a `QUIT` ran
pub ready-stopped : (making : Making) (number : ℕ) (base : Situation) (held : List HeldValue) (bytes : List ℕ) (quit : Bool) (rest : List ℕ) (old new : LineStage)
    → (r : RanLines making number base held bytes quit rest old new) → may_run_in (situation_behind quit (with_drops new.values.frame.dropped base) r.left (ready number rest)) number ≡ false
    → RanReady making number base held bytes quit false false (λ left. situation_behind quit (with_drops new.values.frame.dropped base) left (ready number rest)) old new
ready-stopped making number base held bytes quit rest old new r stops =
    let s = set_in base held (ready number bytes) in
    let target : List HeldValue → Situation = λ left. situation_behind quit (with_drops new.values.frame.dropped base) left (ready number rest) in
    let lines : List Task = RunLines number ∷ [] in
    ran-to making s lines lines [] quit false false target target old new r (leads-to making s (target r.left) lines lines [] r.steps old.values new.values (none-due (target r.left) number [] stops) r.leads)

-- lines ran until memory was wanted for one
pub ready-held : (making : Making) (number : ℕ) (base : Situation) (held : List HeldValue) (bytes rest line : List ℕ) (n : ℕ) (old middle : LineStage) (text : List ℕ) (tape : Option Taped)
    → IsThere number base → (r : RanLines making number base held bytes false rest old middle) → IsLine rest n → line ≡ without_return (take n rest)
    → middle.values.Stands (all_held_after making.config base.latest r.left no_deed []) → gathered (stage middle.values text tape) ≡ gather (gathered middle) (step_held number line ∷ [])
    → RanReady making number base held bytes false true false (λ left. set_in (with_drops middle.values.frame.dropped base) left (holding number (held_line rest) (behind_lines 1 rest))) old (stage middle.values text tape)
ready-held making number base held bytes rest line n old middle text tape there r at said stands gathers =
    let from = with_drops middle.values.frame.dropped base in
    let step = step_held number line in
    let left = all_held_after making.config base.latest r.left no_deed [] in
    let lines : List Task = RunLines number ∷ [] in
    ran-then making (set_in base held (ready number bytes)) lines lines [] false _ _ old middle (stage middle.values text tape) step left r refl stands
    (subst (λ l. TasksLead making (set_in from r.left (ready number rest)) lines (step ∷ []) (set_in from left (holding number l (behind_lines 1 rest))) [] middle.values middle.values)
    (said ∙ sym (ap (λ o. unwrap_or o []) (IsLine-first_line rest n at)))
    (held-leads making from number r.left rest line n middle.values there at said))
    gathers
