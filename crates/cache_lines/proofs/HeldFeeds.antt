-- A feed of a connection that holds a line back.
use Rattle.std.proofs.Common.{refl, sym, ap, ◌∙◌, subst, ◌≡◌, ℕ, suc, ◌+◌, Bool, true, false, not, ◌&&◌, List, [], ◌∷◌, ◌++◌, Option, Some, None, Ok, is_none}
use Rattle.std.proofs.lemmas.Bool.{eq-eqb}
use Rattle.audit_model.specs.Changes.{after_step, all_held_after}
use Rattle.audit_model.specs.Follows.{line_in, placed_step_in}
use Rattle.audit_model.specs.Grammar.{reading}
use Rattle.audit_model.specs.History.{Running}
use Rattle.audit_model.specs.Places.{tasks_to_feed}
use Rattle.audit_model.specs.Situation.{Situation, HeldValue, live_at, view_in}
use Rattle.audit_model.specs.Steps.{RunLines, RunHeld, action_by, effect_in, is_right}
use Rattle.audit_model.specs.Stream.{behind_lines}
use Rattle.audit_model.specs.declared.config.Config.{Config}
use Rattle.audit_model.specs.declared.transcript.Accepted.{Accepted}
use Rattle.audit_model.specs.declared.transcript.Note.{Note}
use Rattle.audit_model.specs.declared.transcript.Step.{Step}
use Rattle.cache_commands.specs.Loads.Pending.{number_to_send, when_joined, when_sent}
use Rattle.cache_commands.specs.Order.{order_by}
use Rattle.cache_commands.specs.Right.{held_when_run, placed_doing, step_saying}
use Rattle.cache_lines.specs.Drawing.{identifiers_in}
use Rattle.cache_lines.specs.Ended.{RanReady, RanTasks, ends_held, ends_silent, held_with}
use Rattle.cache_lines.specs.Gathered.{LineStage, gather, gathered, stage}
use Rattle.cache_lines.specs.Leading.{TasksLead, effect_for}
use Rattle.cache_lines.specs.Lines.{IsThere, ends_quit, has_its_part, is_timely_after, ready, says_quit, set_in, situation_behind, with_drops}
use Rattle.cache_lines.specs.Making.{Making}
use Rattle.cache_lines.specs.Ran.{RanOne}
use Rattle.cache_lines.specs.Tape.Taped.{Taped}
use Rattle.cache_lines.specs.Waiting.{waiting_with, with_under_way}
use Rattle.cache_lines.specs.Whole.{held_line}
use Rattle.cache_commands.specs.Promises.{no_deed}
use Rattle.audit_model.specs.declared.command.Command.TheVariants as says
use Rattle.cache_lines.proofs.LineRuns.{after-held, gather-more, has-ended, right-in-turn, stops-quit, timely-ended}
use Rattle.cache_lines.proofs.ReadyEnds.{after-waits, left_waiting, step_waits, stops-waiting, turn-right, waits-draws, waits-left, waits-order, waits-right}
use Rattle.cache_lines.proofs.Placing.{found-there}
use Rattle.cache_lines.proofs.leads.Leading.{leads-on, leads-one, leads-to, none-due}

-- a step before others, of which the last one is a `QUIT` or not
starts-quit : (config : Config) (x : Step) (xs : List Step) (quit : Bool) → (not x.held && says_quit (reading config x.line)) ≡ false → ends_quit config xs ≡ quit → ends_quit config (x ∷ xs) ≡ quit
starts-quit config x [] quit one e = one ∙ e
starts-quit config x (y ∷ ys) quit one e = e

-- a step that has its reply before others, of which the last one waits or not
starts-silent : (x : Step) (xs : List Step) (b : Bool) → (is_none x.reply && not x.held) ≡ false → ends_silent xs ≡ b → ends_silent (x ∷ xs) ≡ b
starts-silent x [] b one e = one ∙ e
starts-silent x (y ∷ ys) b one e = e

module _ (making : Making) (number : ℕ) (base : Situation) (held : List HeldValue) (times : ℕ) (bytes piece : List ℕ) where
  -- the situation in which such a feed runs
  abbrev fed : Situation
  fed = set_in base held (held_with number times bytes piece)

  -- the command that is held back runs
  abbrev released : List ℕ → Option Accepted → List Note → Step
  released reply accepted told = step_saying number (held_line bytes) reply accepted told

  -- it is right
  right-released : (quit : Bool) (old new : LineStage) → IsThere number base → (one : RanOne making number fed (held_line bytes) quit old new)
      → is_right making.config (placed_step_in making.config fed (Some (RunHeld number)) (released one.reply one.accepted one.told)) ≡ true
  right-released quit old new there one =
      subst (λ d. is_right making.config (placed_doing making.config fed (Some (RunHeld number)) d (action_by (reading making.config (held_line bytes))) (released one.reply one.accepted one.told)) ≡ true)
      (sym (ap (line_in (Some (RunHeld number))) (found-there base held number (held_with number times bytes piece) there refl)))
      (right-in-turn making.config fed (RunHeld number) number (held_line bytes) one.reply one.accepted one.told one.right (eq-eqb number number refl))

  -- what it leaves
  after-released : (quit : Bool) (old new : LineStage) → IsThere number base → (one : RanOne making number fed (held_line bytes) quit old new)
      → after_step making.config fed (Some (RunHeld number)) (released one.reply one.accepted one.told)
      (effect_in making.config (view_in making.config fed) (action_by (reading making.config (held_line bytes))) (released one.reply one.accepted one.told))
      ≡ situation_behind quit (with_drops new.values.frame.dropped base) (held_when_run making.config fed (action_by (reading making.config (held_line bytes))) (step_saying 0 [] one.reply one.accepted one.told)) (ready number (behind_lines 1 bytes ++ piece))
  after-released quit old new there one =
      after-held making.config base held number (held_with number times bytes piece) (held_line bytes) one.reply one.accepted one.told quit there refl one.plain
      ∙ ap (λ b. situation_behind quit (with_drops b base) (held_when_run making.config fed (action_by (reading making.config (held_line bytes))) (step_saying 0 [] one.reply one.accepted one.told)) (ready number (behind_lines 1 bytes ++ piece))) (sym one.dropped_is)

  starts : (x : Step) (xs : List Step) (b : Bool) → x.held ≡ false → ends_held xs ≡ b → ends_held (x ∷ xs) ≡ b
  starts x [] b e h = e ∙ h
  starts x (y ∷ ys) b e h = h

  -- that command runs first
  released-leads : (quit : Bool) (old new : LineStage) → IsThere number base → (one : RanOne making number fed (held_line bytes) quit old new)
      → TasksLead making fed (tasks_to_feed number true) (released one.reply one.accepted one.told ∷ [])
      (situation_behind quit (with_drops new.values.frame.dropped base) (held_when_run making.config fed (action_by (reading making.config (held_line bytes))) (step_saying 0 [] one.reply one.accepted one.told)) (ready number (behind_lines 1 bytes ++ piece)))
      (RunLines number ∷ []) old.values new.values
  released-leads quit old new there one =
      let config = making.config in
      let step = released one.reply one.accepted one.told in
      let effect = effect_for config fed (Some (RunHeld number)) step in
      let from = with_drops new.values.frame.dropped base in
      let left = held_when_run config fed (action_by (reading config (held_line bytes))) (step_saying 0 [] one.reply one.accepted one.told) in
      let c = ready number (behind_lines 1 bytes ++ piece) in
      leads-one making fed (situation_behind quit from left c) (RunHeld number) (tasks_to_feed number true) (RunLines number ∷ []) step old.values new.values refl
      (right-released quit old new there one) (after-released quit old new there one) one.parted (timely-ended config making.made effect quit from left c one.timely) one.draws
      (λ places order plain agrees.
      let b = one.ordered places order plain agrees in
      (b.0, has-ended (order_by (suc places) (reading config (held_line bytes)) order) quit from left c b.1))

  -- and lines behind it
  pub feeds-held : (quit is_held is_silent : Bool) (target : List HeldValue → Situation) (old middle new : LineStage) → IsThere number base
      → (one : RanOne making number fed (held_line bytes) false old middle)
      → RanReady making number (with_drops middle.values.frame.dropped base) (held_when_run making.config fed (action_by (reading making.config (held_line bytes))) (step_saying 0 [] one.reply one.accepted one.told)) (behind_lines 1 bytes ++ piece) quit is_held is_silent target middle new
      → RanTasks making fed (tasks_to_feed number true) [] quit is_held is_silent target old new
  feeds-held quit is_held is_silent target old middle new there one r =
      let step = released one.reply one.accepted one.told in
      let left = held_when_run making.config fed (action_by (reading making.config (held_line bytes))) (step_saying 0 [] one.reply one.accepted one.told) in
      let mid = set_in (with_drops middle.values.frame.dropped base) left (ready number (behind_lines 1 bytes ++ piece)) in
      record {
        steps = step ∷ r.steps;
        left = r.left;
        stands = r.stands;
        leads = leads-on making fed mid (target r.left) (tasks_to_feed number true) (RunLines number ∷ []) [] (step ∷ []) r.steps old.values middle.values new.values (released-leads false old middle there one) r.leads;
        ends = starts step r.steps is_held refl r.ends;
        quits = starts-quit making.config step r.steps quit one.says r.quits;
        silent = starts-silent step r.steps is_silent refl r.silent;
        gathered_is = r.gathered_is ∙ ap (λ g. gather g r.steps) one.gathered_is ∙ gather-more (gathered old) (step ∷ []) r.steps;
      }

  -- it is a `QUIT`, and nothing runs behind it
  pub feeds-quit : (rest : List ℕ) (old new : LineStage) → IsThere number base → RanOne making number fed (held_line bytes) true old new
      → RanTasks making fed (tasks_to_feed number true) [] true false false (λ left. situation_behind true (with_drops new.values.frame.dropped base) left (ready number rest)) old new
  feeds-quit rest old new there one =
      let step = released one.reply one.accepted one.told in
      let left = held_when_run making.config fed (action_by (reading making.config (held_line bytes))) (step_saying 0 [] one.reply one.accepted one.told) in
      let from = with_drops new.values.frame.dropped base in
      let c = ready number (behind_lines 1 bytes ++ piece) in
      let last = situation_behind true from left c in
      record {
        steps = step ∷ [];
        left = left;
        stands = one.left;
        leads = leads-to making fed last (tasks_to_feed number true) (RunLines number ∷ []) [] (step ∷ []) old.values new.values (none-due last number [] (stops-quit from left number c refl)) (released-leads true old new there one);
        ends = refl;
        quits = one.says;
        silent = refl;
        gathered_is = one.gathered_is;
      }

  -- it is a `LOAD` that begins to wait
  pub feeds-waits : (key : List ℕ) (load : Option ℕ) (old : LineStage) (text : List ℕ) (tape : Option Taped) → IsThere number base → reading making.config (held_line bytes) ≡ Ok (says.Load key)
      → load ≡ number_to_send key base.sent base.pending → live_at making.config base.latest held key ≡ None → old.values.Stands (all_held_after making.config base.latest held no_deed [])
      → gathered (stage old.values text tape) ≡ gather (gathered old) (step_waits number (held_line bytes) load ∷ [])
      → RanTasks making fed (tasks_to_feed number true) [] false false true
      (λ left. set_in (with_under_way (record { sent = when_sent load base.sent; pending = when_joined number key load base.pending }) base) left (waiting_with number (held_line bytes) (behind_lines 1 bytes ++ piece) (1 + times))) old (stage old.values text tape)
  feeds-waits key load old text tape there reads is none stands gathers =
      let config = making.config in
      let line = held_line bytes in
      let behind = behind_lines 1 bytes ++ piece in
      let c = held_with number times bytes piece in
      let step = step_waits number line load in
      let left = left_waiting config base held key in
      let joined = with_under_way (record { sent = when_sent load base.sent; pending = when_joined number key load base.pending }) base in
      let last = set_in joined left (waiting_with number line behind (1 + times)) in
      record {
        steps = step ∷ [];
        left = left;
        stands = waits-left config base held key old.values.Stands none stands;
        leads = leads-to making fed last (tasks_to_feed number true) (RunLines number ∷ []) [] (step ∷ []) old.values old.values (none-due last number [] (stops-waiting joined left number line behind (1 + times) there))
            (leads-one making fed last (RunHeld number) (tasks_to_feed number true) (RunLines number ∷ []) step old.values old.values refl
            (turn-right config base held number c (RunHeld number) line (Running (says.Load key)) step there refl refl (ap action_by reads) (eq-eqb number number refl) (waits-right config base held number c key load refl is none))
            (ap (λ r. after_step config fed (Some (RunHeld number)) step (effect_in config (view_in config fed) (action_by r) step)) reads
            ∙ after-waits config base held left number c (waiting_with number line behind (1 + times)) (RunHeld number) key line load
            (effect_in config (view_in config fed) (Running (says.Load key)) step) there refl is refl refl)
            (ap (λ r. has_its_part making.part_of (effect_in config (view_in config fed) (action_by r) step)) reads)
            (ap (λ r. is_timely_after config making.made (effect_in config (view_in config fed) (action_by r) step) last) reads)
            (waits-draws config number line load (identifiers_in old.values)) (waits-order config old.values.Used number line key load last.held reads));
        ends = refl;
        quits = ap says_quit reads;
        silent = refl;
        gathered_is = gathers;
      }
