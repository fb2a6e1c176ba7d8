-- A piece for a connection, as its lines run.
use Rattle.std.proofs.Common.{refl, sym, ap, ◌∙◌, subst, inr, ◌≡◌, ℕ, ◌+◌, Bool, true, false, not, ◌||◌, ◌≤◌, List, [], ◌∷◌, ◌++◌, Option, Some, None}
use Rattle.audit_model.specs.Grammar.{reading}
use Rattle.audit_model.specs.Places.{tasks_to_feed}
use Rattle.audit_model.specs.Situation.{HeldValue, Situation, live_at}
use Rattle.audit_model.specs.Steps.{RunLines, Task, action_by}
use Rattle.audit_model.specs.Stream.{behind_lines}
use Rattle.audit_model.specs.declared.command.Closing.{Closing}
use Rattle.cache_commands.specs.Answered.{Agrees}
use Rattle.cache_commands.specs.Loading.{step_silent}
use Rattle.cache_commands.specs.Loads.Standings.{holds_line, keeps_line, waits_for_load}
use Rattle.cache_commands.specs.Right.{KeepsFrame, held_when_run, step_saying}
use Rattle.cache_commands.specs.declared.loads.standing.Standing.{Standing}
use Rattle.cache_core.specs.Connection.Fed.{FedRan, LinesLeft, LooksAsBefore, TakesWaiting, closing_by, unread_behind}
use Rattle.cache_core.specs.Connection.Fits.{ClosesFor, FitsStanding, RunsOn}
use Rattle.cache_core.specs.Connection.Parts.{put_parts, standing_as}
use Rattle.cache_core.specs.Connection.Shown.{put_in, shown_connection, with_piece}
use Rattle.cache_lines.proofs.LineRuns.{fresh-gather, gather-none, frames-more, ran-to}
use Rattle.cache_lines.proofs.WholeLines.{behind-more, held-more}
use Rattle.cache_lines.proofs.leads.Leading.{leads-no-lines}
use Rattle.cache_lines.specs.Bases.{Seen}
use Rattle.cache_lines.specs.Ended.{RanReady, RanTasks, RunsReady, held_with}
use Rattle.cache_lines.specs.Gathered.{HasNothingOutside, LineStage, gather, gathered, stage}
use Rattle.cache_lines.specs.Leading.{TasksLead}
use Rattle.cache_lines.specs.Lines.{IsThere, ready, set_in, situation_behind, with_drops}
use Rattle.cache_lines.specs.Making.{Making, making_of}
use Rattle.cache_lines.specs.Ran.{RanLine, WaitsLine}
use Rattle.cache_lines.specs.Waiting.{load_sent_for, loads_in, waiting_with, when_waiting, with_under_way}
use Rattle.cache_lines.specs.Whole.{has_line, held_line}
use Rattle.cache_commands.specs.Values.{IsSoundStore, Values}
use Rattle.audit_model.specs.declared.command.Closing.TheVariants as by
use Rattle.cache_commands.specs.declared.loads.standing.Standing.TheVariants as now
use Rattle.cache_lines.specs.Ended.{holds_back, ends_waiting, ends_by_quit}
use Rattle.cache_lines.proofs.HeldFeeds.{feeds-held, feeds-quit, feeds-waits}
use Rattle.cache_lines.proofs.ReadyEnds.{stops-waiting, idle-by, joined}
use Rattle.cache_core.specs.declared.connection.connection.Connection.{Connection}

-- ---- a connection whose `LOAD` waits, or that holds a line back

-- a whole line stands there
pub whole-kept : (standing : Standing) (times : ℕ) (closing : Option Closing) (bytes : List ℕ) → keeps_line standing ≡ true → FitsStanding standing times closing bytes → has_line bytes ≡ true
whole-kept standing times closing bytes keeps f = subst (λ b. (not b || has_line bytes) ≡ true) keeps f.whole

-- the connection with a piece more
pub waits-with : (number : ℕ) (standing : Standing) (times : ℕ) (bytes piece : List ℕ) → standing ≡ now.Waiting → has_line bytes ≡ true
    → with_piece piece (standing_as number standing times bytes) ≡ waiting_with number (held_line (bytes ++ piece)) (behind_lines 1 (bytes ++ piece)) times
waits-with number standing times bytes piece e whole =
    ap (λ st. with_piece piece (standing_as number st times bytes)) e
    ∙ ap (λ b. waiting_with number (held_line bytes) b times) (sym (behind-more bytes piece whole))
    ∙ ap (λ l. waiting_with number l (behind_lines 1 (bytes ++ piece)) times) (sym (held-more bytes piece whole))

-- ---- steps to another situation

-- such steps ran, and the situation that they leave can be said so too
pub tasks-to : (making : Making) (s : Situation) (tasks : List Task) (quit is_held is_silent : Bool) (target next : List HeldValue → Situation) (old new : LineStage)
    → RanTasks making s tasks [] quit is_held is_silent target old new → ((left : List HeldValue) → target left ≡ next left)
    → RanTasks making s tasks [] quit is_held is_silent next old new
tasks-to making s tasks quit is_held is_silent target next old new r puts =
    ran-to making s tasks [] [] quit is_held is_silent target next old new r (subst (λ t. TasksLead making s tasks r.steps t [] old.values new.values) (puts r.left) r.leads)

-- ---- what lines did to their connection

-- steps of its feed ran, by how it stood
fed-so : (now_is number : ℕ) (old new : Connection) (piece : List ℕ) (quit is_held silent : Bool) (was is : Seen) (standing : Standing) → old.standing ≡ standing
    → ((s : Situation) → Agrees was.stage.values now_is s → IsThere number s → loads_in s ≡ was.loads
    → RanTasks (making_of was.stage.values.frame) (set_in s s.held (with_piece piece (standing_as number standing old.waited old.unread.bytes))) (tasks_to_feed number (holds_line standing)) [] quit is_held silent
    (λ left. put_in (with_under_way is.loads (with_drops is.stage.values.frame.dropped s)) left number new) was.stage is.stage)
    → ClosesFor (closing_by (waits_for_load standing) quit silent) new.closing → RunsOn new.closing new.standing quit silent → KeepsFrame was.stage.values.frame is.stage.values.frame now_is → HasNothingOutside (gathered is.stage)
    → FedRan now_is number old piece new is_held was is
fed-so now_is number old new piece quit is_held silent was is standing e ran closes runs frame fresh = record {
  quit = quit;
  silent = silent;
  ran = λ s agrees there loads.
      subst (λ st. RanTasks (making_of was.stage.values.frame) (set_in s s.held (with_piece piece (standing_as number st old.waited old.unread.bytes))) (tasks_to_feed number (holds_line st)) [] quit is_held silent
      (λ left. put_in (with_under_way is.loads (with_drops is.stage.values.frame.dropped s)) left number new) was.stage is.stage) (sym e) (ran s agrees there loads);
  closing = subst (λ st. ClosesFor (closing_by (waits_for_load st) quit silent) new.closing) (sym e) closes;
  runs = runs;
  frame = frame;
  fresh = fresh;
}

-- the connection ran lines
pub fed-ready : (now_is number : ℕ) (old new : Connection) (piece : List ℕ) (is_held : Bool) (was is : Seen)
    → old.standing ≡ now.Ready → LinesLeft now_is number (unread_behind old.standing old.unread.bytes ++ piece) new was is → is_held ≡ holds_line new.standing
    → FedRan now_is number old piece new is_held was is
fed-ready now_is number old new piece is_held was is e l held =
    let making = making_of was.stage.values.frame in
    let quit = ends_by_quit l.end in
    let silent = ends_waiting l.end in
    let r = subst (λ st. RunsReady now_is number (unread_behind st old.unread.bytes ++ piece) l.rest l.end was is) e l.ran in
    fed-so now_is number old new piece quit is_held silent was is now.Ready e
    (λ s agrees there loads.
    let base = with_under_way is.loads (with_drops is.stage.values.frame.dropped s) in
    let start = set_in s s.held (ready number (old.unread.bytes ++ piece)) in
    let target : List HeldValue → Situation = λ left. put_in base left number new in
    subst (λ h. RanTasks making start (RunLines number ∷ []) [] quit h silent target was.stage is.stage) (sym (held ∙ l.held))
    (tasks-to making start (RunLines number ∷ []) quit (holds_back l.end) silent _ target was.stage is.stage (r.ran s agrees there loads) (λ left. l.put base left number)))
    l.closing l.runs r.frame r.fresh

-- ---- the connection held a line back

module _ (now_is number : ℕ) (old new : Connection) (piece : List ℕ) (was is : Seen) (e : old.standing ≡ now.Held) where
  abbrev making : Making
  making = making_of was.stage.values.frame

  abbrev bytes : List ℕ
  bytes = old.unread.bytes

  abbrev behind : List ℕ
  behind = behind_lines 1 bytes ++ piece

  -- the situation in which it is fed
  abbrev fed : Situation → Situation
  fed s = set_in s s.held (held_with number old.waited bytes piece)

  abbrev base_then : Situation → Situation
  base_then s = with_under_way is.loads (with_drops is.stage.values.frame.dropped s)

  -- the one that is left
  abbrev target : Situation → List HeldValue → Situation
  target s left = put_in (base_then s) left number new

  -- it ran, and lines behind it
  pub fed-stays : (is_held : Bool) (mid : Seen) → RanLine now_is number (held_line bytes) false was.stage mid.stage → mid.loads ≡ was.loads
      → LinesLeft now_is number (unread_behind old.standing bytes ++ piece) new mid is → is_held ≡ holds_line new.standing → FedRan now_is number old piece new is_held was is
  fed-stays is_held mid line same l held =
      let quit = ends_by_quit l.end in
      let silent = ends_waiting l.end in
      let dropped = mid.stage.values.frame.dropped in
      let made = making_of mid.stage.values.frame in
      let r = subst (λ st. RunsReady now_is number (unread_behind st bytes ++ piece) l.rest l.end mid is) e l.ran in
      fed-so now_is number old new piece quit is_held silent was is now.Held e
      (λ s agrees there under.
      let one = line.ran (fed s) (record { at = agrees.at; dropped = agrees.dropped; stands = agrees.stands }) in
      let values = held_when_run making.config (fed s) (action_by (reading making.config (held_line bytes))) (step_saying 0 [] one.reply one.accepted one.told) in
      let from : Situation = record (with_drops dropped s) { held = values } in
      let start = set_in (with_drops dropped s) values (ready number behind) in
      let ran = tasks-to made start (RunLines number ∷ []) quit (holds_back l.end) silent _ (target s) mid.stage is.stage
      (r.ran from (record { at = agrees.at; dropped = refl; stands = one.left }) there (under ∙ sym same)) (λ left. l.put (base_then s) left number) in
      let lines : RanReady making number (with_drops dropped s) values behind quit is_held silent (target s) mid.stage is.stage =
      subst (λ (m : Making). RanReady m number (with_drops dropped s) values behind quit is_held silent (target s) mid.stage is.stage) (ap making_of line.frame.rest)
      (subst (λ h. RanTasks made start (RunLines number ∷ []) [] quit h silent (target s) mid.stage is.stage) (sym (held ∙ l.held)) ran) in
      feeds-held making number s s.held old.waited bytes piece quit is_held silent (target s) was.stage mid.stage is.stage there one lines)
      l.closing l.runs (frames-more was.stage.values.frame mid.stage.values.frame is.stage.values.frame now_is line.frame r.frame) r.fresh

  -- it is a `QUIT`
  pub fed-quits : RanLine now_is number (held_line bytes) true was.stage is.stage → is.loads ≡ was.loads → new.closing ≡ Some by.Quit → FedRan now_is number old piece new false was is
  fed-quits line same closes =
      let dropped = is.stage.values.frame.dropped in
      fed-so now_is number old new piece true false false was is now.Held e
      (λ s agrees there under.
      let one = line.ran (fed s) (record { at = agrees.at; dropped = agrees.dropped; stands = agrees.stands }) in
      let ran = subst (λ u. RanTasks making (fed s) (tasks_to_feed number true) [] true false false (λ left. situation_behind true (with_under_way u (with_drops dropped s)) left (ready number [])) was.stage is.stage) (under ∙ sym same)
      (feeds-quit making number s s.held old.waited bytes piece [] was.stage is.stage there one) in
      tasks-to making (fed s) (tasks_to_feed number true) true false false _ (target s) was.stage is.stage ran (λ left. ap (λ o. put_parts (base_then s) left number o new.standing new.waited new.unread.bytes) (sym closes)))
      (inr closes) (λ a b. let no : Some by.Quit ≡ None = sym closes ∙ a in absurd (cc)) line.frame line.fresh

-- it is a `LOAD` that waits
pub fed-waits : (now_is number : ℕ) (old new : Connection) (piece : List ℕ) (times : ℕ) (was is : Seen) → old.standing ≡ now.Held → has_line old.unread.bytes ≡ true
    → IsSoundStore was.stage.values → was.stage.values.frame.latest ≤ now_is → HasNothingOutside (gathered was.stage)
    → WaitsLine now_is number (held_line old.unread.bytes) was is → is.stage.values ≡ was.stage.values → 1 + old.waited ≡ times
    → ((base : Situation) (left : List HeldValue) → set_in base left (waiting_with number (held_line (old.unread.bytes ++ piece)) (behind_lines 1 (old.unread.bytes ++ piece)) times) ≡ put_in base left number new)
    → ClosesFor by.Behind new.closing → (new.closing ≡ None → new.standing ≡ now.Waiting) → FedRan now_is number old piece new false was is
fed-waits now_is number old new piece times was is e whole sound in_time fresh w same counts put closes stands =
    let making = making_of was.stage.values.frame in
    let values = was.stage.values in
    let bytes = old.unread.bytes in
    let miss = w.is_miss in
    let key = miss.key in
    let line = held_line bytes in
    let behind = behind_lines 1 bytes ++ piece in
    let load = load_sent_for key was.loads in
    let left_is : Seen = record { stage = stage values is.stage.text is.stage.tape; loads = is.loads } in
    let gathers : gathered (stage values is.stage.text is.stage.tape) ≡ gather (gathered was.stage) (step_silent number line load None [] ∷ []) = ap (λ (v : Values). gathered (stage v is.stage.text is.stage.tape)) (sym same) ∙ w.gathered_is in
    subst (λ (v : Values). FedRan now_is number old piece new false was (record { stage = stage v is.stage.text is.stage.tape; loads = is.loads })) (sym same)
    (fed-so now_is number old new piece false false true was left_is now.Held e
    (λ s agrees there under.
    let none : live_at making.config s.latest s.held key ≡ None = subst (λ (m : ℕ). live_at making.config m s.held key ≡ None) (sym agrees.at) (miss.none s.held agrees.stands) in
    let sent = ap (load_sent_for key) (sym under) in
    let ran = feeds-waits making number s s.held old.waited bytes piece key load was.stage is.stage.text is.stage.tape there miss.reads sent none (idle-by values making.config s.latest s.held sound refl agrees.stands) gathers in
    tasks-to making (set_in s s.held (held_with number old.waited bytes piece)) (tasks_to_feed number true) false false true _
    (λ left. put_in (with_under_way is.loads (with_drops values.frame.dropped s)) left number new) was.stage left_is.stage ran
    (λ left.
    ap (λ u. set_in (with_under_way u s) left (waiting_with number line behind (1 + old.waited))) (joined number key s load sent ∙ ap (when_waiting number key) under ∙ sym w.loads_are)
    ∙ ap (λ d. set_in (with_under_way is.loads (with_drops d s)) left (waiting_with number line behind (1 + old.waited))) agrees.dropped
    ∙ ap (λ l. set_in (with_under_way is.loads (with_drops values.frame.dropped s)) left (waiting_with number l behind (1 + old.waited))) (sym (held-more bytes piece whole))
    ∙ ap (λ b. set_in (with_under_way is.loads (with_drops values.frame.dropped s)) left (waiting_with number (held_line (bytes ++ piece)) b (1 + old.waited))) (sym (behind-more bytes piece whole))
    ∙ ap (λ k. set_in (with_under_way is.loads (with_drops values.frame.dropped s)) left (waiting_with number (held_line (bytes ++ piece)) (behind_lines 1 (bytes ++ piece)) k)) counts
    ∙ put (with_under_way is.loads (with_drops values.frame.dropped s)) left))
    closes (λ a b. let no : now.Waiting ≡ now.Ready = sym (stands a) ∙ b in absurd (cc))
    (record { rest = refl; latest = in_time }) (subst HasNothingOutside (sym gathers) (fresh-gather (gathered was.stage) (step_silent number line load None [] ∷ []) fresh)))

-- ---- a `LOAD` of the connection waited

-- a `LOAD` of the connection waited, and no line ran
pub fed-waiting : (now_is number : ℕ) (old new : Connection) (piece : List ℕ) (was : Seen)
    → old.standing ≡ now.Waiting → TakesWaiting old piece new → was.stage.values.frame.latest ≤ now_is → HasNothingOutside (gathered was.stage)
    → FedRan now_is number old piece new false was was
fed-waiting now_is number old new piece was e took in_time fresh =
    fed-so now_is number old new piece false false false was was now.Waiting e
    (λ s agrees there loads.
    let start = set_in s s.held (with_piece piece (standing_as number now.Waiting old.waited old.unread.bytes)) in
    record {
      steps = [];
      left = s.held;
      stands = agrees.stands;
      leads = subst (λ t. TasksLead (making_of was.stage.values.frame) start (RunLines number ∷ []) [] t [] was.stage.values was.stage.values)
          (ap (λ st. set_in s s.held (with_piece piece (standing_as number st old.waited old.unread.bytes))) (sym e)
          ∙ took.put s s.held number
          ∙ ap (λ d. put_in (with_drops d s) s.held number new) agrees.dropped
          ∙ ap (λ u. put_in (with_under_way u (with_drops was.stage.values.frame.dropped s)) s.held number new) loads)
          (leads-no-lines (making_of was.stage.values.frame) start number was.stage.values (stops-waiting s s.held number (held_line old.unread.bytes) (behind_lines 1 old.unread.bytes ++ piece) old.waited there));
      ends = refl;
      quits = refl;
      silent = refl;
      gathered_is = sym (gather-none (gathered was.stage));
    })
    took.closing (λ a b. (refl, refl)) (record { rest = refl; latest = in_time }) fresh

-- a connection that looks the same
pub fed-from : (now_is number : ℕ) (old mid new : Connection) (piece : List ℕ) (is_held : Bool) (was is : Seen)
    → LooksAsBefore old mid → FedRan now_is number mid piece new is_held was is
    → FedRan now_is number old piece new is_held was is
fed-from now_is number old mid new piece is_held was is same f =
    let shows : shown_connection number mid ≡ shown_connection number old =
    ap (λ st. standing_as number st mid.waited mid.unread.bytes) same.standing ∙ ap (λ n. standing_as number old.standing n mid.unread.bytes) same.waited ∙ ap (standing_as number old.standing old.waited) same.bytes in
    record {
      quit = f.quit;
      silent = f.silent;
      ran = λ s agrees there loads.
          let target : List HeldValue → Situation = λ left. put_in (with_under_way is.loads (with_drops is.stage.values.frame.dropped s)) left number new in
          subst (λ c. RanTasks (making_of was.stage.values.frame) (set_in s s.held (with_piece piece c)) (tasks_to_feed number (holds_line old.standing)) [] f.quit is_held f.silent target was.stage is.stage) shows
          (subst (λ st. RanTasks (making_of was.stage.values.frame) (set_in s s.held (with_piece piece (shown_connection number mid))) (tasks_to_feed number (holds_line st)) [] f.quit is_held f.silent target was.stage is.stage) same.standing (f.ran s agrees there loads));
      closing = subst (λ st. ClosesFor (closing_by (waits_for_load st) f.quit f.silent) new.closing) same.standing f.closing;
      runs = f.runs;
      frame = f.frame;
      fresh = f.fresh;
    }
