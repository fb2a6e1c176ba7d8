-- A given-up `LOAD` that runs again.
use Rattle.std.proofs.Common.{refl, sym, ap, ◌∙◌, subst, arith, ⊎_elim, ◌≡◌, ℕ, suc, ◌<◌, ◌≤◌, Bool, true, false, not, ◌||◌, List, [], ◌∷◌, ◌++◌, Option, Some, None, if◌then◌else◌, nat_le, length, Ok, codes, is_none, is_some}
use Rattle.std.proofs.Math.Bool.{or-false}
use Rattle.std.proofs.lemmas.Bool.{leb-true}
use Rattle.std.proofs.lemmas.List.{append-nil}
use Rattle.std.specs.Option.{option_map}
use Rattle.audit_model.specs.Bytewise.{cut_at}
use Rattle.audit_model.specs.Changes.{all_held_after}
use Rattle.audit_model.specs.Grammar.{Reading, reading}
use Rattle.audit_model.specs.History.{Running}
use Rattle.audit_model.specs.Replies.{outcome_text}
use Rattle.audit_model.specs.Situation.{HeldValue, Situation, connection_in, live_at, without_connection}
use Rattle.audit_model.specs.Steps.{Deliver, RunAgain, Task, action_by}
use Rattle.audit_model.specs.Stream.{behind_lines}
use Rattle.audit_model.specs.declared.command.Closing.{Closing}
use Rattle.audit_model.specs.declared.config.Config.{Config}
use Rattle.audit_model.specs.declared.event.Outcome.{Outcome}
use Rattle.audit_model.specs.declared.transcript.Accepted.{Accepted}
use Rattle.audit_model.specs.declared.transcript.Note.{Note}
use Rattle.audit_model.specs.declared.transcript.Step.{Step}
use Rattle.cache_commands.specs.Loading.{step_silent, step_waiting}
use Rattle.cache_commands.specs.Loads.Pending.{number_to_send}
use Rattle.cache_commands.specs.Loads.Standings.{waits_for_load}
use Rattle.cache_commands.specs.Order.{Order, Unknown, order_by}
use Rattle.cache_commands.specs.Right.{DoesRight, dropped_when_run, held_when_run, step_saying}
use Rattle.cache_commands.specs.declared.loads.standing.Standing.{Standing}
use Rattle.cache_core.specs.Connection.Fed.{EndsCalm, StepRan}
use Rattle.cache_core.specs.Connection.Fits.{FitsStanding}
use Rattle.cache_core.specs.Connection.Parts.{standing_as}
use Rattle.cache_core.specs.Connection.Shown.{put_in, shown_connection}
use Rattle.cache_lines.proofs.LineRuns.{fresh-gather}
use Rattle.cache_lines.proofs.leads.Settling.{abandoned, answered, delivered, held_back, waits_again}
use Rattle.cache_lines.specs.Bases.{Seen}
use Rattle.cache_lines.specs.Drawing.{StepDraws, identifiers_in}
use Rattle.cache_lines.specs.Gathered.{HasNothingOutside, gather, gathered, stage}
use Rattle.cache_lines.specs.Leading.{StepsLead, point}
use Rattle.cache_lines.specs.Lines.{ready, says_quit, set_in, with_drops}
use Rattle.cache_lines.specs.Making.{Making, making_of}
use Rattle.cache_lines.specs.Ordered.{order_behind_step}
use Rattle.cache_lines.specs.Ran.{IsMiss, RanLine}
use Rattle.cache_lines.specs.Tape.Taped.{Taped, spends, step_held, text_left}
use Rattle.cache_lines.specs.Waiting.{UnderWay, holding_load, is_load, load_sent_for, loads_in, waiting_with, when_waiting, with_under_way}
use Rattle.cache_lines.specs.Whole.{held_line, is_long_line, is_near}
use Rattle.cache_commands.specs.Promises.{no_deed}
use Rattle.cache_commands.specs.Values.{IsSoundStore, Values}
use Rattle.std.proofs.lemmas.Bool.Decides.{eqb_tells}
use Rattle.audit_model.specs.Situation as model
use Rattle.audit_lines.proofs.Cuts.{Cut, cut_at-here, cut_at-other}
use Rattle.audit_model.specs.declared.command.Command.TheVariants as says
use Rattle.cache_commands.proofs.Answering.{abandons, delivers, waits}
use Rattle.cache_commands.specs.declared.loads.standing.Standing.TheVariants as now
use Rattle.cache_core.proofs.connection.Putting.{not-above}
use Rattle.cache_core.specs.declared.connection.connection.Connection.{Connection}

-- ---- what is gathered

-- a reply that was written
pub said-gathered : (v : Values) (text new_text reply line : List ℕ) (n : ℕ) (t new : Option Taped) → HasNothingOutside (gathered (stage v text t))
    → new ≡ option_map (spends (step_saying n line (text ++ reply) None [])) t → new_text ≡ text_left t (text ++ reply)
    → gathered (stage v new_text new) ≡ gather (gathered (stage v text t)) (step_saying n line reply None [] ∷ [])
said-gathered v text new_text reply line n None new fresh said left =
    ap (λ x. gathered (stage v new_text x)) said ∙ ap (λ x. record { text = x; kept = None; waiting = v.untaken }) (left ∙ ap (λ r. text ++ r) (sym (append-nil reply)))
    ∙ ap (λ w. record { text = text ++ (reply ++ []); kept = None; waiting = w }) (sym (append-nil v.untaken))
said-gathered v text new_text reply line n (Some t) new fresh said left =
    ap (λ x. gathered (stage v new_text x)) said ∙ ap (λ x. gathered (stage v x (Some (spends (step_saying n line (text ++ reply) None []) t)))) (left ∙ sym fresh.0)
    ∙ ap (λ x. gathered (stage v text (Some (spends (step_saying n line (x ++ reply) None []) t)))) fresh.0

-- ---- the connection then

put-is : (base : Situation) (held : List HeldValue) (n : ℕ) (new : Connection) (x : model.Connection) → new.closing ≡ None → shown_connection n new ≡ x → put_in base held n new ≡ set_in base held x
put-is base held n new x is_open shows = ap (λ o. if is_none o then set_in base held (shown_connection n new) else without_connection n (record base { held = held })) is_open ∙ ap (set_in base held) shows

-- put in its place, open
put-alike : (s : Situation) (held : List HeldValue) (n : ℕ) (new : Connection) (x : model.Connection) (k : UnderWay) (dropping : Bool) → new.closing ≡ None → shown_connection n new ≡ x → k ≡ loads_in s → dropping ≡ s.dropped
    → put_in (with_under_way k (with_drops dropping s)) held n new ≡ set_in s held x
put-alike s held n new x k dropping is_open shows loads drops =
    put-is (with_under_way k (with_drops dropping s)) held n new x is_open shows
    ∙ ap (λ (u : UnderWay). set_in (with_under_way u (with_drops dropping s)) held x) loads
    ∙ ap (λ b. set_in (with_under_way (loads_in s) (with_drops b s)) held x) drops

found-waiting : (s : Situation) (n : ℕ) (old : Connection) → connection_in n s ≡ Some (shown_connection n old) → old.standing ≡ now.Waiting → connection_in n s ≡ Some (waiting_with n (held_line old.unread.bytes) (behind_lines 1 old.unread.bytes) old.waited)
found-waiting s n old found e = found ∙ ap (λ st. Some (standing_as n st old.waited old.unread.bytes)) e

shown-ready : (n : ℕ) (new : Connection) (bytes : List ℕ) → new.standing ≡ now.Ready → new.unread.bytes ≡ bytes → shown_connection n new ≡ ready n bytes
shown-ready n new bytes e b = ap (λ st. standing_as n st new.waited new.unread.bytes) e ∙ ap (ready n) b

shown-held : (n : ℕ) (new : Connection) (bytes : List ℕ) (times : ℕ) → new.standing ≡ now.Held → new.unread.bytes ≡ bytes → new.waited ≡ times → shown_connection n new ≡ holding_load n (held_line bytes) (behind_lines 1 bytes) times
shown-held n new bytes times e b t =
    ap (λ st. standing_as n st new.waited new.unread.bytes) e ∙ ap (λ x. holding_load n (held_line x) (behind_lines 1 x) new.waited) b ∙ ap (holding_load n (held_line bytes) (behind_lines 1 bytes)) t

shown-waiting : (n : ℕ) (new : Connection) (bytes : List ℕ) (times : ℕ) → new.standing ≡ now.Waiting → new.unread.bytes ≡ bytes → new.waited ≡ times → shown_connection n new ≡ waiting_with n (held_line bytes) (behind_lines 1 bytes) times
shown-waiting n new bytes times e b t =
    ap (λ st. standing_as n st new.waited new.unread.bytes) e ∙ ap (λ x. waiting_with n (held_line x) (behind_lines 1 x) new.waited) b ∙ ap (waiting_with n (held_line bytes) (behind_lines 1 bytes)) t

-- nothing is known of the order of use behind a `LOAD`
load-unknown : (config : Config) (step : Step) (key : List ℕ) → step.held ≡ false → reading config step.line ≡ Ok (says.Load key) → (n : ℕ) (order : Order) → order_behind_step config n order step ≡ Unknown
load-unknown config step key stays reads n order = ap (λ b. if b then Unknown else order_by n (reading config step.line) order) stays ∙ ap (λ r. order_by n r order) reads

-- a `LOAD` that has its reply ends calmly
load-calm : (config : Config) (n : ℕ) (line key reply : List ℕ) (told : List Note) → reading config line ≡ Ok (says.Load key) → EndsCalm config (step_saying n line reply None told ∷ [])
load-calm config n line key reply told reads = record { quits = ap says_quit reads; silent = refl }

load-accepts : (config : Config) (s : Situation) (key reply : List ℕ) (accepted : Option Accepted) (told : List Note) → DoesRight config s (Running (says.Load key)) (step_saying 0 [] reply accepted told) → accepted ≡ None
load-accepts config s key reply None told right = refl
load-accepts config s key reply (Some a) told right = let no : false ≡ true = right.accepts in cc

-- ---- what became of it

module _ (now_is n : ℕ) (old new : Connection) (was is : Seen) (waited : old.standing ≡ now.Waiting) (sound : IsSoundStore was.stage.values) (in_time : was.stage.values.frame.latest ≤ now_is) (clear : HasNothingOutside (gathered was.stage)) where
  abbrev config : Config
  config = was.stage.values.frame.config

  abbrev making : Making
  making = making_of was.stage.values.frame

  abbrev line : List ℕ
  line = held_line old.unread.bytes

  abbrev rest : List ℕ
  rest = behind_lines 1 old.unread.bytes

  fresh-is : (steps : List Step) → gathered is.stage ≡ gather (gathered was.stage) steps → HasNothingOutside (gathered is.stage)
  fresh-is steps e = subst HasNothingOutside (sym e) (fresh-gather (gathered was.stage) steps clear)

  -- one step was done, with the values and the loads as they were
  stayed-ran : (task : Task) (step : Step) (x : model.Connection)
      → ((s : Situation) → was.stage.values.Stands s.held → connection_in n s ≡ Some (waiting_with n line rest old.waited)
      → (left : List HeldValue) × was.stage.values.Stands left
      × ((places : ℕ) (order : Order) → StepsLead making places (point s (identifiers_in was.stage.values) order) (task ∷ []) (step ∷ []) (point (set_in s left x) (identifiers_in was.stage.values) Unknown) []))
      → step.conn ≡ n → new.closing ≡ None → shown_connection n new ≡ x → gathered is.stage ≡ gather (gathered was.stage) (step ∷ []) → is.loads ≡ was.loads → is.stage.values ≡ was.stage.values
      → (new.standing ≡ now.Ready → EndsCalm config (step ∷ [])) → StepRan now_is n task old new was is
  stayed-ran task step x does own is_open shows gathers loads same calm = subst (λ v. StepRan now_is n task old new was (record { stage = stage v is.stage.text is.stage.tape; loads = is.loads })) (sym same) (record {
    ran = λ s agrees under found.
        let d = does s agrees.stands (found-waiting s n old found waited) in
        record {
          step = step;
          left = d.0;
          stands = d.1;
          leads = λ places order agreed. (
            Unknown,
            λ plain. tt,
            subst (λ t. StepsLead making places (point s (identifiers_in was.stage.values) order) (task ∷ []) (step ∷ []) (point t (identifiers_in was.stage.values) Unknown) [])
                (sym (put-alike s d.0 n new x is.loads was.stage.values.frame.dropped is_open shows (loads ∙ sym under) (sym agrees.dropped))) (d.2 places order),
          );
          own = own;
          gathered_is = ap (λ v. gathered (stage v is.stage.text is.stage.tape)) (sym same) ∙ gathers;
          calm = calm;
        };
    is_open = is_open;
    frame = record { rest = refl; latest = in_time };
    fresh = subst (λ v. HasNothingOutside (gathered (stage v is.stage.text is.stage.tape))) same (fresh-is (step ∷ []) gathers);
  })

  -- it was given up for the last time
  pub abandoned-ran : (key : List ℕ) → reading config line ≡ Ok (says.Load key) → nat_le 200 old.waited ≡ true → new.closing ≡ None → new.standing ≡ now.Ready → new.unread.bytes ≡ rest
      → gathered is.stage ≡ gather (gathered was.stage) (step_saying n line (codes "ERR abandoned\n") None [] ∷ []) → is.loads ≡ was.loads → is.stage.values ≡ was.stage.values
      → StepRan now_is n (RunAgain n) old new was is
  abandoned-ran key reads last is_open runs bytes gathers loads same =
      let step = step_saying n line (codes "ERR abandoned\n") None [] in
      stayed-ran (RunAgain n) step (ready n rest)
      (λ s stands found.
      let x = abandons config s was.stage.values.Stands (sound.idle s.held s.latest stands) in (
        all_held_after config s.latest s.held no_deed [],
        x.left,
        λ places order. abandoned making places s n line rest old.waited [] (identifiers_in was.stage.values) order found last x.right (load-unknown config step key refl reads (suc places) order),
      ))
      refl is_open (shown-ready n new rest runs bytes) gathers loads same (λ e. load-calm config n line key (codes "ERR abandoned\n") [] reads)

  -- it was handed the outcome
  pub delivered-ran : (outcome : Outcome) (key : List ℕ) → reading config line ≡ Ok (says.Load key) → new.closing ≡ None → new.standing ≡ now.Ready → new.unread.bytes ≡ rest
      → gathered is.stage ≡ gather (gathered was.stage) (step_saying n line (outcome_text outcome) None [] ∷ []) → is.loads ≡ was.loads → is.stage.values ≡ was.stage.values
      → StepRan now_is n (Deliver n outcome) old new was is
  delivered-ran outcome key reads is_open runs bytes gathers loads same =
      let step = step_saying n line (outcome_text outcome) None [] in
      stayed-ran (Deliver n outcome) step (ready n rest)
      (λ s stands found.
      let x = delivers config s outcome was.stage.values.Stands (sound.idle s.held s.latest stands) in (
        all_held_after config s.latest s.held no_deed [],
        x.left,
        λ places order. delivered making places s n line rest old.waited outcome [] (identifiers_in was.stage.values) order found x.right (load-unknown config step key refl reads (suc places) order),
      ))
      refl is_open (shown-ready n new rest runs bytes) gathers loads same (λ e. load-calm config n line key (outcome_text outcome) [] reads)

  -- it is held back
  pub held-ran : nat_le 200 old.waited ≡ false → new.closing ≡ None → new.standing ≡ now.Held → new.unread.bytes ≡ old.unread.bytes → new.waited ≡ old.waited
      → gathered is.stage ≡ gather (gathered was.stage) (step_held n line ∷ []) → is.loads ≡ was.loads → is.stage.values ≡ was.stage.values → StepRan now_is n (RunAgain n) old new was is
  held-ran few is_open holds bytes times gathers loads same =
      stayed-ran (RunAgain n) (step_held n line) (holding_load n line rest old.waited)
      (λ s stands found.
      (all_held_after config s.latest s.held no_deed [], sound.idle s.held s.latest stands, λ places order. held_back making places s n line rest old.waited [] (identifiers_in was.stage.values) order found few))
      refl is_open (shown-held n new old.unread.bytes old.waited holds bytes times) gathers loads same
      (λ e. let no : now.Held ≡ now.Ready = sym holds ∙ e in cc)

  -- it waits again
  pub waits-ran : (x : IsMiss config now_is line was.stage.values.Stands) → nat_le 200 old.waited ≡ false → new.closing ≡ None → new.standing ≡ now.Waiting → new.unread.bytes ≡ old.unread.bytes → new.waited ≡ suc old.waited
      → gathered is.stage ≡ gather (gathered was.stage) (step_silent n line (load_sent_for x.key was.loads) None [] ∷ []) → is.loads ≡ when_waiting n x.key was.loads → is.stage.values ≡ was.stage.values
      → StepRan now_is n (RunAgain n) old new was is
  waits-ran x few is_open still bytes times gathers loads same = subst (λ v. StepRan now_is n (RunAgain n) old new was (record { stage = stage v is.stage.text is.stage.tape; loads = is.loads })) (sym same) (record {
    ran = λ s agrees under found.
        let none = subst (λ t. live_at config t s.held x.key ≡ None) (sym agrees.at) (x.none s.held agrees.stands) in
        let y = waits config s x.key was.stage.values.Stands none (sound.idle s.held s.latest agrees.stands) in
        let step = step_silent n line (load_sent_for x.key was.loads) None [] in
        let left = held_when_run config s (Running (says.Load x.key)) (step_waiting config s x.key 0 []) in
        let under_sent : number_to_send x.key s.sent s.pending ≡ load_sent_for x.key was.loads = ap (load_sent_for x.key) under in
        let ids = identifiers_in was.stage.values in
        record {
          step = step;
          left = left;
          stands = y.left;
          leads = λ places order agreed. (
            Unknown,
            λ plain. tt,
            subst (λ l. StepsLead making places (point s ids order) (RunAgain n ∷ []) (step_silent n line l None [] ∷ []) (point (put_in (with_under_way is.loads (with_drops was.stage.values.frame.dropped s)) left n new) ids Unknown) []) under_sent
                (subst (λ t. StepsLead making places (point s ids order) (RunAgain n ∷ []) (step_silent n line (number_to_send x.key s.sent s.pending) None [] ∷ []) (point t ids Unknown) [])
                (sym (put-is (with_under_way is.loads (with_drops was.stage.values.frame.dropped s)) left n new (waiting_with n line rest (suc old.waited)) is_open (shown-waiting n new old.unread.bytes (suc old.waited) still bytes times)
                ∙ ap (λ (u : UnderWay). set_in (with_under_way u (with_drops was.stage.values.frame.dropped s)) left (waiting_with n line rest (suc old.waited))) (loads ∙ ap (when_waiting n x.key) (sym under))
                ∙ ap (λ d. set_in (with_under_way (when_waiting n x.key (loads_in s)) (with_drops d s)) left (waiting_with n line rest (suc old.waited))) (sym agrees.dropped)))
                (waits_again making places s n line rest x.key old.waited [] ids order (found-waiting s n old found waited) few x.reads none y.right)),
          );
          own = refl;
          gathered_is = ap (λ v. gathered (stage v is.stage.text is.stage.tape)) (sym same) ∙ gathers;
          calm = λ e. let no : now.Waiting ≡ now.Ready = sym still ∙ e in cc;
        };
    is_open = is_open;
    frame = record { rest = refl; latest = in_time };
    fresh = subst (λ v. HasNothingOutside (gathered (stage v is.stage.text is.stage.tape))) same (fresh-is (step_silent n line (load_sent_for x.key was.loads) None [] ∷ []) gathers);
  })

  -- it is answered
  pub answered-ran : (key : List ℕ) (quit : Bool) → reading config line ≡ Ok (says.Load key) → nat_le 200 old.waited ≡ false → new.closing ≡ None → new.standing ≡ now.Ready → new.unread.bytes ≡ rest → is.loads ≡ was.loads
      → RanLine now_is n line quit was.stage is.stage → StepRan now_is n (RunAgain n) old new was is
  answered-ran key quit reads few is_open runs bytes loads r = record {
    ran = λ s agrees under found.
        let x = r.ran s agrees in
        let saying : Option Accepted → Step = λ o. step_saying 0 [] x.reply o x.told in
        let some = subst (λ (k : Reading). DoesRight config s (action_by k) (saying x.accepted)) reads x.right in
        let none = load-accepts config s key x.reply x.accepted x.told some in
        let right = subst (λ (o : Option Accepted). DoesRight config s (Running (says.Load key)) (saying o)) none some in
        let stands = subst (λ (o : Option Accepted). is.stage.values.Stands (held_when_run config s (Running (says.Load key)) (saying o))) none (subst (λ (k : Reading). is.stage.values.Stands (held_when_run config s (action_by k) (saying x.accepted))) reads x.left) in
        let drops = x.dropped_is ∙ ap (λ (k : Reading). dropped_when_run config s (action_by k) (saying x.accepted)) reads in
        let draws = subst (λ (o : Option Accepted). StepDraws config (step_saying n line x.reply o x.told) (identifiers_in was.stage.values) (identifiers_in is.stage.values)) none x.draws in
        let step = step_saying n line x.reply None x.told in
        let left = held_when_run config s (Running (says.Load key)) (saying None) in
        record {
          step = step;
          left = left;
          stands = stands;
          leads = λ places order agreed. (
            Unknown,
            λ plain. tt,
            subst (λ t. StepsLead making places (point s (identifiers_in was.stage.values) order) (RunAgain n ∷ []) (step ∷ []) (point t (identifiers_in is.stage.values) Unknown) [])
                (sym (put-alike s left n new (ready n rest) is.loads is.stage.values.frame.dropped is_open (shown-ready n new rest runs bytes) (loads ∙ sym under) (drops ∙ or-false s.dropped)))
                (answered making places s n line rest key x.reply old.waited x.told [] (identifiers_in was.stage.values) (identifiers_in is.stage.values) order (found-waiting s n old found waited) few reads right draws),
          );
          own = refl;
          gathered_is = x.gathered_is ∙ ap (λ (o : Option Accepted). gather (gathered was.stage) (step_saying n line x.reply o x.told ∷ [])) none;
          calm = λ e. load-calm config n line key x.reply x.told reads;
        };
    is_open = is_open;
    frame = r.frame;
    fresh = r.fresh;
  }

-- ---- what the code asks

-- a line that is a `LOAD` says its key
pub load-key : (r : Reading) → is_load r ≡ true → (key : List ℕ) × (r ≡ Ok (says.Load key))
load-key (Ok (says.Load key)) is = (key, refl)
load-key other is = let no : false ≡ true = is in cc

pub not-last : (times : ℕ) → times < 200 → nat_le 200 times ≡ false
not-last times few = go (nat_le 200 times) refl
  where
    go : (b : Bool) → nat_le 200 times ≡ b → b ≡ false
    go true e = let h = leb-true 200 times e in absurd (omega arith)
    go false e = refl

-- the bytes before a line feed are not more than all
cut-within : (bs : List ℕ) → length (cut_at 10 bs).0 ≤ length bs
cut-within [] = omega arith
cut-within (b ∷ bs) = ⊎_elim
    (λ same. subst (λ (cut : Cut). length cut.0 ≤ suc (length bs)) (sym (cut_at-here 10 b bs same.1)) (omega arith))
    (λ other. subst (λ (cut : Cut). length cut.0 ≤ suc (length bs)) (sym (cut_at-other 10 b bs other.1)) (let h = cut-within bs in omega arith))
    (eqb_tells b 10)

-- what stood behind a `LOAD` that waited is no line that is too long
pub fits-behind : (closing : Option Closing) (standing : Standing) (times : ℕ) (bytes left : List ℕ) → closing ≡ None → standing ≡ now.Waiting → FitsStanding standing times closing bytes → left ≡ behind_lines 1 bytes → FitsStanding now.Ready 0 closing left
fits-behind closing standing times bytes left is_open e f is =
    let close : is_near bytes ≡ true = subst (λ st. (not (waits_for_load st) || is_near bytes) ≡ true) e (subst (λ o. (is_some o || not (waits_for_load standing) || is_near bytes) ≡ true) is_open f.near) in
    let few = leb-true (length (behind_lines 1 bytes)) 8192 close in
    let within = cut-within (behind_lines 1 bytes) in
    record {
      whole = refl;
      short = ap (λ o. is_some o || false || not (is_long_line left)) is_open ∙ ap (λ b. not (is_long_line b)) is ∙ ap not (not-above (length (cut_at 10 (behind_lines 1 bytes)).0) (omega (arith, few, within)));
      near = ap (λ o. is_some o || true || is_near left) is_open;
      few = refl;
    }
