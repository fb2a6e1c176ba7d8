-- Two transcripts of one list of events: the same replies, where nothing is told `Size` and the same commands are taken.
use Rattle.std.proofs.Common.{arith, ◌≡◌, refl, ap, ◌∙◌, sym, subst, ℕ, Bool, true, false, true≢false, ◌&&◌, List, [], ◌∷◌, ◌++◌, map, max, Option, Some, None, is_some, is_none}
use Rattle.std.specs.List.{list_all, flat_map}
use Rattle.std.specs.Option.{option_map_or, option_and_then}
use Rattle.std.proofs.lemmas.Bool.{and_parts, and_from}
use Rattle.std.proofs.lemmas.List.Folds.{list_all-append}
use Rattle.audit_model.specs.Belongs.{refusal_of}
use Rattle.audit_model.specs.Bytewise.{is_empty}
use Rattle.audit_model.specs.Changes.{after_step}
use Rattle.audit_model.specs.Follows.{Follows, tasks_in, after_event, placed_step_in, after_steps, known_in, after_record, after_records}
use Rattle.audit_model.specs.History.{accepts_values}
use Rattle.audit_model.specs.Obeys.{is_numbered, has_right_own_value}
use Rattle.audit_model.specs.Places.{due, first_due, left_after, tasks_to_feed, steps_of}
use Rattle.audit_model.specs.Situation.{Situation, Connection, HeldValue, connection_in, may_run_in, is_holding_in, with_connection, waiting_in, empty_situation}
use Rattle.audit_model.specs.Steps.{Task, Store, Deliver, RunAgain, RunHeld, RunLines, is_task_of, is_right}
use Rattle.audit_model.specs.declared.config.Config.{Config}
use Rattle.audit_model.specs.declared.config.EvictionPolicy.{EvictionPolicy}
use Rattle.audit_model.specs.declared.event.Event.{Event}
use Rattle.audit_model.specs.declared.event.Event.TheVariants as event
use Rattle.audit_model.specs.declared.event.Outcome.{Outcome}
use Rattle.audit_model.specs.declared.transcript.Accepted.{Accepted}
use Rattle.audit_model.specs.declared.transcript.Note.{Note}
use Rattle.audit_model.specs.declared.transcript.Record.{Record}
use Rattle.audit_model.specs.declared.transcript.Step.{Step}
use Rattle.audit_laws.specs.Comparing.{otherwise, is_refused, TakenAlike, AnswersAlike, AnswerAlike, HappensAlike, HappenAlike, ReplyAlike}
use Rattle.audit_laws.specs.Laws.{RepliesByCommands}
use Rattle.audit_laws.specs.Telling.{notes_of, none_with_size}
use Rattle.audit_laws.proofs.Changes.{is_of_conn}
use Rattle.audit_laws.proofs.FedTwice.{some_same}
use Rattle.audit_laws.proofs.Following.{Passed, passed}
use Rattle.audit_laws.proofs.Kept.{event-ages}
use Rattle.audit_laws.proofs.Lasting.{lasting, alive-later, still_some, first, of_key}
use Rattle.audit_laws.proofs.PlacedStepsAgree.{parts-of}
use Rattle.audit_laws.proofs.StaysOrderly.{orderly_stays}
use Rattle.audit_laws.proofs.TranscriptsAgree.{agrees}
use Rattle.audit_laws.proofs.Twins.{second, Twin, gs-after, after-same, twin-after, answers-alike}
use Rattle.std.proofs.lemmas.Bool.Decides.{nat_tests}

-- ---- tasks of connections

abbrev of_conns : List Task → Bool
of_conns tasks = list_all (λ t. is_of_conn (Some t)) tasks

due-of_conns : (may : ℕ → Bool) (tasks : List Task) → of_conns tasks ≡ true → of_conns (due may tasks) ≡ true
due-of_conns may [] e = refl
due-of_conns may (RunLines c ∷ tasks) e = let next = due-of_conns may tasks e in grind (arith, nat_tests, next)
due-of_conns may (Store key outcome ∷ tasks) e = e
due-of_conns may (Deliver c outcome ∷ tasks) e = e
due-of_conns may (RunAgain c ∷ tasks) e = e
due-of_conns may (RunHeld c ∷ tasks) e = e

left-of_conns : (tasks : List Task) → of_conns tasks ≡ true → of_conns (left_after tasks) ≡ true
left-of_conns [] e = refl
left-of_conns (RunLines c ∷ tasks) e = e
left-of_conns (Store key outcome ∷ tasks) e = absurd (true≢false (sym e))
left-of_conns (Deliver c outcome ∷ tasks) e = e
left-of_conns (RunAgain c ∷ tasks) e = e
left-of_conns (RunHeld c ∷ tasks) e = e

first-of_conns : (tasks : List Task) → of_conns tasks ≡ true → is_of_conn (first_due tasks) ≡ true
first-of_conns [] e = refl
first-of_conns (task ∷ tasks) e = (and_parts (is_of_conn (Some task)) (of_conns tasks) e).0

none-first : (tasks : List Task) (conn : ℕ) → is_empty tasks ≡ true → is_task_of conn (first_due tasks) ≡ true → ⊥
none-first [] conn e f = true≢false (sym f)
none-first (task ∷ tasks) conn e f = true≢false (sym e)

of_conns-lines : (conns : List ℕ) → of_conns (map RunLines conns) ≡ true
of_conns-lines [] = refl
of_conns-lines (c ∷ conns) = of_conns-lines conns

of_conns-delivered : (outcome : Outcome) (conns : List ℕ) → of_conns (map (λ conn. Deliver conn outcome) conns) ≡ true
of_conns-delivered outcome [] = refl
of_conns-delivered outcome (c ∷ conns) = of_conns-delivered outcome conns

of_conns-again : (conns : List ℕ) → of_conns (flat_map (λ conn. RunAgain conn ∷ RunLines conn ∷ []) conns) ≡ true
of_conns-again [] = refl
of_conns-again (c ∷ conns) = of_conns-again conns

of_conns-fed : (conn : ℕ) (held : Bool) → of_conns (tasks_to_feed conn held) ≡ true
of_conns-fed conn true = refl
of_conns-fed conn false = refl

-- ---- notes

abbrev sizeless_steps : List Step → Bool
sizeless_steps steps = list_all (λ step. none_with_size step.notices) steps

sizeless-flat : (steps : List Step) → none_with_size (flat_map (λ step. step.notices) steps) ≡ true → sizeless_steps steps ≡ true
sizeless-flat [] e = refl
sizeless-flat (step ∷ steps) e =
    let p = and_parts (none_with_size step.notices) (none_with_size (flat_map (λ step. step.notices) steps)) (sym (list_all-append _ step.notices (flat_map (λ step. step.notices) steps)) ∙ e) in
    and_from (none_with_size step.notices) (sizeless_steps steps) p.0 (sizeless-flat steps p.1)

sizeless-parts : (x : Record) → none_with_size (notes_of x) ≡ true → (none_with_size x.notices ≡ true) × (sizeless_steps x.steps ≡ true)
sizeless-parts x e =
    let p = and_parts (none_with_size x.notices) (none_with_size (flat_map (λ step. step.notices) x.steps)) (sym (list_all-append _ x.notices (flat_map (λ step. step.notices) x.steps)) ∙ e) in
    (p.0, sizeless-flat x.steps p.1)

module _ (config : Config) (capacity : Option ℕ) (policy : EvictionPolicy) (parts : ℕ) (accepts : accepts_values config.capacity ≡ accepts_values capacity) where
  abbrev two : Config
  two = second config capacity policy parts accepts

  abbrev holding : List HeldValue → Situation → Situation
  holding gs s = record s { held = gs }

  abbrev Twins : Situation → List HeldValue → Type 0
  Twins s gs = Twin config capacity policy parts accepts s gs

  -- ---- steps

  -- what two first steps say, and where they lead
  record Stepped (s : Situation) (tasks : List Task) (x y : Step) (xs ys : List Step) (t u : Situation) : Type 0 where
    alike : is_of_conn (first_due (due (may_run_in s) tasks)) ≡ true → AnswersAlike config x y
    next : Situation
    gs : List HeldValue
    twin : Twins next gs
    rest : after_steps config next (left_after (due (may_run_in s) tasks)) xs ≡ Some t
    rest_too : after_steps two (holding gs next) (left_after (due (may_run_in s) tasks)) ys ≡ Some u

  step-both : (s : Situation) (gs : List HeldValue) (tasks : List Task) (x y : Step) (xs ys : List Step) (t u : Situation) → Twins s gs
      → after_steps config s tasks (x ∷ xs) ≡ Some t → after_steps two (holding gs s) tasks (y ∷ ys) ≡ Some u
      → x.held ≡ y.held → is_refused x ≡ is_refused y → none_with_size x.notices ≡ true → none_with_size y.notices ≡ true → Stepped s tasks x y xs ys t u
  step-both s gs tasks x y xs ys t u twin e f held refused m n =
      let now_due = due (may_run_in s) tasks in
      let task = first_due now_due in
      let px = placed_step_in config s task x in
      let py = placed_step_in two (holding gs s) task y in
      let on : Passed (is_right config px) (after_steps config (after_step config s task x px.effect) (left_after now_due) xs) t = passed _ _ t e in
      let on_too : Passed (is_right two py) (after_steps two (after_step two (holding gs s) task y py.effect) (left_after now_due) ys) u = passed _ _ u f in
      record {
        alike = answers-alike config capacity policy parts accepts s gs twin task x y on.test on_too.test held refused;
        next = after_step config s task x px.effect;
        gs = gs-after config capacity policy parts accepts s gs twin task x y on.test on_too.test held refused;
        twin = twin-after config capacity policy parts accepts s gs twin task x y on.test on_too.test held refused m n;
        rest = on.rest;
        rest_too =
            ap (λ v. after_steps two v (left_after now_due) ys) (sym (after-same config capacity policy parts accepts s gs twin task x y on.test on_too.test held refused)) ∙ on_too.rest;
      }

  -- where two records end
  pub record Ended (t u : Situation) : Type 0 where
    pub gs : List HeldValue
    pub is : u ≡ holding gs t
    pub twin : Twins t gs

  -- steps answer alike, and end in two such situations
  pub record Walked (xs ys : List Step) (t u : Situation) : Type 0 where
    pub alike : AnswerAlike config xs ys
    pub ended : Ended t u

  walk-both : (xs ys : List Step) (s : Situation) (gs : List HeldValue) (tasks : List Task) (t u : Situation) → Twins s gs → of_conns tasks ≡ true
      → after_steps config s tasks xs ≡ Some t → after_steps two (holding gs s) tasks ys ≡ Some u → TakenAlike xs ys → sizeless_steps xs ≡ true → sizeless_steps ys ≡ true → Walked xs ys t u
  walk-both [] [] s gs tasks t u twin o e f taken m n =
      let on : Passed (is_empty (due (may_run_in s) tasks)) (Some s) t = passed _ (Some s) t e in
      let on_too : Passed (is_empty (due (may_run_in s) tasks)) (Some (holding gs s)) u = passed _ (Some (holding gs s)) u f in
      let is : s ≡ t = some_same s t on.rest in
      record {
        alike = tt;
        ended = record { gs = gs; is = some_same u (holding gs s) (sym on_too.rest) ∙ ap (holding gs) is; twin = subst (λ v. Twins v gs) is twin };
      }
  walk-both [] (y ∷ ys) s gs tasks t u twin o e f taken m n =
      let now_due = due (may_run_in s) tasks in
      let py = placed_step_in two (holding gs s) (first_due now_due) y in
      let on : Passed (is_empty now_due) (Some s) t = passed _ (Some s) t e in
      let on_too : Passed (is_right two py) (after_steps two (after_step two (holding gs s) (first_due now_due) y py.effect) (left_after now_due) ys) u = passed _ _ u f in
      absurd (none-first now_due y.conn on.test (parts-of two py on_too.test).in_turn)
  walk-both (x ∷ xs) [] s gs tasks t u twin o e f taken m n =
      let now_due = due (may_run_in s) tasks in
      let px = placed_step_in config s (first_due now_due) x in
      let on : Passed (is_right config px) (after_steps config (after_step config s (first_due now_due) x px.effect) (left_after now_due) xs) t = passed _ _ t e in
      let on_too : Passed (is_empty now_due) (Some (holding gs s)) u = passed _ (Some (holding gs s)) u f in
      absurd (none-first now_due x.conn on_too.test (parts-of config px on.test).in_turn)
  walk-both (x ∷ xs) (y ∷ ys) s gs tasks t u twin o e f taken m n =
      let m2 = and_parts (none_with_size x.notices) (sizeless_steps xs) m in
      let n2 = and_parts (none_with_size y.notices) (sizeless_steps ys) n in
      let one : Stepped s tasks x y xs ys t u = step-both s gs tasks x y xs ys t u twin e f taken.0 taken.1 m2.0 n2.0 in
      let now_due = due (may_run_in s) tasks in
      let conns = due-of_conns (may_run_in s) tasks o in
      let later : Walked xs ys t u = walk-both xs ys one.next one.gs (left_after now_due) t u one.twin (left-of_conns now_due conns) one.rest one.rest_too taken.2 m2.1 n2.1 in
      record { alike = (one.alike (first-of_conns now_due conns), later.alike); ended = later.ended }

  -- ---- events

  event-held : (e : Event) (s : Situation) (gs : List HeldValue) → after_event e (holding gs s) ≡ holding gs (after_event e s)
  event-held (event.Open conn) s gs = refl
  event-held (event.Close conn) s gs = refl
  event-held (event.Feed conn piece moment) s gs = go (connection_in conn s)
    where
      go : (o : Option Connection)
          → option_map_or (λ c. with_connection false (record c { unread = c.unread ++ piece }) (record s { latest = max moment.nanos s.latest; held = gs })) o (record s { latest = max moment.nanos s.latest; held = gs })
          ≡ holding gs (option_map_or (λ c. with_connection false (record c { unread = c.unread ++ piece }) (record s { latest = max moment.nanos s.latest })) o (record s { latest = max moment.nanos s.latest }))
      go None = refl
      go (Some c) = refl
  event-held (event.Answer load outcome moment) s gs = refl
  event-held (event.GiveUp load moment) s gs = refl

  tasks-held : (e : Event) (s : Situation) (gs : List HeldValue) → tasks_in (holding gs s) e ≡ tasks_in s e
  tasks-held (event.Open conn) s gs = refl
  tasks-held (event.Close conn) s gs = refl
  tasks-held (event.Feed conn piece moment) s gs = refl
  tasks-held (event.Answer load outcome moment) s gs = refl
  tasks-held (event.GiveUp load moment) s gs = refl

  twin-event : (e : Event) (s : Situation) (gs : List HeldValue) → Twins s gs → Twins (after_event e s) gs
  twin-event e s gs twin =
      let ages = event-ages e s in
      let later = (after_event e s).latest in
      record {
        orderly = orderly_stays.event config e s twin.orderly;
        orderly_too = twin.orderly_too;
        same_live = λ key.
            ap (λ hs. lasting config later hs key) ages.held
            ∙ alive-later config s.latest later (first (of_key key s.held)) ages.latest
            ∙ ap (still_some config later) (twin.same_live key)
            ∙ sym (alive-later config s.latest later (first (of_key key gs)) ages.latest);
      }

  -- ---- records

  module _ (e : Event) (own own_too : Option Accepted) (notices notices_too : List Note) (xs ys : List Step) where
    abbrev rx : Record
    rx = record { event = e; own = own; notices = notices; steps = xs }

    abbrev ry : Record
    ry = record { event = e; own = own_too; notices = notices_too; steps = ys }

    module _ (s : Situation) (gs : List HeldValue) (t u : Situation) (twin : Twins s gs) (follows : Follows config s rx t) (follows_too : Follows two (holding gs s) ry u) where
      steps-lead : after_steps config (after_event e s) (tasks_in s e) (steps_of rx) ≡ Some t
      steps-lead =
          (passed (is_none (refusal_of config (known_in s) e) && is_numbered s.opened e && has_right_own_value rx) (after_steps config (after_event e s) (tasks_in s e) (steps_of rx)) t follows).rest

      steps-lead_too : after_steps two (holding gs (after_event e s)) (tasks_in s e) (steps_of ry) ≡ Some u
      steps-lead_too =
          ap (λ v. after_steps two v (tasks_in s e) (steps_of ry)) (sym (event-held e s gs))
          ∙ ap (λ ts. after_steps two (after_event e (holding gs s)) ts (steps_of ry)) (sym (tasks-held e s gs))
          ∙ (passed (is_none (refusal_of two (known_in (holding gs s)) e) && is_numbered s.opened e && has_right_own_value ry) (after_steps two (after_event e (holding gs s)) (tasks_in (holding gs s) e) (steps_of ry)) u follows_too).rest

  event-both : (e : Event) (own own_too : Option Accepted) (notices notices_too : List Note) (xs ys : List Step) (s : Situation) (gs : List HeldValue) (t u : Situation) → Twins s gs
      → after_steps config (after_event e s) (tasks_in s e) (steps_of (rx e own own_too notices notices_too xs ys)) ≡ Some t
      → after_steps two (holding gs (after_event e s)) (tasks_in s e) (steps_of (ry e own own_too notices notices_too xs ys)) ≡ Some u
      → TakenAlike xs ys → none_with_size notices ≡ true → none_with_size notices_too ≡ true → sizeless_steps xs ≡ true → sizeless_steps ys ≡ true → Walked xs ys t u
  event-both (event.Open conn) own own_too notices notices_too xs ys s gs t u twin e f taken m m' n n' =
      walk-both xs ys (after_event (event.Open conn) s) gs [] t u (twin-event (event.Open conn) s gs twin) refl e f taken n n'
  event-both (event.Close conn) own own_too notices notices_too xs ys s gs t u twin e f taken m m' n n' =
      walk-both xs ys (after_event (event.Close conn) s) gs [] t u (twin-event (event.Close conn) s gs twin) refl e f taken n n'
  event-both (event.Feed conn piece moment) own own_too notices notices_too xs ys s gs t u twin e f taken m m' n n' =
      walk-both xs ys (after_event (event.Feed conn piece moment) s) gs (tasks_in s (event.Feed conn piece moment)) t u (twin-event (event.Feed conn piece moment) s gs twin)
      (of_conns-fed conn (is_holding_in s conn)) e f taken n n'
  event-both (event.GiveUp load moment) own own_too notices notices_too xs ys s gs t u twin e f taken m m' n n' =
      walk-both xs ys (after_event (event.GiveUp load moment) s) gs (tasks_in s (event.GiveUp load moment)) t u (twin-event (event.GiveUp load moment) s gs twin)
      (of_conns-again (waiting_in load s)) e f taken n n'
  event-both (event.Answer load outcome moment) own own_too notices notices_too xs ys s gs t u twin e f taken m m' n n' =
      let happened = event.Answer load outcome moment in
      let x : Step = record { conn = 0; line = []; held = false; reply = None; load = None; accepted = own; notices = notices } in
      let y : Step = record { conn = 0; line = []; held = false; reply = None; load = None; accepted = own_too; notices = notices_too } in
      let one : Stepped (after_event happened s) (tasks_in s happened) x y xs ys t u =
      step-both (after_event happened s) gs (tasks_in s happened) x y xs ys t u (twin-event happened s gs twin) e f refl refl m m' in
      walk-both xs ys one.next one.gs (map (λ conn. Deliver conn outcome) (waiting_in load s) ++ map RunLines (waiting_in load s)) t u one.twin
      (list_all-append (λ t. is_of_conn (Some t)) (map (λ conn. Deliver conn outcome) (waiting_in load s)) (map RunLines (waiting_in load s))
      ∙ and_from _ _ (of_conns-delivered outcome (waiting_in load s)) (of_conns-lines (waiting_in load s)))
      one.rest one.rest_too taken n n'

  record-both : (x y : Record) (s : Situation) (gs : List HeldValue) (t u : Situation) → Twins s gs → Follows config s x t → Follows two (holding gs s) y u → HappensAlike x y → Walked x.steps y.steps t u
  record-both x y s gs t u twin f g alike =
      let g' : Follows two (holding gs s) (record y { event = x.event }) u = subst (λ e. Follows two (holding gs s) (record y { event = e }) u) (sym alike.event) g in
      let m = sizeless-parts x alike.sizeless in
      let n = sizeless-parts y alike.sizeless_too in
      event-both x.event x.own y.own x.notices y.notices x.steps y.steps s gs t u twin
      (steps-lead x.event x.own y.own x.notices y.notices x.steps y.steps s gs t u twin f g')
      (steps-lead_too x.event x.own y.own x.notices y.notices x.steps y.steps s gs t u twin f g')
      alike.taken m.0 n.0 m.1 n.1

  records-both : (xs ys : List Record) (s : Situation) (gs : List HeldValue) → Twins s gs → is_some (after_records config s xs) ≡ true → is_some (after_records two (holding gs s) ys) ≡ true
      → HappenAlike xs ys → ReplyAlike config xs ys
  records-both [] [] s gs twin e f alike = tt
  records-both [] (y ∷ ys) s gs twin e f alike = absurd alike
  records-both (x ∷ xs) [] s gs twin e f alike = absurd alike
  records-both (x ∷ xs) (y ∷ ys) s gs twin e f alike = go (after_record config s x) refl (after_record two (holding gs s) y) refl e f (λ t hs. records-both xs ys t hs)
    where
      go : (o : Option Situation) → after_record config s x ≡ o → (p : Option Situation) → after_record two (holding gs s) y ≡ p
          → is_some (option_and_then (λ t. after_records config t xs) o) ≡ true → is_some (option_and_then (λ t. after_records two t ys) p) ≡ true
          → ((t : Situation) (hs : List HeldValue) → Twins t hs → is_some (after_records config t xs) ≡ true → is_some (after_records two (holding hs t) ys) ≡ true → HappenAlike xs ys → ReplyAlike config xs ys)
          → AnswerAlike config x.steps y.steps × ReplyAlike config xs ys
      go None a p b e f ih = absurd (true≢false (sym e))
      go (Some t) a None b e f ih = absurd (true≢false (sym f))
      go (Some t) a (Some u) b e f ih =
          let one : Walked x.steps y.steps t u = record-both x y s gs t u twin a b alike.0 in
          (one.alike, ih t one.ended.gs one.ended.twin e (ap (λ v. is_some (after_records two v ys)) (sym one.ended.is) ∙ f) alike.1)

pub replies_by_commands : RepliesByCommands
replies_by_commands config capacity policy parts made xs ys accepts faultless faultless_too alike =
    let two_config = otherwise config capacity policy parts in
    let start = empty_situation made.nanos in
    records-both config capacity policy parts accepts xs ys start []
    (record { orderly = orderly_stays.empty config; orderly_too = orderly_stays.empty two_config; same_live = λ key. refl })
    ((agrees config (record { made = made; records = xs })).0 faultless).1 ((agrees two_config (record { made = made; records = ys })).0 faultless_too).1 alike
