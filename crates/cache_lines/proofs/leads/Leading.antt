-- Steps lead on from where others led.
use Rattle.std.proofs.Common.{arith, refl, sym, ap, ◌∙◌, ◌≡◌, ℕ, suc, Bool, ◌&&◌, true, false, List, [], ◌∷◌, ◌++◌, Some, None, if◌then◌else◌, subst, Option}
use Rattle.std.proofs.lemmas.Bool.{and_from}
use Rattle.std.specs.List.{cons_option, list_all}
use Rattle.std.specs.Option.{option_map_or}
use Rattle.audit_model.specs.Bytewise.{is_empty}
use Rattle.audit_model.specs.Changes.{after_step}
use Rattle.audit_model.specs.Follows.{after_steps, placed_step_in}
use Rattle.audit_model.specs.History.{Value}
use Rattle.audit_model.specs.Obeys.{accepted_values}
use Rattle.audit_model.specs.Places.{due, first_due, left_after}
use Rattle.audit_model.specs.Situation.{Situation, may_run_in}
use Rattle.audit_model.specs.Steps.{Task, Store, Deliver, RunAgain, RunHeld, RunLines, is_right}
use Rattle.audit_model.specs.declared.config.Config.{Config}
use Rattle.audit_model.specs.declared.transcript.Step.{Step}
use Rattle.audit_laws.proofs.waiting.Records.{has_no_held, fit-due, no-held-due, no-held-left, told-due, told-left}
use Rattle.audit_laws.proofs.waiting.Turns.{steps}
use Rattle.audit_laws.specs.Leading.{is_parted}
use Rattle.audit_laws.specs.Placing.{placed_steps_in}
use Rattle.audit_laws.specs.Waiting.Tidy.{Tidy}
use Rattle.cache_commands.specs.Order.{Order, AgreesWith, Unknown}
use Rattle.cache_lines.proofs.Drawn.{spends-same}
use Rattle.cache_lines.specs.Drawing.{Spends, StepDraws, StepsDraw, identifiers_in}
use Rattle.cache_lines.specs.Leading.{Point, StepLeads, StepsLead, TasksLead, due_in, effect_for, point}
use Rattle.cache_lines.specs.Leads.Leads.{still_told}
use Rattle.cache_lines.specs.Lines.{are_timely, has_its_part, is_timely_after}
use Rattle.cache_lines.specs.Making.{Making}
use Rattle.cache_lines.specs.Ordered.{HasKeys, HaveKeys, OrdersSteps, order_behind, order_behind_step}
use Rattle.cache_commands.specs.Recency.{IsPlainLru}
use Rattle.cache_commands.specs.Values.{Values}

-- ---- what is due

-- where nothing is due of the first, what is due is of those behind
due-behind : (may : ℕ → Bool) (front tasks : List Task) → due may front ≡ [] → due may (front ++ tasks) ≡ due may tasks
due-behind may [] tasks e = refl
due-behind may (Store key outcome ∷ front) tasks e = let no : Store key outcome ∷ front ≡ [] = e in cc
due-behind may (Deliver conn outcome ∷ front) tasks e = let no : Deliver conn outcome ∷ front ≡ [] = e in cc
due-behind may (RunAgain conn ∷ front) tasks e = let no : RunAgain conn ∷ front ≡ [] = e in cc
due-behind may (RunHeld conn ∷ front) tasks e = let no : RunHeld conn ∷ front ≡ [] = e in cc
due-behind may (RunLines conn ∷ front) tasks e = let next = due-behind may front tasks in grind (arith, next)

-- where some of the first are due, those behind stay behind
due-front : (may : ℕ → Bool) (front tasks : List Task) (task : Task) (rest : List Task) → due may front ≡ task ∷ rest → due may (front ++ tasks) ≡ (task ∷ rest) ++ tasks
due-front may [] tasks task rest e = let no : [] ≡ task ∷ rest = e in cc
due-front may (Store key outcome ∷ front) tasks task rest e = ap (λ ts. ts ++ tasks) e
due-front may (Deliver conn outcome ∷ front) tasks task rest e = ap (λ ts. ts ++ tasks) e
due-front may (RunAgain conn ∷ front) tasks task rest e = ap (λ ts. ts ++ tasks) e
due-front may (RunHeld conn ∷ front) tasks task rest e = ap (λ ts. ts ++ tasks) e
due-front may (RunLines conn ∷ front) tasks task rest e = let next = due-front may front tasks task rest in grind (arith, next)

left-front : (task : Task) (rest tasks : List Task) → left_after ((task ∷ rest) ++ tasks) ≡ left_after (task ∷ rest) ++ tasks
left-front (Store key outcome) rest tasks = refl
left-front (Deliver conn outcome) rest tasks = refl
left-front (RunAgain conn) rest tasks = refl
left-front (RunHeld conn) rest tasks = refl
left-front (RunLines conn) rest tasks = refl

-- a connection's lines are not due where none may run
pub none-due : (s : Situation) (n : ℕ) (tasks : List Task) → may_run_in s n ≡ false → due (may_run_in s) tasks ≡ due (may_run_in s) (RunLines n ∷ tasks)
none-due s n tasks stops = sym (ap (λ b. if b then RunLines n ∷ tasks else due (may_run_in s) tasks) stops)

-- one more value in its part
pub cons-parted : (part_of : List ℕ → ℕ) (o : Option Value) (values : List Value) → option_map_or (is_parted part_of) o true ≡ true → list_all (is_parted part_of) values ≡ true → list_all (is_parted part_of) (cons_option o values) ≡ true
cons-parted part_of None values one rest = rest
cons-parted part_of (Some v) values one rest = and_from (is_parted part_of v) (list_all (is_parted part_of) values) one rest

-- ---- steps behind steps

module _ (making : Making) (places : ℕ) where
  abbrev config : Config
  config = making.config

  -- no step leads nowhere else
  pub nothing : (a : Point) (tasks : List Task) → StepsLead making places a tasks [] a tasks
  nothing a tasks = (refl, refl)

  pub no-lines : (a : Point) (n : ℕ) (tasks : List Task) → may_run_in a.situation n ≡ false → StepsLead making places a (RunLines n ∷ tasks) [] a tasks
  no-lines a n tasks stops = (refl, none-due a.situation n tasks stops)

  -- from where the same is due
  from-due : (a c : Point) (tasks others left : List Task) (ran : List Step) → due_in a.situation others ≡ due_in a.situation tasks → StepsLead making places a others ran c left → StepsLead making places a tasks ran c left
  from-due a c tasks others left [] e h = (h.0, h.1 ∙ e)
  from-due a c tasks others left (step ∷ ran) e h = subst (λ ts. (b : Point) × StepLeads making places (first_due ts) step a b × StepsLead making places b (left_after ts) ran c left) e h

  -- STEPS LEAD ON
  pub on : (a b c : Point) (tasks left last : List Task) (ran more : List Step) → StepsLead making places a tasks ran b left → StepsLead making places b left more c last → StepsLead making places a tasks (ran ++ more) c last
  on a b c tasks left last [] more first second = from-due a c tasks left last more first.1 (subst (λ (x : Point). StepsLead making places x left more c last) first.0 second)
  on a b c tasks left last (step ∷ ran) more first second = (first.0, first.1, on first.0 b c (left_after (due_in a.situation tasks)) left last ran more first.2 second)

  -- to tasks of which the same are due
  to-due : (a b : Point) (tasks left last : List Task) (ran : List Step) → due_in b.situation last ≡ due_in b.situation left → StepsLead making places a tasks ran b left → StepsLead making places a tasks ran b last
  to-due a b tasks left last [] e h = (h.0, subst (λ (x : Point). due_in x.situation last ≡ due_in x.situation left) h.0 e ∙ h.1)
  to-due a b tasks left last (step ∷ ran) e h = (h.0, h.1, to-due h.0 b (left_after (due_in a.situation tasks)) left last ran e h.2)

  -- one step of the task that is due
  pub one : (a b : Point) (task : Task) (tasks rest : List Task) (step : Step) → due_in a.situation tasks ≡ task ∷ rest → StepLeads making places (Some task) step a b → StepsLead making places a tasks (step ∷ []) b (left_after (task ∷ rest))
  one a b task tasks rest step is h =
      subst (λ ts. (m : Point) × StepLeads making places (first_due ts) step a m × StepsLead making places m (left_after ts) [] b (left_after (task ∷ rest))) (sym is) (b, h, nothing b (left_after (task ∷ rest)))

  -- some task is due where a step is right
  some-due : (s : Situation) (tasks : List Task) (step : Step) → is_right config (placed_step_in config s (first_due (due_in s tasks)) step) ≡ true → (task : Task) × (rest : List Task) × (due_in s tasks ≡ task ∷ rest)
  some-due s tasks step right = go (due_in s tasks) refl
    where
      go : (ts : List Task) → due_in s tasks ≡ ts → (task : Task) × (rest : List Task) × (due_in s tasks ≡ task ∷ rest)
      go [] is = let no : false ≡ true = subst (λ ts. is_right config (placed_step_in config s (first_due ts) step) ≡ true) is right in absurd (cc)
      go (task ∷ rest) is = (task, rest, is)

  -- more tasks stay behind those that run to their end
  pub framed : (a b : Point) (tasks more : List Task) (ran : List Step) → StepsLead making places a tasks ran b [] → StepsLead making places a (tasks ++ more) ran b more
  framed a b tasks more [] h = (h.0, sym (due-behind (may_run_in a.situation) tasks more (sym h.1)))
  framed a b tasks more (step ∷ ran) h =
      let some = some-due a.situation tasks step h.1.right in
      let is = some.2 in
      subst (λ ts. (m : Point) × StepLeads making places (first_due ts) step a m × StepsLead making places m (left_after ts) ran b more) (sym (due-front (may_run_in a.situation) tasks more some.0 some.1 is)) (
        h.0,
        subst (λ ts. StepLeads making places (first_due ts) step a h.0) is h.1,
        subst (λ ts. StepsLead making places h.0 ts ran b more) (ap (λ ts. left_after ts ++ more) is ∙ sym (left-front some.0 some.1 more)) (framed h.0 b (left_after (due_in a.situation tasks)) more ran h.2),
      )

  -- those that are still to be told of their load wait as they did
  pub tidy : (a b : Point) (tasks left : List Task) (ran : List Step) → StepsLead making places a tasks ran b left → has_no_held tasks ≡ true → Tidy (still_told tasks) a.situation → Tidy (still_told left) b.situation
  tidy a b tasks left [] h none t =
      let may = may_run_in a.situation in
      subst (λ told. Tidy told b.situation) (sym (told-due may tasks) ∙ ap still_told (sym h.1) ∙ told-due may left) (subst (λ (x : Point). Tidy (still_told tasks) x.situation) (sym h.0) t)
  tidy a b tasks left (step ∷ ran) h none t =
      let s = a.situation in
      let some = some-due s tasks step h.1.right in
      let task = some.0 in
      let rest = some.1 in
      let is = some.2 in
      let one = subst (λ ts. StepLeads making places (first_due ts) step a h.0) is h.1 in
      let no_held = subst (λ ts. has_no_held ts ≡ true) is (no-held-due (may_run_in s) tasks none) in
      tidy h.0 b (left_after (due_in s tasks)) left ran h.2 (subst (λ ts. has_no_held (left_after ts) ≡ true) (sym is) (no-held-left task rest no_held))
      (subst (λ ts. Tidy (still_told (left_after ts)) h.0.situation) (sym is)
      (subst (λ told. Tidy told h.0.situation) (sym (told-left task rest))
      (subst (Tidy (still_told rest)) one.after
      (steps config s task step (still_told rest) (fit-due s tasks task rest is no_held) one.right (subst (λ told. Tidy told s) (sym (told-due (may_run_in s) tasks) ∙ ap still_told is) t)))))

  -- what such steps are, one thing at a time
  pub record Means (a : Point) (tasks : List Task) (ran : List Step) (b : Point) (left : List Task) : Type 0 where
    pub follows : left ≡ [] → after_steps config a.situation tasks ran ≡ Some b.situation
    pub parted : list_all (is_parted making.part_of) (accepted_values (placed_steps_in config a.situation tasks ran)) ≡ true
    pub timely : are_timely config making.made a.situation tasks ran ≡ true
    pub draws : StepsDraw config ran a.drawn b.drawn
    pub ordered : order_behind config (suc places) a.order ran ≡ b.order
    pub keyed : IsPlainLru config places → HaveKeys config (suc places) a.order a.situation tasks ran

  pub means : (a b : Point) (tasks left : List Task) (ran : List Step) → StepsLead making places a tasks ran b left → Means a tasks ran b left
  means a b tasks left [] h = record {
    follows = λ none. ap (λ ts. if is_empty ts then Some a.situation else None) (sym h.1 ∙ ap (due_in a.situation) none) ∙ ap (λ (x : Point). Some x.situation) (sym h.0);
    parted = refl;
    timely = refl;
    draws = subst (λ (x : Point). Spends a.drawn x.drawn) (sym h.0) (spends-same a.drawn);
    ordered = ap (λ (x : Point). x.order) (sym h.0);
    keyed = λ plain. tt;
  }
  means a b tasks left (step ∷ ran) h =
      let s = a.situation in
      let m = h.0 in
      let one = h.1 in
      let task = first_due (due_in s tasks) in
      let rest = left_after (due_in s tasks) in
      let effect = effect_for config s task step in
      let next = order_behind_step config (suc places) a.order step in
      let more = means m b rest left ran h.2 in
      record {
        follows = λ none.
            ap (λ r. if r then after_steps config (after_step config s task step effect) rest ran else None) one.right
            ∙ ap (λ u. after_steps config u rest ran) one.after ∙ more.follows none;
        parted = cons-parted making.part_of effect.value _ one.parted (ap (λ u. list_all (is_parted making.part_of) (accepted_values (placed_steps_in config u rest ran))) one.after ∙ more.parted);
        timely = ap (λ u. is_timely_after config making.made effect u && are_timely config making.made u rest ran) one.after ∙ and_from _ _ one.timely more.timely;
        draws = (a.drawn, m.drawn, spends-same a.drawn, one.draws, more.draws);
        ordered = ap (λ o. order_behind config (suc places) o ran) one.orders ∙ more.ordered;
        keyed = λ plain.
            subst (λ (u : Situation). HasKeys next u.held × HaveKeys config (suc places) next u rest ran) (sym one.after)
            (subst (λ o. HasKeys o m.situation.held × HaveKeys config (suc places) o m.situation rest ran) (sym one.orders) (one.keys plain, more.keyed plain));
      }

-- ---- while a store changes

module _ (making : Making) where
  -- where no step is
  pub leads-nothing : (s : Situation) (tasks : List Task) (v : Values) → TasksLead making s tasks [] s tasks v v
  leads-nothing s tasks v = λ places order agrees. (order, agrees, nothing making places (point s (identifiers_in v) order) tasks)

  -- where no line may run
  pub leads-no-lines : (s : Situation) (n : ℕ) (v : Values) → may_run_in s n ≡ false → TasksLead making s (RunLines n ∷ []) [] s [] v v
  leads-no-lines s n v stops = λ places order agrees. (order, agrees, no-lines making places (point s (identifiers_in v) order) n [] stops)

  pub leads-on : (s t u : Situation) (tasks left last : List Task) (ran more : List Step) (a b c : Values) → TasksLead making s tasks ran t left a b → TasksLead making t left more u last b c → TasksLead making s tasks (ran ++ more) u last a c
  leads-on s t u tasks left last ran more a b c first second = λ places order agrees.
      let x = first places order agrees in
      let y = second places x.0 x.1 in
      (y.0, y.1, on making places (point s (identifiers_in a) order) (point t (identifiers_in b) x.0) (point u (identifiers_in c) y.0) tasks left last ran more x.2 y.2)

  pub leads-to : (s t : Situation) (tasks left last : List Task) (ran : List Step) (a b : Values) → due_in t last ≡ due_in t left → TasksLead making s tasks ran t left a b → TasksLead making s tasks ran t last a b
  leads-to s t tasks left last ran a b e first = λ places order agrees.
      let x = first places order agrees in
      (x.0, x.1, to-due making places (point s (identifiers_in a) order) (point t (identifiers_in b) x.0) tasks left last ran e x.2)

  pub leads-framed : (s t : Situation) (tasks more : List Task) (ran : List Step) (a b : Values) → TasksLead making s tasks ran t [] a b → TasksLead making s (tasks ++ more) ran t more a b
  leads-framed s t tasks more ran a b first = λ places order agrees.
      let x = first places order agrees in
      (x.0, x.1, framed making places (point s (identifiers_in a) order) (point t (identifiers_in b) x.0) tasks more ran x.2)

  -- one step of the task that is due
  pub leads-one : (s t : Situation) (task : Task) (tasks rest : List Task) (step : Step) (a b : Values)
      → due_in s tasks ≡ task ∷ rest → is_right making.config (placed_step_in making.config s (Some task) step) ≡ true
      → after_step making.config s (Some task) step (effect_for making.config s (Some task) step) ≡ t
      → has_its_part making.part_of (effect_for making.config s (Some task) step) ≡ true → is_timely_after making.config making.made (effect_for making.config s (Some task) step) t ≡ true
      → StepDraws making.config step (identifiers_in a) (identifiers_in b)
      → ((places : ℕ) (order : Order) → IsPlainLru making.config places → AgreesWith a.Used places order
      → AgreesWith b.Used places (order_behind_step making.config (suc places) order step) × HasKeys (order_behind_step making.config (suc places) order step) t.held)
      → TasksLead making s tasks (step ∷ []) t (left_after (task ∷ rest)) a b
  leads-one s t task tasks rest step a b is right after parted timely draws keys = λ places order agrees.
      let next = order_behind_step making.config (suc places) order step in (
        next,
        λ plain. (keys places order plain (agrees plain)).0,
        one making places (point s (identifiers_in a) order) (point t (identifiers_in b) next) task tasks rest step is
            (record { right = right; after = after; parted = parted; timely = timely; draws = draws; orders = refl; keys = λ plain. (keys places order plain (agrees plain)).1 }),
      )

  -- ---- what such steps are

  pub leads-mean : (s t : Situation) (tasks : List Task) (ran : List Step) (a b : Values) (l : TasksLead making s tasks ran t [] a b)
      → Means making 0 (point s (identifiers_in a) Unknown) tasks ran (point t (identifiers_in b) (l 0 Unknown (λ plain. tt)).0) []
  leads-mean s t tasks ran a b l =
      let x = l 0 Unknown (λ plain. tt) in
      means making 0 (point s (identifiers_in a) Unknown) (point t (identifiers_in b) x.0) tasks [] ran x.2

  pub leads-order : (s t : Situation) (tasks : List Task) (ran : List Step) (a b : Values) → TasksLead making s tasks ran t [] a b → OrdersSteps making.config a.Used b.Used s tasks ran
  leads-order s t tasks ran a b l = λ places order plain agrees.
      let x = l places order (λ p. agrees) in
      let m = means making places (point s (identifiers_in a) order) (point t (identifiers_in b) x.0) tasks [] ran x.2 in
      (subst (AgreesWith b.Used places) (sym m.ordered) (x.1 plain), m.keyed plain)
