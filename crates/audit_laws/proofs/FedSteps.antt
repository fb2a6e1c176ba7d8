-- A step of a connection, with more bytes behind the unread ones.
use Rattle.std.proofs.Common.{inr, inl, ◌≡◌, refl, ap, ◌∙◌, sym, ℕ, Bool, true, false, true≢false, ◌||◌, cond, List, [], ◌∷◌, ◌++◌, map, Option, Some, None, is_some}
use Rattle.std.specs.Prelude.{Ok, Err}
use Rattle.std.specs.Option.{option_map_or}
use Rattle.std.proofs.lemmas.Bool.{cases_Bool, eqb-true}
use Rattle.audit_model.specs.Changes.{left_held, all_held_after, connection_after, join_by, join_load, after_step}
use Rattle.audit_model.specs.Commands.{deed_of, drops, quits}
use Rattle.audit_model.specs.Follows.{line_in, placed_step_in, after_steps}
use Rattle.audit_model.specs.Grammar.{Reading, reading}
use Rattle.audit_model.specs.Bytewise.{is_empty}
use Rattle.audit_model.specs.History.{Effect}
use Rattle.audit_model.specs.Loads.{key_loaded}
use Rattle.audit_model.specs.Places.{first_due, left_after, tasks_to_feed}
use Rattle.audit_model.specs.Situation.{Situation, Connection, Standing, Ready, Held, Waiting, connection_in, may_run_in, is_holding, with_connection, view_in}
use Rattle.audit_model.specs.Steps.{Task, RunHeld, RunLines, PlacedStep, action_by, action_of_line, effect_in, is_right}
use Rattle.audit_model.specs.Stream.{is_held, is_waiting, behind_lines}
use Rattle.audit_model.specs.declared.config.Config.{Config}
use Rattle.audit_model.specs.declared.transcript.Step.{Step}
use Rattle.audit_laws.specs.Placing.{placed_steps_in}
use Rattle.audit_laws.proofs.FedMore.{Body, own, put, opened, sit, closes, more, IsDue, sit-open, sit-opened, in-opened, closes-due}
use Rattle.audit_laws.proofs.LinesRead.{behind_first, first_line-more}
use Rattle.audit_laws.proofs.PlacedStepsAgree.{parts-of}

-- ---- what a step leaves of the rest

-- the moment, the count of connections and the connections are the same
pub record Alike (s t : Situation) : Type 0 where
  pub latest : t.latest ≡ s.latest
  pub opened : t.opened ≡ s.opened
  pub connections : t.connections ≡ s.connections

-- one after the other
pub alike-on : (s t u : Situation) → Alike s t → Alike t u → Alike s u
alike-on s t u a b = record { latest = b.latest ∙ a.latest; opened = b.opened ∙ a.opened; connections = b.connections ∙ a.connections }

join-alike : (conn : ℕ) (waits : Bool) (key : Option (List ℕ)) (load : Option ℕ) (s : Situation) → Alike s (join_by conn waits key load s)
join-alike conn waits None load s = record { latest = refl; opened = refl; connections = refl }
join-alike conn waits (Some key) (Some number) s = record { latest = refl; opened = refl; connections = refl }
join-alike conn true (Some key) None s = record { latest = refl; opened = refl; connections = refl }
join-alike conn false (Some key) None s = record { latest = refl; opened = refl; connections = refl }

join-connections : (conn : ℕ) (waits : Bool) (key : Option (List ℕ)) (load : Option ℕ) (s : Situation) (cs : List Connection)
    → join_by conn waits key load (record s { connections = cs }) ≡ record (join_by conn waits key load s) { connections = cs }
join-connections conn waits None load s cs = refl
join-connections conn waits (Some key) (Some number) s cs = refl
join-connections conn true (Some key) None s cs = refl
join-connections conn false (Some key) None s cs = refl

module _ (config : Config) (conn : ℕ) where
  -- the task: to run the held line, or the lines
  abbrev pub task_of : Bool → Task
  task_of held = cond held (RunHeld conn) (RunLines conn)

  -- what the step does
  abbrev pub effect_at : Situation → Step → Effect
  effect_at u x = effect_in config (view_in config u) (action_of_line config x) x

  -- the situation but for the connection
  abbrev pub apart : Step → Situation → Situation
  apart x u =
      join_load conn (effect_at u x) (record u { held = all_held_after config u.latest u.held (deed_of (effect_at u x)) (effect_at u x).notes; dropped = u.dropped || drops (effect_at u x) })

  -- a step leaves the moment, the count and the connections of the rest
  pub apart-alike : (x : Step) (u : Situation) → Alike u (apart x u)
  apart-alike x u =
      let e = effect_at u x in
      let v = record u { held = all_held_after config u.latest u.held (deed_of e) e.notes; dropped = u.dropped || drops e } in
      alike-on u v (apart x u) (record { latest = refl; opened = refl; connections = refl }) (join-alike conn (is_waiting e) (key_loaded e.action) e.load v)

  -- the connection then
  abbrev pub next : Bool → Step → Effect → Body → Body
  next held x effect d =
      record {
        unread = cond held d.unread (behind_lines 1 d.unread);
        standing = (connection_after (Some (task_of held)) x effect (own conn d)).standing;
        waited = (connection_after (Some (task_of held)) x effect (own conn d)).waited;
      }

  connection_then : (held : Bool) (x : Step) (effect : Effect) (d : Body) → connection_after (Some (task_of held)) x effect (own conn d) ≡ own conn (next held x effect d)
  connection_then true x effect d = refl
  connection_then false x effect d = refl

  -- ---- a step of an open connection

  abbrev placed_at : Bool → Situation → Option (List ℕ) → Step → PlacedStep
  placed_at held u line x =
      record { task = Some (task_of held); line = line; seen = view_in config u; step = x; effect = effect_at u x; held = map (λ h. h.value) (left_held u.held (deed_of (effect_at u x)) (effect_at u x).notes) }

  abbrev line_at : Bool → Body → Option (List ℕ)
  line_at held d = line_in (Some (task_of held)) (Some (own conn d))

  module _ (u : Situation) (there : is_some (connection_in conn u) ≡ true) (x : Step) where
    placed-opened : (held : Bool) (d : Body) → x.conn ≡ conn → placed_step_in config (opened conn d u) (Some (task_of held)) x ≡ placed_at held u (line_at held d) x
    placed-opened true d e = ap (λ o. placed_at true u (line_in (Some (RunHeld conn)) o) x) (ap (λ n. connection_in n (opened conn d u)) e ∙ in-opened conn d u there)
    placed-opened false d e = ap (λ o. placed_at false u (line_in (Some (RunLines conn)) o) x) (ap (λ n. connection_in n (opened conn d u)) e ∙ in-opened conn d u there)

    abbrev passed_on : Body → Situation
    passed_on d = record (opened conn d u) { held = all_held_after config u.latest u.held (deed_of (effect_at u x)) (effect_at u x).notes; dropped = u.dropped || drops (effect_at u x) }

    after_by : (held : Bool) (d : Body) → x.conn ≡ conn
        → option_map_or (λ c. with_connection (quits (effect_at u x)) (connection_after (Some (task_of held)) x (effect_at u x) c) (join_load x.conn (effect_at u x) (passed_on d))) (connection_in x.conn (passed_on d)) (passed_on d)
        ≡ sit conn (quits (effect_at u x)) (next held x (effect_at u x) d) (apart x u)
    after_by held d e =
        let effect = effect_at u x in
        let v = record u { held = all_held_after config u.latest u.held (deed_of effect) effect.notes; dropped = u.dropped || drops effect } in
        ap (λ n. option_map_or (λ c. with_connection (quits effect) (connection_after (Some (task_of held)) x effect c) (join_load n effect (passed_on d))) (connection_in n (passed_on d)) (passed_on d)) e
        ∙ ap (λ o. option_map_or (λ c. with_connection (quits effect) (connection_after (Some (task_of held)) x effect c) (join_load conn effect (passed_on d))) o (passed_on d)) (in-opened conn d u there)
        ∙ ap (λ c. with_connection (quits effect) c (join_load conn effect (passed_on d))) (connection_then held x effect d)
        ∙ ap (λ w. sit conn (quits effect) (next held x effect d) w) (join-connections conn (is_waiting effect) (key_loaded effect.action) effect.load v (put conn (own conn d) u.connections))
        ∙ ap (λ cs. sit conn (quits effect) (next held x effect d) (record (apart x u) { connections = put conn (own conn d) cs })) (sym (apart-alike x u).connections)
        ∙ sit-opened conn (quits effect) d (next held x effect d) (apart x u)

    after-opened : (held : Bool) (d : Body) → x.conn ≡ conn
        → after_step config (opened conn d u) (Some (task_of held)) x (effect_at u x) ≡ sit conn (quits (effect_at u x)) (next held x (effect_at u x) d) (apart x u)
    after-opened true d e = after_by true d e
    after-opened false d e = after_by false d e

    -- what a step is and leads to, from the connection as it is now
    pub record Steps (held q : Bool) (d : Body) : Type 0 where
      pub placed : placed_step_in config (sit conn q d u) (Some (task_of held)) x ≡ placed_at held u (line_at held d) x
      pub after : after_step config (sit conn q d u) (Some (task_of held)) x (placed_step_in config (sit conn q d u) (Some (task_of held)) x).effect
          ≡ sit conn (quits (effect_at u x)) (next held x (effect_at u x) d) (apart x u)

    -- a step of an open connection, from the rest and the connection as it now is
    pub steps-from : (held q : Bool) (d : Body) → closes conn q d ≡ false → x.conn ≡ conn → Steps held q d
    steps-from held q d e o =
        let placed : placed_step_in config (sit conn q d u) (Some (task_of held)) x ≡ placed_at held u (line_at held d) x =
        ap (λ s. placed_step_in config s (Some (task_of held)) x) (sit-open conn q d u e) ∙ placed-opened held d o in
        record {
          placed = placed;
          after =
              ap (λ (p : PlacedStep). after_step config (sit conn q d u) (Some (task_of held)) x p.effect) placed
              ∙ ap (λ s. after_step config s (Some (task_of held)) x (effect_at u x)) (sit-open conn q d u e)
              ∙ after-opened held d o;
        }

    -- a right step is of that connection
    pub in-turn : (held : Bool) (s : Situation) → is_right config (placed_step_in config s (Some (task_of held)) x) ≡ true → x.conn ≡ conn
    in-turn true s r = sym (eqb-true conn x.conn (parts-of config (placed_step_in config s (Some (RunHeld conn)) x) r).in_turn)
    in-turn false s r = sym (eqb-true conn x.conn (parts-of config (placed_step_in config s (Some (RunLines conn)) x) r).in_turn)

    -- ---- the same with more bytes

    module _ (rest : List ℕ) where
      line-more : (held : Bool) (standing : Standing) (unread : List ℕ) (waited : ℕ) → IsDue conn rest held standing unread
          → line_at held (record { unread = unread ++ rest; standing = standing; waited = waited }) ≡ line_at held (record { unread = unread; standing = standing; waited = waited })
      line-more true (Held line) unread waited h = refl
      line-more false Ready unread waited h = first_line-more unread rest h
      line-more true Ready unread waited h = absurd h
      line-more true (Waiting line) unread waited h = absurd h
      line-more false (Held line) unread waited h = absurd h
      line-more false (Waiting line) unread waited h = absurd h

      next-by : (held : Bool) (effect : Effect) (standing : Standing) (unread : List ℕ) (waited : ℕ) → IsDue conn rest held standing unread
          → next held x effect (record { unread = unread ++ rest; standing = standing; waited = waited })
          ≡ more conn rest (next held x effect (record { unread = unread; standing = standing; waited = waited }))
      next-by true effect (Held line) unread waited h = refl
      next-by false effect Ready unread waited h =
          ap (λ bs. record (next false x effect (record { unread = unread; standing = Ready; waited = waited })) { unread = bs }) (behind_first unread rest h)
      next-by true effect Ready unread waited h = absurd h
      next-by true effect (Waiting line) unread waited h = absurd h
      next-by false effect (Held line) unread waited h = absurd h
      next-by false effect (Waiting line) unread waited h = absurd h

      -- a step of the connection with and without those bytes behind
      pub record BothStep (held q : Bool) (d : Body) : Type 0 where
        pub placed : placed_step_in config (sit conn q (more conn rest d) u) (Some (task_of held)) x ≡ placed_step_in config (sit conn q d u) (Some (task_of held)) x
        pub fewer : after_step config (sit conn q d u) (Some (task_of held)) x (placed_step_in config (sit conn q d u) (Some (task_of held)) x).effect
            ≡ sit conn (quits (effect_at u x)) (next held x (effect_at u x) d) (apart x u)
        pub greater : after_step config (sit conn q (more conn rest d) u) (Some (task_of held)) x (placed_step_in config (sit conn q (more conn rest d) u) (Some (task_of held)) x).effect
            ≡ sit conn (quits (effect_at u x)) (more conn rest (next held x (effect_at u x) d)) (apart x u)

      -- the step is the same one with more bytes behind, and leaves them behind
      pub both-step : (held q : Bool) (d : Body) → closes conn q d ≡ false → IsDue conn rest held d.standing d.unread → x.conn ≡ conn → BothStep held q d
      both-step held q d e h o =
          let a : Steps held q d = steps-from held q d e o in
          let b : Steps held q (more conn rest d) = steps-from held q (more conn rest d) (closes-due conn rest held q d h ∙ e) o in
          record {
            placed = b.placed ∙ ap (λ l. placed_at held u l x) (line-more held d.standing d.unread d.waited h) ∙ sym a.placed;
            fewer = a.after;
            greater = b.after ∙ ap (λ f. sit conn (quits (effect_at u x)) f (apart x u)) (next-by held (effect_at u x) d.standing d.unread d.waited h);
          }

  -- ---- a step that is not held back holds nothing

  unheld_by : (r : Reading) (effect : Effect) (line : List ℕ) → is_held (record effect { action = action_by r }) ≡ false
  unheld_by (Ok command) effect line = refl
  unheld_by (Err error) effect line = refl

  stands-by : (h w : Bool) (line : List ℕ) → h ≡ false → is_holding (cond h (Held line) (cond w (Waiting line) Ready)) ≡ false
  stands-by true w line e = absurd (true≢false e)
  stands-by false true line e = refl
  stands-by false false line e = refl

  -- a step that is not held back leaves nothing held
  pub next-unheld : (held : Bool) (x : Step) (u : Situation) (d : Body) → x.held ≡ false → is_holding (next held x (effect_at u x) d).standing ≡ false
  next-unheld held x u d e =
      stands-by (is_held (effect_at u x)) (is_waiting (effect_at u x)) x.line ((elim (cases_Bool x.held) [
        | inl is ↦ rw is (absurd (true≢false (rw is at e)))
        | inr is ↦ rw is (unheld_by (reading config x.line) (effect_in config (view_in config u) (action_by (reading config x.line)) x) x.line)
      ]))

  -- ---- the first of the steps that a feed makes due

  -- a first step, of the held line or of a line that may run
  pub first-step : (held : Bool) (s : Situation) (x : Step) (steps : List Step) → (held ≡ false → may_run_in s conn ≡ true)
      → after_steps config s (tasks_to_feed conn held) (x ∷ steps)
      ≡ cond (is_right config (placed_step_in config s (Some (task_of held)) x)) (after_steps config (after_step config s (Some (task_of held)) x (placed_step_in config s (Some (task_of held)) x).effect) (RunLines conn ∷ []) steps) None
  first-step true s x steps f = refl
  first-step false s x steps f =
      ap (λ may. let now_due = cond may (RunLines conn ∷ []) [] in
      let placed = placed_step_in config s (first_due now_due) x in
      cond (is_right config placed) (after_steps config (after_step config s placed.task x placed.effect) (left_after now_due) steps) None) (f refl)

  -- its place comes first
  pub first-placed : (held : Bool) (s : Situation) (x : Step) (steps : List Step) → (held ≡ false → may_run_in s conn ≡ true)
      → placed_steps_in config s (tasks_to_feed conn held) (x ∷ steps)
      ≡ placed_step_in config s (Some (task_of held)) x ∷ placed_steps_in config (after_step config s (Some (task_of held)) x (placed_step_in config s (Some (task_of held)) x).effect) (RunLines conn ∷ []) steps
  first-placed true s x steps f = refl
  first-placed false s x steps f =
      ap (λ may. let now_due = cond may (RunLines conn ∷ []) [] in
      let placed = placed_step_in config s (first_due now_due) x in
      placed ∷ placed_steps_in config (after_step config s placed.task x placed.effect) (left_after now_due) steps) (f refl)

  -- where no line may run, a feed has no step
  pub none-due : (s : Situation) (x : Step) (steps : List Step) → may_run_in s conn ≡ false → after_steps config s (RunLines conn ∷ []) (x ∷ steps) ≡ None
  none-due s x steps e =
      ap (λ may. let now_due = cond may (RunLines conn ∷ []) [] in
      let placed = placed_step_in config s (first_due now_due) x in
      cond (is_right config placed) (after_steps config (after_step config s placed.task x placed.effect) (left_after now_due) steps) None) e

  -- with no more steps, where no line may run
  pub at-end : (s : Situation) → after_steps config s (RunLines conn ∷ []) [] ≡ cond (may_run_in s conn) None (Some s)
  at-end s = go (may_run_in s conn)
    where
      go : (may : Bool) → cond (is_empty (cond may (RunLines conn ∷ []) [])) (Some s) None ≡ cond may None (Some s)
      go true = refl
      go false = refl
