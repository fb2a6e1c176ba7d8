-- Two feeds of a connection at one moment, and the two in one.
use Rattle.std.proofs.Common.{◌≡◌, refl, ap, ◌∙◌, sym, subst, ℕ, Bool, true, false, true≢false, not, ◌&&◌, cond, List, [], ◌∷◌, ◌++◌, Some, None, is_some, max, ◌⊎◌, inl, inr}
use Rattle.std.specs.Prelude.{◌==◌}
use Rattle.std.specs.List.{find}
use Rattle.std.specs.Option.{option_map_or}
use Rattle.std.proofs.lemmas.Bool.{not-true, cases_Bool, and_parts, and_from, true_from_ne_false}
use Rattle.audit_model.specs.Follows.{after_event, after_steps, placed_step_in, tasks_in}
use Rattle.audit_model.specs.Commands.{quits}
use Rattle.audit_model.specs.Changes.{after_step}
use Rattle.audit_model.specs.Places.{tasks_to_feed}
use Rattle.audit_model.specs.Situation.{Situation, Standing, Ready, Held, Waiting, connection_in, may_run_in, is_holding, with_connection}
use Rattle.audit_model.specs.Steps.{RunLines, is_right}
use Rattle.audit_model.specs.declared.config.Config.{Config}
use Rattle.audit_model.specs.declared.event.Event.TheVariants as event
use Rattle.audit_model.specs.declared.event.Instant.{Instant}
use Rattle.audit_model.specs.declared.transcript.Step.{Step}
use Rattle.audit_laws.specs.Cutting.{none_held}
use Rattle.audit_laws.specs.Placing.{placed_steps_in}
use Rattle.audit_laws.proofs.Following.{Passed, passed}
use Rattle.audit_laws.proofs.FedMore.{Body, own, closes, sit, opened, sit-open, sit-shut, sit-opened, in-opened, in-sit, may-sit, holding-sit, runs, more, IsDue, closes-more, closes-due, runs-due, runs-more}
use Rattle.audit_laws.proofs.FedSteps.{task_of, effect_at, apart, apart-alike, next, in-turn, BothStep, both-step, next-unheld, first-step, first-placed, none-due, at-end}

-- what stands in two equal options
pub some_same : {X : Type 0} (x y : X) → Some x ≡ Some y → x ≡ y
some_same x y e = cc

module _ (config : Config) (conn : ℕ) (moment : Instant) (rest : List ℕ) where
  -- the connection is among those that are open, and the moment has come
  pub record Ground (u : Situation) : Type 0 where
    pub there : is_some (connection_in conn u) ≡ true
    pub latest : max moment.nanos u.latest ≡ u.latest

  ground-apart : (x : Step) (u : Situation) → Ground u → Ground (apart config conn x u)
  ground-apart x u g =
      let alike = apart-alike config conn x u in
      record {
        there = ap (λ cs. is_some (find (λ c. c.number == conn) cs)) alike.connections ∙ g.there;
        latest = ap (λ n. max moment.nanos n) alike.latest ∙ g.latest ∙ sym alike.latest;
      }

  abbrev lesser : Bool → Body → Situation → Situation
  lesser q d u = sit conn q d u

  abbrev greater : Bool → Body → Situation → Situation
  greater q d u = sit conn q (more conn rest d) u

  abbrev then_fed : Situation → Situation
  then_fed s = after_event (event.Feed conn rest moment) s

  fed-opened : (d : Body) (u : Situation) → Ground u → then_fed (opened conn d u) ≡ sit conn false (more conn rest d) u
  fed-opened d u g =
      ap (λ o. option_map_or (λ c. with_connection false (record c { unread = c.unread ++ rest }) (record (opened conn d u) { latest = max moment.nanos u.latest })) o (record (opened conn d u) { latest = max moment.nanos u.latest })) (in-opened conn d u g.there)
      ∙ ap (λ n. with_connection false (own conn (more conn rest d)) (record (opened conn d u) { latest = n })) g.latest
      ∙ sit-opened conn false d (more conn rest d) u

  -- the second feed leads where the whole one would have
  fed-lesser : (q : Bool) (d : Body) (u : Situation) → Ground u → closes conn q d ≡ false → then_fed (lesser q d u) ≡ greater q d u
  fed-lesser true d u g e = absurd (true≢false e)
  fed-lesser false d u g e = ap then_fed (sit-open conn false d u e) ∙ fed-opened d u g

  -- ---- where the first feed ends

  -- the connection is closed, and nothing more comes; or the second feed's steps lead on
  abbrev Ends : Situation → List Step → Situation → Type 0
  Ends middle second t =
      ((connection_in conn middle ≡ None) × (second ≡ []) × (middle ≡ t))
      ⊎ ((is_some (connection_in conn middle) ≡ true) × (after_steps config (then_fed middle) (tasks_in middle (event.Feed conn rest moment)) second ≡ Some t))

  module _ (u : Situation) (g : Ground u) (q : Bool) (d : Body) where
    -- where a line may run, the connection is open and has one
    pub record Runs : Type 0 where
      pub is_open : closes conn q d ≡ false
      pub lines : runs conn d ≡ true

    runs-of : may_run_in (lesser q d u) conn ≡ true → Runs
    runs-of e =
        let both = and_parts (not (closes conn q d)) (runs conn d) (sym (may-sit conn q d u g.there) ∙ e) in
        record { is_open = not-true (closes conn q d) both.0; lines = both.1 }

    may-greater : may_run_in (lesser q d u) conn ≡ true → may_run_in (greater q d u) conn ≡ true
    may-greater e =
        let r : Runs = runs-of e in
        may-sit conn q (more conn rest d) u g.there
        ∙ and_from _ _ (ap not (closes-due conn rest false q d (runs-due conn rest d r.lines) ∙ r.is_open)) (runs-more conn rest d r.lines)

    shut-greater : closes conn q d ≡ true → greater q d u ≡ lesser q d u
    shut-greater e = sit-shut conn q (more conn rest d) u (closes-more conn rest q d e) ∙ sym (sit-shut conn q d u e)

    shut-may : closes conn q d ≡ true → may_run_in (lesser q d u) conn ≡ false
    shut-may e = may-sit conn q d u g.there ∙ ap (λ b. not b && runs conn d) e

    module _ (unheld : is_holding d.standing ≡ false) where
      tasks-lesser : tasks_in (lesser q d u) (event.Feed conn rest moment) ≡ RunLines conn ∷ []
      tasks-lesser = ap (tasks_to_feed conn) (holding-sit conn q d u g.there unheld)

      ends-same : closes conn q d ≡ false → (second : List Step)
          → after_steps config (then_fed (lesser q d u)) (tasks_in (lesser q d u) (event.Feed conn rest moment)) second ≡ after_steps config (greater q d u) (RunLines conn ∷ []) second
      ends-same e second =
          ap (λ ts. after_steps config (then_fed (lesser q d u)) ts second) tasks-lesser
          ∙ ap (λ s. after_steps config s (RunLines conn ∷ []) second) (fed-lesser q d u g e)

      places-same : closes conn q d ≡ false → (second : List Step)
          → placed_steps_in config (then_fed (lesser q d u)) (tasks_in (lesser q d u) (event.Feed conn rest moment)) second ≡ placed_steps_in config (greater q d u) (RunLines conn ∷ []) second
      places-same e second =
          ap (λ ts. placed_steps_in config (then_fed (lesser q d u)) ts second) tasks-lesser
          ∙ ap (λ s. placed_steps_in config s (RunLines conn ∷ []) second) (fed-lesser q d u g e)

      no-more : (steps : List Step) (s t : Situation) → may_run_in s conn ≡ false → after_steps config s (RunLines conn ∷ []) steps ≡ Some t → (steps ≡ []) × (s ≡ t)
      no-more [] s t may e = (refl, some_same s t (sym (at-end config conn s ∙ ap (λ b. cond b None (Some s)) may) ∙ e))
      no-more (x ∷ steps) s t may e = absurd (true≢false (sym (ap is_some (sym (none-due config conn s x steps may) ∙ e))))

      ends-here : (steps : List Step) (t : Situation) → after_steps config (greater q d u) (RunLines conn ∷ []) steps ≡ Some t → Ends (lesser q d u) steps t
      ends-here steps t e =
          elim (cases_Bool (closes conn q d)) [
            | inl is ↦ let last = no-more steps (lesser q d u) t (shut-may is) (ap (λ s. after_steps config s (RunLines conn ∷ []) steps) (sym (shut-greater is)) ∙ e) in inl (in-sit conn q d u g.there ∙ ap (λ b. cond b None (Some (own conn d))) is, last.0, last.1)
            | inr is ↦ inr (ap is_some (in-sit conn q d u g.there ∙ ap (λ b. cond b None (Some (own conn d))) is), ends-same is steps ∙ e)
          ]

      -- the whole feed's steps and places from there
      pub record GoesOn (second : List Step) (t : Situation) : Type 0 where
        pub leads : after_steps config (greater q d u) (RunLines conn ∷ []) second ≡ Some t
        pub places : placed_steps_in config (greater q d u) (RunLines conn ∷ []) second
            ≡ placed_steps_in config (then_fed (lesser q d u)) (tasks_in (lesser q d u) (event.Feed conn rest moment)) second

      goes-on : (second : List Step) (t : Situation) → Ends (lesser q d u) second t → GoesOn second t
      goes-on second t (inl h) =
          elim (cases_Bool (closes conn q d)) [
            | inl e ↦ record { leads = ap (λ s. after_steps config s (RunLines conn ∷ []) second) (shut-greater e) ∙ ap (after_steps config (lesser q d u) (RunLines conn ∷ [])) h.1 ∙ at-end config conn (lesser q d u) ∙ ap (λ b. cond b None (Some (lesser q d u))) (shut-may e) ∙ ap Some h.2; places = ap (placed_steps_in config (greater q d u) (RunLines conn ∷ [])) h.1 ∙ sym (ap (placed_steps_in config (then_fed (lesser q d u)) (tasks_in (lesser q d u) (event.Feed conn rest moment))) h.1) }
            | inr e ↦ absurd (true≢false (ap is_some (sym (in-sit conn q d u g.there ∙ ap (λ b. cond b None (Some (own conn d))) e) ∙ h.0)))
          ]
      goes-on second t (inr h) =
          elim (cases_Bool (closes conn q d)) [
            | inl e ↦ absurd (true≢false (sym h.0 ∙ ap is_some (in-sit conn q d u g.there ∙ ap (λ b. cond b None (Some (own conn d))) e)))
            | inr e ↦ record { leads = sym (ends-same e second) ∙ h.1; places = sym (places-same e second) }
          ]

  held-open : (d : Body) → IsDue conn rest true d.standing d.unread → closes conn false d ≡ false
  held-open d h = go d.standing h
    where
      go : (standing : Standing) → IsDue conn rest true standing d.unread → closes conn false (record d { standing = standing }) ≡ false
      go (Held line) h = refl
      go Ready h = absurd h
      go (Waiting line) h = absurd h

  -- ---- from one to two

  -- the steps in two parts: the first ones lead to where the first feed ends, and the others on from there
  pub record InTwo (held q : Bool) (d : Body) (u : Situation) (steps : List Step) (t : Situation) : Type 0 where
    pub first : List Step
    pub second : List Step
    pub in_parts : steps ≡ first ++ second
    pub middle : Situation
    pub leads : after_steps config (lesser q d u) (tasks_to_feed conn held) first ≡ Some middle
    pub count : middle.opened ≡ u.opened
    pub ends : Ends middle second t

  cut-first : (held q : Bool) (d : Body) (u : Situation) (x : Step) (steps : List Step) (t : Situation) → Ground u → closes conn q d ≡ false
      → IsDue conn rest held d.standing d.unread → (held ≡ false → may_run_in (lesser q d u) conn ≡ true) → (held ≡ false → may_run_in (greater q d u) conn ≡ true)
      → after_steps config (greater q d u) (tasks_to_feed conn held) (x ∷ steps) ≡ Some t
      → ((p : Bool) (c : Body) (v : Situation) → Ground v → c ≡ next config conn held x (effect_at config conn u x) d
      → after_steps config (greater p c v) (RunLines conn ∷ []) steps ≡ Some t → InTwo false p c v steps t)
      → InTwo held q d u (x ∷ steps) t
  cut-first held q d u x steps t g is_open is_due may may' e ih =
      let here = placed_step_in config (lesser q d u) (Some (task_of config conn held)) x in
      let there = placed_step_in config (greater q d u) (Some (task_of config conn held)) x in
      let on : Passed (is_right config there) (after_steps config (after_step config (greater q d u) (Some (task_of config conn held)) x there.effect) (RunLines conn ∷ []) steps) t =
      passed _ _ t (sym (first-step config conn held (greater q d u) x steps may') ∙ e) in
      let both : BothStep config conn u g.there x rest held q d =
      both-step config conn u g.there x rest held q d is_open is_due (in-turn config conn u g.there x held (greater q d u) on.test) in
      let effect = effect_at config conn u x in
      let v = apart config conn x u in
      let later : InTwo false (quits effect) (next config conn held x effect d) v steps t =
      ih (quits effect) (next config conn held x effect d) v (ground-apart x u g) refl
      (ap (λ s. after_steps config s (RunLines conn ∷ []) steps) (sym both.greater) ∙ on.rest) in
      record {
        first = x ∷ later.first;
        second = later.second;
        in_parts = ap (λ xs. x ∷ xs) later.in_parts;
        middle = later.middle;
        leads =
            first-step config conn held (lesser q d u) x later.first may
            ∙ ap (λ b. cond b (after_steps config (after_step config (lesser q d u) (Some (task_of config conn held)) x here.effect) (RunLines conn ∷ []) later.first) None) (ap (is_right config) (sym both.placed) ∙ on.test)
            ∙ ap (λ s. after_steps config s (RunLines conn ∷ []) later.first) both.fewer ∙ later.leads;
        count = later.count ∙ (apart-alike config conn x u).opened;
        ends = later.ends;
      }

  cut-here : (q : Bool) (d : Body) (u : Situation) (steps : List Step) (t : Situation) → Ground u → is_holding d.standing ≡ false → may_run_in (lesser q d u) conn ≡ false
      → after_steps config (greater q d u) (RunLines conn ∷ []) steps ≡ Some t → InTwo false q d u steps t
  cut-here q d u steps t g unheld may e =
      record {
        first = [];
        second = steps;
        in_parts = refl;
        middle = lesser q d u;
        leads = at-end config conn (lesser q d u) ∙ ap (λ b. cond b None (Some (lesser q d u))) may;
        count = refl;
        ends = ends-here u g q d unheld steps t e;
      }

  -- the lines of a feed in two parts
  pub cut-lines : (steps : List Step) (q : Bool) (d : Body) (u : Situation) (t : Situation) → Ground u → is_holding d.standing ≡ false → none_held steps ≡ true
      → after_steps config (greater q d u) (RunLines conn ∷ []) steps ≡ Some t → InTwo false q d u steps t
  cut-lines [] q d u t g unheld none e =
      elim (cases_Bool (may_run_in (lesser q d u) conn)) [
        | inl is ↦ absurd (true≢false (sym (ap is_some (sym (at-end config conn (greater q d u) ∙ ap (λ b. cond b None (Some (greater q d u))) (may-greater u g q d is)) ∙ e))))
        | inr is ↦ cut-here q d u [] t g unheld is e
      ]
  cut-lines (x ∷ steps) q d u t g unheld none e =
      let unheld_too = and_parts (not x.held) (none_held steps) none in
      let ih : (p : Bool) (c : Body) (v : Situation) → Ground v → c ≡ next config conn false x (effect_at config conn u x) d
      → after_steps config (greater p c v) (RunLines conn ∷ []) steps ≡ Some t → InTwo false p c v steps t =
      λ p c v k w o. cut-lines steps p c v t k (ap (λ (y : Body). is_holding y.standing) w ∙ next-unheld config conn false x u d (not-true x.held unheld_too.0)) unheld_too.1 o in
      elim (cases_Bool (may_run_in (lesser q d u) conn)) [
        | inl may ↦ let r : Runs u g q d = runs-of u g q d may in cut-first false q d u x steps t g r.is_open (runs-due conn rest d r.lines) (λ z. may) (λ z. may-greater u g q d may) e ih
        | inr may ↦ cut-here q d u (x ∷ steps) t g unheld may e
      ]

  -- ---- from two to one

  -- the steps of both parts lead there in one, from the same places
  pub record InOne (held q : Bool) (d : Body) (u : Situation) (first second : List Step) (middle t : Situation) : Type 0 where
    pub leads : after_steps config (greater q d u) (tasks_to_feed conn held) (first ++ second) ≡ Some t
    pub places : placed_steps_in config (greater q d u) (tasks_to_feed conn held) (first ++ second)
        ≡ placed_steps_in config (lesser q d u) (tasks_to_feed conn held) first ++ placed_steps_in config (then_fed middle) (tasks_in middle (event.Feed conn rest moment)) second

  join-first : (held q : Bool) (d : Body) (u : Situation) (x : Step) (first second : List Step) (middle t : Situation) → Ground u → closes conn q d ≡ false
      → IsDue conn rest held d.standing d.unread → (held ≡ false → may_run_in (lesser q d u) conn ≡ true) → (held ≡ false → may_run_in (greater q d u) conn ≡ true)
      → after_steps config (lesser q d u) (tasks_to_feed conn held) (x ∷ first) ≡ Some middle
      → ((p : Bool) (c : Body) (v : Situation) → Ground v → c ≡ next config conn held x (effect_at config conn u x) d
      → after_steps config (lesser p c v) (RunLines conn ∷ []) first ≡ Some middle → InOne false p c v first second middle t)
      → InOne held q d u (x ∷ first) second middle t
  join-first held q d u x first second middle t g is_open is_due may may' e ih =
      let here = placed_step_in config (lesser q d u) (Some (task_of config conn held)) x in
      let there = placed_step_in config (greater q d u) (Some (task_of config conn held)) x in
      let on : Passed (is_right config here) (after_steps config (after_step config (lesser q d u) (Some (task_of config conn held)) x here.effect) (RunLines conn ∷ []) first) middle =
      passed _ _ middle (sym (first-step config conn held (lesser q d u) x first may) ∙ e) in
      let both : BothStep config conn u g.there x rest held q d =
      both-step config conn u g.there x rest held q d is_open is_due (in-turn config conn u g.there x held (lesser q d u) on.test) in
      let effect = effect_at config conn u x in
      let v = apart config conn x u in
      let later : InOne false (quits effect) (next config conn held x effect d) v first second middle t =
      ih (quits effect) (next config conn held x effect d) v (ground-apart x u g) refl
      (ap (λ s. after_steps config s (RunLines conn ∷ []) first) (sym both.fewer) ∙ on.rest) in
      record {
        leads =
            first-step config conn held (greater q d u) x (first ++ second) may'
            ∙ ap (λ b. cond b (after_steps config (after_step config (greater q d u) (Some (task_of config conn held)) x there.effect) (RunLines conn ∷ []) (first ++ second)) None) (ap (is_right config) both.placed ∙ on.test)
            ∙ ap (λ s. after_steps config s (RunLines conn ∷ []) (first ++ second)) both.greater ∙ later.leads;
        places =
            first-placed config conn held (greater q d u) x (first ++ second) may'
            ∙ ap (λ p. p ∷ placed_steps_in config (after_step config (greater q d u) (Some (task_of config conn held)) x there.effect) (RunLines conn ∷ []) (first ++ second)) both.placed
            ∙ ap (λ s. here ∷ placed_steps_in config s (RunLines conn ∷ []) (first ++ second)) both.greater
            ∙ ap (λ ps. here ∷ ps) later.places
            ∙ sym (ap (λ s. here ∷ (placed_steps_in config s (RunLines conn ∷ []) first ++ placed_steps_in config (then_fed middle) (tasks_in middle (event.Feed conn rest moment)) second)) both.fewer)
            ∙ sym (ap (λ ps. ps ++ placed_steps_in config (then_fed middle) (tasks_in middle (event.Feed conn rest moment)) second) (first-placed config conn held (lesser q d u) x first may));
      }

  -- the lines of two feeds in one
  pub join-lines : (first : List Step) (q : Bool) (d : Body) (u : Situation) (second : List Step) (middle t : Situation) → Ground u → is_holding d.standing ≡ false → none_held first ≡ true
      → after_steps config (lesser q d u) (RunLines conn ∷ []) first ≡ Some middle → Ends middle second t → InOne false q d u first second middle t
  join-lines [] q d u second middle t g unheld none e ends =
      elim (cases_Bool (may_run_in (lesser q d u) conn)) [
        | inl h ↦ absurd (true≢false (sym (ap is_some (sym (at-end config conn (lesser q d u) ∙ ap (λ b. cond b None (Some (lesser q d u))) h) ∙ e))))
        | inr h ↦ let is : lesser q d u ≡ middle = some_same (lesser q d u) middle (sym (at-end config conn (lesser q d u) ∙ ap (λ b. cond b None (Some (lesser q d u))) h) ∙ e) in let on : GoesOn u g q d unheld second t = goes-on u g q d unheld second t (subst (λ s. Ends s second t) (sym is) ends) in record { leads = on.leads; places = on.places ∙ ap (λ s. placed_steps_in config (then_fed s) (tasks_in s (event.Feed conn rest moment)) second) is }
      ]
  join-lines (x ∷ first) q d u second middle t g unheld none e ends =
      let may : may_run_in (lesser q d u) conn ≡ true = true_from_ne_false _ (λ out. true≢false (sym (ap is_some (sym (none-due config conn (lesser q d u) x first out) ∙ e)))) in
      let r : Runs u g q d = runs-of u g q d may in
      let unheld_too = and_parts (not x.held) (none_held first) none in
      join-first false q d u x first second middle t g r.is_open (runs-due conn rest d r.lines) (λ z. may) (λ z. may-greater u g q d may) e
      (λ p c v k w o. join-lines first p c v second middle t k (ap (λ (y : Body). is_holding y.standing) w ∙ next-unheld config conn false x u d (not-true x.held unheld_too.0)) unheld_too.1 o ends)

  -- a held command runs first
  pub join-held : (first : List Step) (d : Body) (u : Situation) (second : List Step) (middle t : Situation) → Ground u → IsDue conn rest true d.standing d.unread → none_held first ≡ true
      → after_steps config (lesser false d u) (tasks_to_feed conn true) first ≡ Some middle → Ends middle second t → InOne true false d u first second middle t
  join-held [] d u second middle t g is_due none e ends = absurd (true≢false (sym (ap is_some e)))
  join-held (x ∷ first) d u second middle t g is_due none e ends =
      join-first true false d u x first second middle t g (held-open d is_due) is_due (λ z. absurd (true≢false z)) (λ z. absurd (true≢false z)) e
      (λ p c v k w o. join-lines first p c v second middle t k
      (ap (λ (y : Body). is_holding y.standing) w ∙ next-unheld config conn true x u d (not-true x.held (and_parts (not x.held) (none_held first) none).0)) (and_parts (not x.held) (none_held first) none).1 o ends)

  -- and where a held command runs first
  pub cut-held : (steps : List Step) (d : Body) (u : Situation) (t : Situation) → Ground u → IsDue conn rest true d.standing d.unread → none_held steps ≡ true
      → after_steps config (greater false d u) (tasks_to_feed conn true) steps ≡ Some t → InTwo true false d u steps t
  cut-held [] d u t g is_due none e = absurd (true≢false (sym (ap is_some e)))
  cut-held (x ∷ steps) d u t g is_due none e =
      cut-first true false d u x steps t g (held-open d is_due) is_due (λ z. absurd (true≢false z)) (λ z. absurd (true≢false z)) e
      (λ p c v k w o. cut-lines steps p c v t k
      (ap (λ (y : Body). is_holding y.standing) w ∙ next-unheld config conn true x u d (not-true x.held (and_parts (not x.held) (none_held steps) none).0)) (and_parts (not x.held) (none_held steps) none).1 o)
