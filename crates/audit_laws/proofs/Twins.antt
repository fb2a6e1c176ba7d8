-- Two situations in which the same is live, with another capacity, eviction policy and number of parts: each step leads to two such again.
use Rattle.std.proofs.Common.{inr, inl, arith, ◌≡◌, refl, ap, ◌∙◌, sym, ℕ, Bool, true, false, true≢false, ◌||◌, cond, List, Option, Some, None, is_some, nat_le}
use Rattle.std.specs.Prelude.{nat_eq}
use Rattle.std.specs.Option.{option_map, option_map_or, option_eq}
use Rattle.std.proofs.lemmas.Bool.{cases_Bool, and_parts, eqb-true}
use Rattle.audit_model.specs.Changes.{all_held_after, connection_after, join_by, join_load, with_connection_after, after_step}
use Rattle.audit_model.specs.Commands.{Nothing, deed_of, key_used, key_deleted, covering_of, covers_key, is_this, is_sync, drops, quits}
use Rattle.audit_model.specs.Follows.{line_in, placed_step_in}
use Rattle.audit_model.specs.Grammar.{reading}
use Rattle.audit_model.specs.History.{Effect, Action, Running, Holding, accepts_values}
use Rattle.audit_model.specs.Loads.{key_loaded}
use Rattle.audit_model.specs.Replies.{offer_of, load_sent_by, value_from}
use Rattle.audit_model.specs.Situation.{Situation, Connection, HeldValue, connection_in, with_connection, view_in}
use Rattle.audit_model.specs.Steps.{Task, Store, Deliver, RunAgain, RunHeld, RunLines, PlacedStep, is_task_of, action_by, action_of_line, action_in, has_right_acceptance, is_right}
use Rattle.audit_model.specs.Stream.{is_waiting}
use Rattle.audit_model.specs.declared.command.Command.TheVariants as says
use Rattle.audit_model.specs.declared.config.Config.{Config}
use Rattle.audit_model.specs.declared.config.EvictionPolicy.{EvictionPolicy}
use Rattle.audit_model.specs.declared.transcript.Accepted.{Accepted}
use Rattle.audit_model.specs.declared.transcript.Step.{Step}
use Rattle.audit_laws.specs.Comparing.{is_refused, reads_sync, AnswersAlike}
use Rattle.audit_laws.specs.Orderly.{IsOrderly}
use Rattle.audit_laws.specs.Telling.{none_with_size}
use Rattle.audit_laws.proofs.Changes.{is_of_conn}
use Rattle.audit_laws.proofs.FedTwice.{some_same}
use Rattle.audit_laws.proofs.Kept.{held-stepped, latest-stepped}
use Rattle.audit_laws.proofs.KeysListed.{keys-same}
use Rattle.audit_laws.proofs.Lasting.{Living, left_by, accepted_by, living_after, lasting, lasting-deed}
use Rattle.audit_laws.proofs.PlacedStepsAgree.{Parts, parts-of}
use Rattle.audit_laws.proofs.Rightly.{line-due}
use Rattle.audit_laws.proofs.SameReplies.{SeenAlike, other, living_bytes, live-bytes, some-bytes, reply-same, sync-replies, loads-same, offers-same, living-accepted, fresh-deed}
use Rattle.audit_laws.proofs.StaysOrderly.{orderly_stays, held-pairs}
use Rattle.std.proofs.lemmas.Bool.Decides.{nat_tests}

-- ---- what does not look at the values held

join-held : (conn : ℕ) (waits : Bool) (key : Option (List ℕ)) (load : Option ℕ) (u : Situation) (gs : List HeldValue)
    → join_by conn waits key load (record u { held = gs }) ≡ record (join_by conn waits key load u) { held = gs }
join-held conn waits None load u gs = refl
join-held conn waits (Some key) (Some number) u gs = refl
join-held conn true (Some key) None u gs = refl
join-held conn false (Some key) None u gs = refl

abbrev stepped : Option Task → Step → Effect → Situation → Situation
stepped task step effect u = option_map_or (λ c. with_connection (quits effect) (connection_after task step effect c) (join_load step.conn effect u)) (connection_in step.conn u) u

stepped-held : (task : Option Task) (step : Step) (effect : Effect) (u : Situation) (gs : List HeldValue) → stepped task step effect (record u { held = gs }) ≡ record (stepped task step effect u) { held = gs }
stepped-held task step effect u gs = go (connection_in step.conn u)
  where
    go : (o : Option Connection)
        → option_map_or (λ c. with_connection (quits effect) (connection_after task step effect c) (join_load step.conn effect (record u { held = gs }))) o (record u { held = gs })
        ≡ record (option_map_or (λ c. with_connection (quits effect) (connection_after task step effect c) (join_load step.conn effect u)) o u) { held = gs }
    go None = refl
    go (Some c) = ap (λ v. with_connection (quits effect) (connection_after task step effect c) v) (join-held step.conn (is_waiting effect) (key_loaded effect.action) effect.load u gs)

connections-held : (task : Option Task) (step : Step) (effect : Effect) (u : Situation) (gs : List HeldValue)
    → with_connection_after task step effect (record u { held = gs }) ≡ record (with_connection_after task step effect u) { held = gs }
connections-held (Some (Store key outcome)) step effect u gs = refl
connections-held (Some (Deliver c outcome)) step effect u gs = stepped-held (Some (Deliver c outcome)) step effect u gs
connections-held (Some (RunAgain c)) step effect u gs = stepped-held (Some (RunAgain c)) step effect u gs
connections-held (Some (RunHeld c)) step effect u gs = stepped-held (Some (RunHeld c)) step effect u gs
connections-held (Some (RunLines c)) step effect u gs = stepped-held (Some (RunLines c)) step effect u gs
connections-held None step effect u gs = stepped-held None step effect u gs

-- ---- two steps of one connection

module _ (x y : Step) (e f : Effect) (u : Situation) (lines : x.line ≡ y.line) (actions : e.action ≡ f.action) (replied : is_some e.reply ≡ is_some f.reply) (loads : e.load ≡ f.load) where
  abbrev form : Option Task → ℕ → List ℕ → Action → Option (List ℕ) → Option ℕ → Situation
  form task conn line action reply load = stepped task (record x { conn = conn; line = line }) (record e { action = action; reply = reply; load = load }) u

  either_reply : (task : Option Task) (conn : ℕ) (line : List ℕ) (action : Action) (load : Option ℕ) (p q : Option (List ℕ)) → is_some p ≡ is_some q → form task conn line action p load ≡ form task conn line action q load
  either_reply task conn line action load None None k = refl
  either_reply task conn line action load None (Some q) k = absurd (true≢false (sym k))
  either_reply task conn line action load (Some p) None k = absurd (true≢false k)
  either_reply task conn line action load (Some p) (Some q) k = refl

  stepped-same : (task : Option Task) → x.conn ≡ y.conn → stepped task x e u ≡ stepped task y f u
  stepped-same task conns =
      ap (λ n. form task n x.line e.action e.reply e.load) conns
      ∙ ap (λ l. form task y.conn l e.action e.reply e.load) lines
      ∙ ap (λ a. form task y.conn y.line a e.reply e.load) actions
      ∙ ap (λ l. form task y.conn y.line f.action e.reply l) loads
      ∙ either_reply task y.conn y.line f.action f.load e.reply f.reply replied

  connections-same : (task : Option Task) → (is_of_conn task ≡ true → x.conn ≡ y.conn) → with_connection_after task x e u ≡ with_connection_after task y f u
  connections-same (Some (Store key outcome)) conns = refl
  connections-same (Some (Deliver c outcome)) conns = stepped-same (Some (Deliver c outcome)) (conns refl)
  connections-same (Some (RunAgain c)) conns = stepped-same (Some (RunAgain c)) (conns refl)
  connections-same (Some (RunHeld c)) conns = stepped-same (Some (RunHeld c)) (conns refl)
  connections-same (Some (RunLines c)) conns = stepped-same (Some (RunLines c)) (conns refl)
  connections-same None conns = stepped-same None (conns refl)

conn-by : (task : Option Task) (a b : ℕ) → is_of_conn task ≡ true → is_task_of a task ≡ true → is_task_of b task ≡ true → a ≡ b
conn-by None a b o e f = absurd (true≢false (sym e))
conn-by (Some (Store key outcome)) a b o e f = absurd (true≢false (sym o))
conn-by (Some (Deliver c outcome)) a b o e f = sym (eqb-true c a e) ∙ eqb-true c b f
conn-by (Some (RunAgain c)) a b o e f = sym (eqb-true c a e) ∙ eqb-true c b f
conn-by (Some (RunHeld c)) a b o e f = sym (eqb-true c a e) ∙ eqb-true c b f
conn-by (Some (RunLines c)) a b o e f = sym (eqb-true c a e) ∙ eqb-true c b f

lines-by : (s : Situation) (task : Option Task) (a b : ℕ) → (is_of_conn task ≡ true → a ≡ b) → line_in task (connection_in a s) ≡ line_in task (connection_in b s)
lines-by s (Some (Store key outcome)) a b h = refl
lines-by s (Some (Deliver c outcome)) a b h = ap (λ n. line_in (Some (Deliver c outcome)) (connection_in n s)) (h refl)
lines-by s (Some (RunAgain c)) a b h = ap (λ n. line_in (Some (RunAgain c)) (connection_in n s)) (h refl)
lines-by s (Some (RunHeld c)) a b h = ap (λ n. line_in (Some (RunHeld c)) (connection_in n s)) (h refl)
lines-by s (Some (RunLines c)) a b h = ap (λ n. line_in (Some (RunLines c)) (connection_in n s)) (h refl)
lines-by s None a b h = ap (λ n. line_in None (connection_in n s)) (h refl)

-- a value is accepted exactly where one is offered
accepts-offers : (config : Config) (placed : PlacedStep) (o : Option Accepted) → has_right_acceptance config (record placed { step = record placed.step { accepted = o } }) ≡ true
    → is_some (option_map (λ a. a.part) o) ≡ is_some (offer_of config placed.seen placed.effect.action)
accepts-offers config placed None e = grind (arith, nat_tests, e)
accepts-offers config placed (Some a) e = sym (and_parts (is_some (offer_of config placed.seen placed.effect.action)) _ e).0

option_map-some : (o : Option Accepted) → is_some (option_map (λ a. a.part) o) ≡ is_some o
option_map-some None = refl
option_map-some (Some a) = refl

sync-covers : (e : Effect) (a : Action) → is_sync a ≡ true → covering_of (record e { action = a }) ≡ Nothing
sync-covers e (Running says.Sync) k = refl
sync-covers e (Running command) k = absurd (true≢false (sym k))
sync-covers e a k = absurd (true≢false (sym k))

sync-drops : (e : Effect) (a : Action) → is_sync a ≡ true → drops (record e { action = a }) ≡ false
sync-drops e (Running says.Sync) k = refl
sync-drops e (Running command) k = absurd (true≢false (sym k))
sync-drops e a k = absurd (true≢false (sym k))

load-is : (a b : Option ℕ) → option_eq nat_eq a b ≡ true → a ≡ b
load-is None None e = refl
load-is None (Some n) e = absurd (true≢false (sym e))
load-is (Some m) None e = absurd (true≢false (sym e))
load-is (Some m) (Some n) e = ap (λ k. Some k) (eqb-true m n e)

module _ (config : Config) (capacity : Option ℕ) (policy : EvictionPolicy) (parts : ℕ) (accepts : accepts_values config.capacity ≡ accepts_values capacity) where
  -- the other configuration
  abbrev pub second : Config
  second = other config capacity policy parts accepts

  -- the situation with other values held
  abbrev pub with_held : List HeldValue → Situation → Situation
  with_held gs s = record s { held = gs }

  -- the same is live in both
  pub record Twin (s : Situation) (gs : List HeldValue) : Type 0 where
    pub orderly : IsOrderly config s.held
    pub orderly_too : IsOrderly second gs
    pub same_live : (key : List ℕ) → lasting config s.latest s.held key ≡ lasting config s.latest gs key

  twin-seen : (s : Situation) (gs : List HeldValue) → Twin s gs → SeenAlike (view_in config s) (view_in second (with_held gs s))
  twin-seen s gs twin =
      let one = held-pairs config s.held twin.orderly in
      let two = held-pairs second gs twin.orderly_too in
      record {
        live = λ key. live-bytes config s.latest s.held key one ∙ ap living_bytes (twin.same_live key) ∙ sym (live-bytes second s.latest gs key two);
        live_keys =
            keys-same config second s.latest s.held gs one two
            (λ key. some-bytes _ ∙ ap is_some (live-bytes config s.latest s.held key one ∙ ap living_bytes (twin.same_live key) ∙ sym (live-bytes second s.latest gs key two)) ∙ sym (some-bytes _));
        load_of_key = λ key. refl;
        next_load = refl;
        dropped = refl;
      }

  module _ (s : Situation) (gs : List HeldValue) (twin : Twin s gs) (task : Option Task) (x y : Step)
      (right : is_right config (placed_step_in config s task x) ≡ true) (right_too : is_right second (placed_step_in second (with_held gs s) task y) ≡ true)
      (held : x.held ≡ y.held) (refused : is_refused x ≡ is_refused y) where
    abbrev px : PlacedStep
    px = placed_step_in config s task x

    abbrev py : PlacedStep
    py = placed_step_in second (with_held gs s) task y

    of_x : Parts config px
    of_x = parts-of config px right

    of_y : Parts second py
    of_y = parts-of second py right_too

    seen : SeenAlike px.seen py.seen
    seen = twin-seen s gs twin

    -- a task is of one connection
    pub conns-same : is_of_conn task ≡ true → x.conn ≡ y.conn
    conns-same o = conn-by task x.conn y.conn o of_x.in_turn of_y.in_turn

    lines-same : x.line ≡ y.line
    lines-same = some_same x.line y.line (sym (line-due px.line x.line of_x.line) ∙ lines-by s task x.conn y.conn conns-same ∙ line-due py.line y.line of_y.line)

    line-action : action_of_line config x ≡ action_of_line second y
    line-action =
        ap (λ h. cond h Holding (action_by (reading config x.line))) held
        ∙ ap (λ l. cond y.held Holding (action_by (reading config l))) lines-same

    actions-by : (task : Option Task) → (is_of_conn task ≡ true → x.conn ≡ y.conn)
        → action_in config (option_map_or (λ c. c.waited) (connection_in x.conn s) 0) task x ≡ action_in second (option_map_or (λ c. c.waited) (connection_in y.conn s) 0) task y
    actions-by (Some (Store key outcome)) h = refl
    actions-by (Some (Deliver c outcome)) h = refl
    actions-by (Some (RunAgain c)) h =
        ap (λ n. action_in config (option_map_or (λ m. m.waited) (connection_in n s) 0) (Some (RunAgain c)) x) (h refl)
        ∙ (elim (cases_Bool (nat_le 200 (option_map_or (λ m. m.waited) (connection_in y.conn s) 0))) [ inl e ↦ rw e | inr e ↦ rw e line-action ])
    actions-by (Some (RunHeld c)) h = line-action
    actions-by (Some (RunLines c)) h = line-action
    actions-by None h = line-action

    actions-same : px.effect.action ≡ py.effect.action
    actions-same = actions-by task conns-same

    answers-same : is_sync px.effect.action ≡ false → x.reply ≡ y.reply
    answers-same n = reply-same config capacity policy parts accepts px.seen py.seen px.held py.held px.effect py.effect seen actions-same n refused of_x.reply of_y.reply

    replied-same : is_some x.reply ≡ is_some y.reply
    replied-same =
        elim (cases_Bool (is_sync px.effect.action)) [
          | inl is ↦ sync-replies config capacity policy parts accepts config px.seen px.held px.effect is of_x.reply ∙ sym (sync-replies config capacity policy parts accepts second py.seen py.held py.effect (ap is_sync (sym actions-same) ∙ is) of_y.reply)
          | inr is ↦ ap is_some (answers-same is)
        ]

    loads_sent-same : x.load ≡ y.load
    loads_sent-same =
        load-is x.load (load_sent_by px.seen px.effect.action) of_x.load
        ∙ loads-same config capacity policy parts accepts px.seen py.seen px.effect.action seen
        ∙ ap (load_sent_by py.seen) actions-same
        ∙ sym (load-is y.load (load_sent_by py.seen py.effect.action) of_y.load)

    offers : offer_of config px.seen px.effect.action ≡ offer_of second py.seen py.effect.action
    offers = offers-same config capacity policy parts accepts px.seen py.seen px.effect.action seen ∙ ap (offer_of second py.seen) actions-same

    parts-same : is_some (option_map (λ a. a.part) x.accepted) ≡ is_some (option_map (λ a. a.part) y.accepted)
    parts-same = accepts-offers config px x.accepted of_x.accepted ∙ ap is_some offers ∙ sym (accepts-offers second py y.accepted of_y.accepted)

    sync-by : (task : Option Task) (waited : ℕ) → reads_sync config x ≡ false → is_sync (action_in config waited task x) ≡ false
    sync-by task waited n = go task
      where
        of_line : (h : Bool) → is_sync (cond h Holding (action_by (reading config x.line))) ≡ false
        of_line true = refl
        of_line false = n

        go : (task : Option Task) → is_sync (action_in config waited task x) ≡ false
        go (Some (Store key outcome)) = refl
        go (Some (Deliver c outcome)) = refl
        go (Some (RunAgain c)) = grind (arith, nat_tests)
        go (Some (RunHeld c)) = of_line x.held
        go (Some (RunLines c)) = of_line x.held
        go None = of_line x.held

    -- two right steps of one task answer alike
    pub answers-alike : is_of_conn task ≡ true → AnswersAlike config x y
    answers-alike o =
        record {
          conn = conns-same o;
          line = lines-same;
          load = loads_sent-same;
          accepted = sym (option_map-some x.accepted) ∙ parts-same ∙ option_map-some y.accepted;
          reply = λ n. answers-same (sync-by task (option_map_or (λ c. c.waited) (connection_in x.conn s) 0) n);
        }

    -- ---- the situations then

    covers-same : covering_of px.effect ≡ covering_of py.effect
    covers-same =
        elim (cases_Bool (is_sync px.effect.action)) [
          | inl is ↦ sync-covers px.effect px.effect.action is ∙ sym (sync-covers py.effect py.effect.action (ap is_sync (sym actions-same) ∙ is))
          | inr is ↦ ap (λ a. covering_of (record px.effect { action = a })) actions-same ∙ ap (λ r. covering_of (record px.effect { action = py.effect.action; reply = r })) (answers-same is)
        ]

    drops-same : drops px.effect ≡ drops py.effect
    drops-same =
        elim (cases_Bool (is_sync px.effect.action)) [
          | inl is ↦ sync-drops px.effect px.effect.action is ∙ sym (sync-drops py.effect py.effect.action (ap is_sync (sym actions-same) ∙ is))
          | inr is ↦ ap (λ a. drops (record px.effect { action = a })) actions-same ∙ ap (λ r. drops (record px.effect { action = py.effect.action; reply = r })) (answers-same is)
        ]

    -- the values held then in the other situation
    abbrev pub gs-after : List HeldValue
    gs-after = all_held_after second s.latest gs (deed_of py.effect) py.effect.notes

    -- which differs in nothing else
    pub after-same : after_step second (with_held gs s) task y py.effect ≡ with_held gs-after (after_step config s task x px.effect)
    after-same =
        sym (connections-same x y px.effect py.effect (record s { held = gs-after; dropped = s.dropped || drops py.effect }) lines-same actions-same replied-same loads_sent-same task conns-same)
        ∙ ap (λ b. with_connection_after task x px.effect (record s { held = gs-after; dropped = s.dropped || b })) (sym drops-same)
        ∙ connections-held task x px.effect (record s { held = all_held_after config s.latest s.held (deed_of px.effect) px.effect.notes; dropped = s.dropped || drops px.effect }) gs-after

    living-same : (key : List ℕ) (before : Option Living) → living_after config s.latest key (deed_of px.effect) before ≡ living_after second s.latest key (deed_of py.effect) before
    living-same key before =
        ap (λ a. accepted_by config s.latest key px.effect.value (left_by config s.latest (is_this key (key_deleted a)) (covers_key key (covering_of px.effect)) (is_this key (key_used a)) before)) actions-same
        ∙ ap (λ c. accepted_by config s.latest key px.effect.value (left_by config s.latest (is_this key (key_deleted py.effect.action)) (covers_key key c) (is_this key (key_used py.effect.action)) before)) covers-same
        ∙ ap (λ o. accepted_by config s.latest key (value_from config s.latest o (option_map (λ a. a.part) x.accepted)) rest) offers
        ∙ living-accepted config capacity policy parts accepts s.latest key (offer_of second py.seen py.effect.action) (option_map (λ a. a.part) x.accepted) (option_map (λ a. a.part) y.accepted) rest parts-same
      where
        rest : Option Living
        rest = left_by config s.latest (is_this key (key_deleted py.effect.action)) (covers_key key (covering_of py.effect)) (is_this key (key_used py.effect.action)) before

    -- and in which the same is live
    pub twin-after : none_with_size x.notices ≡ true → none_with_size y.notices ≡ true → Twin (after_step config s task x px.effect) gs-after
    twin-after sizeless sizeless_too =
        let next = after_step config s task x px.effect in
        record {
          orderly = orderly_stays.step config s task x twin.orderly right;
          orderly_too = orderly_stays.deed second s.latest gs (deed_of py.effect) y.notices twin.orderly_too of_y.told;
          same_live = λ key.
              ap (λ n. lasting config n next.held key) (latest-stepped config s task x px.effect)
              ∙ ap (λ hs. lasting config s.latest hs key) (held-stepped config s task x px.effect)
              ∙ lasting-deed config s.latest key s.held (deed_of px.effect) x.notices of_x.told sizeless
              (fresh-deed config px.seen (option_map (λ a. a.part) x.accepted) px.effect refl) (held-pairs config s.held twin.orderly)
              ∙ ap (living_after config s.latest key (deed_of px.effect)) (twin.same_live key)
              ∙ living-same key (lasting config s.latest gs key)
              ∙ sym (lasting-deed second s.latest key gs (deed_of py.effect) y.notices of_y.told sizeless_too
              (fresh-deed second py.seen (option_map (λ a. a.part) y.accepted) py.effect refl) (held-pairs second gs twin.orderly_too))
              ∙ sym (ap (λ n. lasting config n gs-after key) (latest-stepped config s task x px.effect));
        }
