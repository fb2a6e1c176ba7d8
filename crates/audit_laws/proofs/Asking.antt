-- A step of `HAS` or `KEYS` changes nothing but its own connection, and what `KEYS` answers.
use Rattle.std.proofs.Common.{arith, ◌≡◌, refl, ap, ◌∙◌, sym, subst, ℕ, Bool, true, false, true≢false, not, ◌&&◌, ◌||◌, List, [], ◌∷◌, map, Option, Some, None}
use Rattle.std.specs.Prelude.{codes}
use Rattle.std.specs.Option.{option_map, option_map_or, option_eq}
use Rattle.std.proofs.Math.Bool.{or-false}
use Rattle.std.proofs.lemmas.List.{append-nil, map-id}
use Rattle.audit_model.specs.Bytewise.{same, is_empty, text_line}
use Rattle.audit_model.specs.Changes.{held_after, all_held_after, connection_after, join_load, with_connection_after, after_step}
use Rattle.audit_model.specs.Commands.{deed_of, drops, quits}
use Rattle.audit_model.specs.Follows.{placed_step_in}
use Rattle.audit_model.specs.History.{Action, Effect, Running, Value}
use Rattle.audit_model.specs.Notes.{is_over, is_silent}
use Rattle.audit_model.specs.Replies.{offer_of, value_from, reply_of, may_refuse, is_reply, keys_listed}
use Rattle.audit_model.specs.Situation.{Situation, HeldValue, connection_in, with_connection, view_in}
use Rattle.audit_model.specs.Steps.{Task, Store, Deliver, RunAgain, RunHeld, RunLines, action_in}
use Rattle.audit_model.specs.View.{View}
use Rattle.audit_model.specs.declared.command.Command.TheVariants as says
use Rattle.audit_model.specs.declared.config.Config.{Config}
use Rattle.audit_model.specs.declared.transcript.Note.{Note}
use Rattle.audit_model.specs.declared.transcript.Step.{Step}
use Rattle.audit_laws.specs.Orderly.{IsOrderly, idle_deed, is_asking}
use Rattle.audit_laws.specs.Laws.{AskingChangesNothing, IdleKeeps, KeysAnswer}
use Rattle.audit_laws.proofs.Told.{each-more, each_passing, map-same}
use Rattle.audit_laws.proofs.Changes.{is_of_conn, of_conn-connection}
use Rattle.audit_laws.proofs.PlacedStepsAgree.{parts-of}
use Rattle.audit_laws.proofs.Rightly.{line-due}
use Rattle.audit_laws.proofs.KeysListed.{keys-rise, keys-live}
use Rattle.audit_laws.proofs.StaysOrderly.{held-pairs}

-- ---- a step that does nothing to values

marked_already : (o e : Bool) → (not o || e) ≡ true → (o || e) ≡ e
marked_already o e h = grind (arith, h)

idle-held : (config : Config) (now : ℕ) (held : List HeldValue) (values : List Value) (h : HeldValue) → (not (is_over config h.value.part values) || h.evictable) ≡ true
    → held_after config now held idle_deed [] values h ≡ h
idle-held config now held values h marked =
    ap (λ b. record { value = h.value; last_use = h.last_use; covered = b; evictable = is_over config h.value.part values || h.evictable }) (or-false h.covered)
    ∙ ap (λ b. record h { evictable = b }) (marked_already (is_over config h.value.part values) h.evictable marked)

-- the values held stay as they are
pub idle_keeps : IdleKeeps
idle_keeps config now held orderly =
    ap (λ hs. map (held_after config now held idle_deed [] (map (λ h. h.value) hs)) hs) (append-nil held)
    ∙ map-same (held_after config now held idle_deed [] (map (λ h. h.value) held)) (λ h. h) held
    (each-more _ _ held (idle-held config now held (map (λ h. h.value) held)) (each_passing (λ h. not (is_over config h.value.part (map (λ k. k.value) held)) || h.evictable) held orderly.marked))
    ∙ map-id held

-- ---- what asking does

record Idle (effect : Effect) : Type 0 where
  deed : deed_of effect ≡ idle_deed
  drops_none : drops effect ≡ false
  stays : quits effect ≡ false
  joins : (conn : ℕ) (s : Situation) → join_load conn effect s ≡ s

idle-by : (effect : Effect) (action : Action) → is_asking action ≡ true → Idle (record effect { action = action; value = None })
idle-by effect (Running (says.Has key)) e = record { deed = refl; drops_none = refl; stays = refl; joins = λ conn s. refl }
idle-by effect (Running says.Keys) e = record { deed = refl; drops_none = refl; stays = refl; joins = λ conn s. refl }
idle-by effect (Running command) e = absurd (true≢false (sym e))
idle-by effect action e = absurd (true≢false (sym e))

idle-of : (effect : Effect) → is_asking effect.action ≡ true → effect.value ≡ None → Idle effect
idle-of effect asks none = subst (λ v. Idle (record effect { value = v })) (sym none) (idle-by effect effect.action asks)

no_offer : (config : Config) (now : ℕ) (part : Option ℕ) → value_from config now None part ≡ None
no_offer config now None = refl
no_offer config now (Some part) = refl

no_value : (config : Config) (seen : View) (action : Action) (part : Option ℕ) → is_asking action ≡ true → value_from config seen.now (offer_of config seen action) part ≡ None
no_value config seen (Running (says.Has key)) part e = no_offer config seen.now part
no_value config seen (Running says.Keys) part e = no_offer config seen.now part
no_value config seen (Running command) part e = absurd (true≢false (sym e))
no_value config seen action part e = absurd (true≢false (sym e))

no_notes : (action : Action) (notes : List Note) → is_asking action ≡ true → (not (is_silent action) || is_empty notes) ≡ true → notes ≡ []
no_notes action [] e q = refl
no_notes (Running (says.Has key)) (note ∷ notes) e q = absurd (true≢false (sym q))
no_notes (Running says.Keys) (note ∷ notes) e q = absurd (true≢false (sym q))
no_notes (Running command) (note ∷ notes) e q = absurd (true≢false (sym e))
no_notes action (note ∷ notes) e q = absurd (true≢false (sym e))

asks_lines : (config : Config) (waited : ℕ) (task : Option Task) (step : Step) → is_asking (action_in config waited task step) ≡ true → is_of_conn task ≡ true
asks_lines config waited (Some (Store key outcome)) step e = absurd (true≢false (sym e))
asks_lines config waited (Some (Deliver conn outcome)) step e = refl
asks_lines config waited (Some (RunAgain conn)) step e = refl
asks_lines config waited (Some (RunHeld conn)) step e = refl
asks_lines config waited (Some (RunLines conn)) step e = refl
asks_lines config waited None step e = refl

idle-step : (config : Config) (s : Situation) (task : Option Task) (step : Step) (effect : Effect) → IsOrderly config s.held → is_of_conn task ≡ true → Idle effect → effect.notes ≡ []
    → after_step config s task step effect ≡ option_map_or (λ c. with_connection false (connection_after task step effect c) s) (connection_in step.conn s) s
idle-step config s task step effect orderly lines idle silent =
    ap (λ d. with_connection_after task step effect (record s { held = all_held_after config s.latest s.held d effect.notes; dropped = s.dropped || drops effect })) idle.deed
    ∙ ap (λ ns. with_connection_after task step effect (record s { held = all_held_after config s.latest s.held idle_deed ns; dropped = s.dropped || drops effect })) silent
    ∙ ap (λ hs. with_connection_after task step effect (record s { held = hs; dropped = s.dropped || drops effect })) (idle_keeps config s.latest s.held orderly)
    ∙ ap (λ b. with_connection_after task step effect (record s { dropped = b })) (ap (λ b. s.dropped || b) idle.drops_none ∙ or-false s.dropped)
    ∙ of_conn-connection task step effect s lines
    ∙ ap (λ b. option_map_or (λ c. with_connection b (connection_after task step effect c) (join_load step.conn effect s)) (connection_in step.conn s) s) idle.stays
    ∙ ap (λ u. option_map_or (λ c. with_connection false (connection_after task step effect c) u) (connection_in step.conn s) s) (idle.joins step.conn s)

pub asking_changes_nothing : AskingChangesNothing
asking_changes_nothing config s task step orderly right asks =
    let placed = placed_step_in config s task step in
    idle-step config s task step placed.effect orderly (asks_lines config (option_map_or (λ c. c.waited) (connection_in step.conn s) 0) task step asks)
    (idle-of placed.effect asks (no_value config (view_in config s) placed.effect.action (option_map (λ a. a.part) step.accepted) asks))
    (no_notes placed.effect.action step.notices asks (parts-of config placed right).quiet)

-- ---- what `KEYS` answers

keys-reply : (config : Config) (seen : View) (held : List Value) (effect : Effect) → effect.action ≡ Running says.Keys → is_reply config seen effect held ≡ true → effect.reply ≡ Some (keys_listed seen.live_keys)
keys-reply config seen held effect e r =
    line-due effect.reply (keys_listed seen.live_keys)
    (sym (or-false _) ∙ sym (ap (λ a. option_eq same effect.reply (reply_of config seen held a) || (may_refuse seen a && option_eq same effect.reply (Some (text_line (codes "ERR id"))))) e) ∙ r)

pub keys_answer : KeysAnswer
keys_answer config s task step orderly right keys =
    let placed = placed_step_in config s task step in
    record {
      reply = keys-reply config (view_in config s) placed.held placed.effect keys (parts-of config placed right).reply;
      rising = keys-rise config s.latest s.held (held-pairs config s.held orderly);
      live = keys-live config s.latest s.held;
    }
