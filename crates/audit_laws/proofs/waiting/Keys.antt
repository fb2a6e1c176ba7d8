-- The keys of loads under way.
use Rattle.std.proofs.Common.{inr, inl, ◌≡◌, ℕ, suc, Bool, true, false, not, ◌||◌, ◌==◌, List, [], ◌∷◌, ◌++◌, map, Option, Some, None, is_some, refl, subst, arith}
use Rattle.std.specs.Prelude.{is_none, nat_eq}
use Rattle.std.specs.List.{filter, find}
use Rattle.std.specs.Option.{option_eq, option_map, option_map_or}
use Rattle.std.proofs.lemmas.Bool.{cases_Bool, cond_both, and_parts}
use Rattle.audit_model.specs.Belongs.{refusal_of}
use Rattle.audit_model.specs.Bytewise.{same}
use Rattle.audit_model.specs.Changes.{after_step, connection_after, join_by, join_load}
use Rattle.audit_model.specs.Commands.{quits}
use Rattle.audit_model.specs.Follows.{Follows, after_event, after_steps, known_in, placed_step_in, tasks_in}
use Rattle.audit_model.specs.History.{Action, Effect, Running}
use Rattle.audit_model.specs.Loads.{key_loaded}
use Rattle.audit_model.specs.Places.{due, first_due, left_after, steps_of}
use Rattle.audit_model.specs.Replies.{load_sent_by}
use Rattle.audit_model.specs.Situation.{Situation, Connection, PendingLoad, connection_in, is_overlong, pending_key, may_run_in, view_in, with_connection, with_waiting, without_waiting}
use Rattle.audit_model.specs.Steps.{Task, Store, is_right}
use Rattle.audit_model.specs.Stream.{is_waiting}
use Rattle.audit_model.specs.View.{View}
use Rattle.audit_model.specs.declared.command.Command.TheVariants as says
use Rattle.audit_model.specs.declared.config.Config.{Config}
use Rattle.audit_model.specs.declared.event.Event.{Event}
use Rattle.audit_model.specs.declared.event.Event.TheVariants as event
use Rattle.audit_model.specs.declared.event.Instant.{Instant}
use Rattle.audit_model.specs.declared.event.Outcome.{Outcome}
use Rattle.audit_model.specs.declared.transcript.Record.{Record}
use Rattle.audit_model.specs.declared.transcript.Step.{Step}
use Rattle.audit_laws.specs.Waiting.Keys.{HasKey, IsKnown}
use Rattle.std.proofs.lemmas.Bool.Decides.{nat_tests}
use Rattle.audit_laws.proofs.Following.{passed}

-- ---- loads

keys-filter : (n : ℕ) (key : List ℕ) (p : PendingLoad → Bool) (loads : List PendingLoad) → HasKey n key loads → HasKey n key (filter p loads)
keys-filter n key p [] has = tt
keys-filter n key p (load ∷ loads) has = let next = keys-filter n key p loads has.1 in grind (arith, nat_tests, next)

keys-without : (n : ℕ) (key : List ℕ) (conn : ℕ) (loads : List PendingLoad) → HasKey n key loads → HasKey n key (map (without_waiting conn) loads)
keys-without n key conn [] has = tt
keys-without n key conn (load ∷ loads) has = (has.0, keys-without n key conn loads has.1)

keys-joined : (n : ℕ) (key : List ℕ) (conn : ℕ) (of : List ℕ) (loads : List PendingLoad) → HasKey n key loads → HasKey n key (map (with_waiting conn of) loads)
keys-joined n key conn of [] has = tt
keys-joined n key conn of (load ∷ loads) has = ((elim (cases_Bool (same load.key of)) [ inl e ↦ rw e has.0 | inr e ↦ rw e has.0 ]), keys-joined n key conn of loads has.1)

-- ---- a step

-- a load that is sent has the next number
abbrev pub Sends : Option (List ℕ) → Option ℕ → ℕ → Type 0
Sends (Some key) (Some number) sent = number ≡ suc sent
Sends key load sent = Unit {0}

sends-by : (seen : View) (sent : ℕ) (action : Action) (load : Option ℕ) → seen.next_load ≡ suc sent → option_eq nat_eq load (load_sent_by seen action) ≡ true → Sends (key_loaded action) load sent
sends-by seen sent (Running (says.Load key)) (Some m) next e = grind (arith, nat_tests, e)
sends-by seen sent (Running (says.Load key)) None next e = tt
sends-by seen sent (Running command) load next e = tt
sends-by seen sent action load next e = tt

pub sends-right : (config : Config) (s : Situation) (task : Option Task) (step : Step) → is_right config (placed_step_in config s task step) ≡ true → Sends (key_loaded (placed_step_in config s task step).effect.action) step.load s.sent
sends-right config s task step right =
    let parts = and_parts _ _ (and_parts _ _ (and_parts _ _ (and_parts _ _ right).0).0).0 in
    sends-by (view_in config s) s.sent (placed_step_in config s task step).effect.action step.load refl (and_parts _ _ parts.0).1

known-join : (n : ℕ) (key : List ℕ) (conn : ℕ) (waits : Bool) (of : Option (List ℕ)) (load : Option ℕ) (s : Situation) → Sends of load s.sent → IsKnown n key s → IsKnown n key (join_by conn waits of load s)
known-join n key conn waits None load s sends known = known
known-join n key conn waits (Some of) (Some number) s sends known = let few = known.0 in (omega arith, ((λ is. absurd (omega (arith, sends, is, few))), known.1))
known-join n key conn true (Some of) None s sends known = (known.0, keys-joined n key conn of s.pending known.1)
known-join n key conn false (Some of) None s sends known = known

known-put : (n : ℕ) (key : List ℕ) (quits : Bool) (k : Connection) (s : Situation) → IsKnown n key s → IsKnown n key (with_connection quits k s)
known-put n key quits k s known = (known.0, (cond_both (quits || is_overlong k) _ _ (HasKey n key) (λ _. keys-without n key k.number s.pending known.1) (λ _. known.1)))

known-own : (n : ℕ) (key : List ℕ) (task : Option Task) (step : Step) (effect : Effect) (s : Situation) → Sends (key_loaded effect.action) effect.load s.sent → IsKnown n key s → (o : Option Connection)
    → IsKnown n key (option_map_or (λ c. with_connection (quits effect) (connection_after task step effect c) (join_load step.conn effect s)) o s)
known-own n key task step effect s sends known None = known
known-own n key task step effect s sends known (Some c) =
    known-put n key (quits effect) (connection_after task step effect c) (join_load step.conn effect s) (known-join n key step.conn (is_waiting effect) (key_loaded effect.action) effect.load s sends known)

known-step : (config : Config) (n : ℕ) (key : List ℕ) (s : Situation) (task : Option Task) (step : Step) (effect : Effect) → Sends (key_loaded effect.action) effect.load s.sent → IsKnown n key s → IsKnown n key (after_step config s task step effect)
known-step config n key s (Some (Store of outcome)) step effect sends known = known
known-step config n key s task step effect sends known = known-own n key task step effect _ sends known (connection_in step.conn s)

-- ---- the steps of a record

known-steps : (config : Config) (n : ℕ) (key : List ℕ) (s t : Situation) (tasks : List Task) (more : List Step) → IsKnown n key s → after_steps config s tasks more ≡ Some t → IsKnown n key t
known-steps config n key s t tasks [] known e = grind (arith, nat_tests, e)
known-steps config n key s t tasks (step ∷ more) known e =
    let task = first_due (due (may_run_in s) tasks) in
    let p = passed (is_right config (placed_step_in config s task step)) _ t e in
    known-steps config n key (after_step config s task step (placed_step_in config s task step).effect) t (left_after (due (may_run_in s) tasks)) more (known-step config n key s task step _ (sends-right config s task step p.test) known) p.rest

-- ---- a record

fed-known : (n : ℕ) (key piece : List ℕ) (u : Situation) → IsKnown n key u → (o : Option Connection) → IsKnown n key (option_map_or (λ c. with_connection false (record c { unread = c.unread ++ piece }) u) o u)
fed-known n key piece u known None = known
fed-known n key piece u known (Some c) = known-put n key false (record c { unread = c.unread ++ piece }) u known

known-event : (n : ℕ) (key : List ℕ) (s : Situation) (happened : Event) → IsKnown n key s → IsKnown n key (after_event happened s)
known-event n key s (event.Open c) known = known
known-event n key s (event.Close c) known = (known.0, keys-without n key c s.pending known.1)
known-event n key s (event.Feed c piece moment) known = fed-known n key piece _ known (connection_in c s)
known-event n key s (event.Answer load outcome moment) known = (known.0, keys-filter n key (λ l. not (l.number == load)) s.pending known.1)
known-event n key s (event.GiveUp load moment) known = (known.0, keys-filter n key (λ l. not (l.number == load)) s.pending known.1)

pub keeps : (config : Config) (s t : Situation) (entry : Record) (n : ℕ) (key : List ℕ) → Follows config s entry t → IsKnown n key s → IsKnown n key t
keeps config s t entry n key e known = known-steps config n key (after_event entry.event s) t (tasks_in s entry.event) (steps_of entry) (known-event n key s entry.event known) (passed _ _ _ e).rest

-- ---- a load that is settled

unrefused : (config : Config) (s t : Situation) (entry : Record) → Follows config s entry t → is_none (refusal_of config (known_in s) entry.event) ≡ true
unrefused config s t entry e = grind (arith, nat_tests, e)

own-key : (n : ℕ) (key : List ℕ) (loads : List PendingLoad) → HasKey n key loads → is_some (option_map (λ (load : PendingLoad). load.key) (find (λ load. load.number == n) loads)) ≡ true
    → option_map (λ (load : PendingLoad). load.key) (find (λ load. load.number == n) loads) ≡ Some key
own-key n key [] has e = let no : false ≡ true = e in cc
own-key n key (load ∷ loads) has e = let next = own-key n key loads has.1 in grind (arith, nat_tests, next, e)

pub answered-key : (config : Config) (s t : Situation) (entry : Record) (load : ℕ) (outcome : Outcome) (moment : Instant) (key : List ℕ) → Follows config s entry t → entry.event ≡ event.Answer load outcome moment → HasKey load key s.pending → pending_key load s ≡ Some key
answered-key config s t entry load outcome moment key e is has =
    let free = subst (λ h. is_none (refusal_of config (known_in s) h) ≡ true) is (unrefused config s t entry e) in
    own-key load key s.pending has (grind (arith, free))

pub given-up-key : (config : Config) (s t : Situation) (entry : Record) (load : ℕ) (moment : Instant) (key : List ℕ) → Follows config s entry t → entry.event ≡ event.GiveUp load moment → HasKey load key s.pending → pending_key load s ≡ Some key
given-up-key config s t entry load moment key e is has =
    let free = subst (λ h. is_none (refusal_of config (known_in s) h) ≡ true) is (unrefused config s t entry e) in
    own-key load key s.pending has (grind (arith, free))
