-- The steps of one connection's lines are its own.
use Rattle.std.proofs.Common.{cond, refl, sym, ap, ◌∙◌, ◌≡◌, ◌≢◌, ℕ, Bool, true, false, ◌&&◌, ◌==◌, List, [], ◌∷◌, Option, Some, None, subst, inl, inr, arith, suc, ◌+◌, ◌-◌, ◌<◌, ◌≤◌, ◌++◌, length, map, is_some, ◌⊎◌}
use Rattle.std.proofs.lemmas.Bool.Decides.{nat_tests}
use Rattle.std.proofs.lemmas.Bool.{and_from, and_parts, eq-eqb, eqb-true, cases_eq, ne_eqb}
use Rattle.std.proofs.lemmas.List.{length-append}
use Rattle.std.proofs.lemmas.List.Folds.{list_all-append}
use Rattle.std.proofs.lemmas.Option.{same_Some}
use Rattle.std.specs.List.{list_all}
use Rattle.std.specs.Option.{option_map_or}
use Rattle.audit_model.specs.Bytewise.{is_empty}
use Rattle.audit_model.specs.Changes.{after_step, connection_after, join_by, join_load}
use Rattle.audit_model.specs.Commands.{quits}
use Rattle.audit_model.specs.Follows.{after_steps, placed_step_in, Follows, after_event, tasks_in}
use Rattle.audit_model.specs.History.{Effect}
use Rattle.audit_model.specs.Loads.{key_loaded}
use Rattle.audit_model.specs.Places.{due, first_due, left_after, tasks_to_feed, steps_of}
use Rattle.audit_model.specs.Situation.{Situation, may_run_in, Connection, PendingLoad, connection_in, with_connection, with_waiting, without_waiting}
use Rattle.audit_model.specs.Steps.{Deliver, PlacedStep, RunAgain, RunHeld, RunLines, Store, Task, has_right_acceptance, has_right_line, has_right_load, has_right_notes, has_right_reply, is_held_rightly, is_in_turn, is_quiet_where_silent, is_right, is_task_of, keeps_shares}
use Rattle.audit_model.specs.Stream.{is_waiting}
use Rattle.audit_model.specs.declared.config.Config.{Config}
use Rattle.audit_model.specs.declared.event.Event.{Event}
use Rattle.audit_model.specs.declared.input.LoadId.{LoadId}
use Rattle.audit_model.specs.declared.transcript.Record.{Record}
use Rattle.audit_model.specs.declared.transcript.Step.{Step}
use Rattle.audit_laws.proofs.Following.{Passed, passed}
use Rattle.audit_laws.proofs.waiting.Keys.{Sends, sends-right}
use Rattle.cache_commands.specs.Values.{Values}
use Rattle.cache_commands.specs.Loads.Keys.{agrees_on, are_in_turn, has_its_key, have_their_keys}
use Rattle.cache_commands.specs.Loads.Pending.{SameTaken, load_numbered, outgoing_loads}
use Rattle.cache_lines.specs.Tape.Taped.{Taped}
use Rattle.cache_lines.specs.declared.base.Base.{Base}
use Rattle.cache_core.specs.Connections.Presence.{Presence}
use Rattle.cache_core.specs.State.{NamespaceState, StateStandsFor, state_of}
use Rattle.cache_core.specs.Turned.{own_steps, SendsBehind, Turned, is_sent}
use Rattle.audit_model.specs.declared.event.Event.TheVariants as event

-- the task is to run that connection's lines
abbrev is_line_of : ℕ → Task → Bool
is_line_of n (Store key outcome) = false
is_line_of n (Deliver conn outcome) = false
is_line_of n (RunAgain conn) = false
is_line_of n (RunHeld conn) = conn == n
is_line_of n (RunLines conn) = conn == n

-- a step in its turn is that connection's
own : (n conn : ℕ) (task : Task) → is_line_of n task ≡ true → is_task_of conn (Some task) ≡ true → (conn == n) ≡ true
own n conn (Store key outcome) of turn = let no : false ≡ true = of in cc
own n conn (Deliver c outcome) of turn = let no : false ≡ true = of in cc
own n conn (RunAgain c) of turn = let no : false ≡ true = of in cc
own n conn (RunHeld c) of turn = eq-eqb conn n (sym (eqb-true c conn turn) ∙ eqb-true c n of)
own n conn (RunLines c) of turn = eq-eqb conn n (sym (eqb-true c conn turn) ∙ eqb-true c n of)

due-of : (n : ℕ) (may : ℕ → Bool) (tasks : List Task) → list_all (is_line_of n) tasks ≡ true → list_all (is_line_of n) (due may tasks) ≡ true
due-of n may [] of = refl
due-of n may (Store key outcome ∷ tasks) of = of
due-of n may (Deliver conn outcome ∷ tasks) of = of
due-of n may (RunAgain conn ∷ tasks) of = of
due-of n may (RunHeld conn ∷ tasks) of = of
due-of n may (RunLines conn ∷ tasks) of = let next = due-of n may tasks (and_parts (conn == n) (list_all (is_line_of n) tasks) of).1 in grind (arith, next)

left-of : (n : ℕ) (tasks : List Task) → list_all (is_line_of n) tasks ≡ true → list_all (is_line_of n) (left_after tasks) ≡ true
left-of n [] of = refl
left-of n (Store key outcome ∷ tasks) of = let no : false ≡ true = of in cc
left-of n (Deliver conn outcome ∷ tasks) of = let no : false ≡ true = of in cc
left-of n (RunAgain conn ∷ tasks) of = let no : false ≡ true = of in cc
left-of n (RunHeld conn ∷ tasks) of = (and_parts (conn == n) (list_all (is_line_of n) tasks) of).1
left-of n (RunLines conn ∷ tasks) of = of

first-own : (n conn : ℕ) (tasks : List Task) → list_all (is_line_of n) tasks ≡ true → is_task_of conn (first_due tasks) ≡ true → (conn == n) ≡ true
first-own n conn [] of turn = let no : false ≡ true = turn in cc
first-own n conn (task ∷ tasks) of turn = own n conn task (and_parts (is_line_of n task) (list_all (is_line_of n) tasks) of).0 turn

-- what is right is in its turn
in-turn : (config : Config) (placed : PlacedStep) → is_right config placed ≡ true → is_in_turn placed ≡ true
in-turn config placed right =
    (and_parts (is_in_turn placed) (is_held_rightly placed)
    (and_parts _ (has_right_line placed)
    (and_parts _ (has_right_reply config placed)
    (and_parts _ (has_right_load placed)
    (and_parts _ (has_right_acceptance config placed)
    (and_parts _ (has_right_notes config placed)
    (and_parts _ (is_quiet_where_silent placed)
    (and_parts _ (keeps_shares config placed) right).0).0).0).0).0).0).0).0

pub all-own : (config : Config) (n : ℕ) (s : Situation) (tasks : List Task) (steps : List Step) (t : Situation) → list_all (is_line_of n) tasks ≡ true → after_steps config s tasks steps ≡ Some t
    → list_all (λ step. step.conn == n) steps ≡ true
all-own config n s tasks [] t of after = refl
all-own config n s tasks (step ∷ steps) t of after =
    let now_due = due (may_run_in s) tasks in
    let placed = placed_step_in config s (first_due now_due) step in
    let next = after_step config s placed.task step placed.effect in
    let both = passed (is_right config placed) (after_steps config next (left_after now_due) steps) t after in
    let of_due = due-of n (may_run_in s) tasks of in
    and_from (step.conn == n) (list_all (λ (x : Step). x.conn == n) steps) (first-own n step.conn now_due of_due (in-turn config placed both.test)) (all-own config n next (left_after now_due) steps t (left-of n now_due of_due) both.rest)

-- to feed a connection is to run its lines
pub feed-own : (n : ℕ) (holds : Bool) → list_all (is_line_of n) (tasks_to_feed n holds) ≡ true
feed-own n true = let h = eq-eqb n n refl in and_from (n == n) ((n == n) && true) h (and_from (n == n) true h refl)
feed-own n false = and_from (n == n) true (eq-eqb n n refl) refl

-- so they are all of them
pub own-all : (n : ℕ) (steps : List Step) → list_all (λ step. step.conn == n) steps ≡ true → own_steps n steps ≡ steps
own-all n [] e = refl
own-all n (step ∷ steps) e =
    let both = and_parts (step.conn == n) (list_all (λ (x : Step). x.conn == n) steps) e in
    ap (λ b. cond b (step ∷ own_steps n steps) (own_steps n steps)) both.0 ∙ ap (λ xs. step ∷ xs) (own-all n steps both.1)

-- and none of another
pub own-none : (n k : ℕ) (steps : List Step) → list_all (λ step. step.conn == n) steps ≡ true → k ≢ n → own_steps k steps ≡ []
own-none n k [] e ne = refl
own-none n k (step ∷ steps) e ne =
    let both = and_parts (step.conn == n) (list_all (λ (x : Step). x.conn == n) steps) e in
    ap (λ b. cond b (step ∷ own_steps k steps) (own_steps k steps)) (other (eqb-true step.conn n both.0)) ∙ own-none n k steps both.1 ne
  where
    other : step.conn ≡ n → (step.conn == k) ≡ false
    other is = grind (arith, nat_tests)

-- The loads that an event sends.

-- ---- loads that change, but for their numbers

found-mapped : (f : PendingLoad → PendingLoad) → ((load : PendingLoad) → (f load).number ≡ load.number) → (n : ℕ) (loads : List PendingLoad)
    → is_some (load_numbered n (map f loads)) ≡ is_some (load_numbered n loads)
found-mapped f numbers n [] = refl
found-mapped f numbers n (load ∷ loads) =
    ap (λ m. is_some (cond (m == n) (Some (f load)) (load_numbered n (map f loads)))) (numbers load) ∙ (let next = found-mapped f numbers n loads in grind (arith, next))

waiting-number : (conn : ℕ) (key : List ℕ) (load : PendingLoad) → (with_waiting conn key load).number ≡ load.number
waiting-number conn key load = grind arith

-- ---- those that were sent since are under way

abbrev AreOut : ℕ → Situation → Type 0
AreOut before s = (n : ℕ) → before < n → n ≤ s.sent → is_some (load_numbered n s.pending) ≡ true

out-mapped : (before : ℕ) (f : PendingLoad → PendingLoad) → ((load : PendingLoad) → (f load).number ≡ load.number) → (s : Situation) → AreOut before s → AreOut before (record s { pending = map f s.pending })
out-mapped before f numbers s out n lt le = found-mapped f numbers n s.pending ∙ out n lt le

out-sent : (before : ℕ) (load : PendingLoad) (s : Situation) → load.number ≡ suc s.sent → AreOut before s → AreOut before (record s { sent = suc s.sent; pending = load ∷ s.pending })
out-sent before load s number out n lt le = go (cases_eq load.number n)
  where
    no_later : (n k : ℕ) → suc k ≢ n → n ≤ suc k → n ≤ k
    no_later n k ne le = elim (cases_eq (suc k) n) [ inl e ↦ absurd (ne e) | inr apart ↦ grind (arith, apart, le) ]

    go : (load.number ≡ n) ⊎ (load.number ≢ n) → is_some (cond (load.number == n) (Some load) (load_numbered n s.pending)) ≡ true
    go (inl e) = ap (λ b. is_some (cond b (Some load) (load_numbered n s.pending))) (eq-eqb load.number n e)
    go (inr ne) = ap (λ b. is_some (cond b (Some load) (load_numbered n s.pending))) (ne_eqb load.number n ne) ∙ out n lt (no_later n s.sent (subst (λ k. k ≢ n) number ne) le)

out-join : (before conn : ℕ) (waits : Bool) (of : Option (List ℕ)) (load : Option ℕ) (s : Situation) → Sends of load s.sent → AreOut before s → AreOut before (join_by conn waits of load s)
out-join before conn waits None load s sends out = out
out-join before conn waits (Some key) (Some number) s sends out = out-sent before (record { number = number; key = key; waiting = conn ∷ [] }) s sends out
out-join before conn true (Some key) None s sends out = out-mapped before (with_waiting conn key) (waiting-number conn key) s out
out-join before conn false (Some key) None s sends out = out

out-put : (before : ℕ) (quits : Bool) (k : Connection) (s : Situation) → AreOut before s → AreOut before (with_connection quits k s)
out-put before quits k s out n lt le =
    let found = found-mapped (without_waiting k.number) (λ load. refl) n s.pending in
    let there = out n lt le in
    grind (arith, found, there)

out-own : (before : ℕ) (task : Option Task) (step : Step) (effect : Effect) (s : Situation) → Sends (key_loaded effect.action) effect.load s.sent → AreOut before s → (o : Option Connection)
    → AreOut before (option_map_or (λ c. with_connection (quits effect) (connection_after task step effect c) (join_load step.conn effect s)) o s)
out-own before task step effect s sends out None = out
out-own before task step effect s sends out (Some c) =
    out-put before (quits effect) (connection_after task step effect c) (join_load step.conn effect s) (out-join before step.conn (is_waiting effect) (key_loaded effect.action) effect.load s sends out)

out-step : (config : Config) (before : ℕ) (s : Situation) (task : Option Task) (step : Step) (effect : Effect) → Sends (key_loaded effect.action) effect.load s.sent → AreOut before s → AreOut before (after_step config s task step effect)
out-step config before s (Some (Store of outcome)) step effect sends out = out
out-step config before s task step effect sends out = out-own before task step effect _ sends out (connection_in step.conn s)

out-steps : (config : Config) (before : ℕ) (steps : List Step) (s t : Situation) (tasks : List Task) → after_steps config s tasks steps ≡ Some t → AreOut before s → AreOut before t
out-steps config before [] s t tasks e out = subst (AreOut before) (same_Some s t (passed (is_empty (due (may_run_in s) tasks)) (Some s) t e).rest) out
out-steps config before (x ∷ steps) s t tasks e out =
    let now_due = due (may_run_in s) tasks in
    let placed = placed_step_in config s (first_due now_due) x in
    let next = after_step config s placed.task x placed.effect in
    let on : Passed (is_right config placed) (after_steps config next (left_after now_due) steps) t = passed (is_right config placed) (after_steps config next (left_after now_due) steps) t e in
    out-steps config before steps next t (left_after now_due) on.rest (out-step config before s (first_due now_due) x placed.effect (sends-right config s (first_due now_due) x on.test) out)

event-sends : (happened : Event) (s : Situation) → (after_event happened s).sent ≡ s.sent
event-sends (event.Open conn) s = refl
event-sends (event.Close conn) s = refl
event-sends (event.Feed conn piece moment) s = go _ (connection_in conn s)
  where
    go : (t : Situation) (o : Option Connection) → (option_map_or (λ c. with_connection false (record c { unread = c.unread ++ piece }) t) o t).sent ≡ t.sent
    go t None = refl
    go t (Some c) = refl
event-sends (event.Answer load outcome moment) s = refl
event-sends (event.GiveUp load moment) s = refl

record-sends : (config : Config) (s t : Situation) (entry : Record) → Follows config s entry t → AreOut s.sent t
record-sends config s t entry e =
    out-steps config s.sent (steps_of entry) (after_event entry.event s) t (tasks_in s entry.event) (passed _ (after_steps config (after_event entry.event s) (tasks_in s entry.event) (steps_of entry)) t e).rest
    (λ n lt le. let same_is = event-sends entry.event s in absurd (omega (arith, lt, le, same_is)))

-- ---- those that go out

turn-behind : (ns before : ℕ) (xs ys : List (LoadId × List ℕ)) → are_in_turn ns before (xs ++ ys) ≡ true → are_in_turn ns (before + length xs) ys ≡ true
turn-behind ns before [] ys e = let same_is : before + 0 ≡ before = omega arith in ap (λ n. are_in_turn ns n ys) same_is ∙ e
turn-behind ns before (x ∷ xs) ys e =
    let parts = and_parts (x.0.namespace == ns) ((x.0.number == suc before) && are_in_turn ns (suc before) (xs ++ ys)) e in
    let rest = and_parts (x.0.number == suc before) (are_in_turn ns (suc before) (xs ++ ys)) parts.1 in
    let same_is : before + length (x ∷ xs) ≡ suc before + length xs = omega arith in
    ap (λ n. are_in_turn ns n ys) same_is ∙ turn-behind ns (suc before) xs ys rest.1

keys-behind : (pending : List PendingLoad) (xs ys : List (LoadId × List ℕ)) → have_their_keys pending (xs ++ ys) ≡ true → have_their_keys pending ys ≡ true
keys-behind pending xs ys e = (and_parts (have_their_keys pending xs) (have_their_keys pending ys) (sym (list_all-append (has_its_key pending) xs ys) ∙ e)).1

-- what is under way has its key
found-key : (out : LoadId × List ℕ) (pending : List PendingLoad) → is_some (load_numbered out.0.number pending) ≡ true → has_its_key pending out ≡ true → is_sent pending out ≡ true
found-key out [] found keyed = found
found-key out (load ∷ pending) found keyed =
    let parts = and_parts (agrees_on out load) (has_its_key pending out) keyed in
    let next = λ (h : is_some (load_numbered out.0.number pending) ≡ true). found-key out pending h parts.1 in
    grind (arith, next, parts)

all-sent : (ns before top : ℕ) (pending : List PendingLoad) (outs : List (LoadId × List ℕ)) → ((n : ℕ) → before < n → n ≤ top → is_some (load_numbered n pending) ≡ true)
    → are_in_turn ns before outs ≡ true → before + length outs ≤ top → have_their_keys pending outs ≡ true → list_all (is_sent pending) outs ≡ true
all-sent ns before top pending [] found turn few keyed = refl
all-sent ns before top pending (out ∷ outs) found turn few keyed =
    let parts = and_parts (out.0.namespace == ns) ((out.0.number == suc before) && are_in_turn ns (suc before) outs) turn in
    let rest = and_parts (out.0.number == suc before) (are_in_turn ns (suc before) outs) parts.1 in
    let number = eqb-true out.0.number (suc before) rest.0 in
    let keys = and_parts (has_its_key pending out) (have_their_keys pending outs) keyed in
    and_from (is_sent pending out) (list_all (is_sent pending) outs) (found-key out pending (found out.0.number (omega (arith, number)) (omega (arith, number, few))) keys.0)
    (all-sent ns (suc before) top pending outs (λ n lt le. found n (omega (arith, lt)) le) rest.1 (omega (arith, few)) keys.1)

-- ---- an event

module _ {S T : Type 0} (view : S → Values) (tape : T → Option Taped) (base new_base : Base S T) (latest next : ℕ) (cs ds : List Presence) where
  abbrev was : NamespaceState S T
  was = state_of base latest cs

  abbrev is : NamespaceState S T
  is = state_of new_base next ds

  pub sends-behind : (s : Situation) (entry : Record) → StateStandsFor view was s → Turned view tape was is s entry → SameTaken base.loads new_base.loads → SendsBehind was is
  sends-behind s entry st turned goes =
      let new = new_base.loads in
      let outs = outgoing_loads base.loads in
      let counted : length (outgoing_loads new) ≡ length outs + length goes.more = ap length goes.behind ∙ length-append outs goes.more in
      let taken = goes.taken in
      let count : is.sent ≡ was.sent + length goes.more = omega (arith, counted, taken, base.loads.fewer, new.fewer) in
      let from : (was.sent - length outs) + length outs ≡ was.sent = omega (arith, base.loads.fewer) in
      let whole : are_in_turn was.namespace (was.sent - length outs) (outs ++ goes.more) ≡ true =
      ap (λ l. are_in_turn was.namespace (was.sent - length outs) l) (sym goes.behind) ∙ ap (λ n. are_in_turn was.namespace n (outgoing_loads new)) (sym taken) ∙ ap (λ ns. are_in_turn ns (is.sent - length (outgoing_loads new)) (outgoing_loads new)) (sym goes.namespace) ∙ new.in_turn in
      let turn : are_in_turn was.namespace was.sent goes.more ≡ true =
      ap (λ n. are_in_turn was.namespace n goes.more) (sym from) ∙ turn-behind was.namespace (was.sent - length outs) outs goes.more whole in
      let keyed : have_their_keys is.pending goes.more ≡ true = keys-behind is.pending outs goes.more (ap (have_their_keys is.pending) (sym goes.behind) ∙ new.keyed) in
      let before : s.sent ≡ was.sent = ap (λ (u : Situation). u.sent) st.is in
      let found : (n : ℕ) → was.sent < n → n ≤ is.sent → is_some (load_numbered n is.pending) ≡ true =
      λ n lt le. ap (λ (u : Situation). is_some (load_numbered n u.pending)) (sym turned.stands.is)
      ∙ record-sends (view was.store).frame.config s turned.next entry turned.follows n (subst (λ k. k < n) (sym before) lt) (subst (λ (u : Situation). n ≤ u.sent) (sym turned.stands.is) le) in
      record {
        loads = goes.more;
        behind = goes.behind;
        in_turn = turn;
        count = count;
        keys = all-sent was.namespace was.sent is.sent is.pending goes.more found turn (omega (arith, count)) keyed;
      }
