-- A step that is right, and who waits after it.
use Rattle.std.proofs.Common.{◌≡◌, ℕ, suc, ◌≤◌, Bool, true, false, not, ◌&&◌, ◌||◌, ◌==◌, List, [], ◌∷◌, ◌++◌, Option, Some, None, if◌then◌else◌, refl, sym, ap, ◌∙◌, subst, arith}
use Rattle.std.specs.Prelude.{codes, is_none, is_some, nat_eq}
use Rattle.std.specs.List.{find}
use Rattle.std.specs.Option.{option_eq, option_map, option_map_or}
use Rattle.std.proofs.lemmas.Bool.{and_parts, eq-eqb, eqb-true}
use Rattle.std.proofs.lemmas.Option.{same_Some}
use Rattle.audit_model.specs.Bytewise.{same, text_line}
use Rattle.audit_model.specs.Changes.{after_step, connection_after, join_by, join_load}
use Rattle.audit_model.specs.Commands.{quits}
use Rattle.audit_model.specs.Follows.{placed_step_in}
use Rattle.audit_model.specs.History.{Action, Effect, Running, Faulting, Holding, Delivering, Abandoning, Storing, Value}
use Rattle.audit_model.specs.Loads.{key_loaded}
use Rattle.audit_model.specs.Replies.{is_reply, load_sent_by, value_reply}
use Rattle.audit_model.specs.Situation.{Situation, Connection, PendingLoad, Standing, Ready, Held, Waiting, connection_in, is_holding, is_holding_in, is_ready, is_waiting_now, load_in, may_run_in, view_in, with_connection}
use Rattle.audit_model.specs.Steps.{Task, Store, Deliver, RunAgain, RunHeld, RunLines, is_right}
use Rattle.audit_model.specs.Stream.{first_line, is_held, is_waiting}
use Rattle.audit_model.specs.declared.command.Command.TheVariants as says
use Rattle.audit_model.specs.declared.config.Config.{Config}
use Rattle.audit_model.specs.declared.transcript.Step.{Step}
use Rattle.audit_laws.specs.Waiting.Tidy.{SuitsTask, Tidy, times_in, times_loaded, times_waiting, told_of_load, waits_now}
use Rattle.audit_laws.proofs.waiting.Counts.{joined-others, joined-own, loaded-joined, loaded-more, none-loaded, one_if}
use Rattle.audit_laws.proofs.waiting.Standing.{few-waits, put-tidy, wait_of}
use Rattle.std.proofs.lemmas.Bool.Decides.{nat_tests}

-- ---- what a step does to the loads

-- what joining leaves, where the connection did not wait before
pub record Joined (n : ℕ) (stands : Bool) (s t : Situation) : Type 0 where
  pub connections : t.connections ≡ s.connections
  pub others : (d : ℕ) → (n == d) ≡ false → times_waiting d t.pending ≡ times_waiting d s.pending
  pub own : times_waiting n t.pending ≤ one_if stands
  pub keys : (key : List ℕ) → times_loaded key t.pending ≤ 1

joined-none : (n : ℕ) (stands : Bool) (s : Situation) → times_waiting n s.pending ≡ 0 → ((key : List ℕ) → times_loaded key s.pending ≤ 1) → Joined n stands s s
joined-none n stands s none keys = record { connections = refl; others = λ d ne. refl; own = omega arith; keys = keys }

joined : (n : ℕ) (waits stands : Bool) (key : Option (List ℕ)) (load : Option ℕ) (s : Situation) → times_waiting n s.pending ≡ 0 → ((k : List ℕ) → times_loaded k s.pending ≤ 1) → (waits ≡ true → stands ≡ true)
    → ((number : ℕ) → load ≡ Some number → (waits ≡ true) × ((k : List ℕ) → key ≡ Some k → times_loaded k s.pending ≡ 0)) → Joined n stands s (join_by n waits key load s)
joined n waits stands None load s none keys stand sends = joined-none n stands s none keys
joined n waits stands (Some key) (Some number) s none keys stand sends =
    let sent = sends number refl in
    let is_one : one_if stands ≡ 1 = ap one_if (stand sent.0) in
    let own_is : one_if (n == n) ≡ 1 = ap one_if (eq-eqb n n refl) in
    record {
      connections = refl;
      others = λ d ne. let other : one_if (n == d) ≡ 0 = ap one_if ne in omega arith;
      own = omega arith;
      keys = λ k. loaded-more k key s.pending (sent.1 key refl) (keys k);
    }
joined n waits stands (Some key) None s none keys stand sends = go waits stand
  where
    go : (w : Bool) → (w ≡ true → stands ≡ true) → Joined n stands s (join_by n w (Some key) None s)
    go false h = joined-none n stands s none keys
    go true h =
        let is_one : one_if stands ≡ 1 = ap one_if (h refl) in
        let own_is = joined-own n key s.pending in
        let few = keys key in
        record {
          connections = refl;
          others = λ d ne. joined-others d n key s.pending ne;
          own = omega arith;
          keys = λ k. let a = loaded-joined k key n s.pending in let b = keys k in omega arith;
        }

-- a `LOAD` that waits stands so
stands-waiting : (line : List ℕ) (r h : Bool) → (r && not h) ≡ true → is_waiting_now (if h then Held line else (if r && not h then Waiting line else Ready)) ≡ true
stands-waiting line true true e = let no : false ≡ true = e in cc
stands-waiting line true false e = refl
stands-waiting line false h e = let no : false ≡ true = e in cc

-- ---- a load is sent only by a `LOAD` that waits, where none of the key is under way

reply-none : (reply : Option (List ℕ)) → (option_eq same reply None || (false && option_eq same reply (Some (text_line (codes "ERR id"))))) ≡ true → is_none reply ≡ true
reply-none None e = refl
reply-none (Some r) e = let no : false ≡ true = e in cc

none-found : (o : Option PendingLoad) → is_some (option_map (λ (load : PendingLoad). load.number) o) ≡ false → o ≡ None
none-found None e = refl
none-found (Some load) e = let no : true ≡ false = e in cc

unsent : (number : ℕ) (A : Type 0) → option_eq nat_eq (Some number) None ≡ true → A
unsent number A e = let no : false ≡ true = e in cc

sent-fact : (config : Config) (s : Situation) (held : List Value) (effect : Effect) (number : ℕ) → is_reply config (view_in config s) effect held ≡ true → option_eq nat_eq effect.load (load_sent_by (view_in config s) effect.action) ≡ true → effect.load ≡ Some number
    → (is_waiting effect ≡ true) × ((k : List ℕ) → key_loaded effect.action ≡ Some k → times_loaded k s.pending ≡ 0)
sent-fact config s held effect number replies loads sent = go effect.action replies (ap (λ l. option_eq nat_eq l (load_sent_by (view_in config s) effect.action)) (sym sent) ∙ loads)
  where
    load-fact : (key : List ℕ) (live found : Bool) → (seen : Option Value) → is_some seen ≡ live → is_some (load_in s key) ≡ found
        → (option_eq same effect.reply (option_map (λ (value : Value). value_reply value.bytes) seen) || (false && option_eq same effect.reply (Some (text_line (codes "ERR id"))))) ≡ true
        → option_eq nat_eq (Some number) (if live || found then None else Some (suc s.sent)) ≡ true
        → ((is_none effect.reply && not false) ≡ true) × ((k : List ℕ) → Some key ≡ Some k → times_loaded k s.pending ≡ 0)
    load-fact key true found seen a b r l = unsent number _ l
    load-fact key false true seen a b r l = unsent number _ l
    load-fact key false false (Some v) a b r l = let no : true ≡ false = a in cc
    load-fact key false false None a b r l =
        (ap (λ x. x && not false) (reply-none effect.reply r), λ k e. none-loaded k s.pending (subst (λ j. find (λ (load : PendingLoad). same load.key j) s.pending ≡ None) (same_Some key k e) (none-found (find (λ load. same load.key key) s.pending) b)))

    go : (a : Action) → is_reply config (view_in config s) (record effect { action = a }) held ≡ true → option_eq nat_eq (Some number) (load_sent_by (view_in config s) a) ≡ true
        → (is_waiting (record effect { action = a }) ≡ true) × ((k : List ℕ) → key_loaded a ≡ Some k → times_loaded k s.pending ≡ 0)
    go (Running (says.Load key)) r l = load-fact key _ _ ((view_in config s).live key) refl refl r l
    go (Running (says.Set key ms value)) r l = unsent number _ l
    go (Running (says.Get key)) r l = unsent number _ l
    go (Running (says.Has key)) r l = unsent number _ l
    go (Running (says.Del key)) r l = unsent number _ l
    go (Running (says.Add key ms n)) r l = unsent number _ l
    go (Running says.Clear) r l = unsent number _ l
    go (Running (says.DropIf prefix)) r l = unsent number _ l
    go (Running says.Keys) r l = unsent number _ l
    go (Running says.Sync) r l = unsent number _ l
    go (Running says.Quit) r l = unsent number _ l
    go (Faulting error) r l = unsent number _ l
    go Holding r l = unsent number _ l
    go (Delivering outcome) r l = unsent number _ l
    go Abandoning r l = unsent number _ l
    go (Storing key outcome) r l = unsent number _ l

-- ---- the step of a connection

pub found-number : (n : ℕ) (ks : List Connection) (c : Connection) → find (λ k. k.number == n) ks ≡ Some c → c.number ≡ n
found-number n [] c e = let no : None ≡ Some c = e in cc
found-number n (k ∷ ks) c e = let next = found-number n ks c in grind (arith, nat_tests, next, e)

-- what is left to be told stays tidy, where its own connection was not to be told
own-step : (task : Task) (step : Step) (effect : Effect) (told rest : List ℕ) (s t : Situation) → t.connections ≡ s.connections → t.pending ≡ s.pending → Tidy told s → ((d : ℕ) → times_in d rest ≤ times_in d told)
    → ((c : Connection) → connection_in step.conn s ≡ Some c → (times_in step.conn rest ≡ 0) × (times_waiting step.conn s.pending ≡ 0))
    → ((number : ℕ) → effect.load ≡ Some number → (is_waiting effect ≡ true) × ((k : List ℕ) → key_loaded effect.action ≡ Some k → times_loaded k s.pending ≡ 0))
    → (o : Option Connection) → connection_in step.conn s ≡ o
    → Tidy rest (option_map_or (λ c. with_connection (quits effect) (connection_after (Some task) step effect c) (join_load step.conn effect t)) o t)
own-step task step effect told rest s t same_connections same_pending tidy less free sends None at = record {
  once = λ d.
      let before = tidy.once d in let fewer = less d in
      let waits : waits_now d t ≡ waits_now d s = ap (λ ks. wait_of (find (λ (k : Connection). k.number == d) ks)) same_connections in
      let loads : times_waiting d t.pending ≡ times_waiting d s.pending = ap (times_waiting d) same_pending in omega arith;
  keys = λ key. subst (λ ps. times_loaded key ps ≤ 1) (sym same_pending) (tidy.keys key);
}
own-step task step effect told rest s t same_connections same_pending tidy less free sends (Some c) at =
    let f = free c at in
    let k = connection_after (Some task) step effect c in
    let j : Joined step.conn (is_waiting_now k.standing) t (join_load step.conn effect t) =
    joined step.conn (is_waiting effect) (is_waiting_now k.standing) (key_loaded effect.action) effect.load t (ap (times_waiting step.conn) same_pending ∙ f.1) (λ key. subst (λ ps. times_loaded key ps ≤ 1) (sym same_pending) (tidy.keys key))
    (stands-waiting step.line (is_none effect.reply) (is_held effect)) (λ number e. let x = sends number e in (x.0, λ key h. subst (λ ps. times_loaded key ps ≡ 0) (sym same_pending) (x.1 key h))) in
    put-tidy rest s (join_load step.conn effect t) step.conn c k (quits effect) at (found-number step.conn s.connections c at)
    (record { once = λ d. let before = tidy.once d in let fewer = less d in omega arith; keys = tidy.keys })
    f.0 (j.connections ∙ same_connections) (λ d ne. j.others d ne ∙ ap (times_waiting d) same_pending) j.own j.keys

-- ---- who is not to be told

unready : (standing : Standing) → is_ready standing ≡ true → is_waiting_now standing ≡ false
unready Ready e = refl
unready (Held line) e = let no : false ≡ true = e in cc
unready (Waiting line) e = let no : false ≡ true = e in cc

unheld : (standing : Standing) → is_holding standing ≡ true → is_waiting_now standing ≡ false
unheld Ready e = let no : false ≡ true = e in cc
unheld (Held line) e = refl
unheld (Waiting line) e = let no : false ≡ true = e in cc

pub not-told : (n : ℕ) (rest : List ℕ) (s : Situation) → Tidy rest s → waits_now n s ≡ 0 → (times_in n rest ≡ 0) × (times_waiting n s.pending ≡ 0)
not-told n rest s tidy none = let before = tidy.once n in (omega arith, omega arith)

pub told-once : (n : ℕ) (rest : List ℕ) (s : Situation) → Tidy (n ∷ rest) s → (times_in n rest ≡ 0) × (times_waiting n s.pending ≡ 0)
told-once n rest s tidy =
    let before = tidy.once n in
    let own_is : one_if (n == n) ≡ 1 = ap one_if (eq-eqb n n refl) in
    let few = few-waits (connection_in n s) in (omega arith, omega arith)

more-told : (d n : ℕ) (rest : List ℕ) → times_in d rest ≤ times_in d (n ∷ rest)
more-told d n rest = omega arith

-- ---- a step in its turn

pub steps : (config : Config) (s : Situation) (task : Task) (step : Step) (rest : List ℕ) → SuitsTask task s → is_right config (placed_step_in config s (Some task) step) ≡ true
    → Tidy (told_of_load task ++ rest) s → Tidy rest (after_step config s (Some task) step (placed_step_in config s (Some task) step).effect)
steps config s (Store key outcome) step rest fit right tidy = record { once = tidy.once; keys = tidy.keys }
steps config s (Deliver m outcome) step rest fit right tidy =
    let parts = and_parts _ _ (and_parts _ _ (and_parts _ _ (and_parts _ _ (and_parts _ _ right).0).0).0).0 in
    let own = and_parts _ _ parts.0 in
    let turn = eqb-true m step.conn (and_parts _ _ (and_parts _ _ own.0).0).0 in
    let t = subst (λ k. Tidy (k ∷ rest) s) turn tidy in
    own-step (Deliver m outcome) step (placed_step_in config s (Some (Deliver m outcome)) step).effect (step.conn ∷ rest) rest s _ refl refl t (λ d. more-told d step.conn rest) (λ c at. told-once step.conn rest s t)
    (λ number e. sent-fact config s (placed_step_in config s (Some (Deliver m outcome)) step).held (placed_step_in config s (Some (Deliver m outcome)) step).effect number own.1 parts.1 e) (connection_in step.conn s) refl
steps config s (RunAgain m) step rest fit right tidy =
    let parts = and_parts _ _ (and_parts _ _ (and_parts _ _ (and_parts _ _ (and_parts _ _ right).0).0).0).0 in
    let own = and_parts _ _ parts.0 in
    let turn = eqb-true m step.conn (and_parts _ _ (and_parts _ _ own.0).0).0 in
    let t = subst (λ k. Tidy (k ∷ rest) s) turn tidy in
    own-step (RunAgain m) step (placed_step_in config s (Some (RunAgain m)) step).effect (step.conn ∷ rest) rest s _ refl refl t (λ d. more-told d step.conn rest) (λ c at. told-once step.conn rest s t)
    (λ number e. sent-fact config s (placed_step_in config s (Some (RunAgain m)) step).held (placed_step_in config s (Some (RunAgain m)) step).effect number own.1 parts.1 e) (connection_in step.conn s) refl
steps config s (RunHeld m) step rest fit right tidy =
    let parts = and_parts _ _ (and_parts _ _ (and_parts _ _ (and_parts _ _ (and_parts _ _ right).0).0).0).0 in
    let own = and_parts _ _ parts.0 in
    let turn = eqb-true m step.conn (and_parts _ _ (and_parts _ _ own.0).0).0 in
    let holds = subst (λ k. is_holding_in s k ≡ true) turn fit in
    own-step (RunHeld m) step (placed_step_in config s (Some (RunHeld m)) step).effect rest rest s _ refl refl tidy (λ d. omega arith)
    (λ c at. not-told step.conn rest s tidy (ap wait_of at ∙ ap one_if (unheld c.standing (sym (ap (λ o. option_map_or (λ (k : Connection). is_holding k.standing) o false) at) ∙ holds))))
    (λ number e. sent-fact config s (placed_step_in config s (Some (RunHeld m)) step).held (placed_step_in config s (Some (RunHeld m)) step).effect number own.1 parts.1 e) (connection_in step.conn s) refl
steps config s (RunLines m) step rest fit right tidy =
    let parts = and_parts _ _ (and_parts _ _ (and_parts _ _ (and_parts _ _ (and_parts _ _ right).0).0).0).0 in
    let own = and_parts _ _ parts.0 in
    let turn = eqb-true m step.conn (and_parts _ _ (and_parts _ _ own.0).0).0 in
    let may = subst (λ k. may_run_in s k ≡ true) turn fit in
    own-step (RunLines m) step (placed_step_in config s (Some (RunLines m)) step).effect rest rest s _ refl refl tidy (λ d. omega arith)
    (λ c at. not-told step.conn rest s tidy (ap wait_of at ∙ ap one_if (unready c.standing (and_parts (is_ready c.standing) (is_some (first_line c.unread)) (sym (ap (λ o. option_map_or (λ (k : Connection). is_ready k.standing && is_some (first_line k.unread)) o false) at) ∙ may)).0)))
    (λ number e. sent-fact config s (placed_step_in config s (Some (RunLines m)) step).held (placed_step_in config s (Some (RunLines m)) step).effect number own.1 parts.1 e) (connection_in step.conn s) refl
