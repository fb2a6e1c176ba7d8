-- What is due: each task finds its connection as it should be, and no two tasks await one connection.
use Rattle.std.proofs.Common.{inr, inl, ◌≡◌, refl, ap, ◌∙◌, sym, subst, ℕ, Bool, true, false, true≢false, not, ◌&&◌, cond, List, [], ◌∷◌, ◌++◌, map, Option, Some, None, is_some, is_none, nat_lt, length, ◌||◌}
use Rattle.std.specs.Prelude.{◌==◌}
use Rattle.std.specs.List.{filter}
use Rattle.std.proofs.Math.Bool.{and-false}
use Rattle.std.proofs.lemmas.Bool.{not-true, cases_Bool, cond_both, and_parts}
use Rattle.std.proofs.lemmas.List.{append-nil}
use Rattle.audit_laws.proofs.Connections.{last_is}
use Rattle.audit_model.specs.Bytewise.{cut_at}
use Rattle.audit_model.specs.History.{Effect, History, Opened, Closed, Fed, Settled, Stored, Ran}
use Rattle.audit_model.specs.Loads.{Sent, loads_under_way, key_of_load, waits_for, sends_for, joined, waiting_for}
use Rattle.audit_model.specs.Places.{tasks_to_answer, tasks_to_give_up, tasks_to_feed, tasks_of, happening_of, due, left_after}
use Rattle.audit_model.specs.Steps.{Task, Store, Deliver, RunAgain, RunHeld, RunLines}
use Rattle.audit_model.specs.Stream.{last_effect, is_held, is_waiting, holds, waits, is_open}
use Rattle.audit_model.specs.declared.event.Event.{Event}
use Rattle.audit_model.specs.declared.event.Event.TheVariants as event
use Rattle.audit_model.specs.declared.event.Outcome.{Outcome}
use Rattle.audit_model.specs.declared.command.Closing.TheVariants as by
use Rattle.audit_laws.proofs.Told.{each-passed, each-filter, Each, each-append, each-more, each-both, each-map}
use Rattle.audit_laws.proofs.Connections.{Facts, facts, open_in, closing_in, unread_in, facts-ran, facts-own}
use Rattle.audit_laws.proofs.ConnectionSteps.{eqb-turned}
use Rattle.audit_laws.proofs.Changes.{IsOpen, open-parts}
use Rattle.std.proofs.lemmas.Bool.{false_from_ne_true}
use Rattle.std.specs.List.{find}
use Rattle.std.specs.Option.{option_map}
use Rattle.std.proofs.Math.Bool.{or-true}
use Rattle.audit_laws.proofs.Connections.{eqb-self}
use Rattle.audit_laws.proofs.PendingLoads.{each-any}
use Rattle.audit_laws.proofs.Leaving.{NotJoined, Distinct, is_in, of_each, away-ran, away-settled}
use Rattle.audit_laws.proofs.Sound.{Sound, Admitted}
use Rattle.audit_laws.proofs.LinesRead.{facts-own_fed, with_bytes}

abbrev pub Awaits : History → Task → Type 0
Awaits past (Store key outcome) = Unit {0}
Awaits past (Deliver c outcome) = (is_open c past ≡ true) × (waits c past ≡ true) × NotJoined past c
Awaits past (RunAgain c) = (is_open c past ≡ true) × (waits c past ≡ true) × NotJoined past c
Awaits past (RunHeld c) = (is_open c past ≡ true) × (holds c past ≡ true)
Awaits past (RunLines c) = Unit {0}

-- the task awaits another connection than c, or none
abbrev pub Spares : ℕ → Task → Type 0
Spares c (Store key outcome) = Unit {0}
Spares c (Deliver d outcome) = (c == d) ≡ false
Spares c (RunAgain d) = (c == d) ≡ false
Spares c (RunHeld d) = (c == d) ≡ false
Spares c (RunLines d) = Unit {0}

abbrev pub SparedBy : Task → List Task → Type 0
SparedBy (Store key outcome) tasks = Unit {0}
SparedBy (Deliver c outcome) tasks = Each (Spares c) tasks
SparedBy (RunAgain c) tasks = Each (Spares c) tasks
SparedBy (RunHeld c) tasks = Each (Spares c) tasks
SparedBy (RunLines c) tasks = Each (Spares c) tasks

abbrev pub Apart : List Task → Type 0
Apart [] = Unit {0}
Apart (task ∷ tasks) = SparedBy task tasks × Apart tasks

pub record InOrder (past : History) (tasks : List Task) : Type 0 where
  pub awaits : Each (Awaits past) tasks
  pub apart : Apart tasks

pub rest-in_order : (past : History) (task : Task) (tasks : List Task) → InOrder past (task ∷ tasks) → InOrder past tasks
rest-in_order past task tasks h = record { awaits = h.awaits.1; apart = h.apart.1 }

pub due-in_order : (past : History) (runs : ℕ → Bool) (tasks : List Task) → InOrder past tasks → InOrder past (due runs tasks)
due-in_order past runs [] h = h
due-in_order past runs (RunLines c ∷ tasks) h = cond_both (runs c) _ _ (InOrder past) (λ _. h) (λ _. due-in_order past runs tasks (rest-in_order past (RunLines c) tasks h))
due-in_order past runs (Store key outcome ∷ tasks) h = h
due-in_order past runs (Deliver c outcome ∷ tasks) h = h
due-in_order past runs (RunAgain c ∷ tasks) h = h
due-in_order past runs (RunHeld c ∷ tasks) h = h

-- the first of what is due may run, if it is lines
abbrev pub RunsFirst : (ℕ → Bool) → List Task → Type 0
RunsFirst runs (RunLines c ∷ tasks) = runs c ≡ true
RunsFirst runs tasks = Unit {0}

pub due-runs : (runs : ℕ → Bool) (tasks : List Task) → RunsFirst runs (due runs tasks)
due-runs runs [] = tt
due-runs runs (RunLines c ∷ tasks) = cond_both (runs c) _ _ (RunsFirst runs) (λ e. e) (λ _. due-runs runs tasks)
due-runs runs (Store key outcome ∷ tasks) = tt
due-runs runs (Deliver c outcome ∷ tasks) = tt
due-runs runs (RunAgain c ∷ tasks) = tt
due-runs runs (RunHeld c ∷ tasks) = tt

-- a step leaves what other connections await
still_open : (c d : ℕ) (effect : Effect) (past : History) → (c == d) ≡ false → is_open d past ≡ true → is_open d (Ran c effect ∷ past) ≡ true
still_open c d effect past e h = ap open_in (facts-ran d c effect past e) ∙ h

still_is : (test : Effect → Bool) (c d : ℕ) (effect : Effect) (past : History) → (c == d) ≡ false → last_is test (last_effect d past) ≡ true → last_is test (last_effect d (Ran c effect ∷ past)) ≡ true
still_is test c d effect past e h = ap (λ f. last_is test f.effect) (facts-ran d c effect past e) ∙ h

pub awaits-ran : (c : ℕ) (effect : Effect) (past : History) (task : Task) → Awaits past task → Spares c task → Awaits (Ran c effect ∷ past) task
awaits-ran c effect past (Store key outcome) a s = tt
awaits-ran c effect past (Deliver d outcome) a s = (still_open c d effect past s a.0, still_is is_waiting c d effect past s a.1, away-ran c d effect past s a.2)
awaits-ran c effect past (RunAgain d) a s = (still_open c d effect past s a.0, still_is is_waiting c d effect past s a.1, away-ran c d effect past s a.2)
awaits-ran c effect past (RunHeld d) a s = (still_open c d effect past s a.0, still_is is_held c d effect past s a.1)
awaits-ran c effect past (RunLines d) a s = tt

pub awaits-stored : (effect : Effect) (past : History) (task : Task) → Awaits past task → Awaits (Stored effect ∷ past) task
awaits-stored effect past (Store key outcome) a = tt
awaits-stored effect past (Deliver d outcome) a = (a.0, a.1, a.2)
awaits-stored effect past (RunAgain d) a = (a.0, a.1, a.2)
awaits-stored effect past (RunHeld d) a = (a.0, a.1)
awaits-stored effect past (RunLines d) a = tt

all_ran : (c : ℕ) (effect : Effect) (past : History) (tasks : List Task) → InOrder past tasks → Each (Spares c) tasks → InOrder (Ran c effect ∷ past) tasks
all_ran c effect past tasks h s = record { awaits = each-more _ _ tasks (λ t p. awaits-ran c effect past t p.0 p.1) (each-both _ _ tasks h.awaits s); apart = h.apart }

pub in_order-stored : (effect : Effect) (past : History) (tasks : List Task) → InOrder past tasks → InOrder (Stored effect ∷ past) tasks
in_order-stored effect past tasks h = record { awaits = each-more _ _ tasks (awaits-stored effect past) h.awaits; apart = h.apart }

abbrev pub task_conn : Task → Option ℕ
task_conn (Store key outcome) = None
task_conn (Deliver c outcome) = Some c
task_conn (RunAgain c) = Some c
task_conn (RunHeld c) = Some c
task_conn (RunLines c) = Some c

-- what is left after a step of the connection whose task it was
pub in_order-ran : (c : ℕ) (effect : Effect) (past : History) (task : Task) (tasks : List Task) → task_conn task ≡ Some c → InOrder past (task ∷ tasks) → InOrder (Ran c effect ∷ past) (left_after (task ∷ tasks))
in_order-ran c effect past (Store key outcome) tasks e h = absurd (true≢false (sym (ap is_some e)))
in_order-ran c effect past (Deliver d outcome) tasks e h = all_ran c effect past tasks (rest-in_order past (Deliver d outcome) tasks h) (subst (λ x. Each (Spares x) tasks) (some_same d c e) h.apart.0)
  where
    some_same : (a b : ℕ) → Some a ≡ Some b → a ≡ b
    some_same a b e = cc
in_order-ran c effect past (RunAgain d) tasks e h = all_ran c effect past tasks (rest-in_order past (RunAgain d) tasks h) (subst (λ x. Each (Spares x) tasks) (some_same d c e) h.apart.0)
  where
    some_same : (a b : ℕ) → Some a ≡ Some b → a ≡ b
    some_same a b e = cc
in_order-ran c effect past (RunHeld d) tasks e h = all_ran c effect past tasks (rest-in_order past (RunHeld d) tasks h) (subst (λ x. Each (Spares x) tasks) (some_same d c e) h.apart.0)
  where
    some_same : (a b : ℕ) → Some a ≡ Some b → a ≡ b
    some_same a b e = cc
in_order-ran c effect past (RunLines d) tasks e h =
    let rest : InOrder (Ran c effect ∷ past) tasks = all_ran c effect past tasks (rest-in_order past (RunLines d) tasks h) (subst (λ x. Each (Spares x) tasks) (some_same d c e) h.apart.0) in
    record { awaits = (tt, rest.awaits); apart = h.apart }
  where
    some_same : (a b : ℕ) → Some a ≡ Some b → a ≡ b
    some_same a b e = cc

-- ---- what an event makes due

-- no connection twice
abbrev pub Once : List ℕ → Type 0
Once [] = Unit {0}
Once (c ∷ cs) = Each (λ d. (c == d) ≡ false) cs × Once cs

pub once-filter : (p : ℕ → Bool) (cs : List ℕ) → Once cs → Once (filter p cs)
once-filter p [] h = tt
once-filter p (c ∷ cs) (h, k) = cond_both (p c) _ _ Once (λ _. (each-filter _ p cs h, once-filter p cs k)) (λ _. once-filter p cs k)

once-last : (cs : List ℕ) (c : ℕ) → Each (λ d. (d == c) ≡ false) cs → Once cs → Once (cs ++ c ∷ [])
once-last [] c h k = (tt, tt)
once-last (d ∷ cs) c (p, h) (q, k) = (each-append _ cs (c ∷ []) q (p, tt), once-last cs c h k)

joined_then-once : (s w : Bool) (c : ℕ) (cs : List ℕ) → Once cs → Once (cond s [] (filter (λ x. not (x == c)) cs) ++ cond w (c ∷ []) [])
joined_then-once true true c cs h = (tt, tt)
joined_then-once true false c cs h = tt
joined_then-once false true c cs h =
    once-last (filter (λ x. not (x == c)) cs) c (each-more _ _ (filter (λ x. not (x == c)) cs) (λ d e. not-true (d == c) e) (each-passed (λ x. not (x == c)) cs)) (once-filter _ cs h)
joined_then-once false false c cs h = subst Once (sym (append-nil (filter (λ x. not (x == c)) cs))) (once-filter _ cs h)

pub joined-once : (key : List ℕ) (past : History) → Once (joined key past)
joined-once key [] = tt
joined-once key (Ran c effect ∷ past) = joined_then-once (sends_for key effect) (waits_for key effect) c (joined key past) (joined-once key past)
joined-once key (Opened c ∷ past) = joined-once key past
joined-once key (Closed c ∷ past) = joined-once key past
joined-once key (Fed c piece moment ∷ past) = joined-once key past
joined-once key (Settled load moment ∷ past) = joined-once key past
joined-once key (Stored effect ∷ past) = joined-once key past

joined_then-waits : (key : List ℕ) (effect : Effect) (past : History) (s w : Bool) (c : ℕ) (cs : List ℕ) → (w ≡ true → is_waiting effect ≡ true) → Each (λ d. waits d past ≡ true) cs
    → Each (λ d. waits d (Ran c effect ∷ past) ≡ true) (cond s [] (filter (λ x. not (x == c)) cs) ++ cond w (c ∷ []) [])
joined_then-waits key effect past s w c cs f h =
    each-append _ (cond s [] (filter (λ x. not (x == c)) cs)) (cond w (c ∷ []) []) (go s) (last w f)
  where
    own : is_waiting effect ≡ true → waits c (Ran c effect ∷ past) ≡ true
    own e = ap (λ x. last_is is_waiting x.effect) (facts-own c effect past) ∙ e

    last : (w : Bool) → (w ≡ true → is_waiting effect ≡ true) → Each (λ d. waits d (Ran c effect ∷ past) ≡ true) (cond w (c ∷ []) [])
    last true f = (own (f refl), tt)
    last false f = tt

    go : (s : Bool) → Each (λ d. waits d (Ran c effect ∷ past) ≡ true) (cond s [] (filter (λ x. not (x == c)) cs))
    go true = tt
    go false =
        each-more _ _ (filter (λ x. not (x == c)) cs) (λ d p. still_is is_waiting c d effect past (eqb-turned c d ∙ not-true (d == c) p.0) p.1)
        (each-both _ _ (filter (λ x. not (x == c)) cs) (each-passed (λ x. not (x == c)) cs) (each-filter _ _ cs h))

pub joined-waits : (key : List ℕ) (past : History) → Each (λ d. waits d past ≡ true) (joined key past)
joined-waits key [] = tt
joined-waits key (Ran c effect ∷ past) =
    joined_then-waits key effect past (sends_for key effect) (waits_for key effect) c (joined key past) (λ e. (and_parts (is_waiting effect) _ e).0) (joined-waits key past)
joined-waits key (Opened c ∷ past) = each-more _ _ (joined key past) (λ d e. e) (joined-waits key past)
joined-waits key (Closed c ∷ past) = each-more _ _ (joined key past) (λ d e. e) (joined-waits key past)
joined-waits key (Fed c piece moment ∷ past) = each-more _ _ (joined key past) (λ d e. e) (joined-waits key past)
joined-waits key (Settled load moment ∷ past) = each-more _ _ (joined key past) (λ d e. e) (joined-waits key past)
joined-waits key (Stored effect ∷ past) = each-more _ _ (joined key past) (λ d e. e) (joined-waits key past)

abbrev Waits : History → ℕ → Type 0
Waits past c = (is_open c past ≡ true) × (waits c past ≡ true)

waiting_once : (key : Option (List ℕ)) (past : History) → Once (waiting_for key past)
waiting_once None past = tt
waiting_once (Some key) past = once-filter _ (joined key past) (joined-once key past)

waiting_waits : (key : Option (List ℕ)) (past : History) → Each (Waits past) (waiting_for key past)
waiting_waits None past = tt
waiting_waits (Some key) past =
    each-both _ _ (waiting_for (Some key) past) (each-passed (λ conn. is_open conn past) (joined key past)) (each-filter _ _ (joined key past) (joined-waits key past))

spares_lines : (c : ℕ) (cs : List ℕ) → Each (Spares c) (map RunLines cs)
spares_lines c [] = tt
spares_lines c (d ∷ cs) = (tt, spares_lines c cs)

lines_apart : (cs : List ℕ) → Apart (map RunLines cs)
lines_apart [] = tt
lines_apart (c ∷ cs) = (spares_lines c cs, lines_apart cs)

lines_await : (past : History) (cs : List ℕ) → Each (Awaits past) (map RunLines cs)
lines_await past [] = tt
lines_await past (c ∷ cs) = (tt, lines_await past cs)

spares_all : (c : ℕ) (outcome : Outcome) (cs ds : List ℕ) → Each (λ d. (c == d) ≡ false) cs → Each (Spares c) (map (λ conn. Deliver conn outcome) cs ++ map RunLines ds)
spares_all c outcome [] ds h = spares_lines c ds
spares_all c outcome (d ∷ cs) ds (p, h) = (p, spares_all c outcome cs ds h)

answer_apart : (outcome : Outcome) (cs ds : List ℕ) → Once cs → Apart (map (λ conn. Deliver conn outcome) cs ++ map RunLines ds)
answer_apart outcome [] ds h = lines_apart ds
answer_apart outcome (c ∷ cs) ds (p, h) = (spares_all c outcome cs ds p, answer_apart outcome cs ds h)

spares_again : (c : ℕ) (cs : List ℕ) → Each (λ d. (c == d) ≡ false) cs → Each (Spares c) (tasks_to_give_up cs)
spares_again c [] h = tt
spares_again c (d ∷ cs) (p, h) = (p, (tt, spares_again c cs h))

give_up_apart : (cs : List ℕ) → Once cs → Apart (tasks_to_give_up cs)
give_up_apart [] h = tt
give_up_apart (c ∷ cs) (p, h) = ((tt, spares_again c cs p), (spares_again c cs p, give_up_apart cs h))

abbrev WaitsAlone : History → ℕ → Type 0
WaitsAlone past c = (is_open c past ≡ true) × (waits c past ≡ true) × NotJoined past c

give_up_awaits : (past : History) (cs : List ℕ) → Each (WaitsAlone past) cs → Each (Awaits past) (tasks_to_give_up cs)
give_up_awaits past [] h = tt
give_up_awaits past (c ∷ cs) (p, h) = (p, (tt, give_up_awaits past cs h))

in_itself : (cs : List ℕ) → Each (λ c. is_in c cs ≡ true) cs
in_itself [] = tt
in_itself (c ∷ cs) = (ap (λ b. b || is_in c cs) (eqb-self c), each-more _ _ cs (λ d e. ap (λ b. (c == d) || b) e ∙ or-true (c == d)) (in_itself cs))

module _ (load moment : ℕ) (past : History) (keys : Distinct (loads_under_way past)) where
  abbrev key : Option (List ℕ)
  key = key_of_load load past

  settled_away : (o : Option Sent) → find (λ sent. sent.number == load) (loads_under_way past) ≡ o → Each (NotJoined (Settled load moment ∷ past)) (waiting_for (option_map (λ sent. sent.key) o) past)
  settled_away None e = tt
  settled_away (Some s) e =
      each-filter _ _ (joined s.key past) (each-more _ _ (joined s.key past) (λ c i. away-settled c load past moment s keys e i) (in_itself (joined s.key past)))

  settled_waits : Each (WaitsAlone (Settled load moment ∷ past)) (waiting_for key past)
  settled_waits =
      each-more _ _ (waiting_for key past) (λ c p. (p.0.0, p.0.1, p.1))
      (each-both _ _ (waiting_for key past) (waiting_waits key past) (settled_away (find (λ sent. sent.number == load) (loads_under_way past)) refl))

  pub in_order-answer : (outcome : Outcome) → InOrder (Settled load moment ∷ past) (tasks_to_answer key outcome (waiting_for key past))
  in_order-answer outcome =
      record {
        awaits = (
          tt,
          each-append (Awaits (Settled load moment ∷ past)) (map (λ conn. Deliver conn outcome) (waiting_for key past)) (map RunLines (waiting_for key past))
              (each-map (Awaits (Settled load moment ∷ past)) (λ conn. Deliver conn outcome) (waiting_for key past) settled_waits) (lines_await (Settled load moment ∷ past) (waiting_for key past)),
        );
        apart = (tt, answer_apart outcome (waiting_for key past) (waiting_for key past) (waiting_once key past));
      }

  pub in_order-give_up : InOrder (Settled load moment ∷ past) (tasks_to_give_up (waiting_for key past))
  in_order-give_up = record { awaits = give_up_awaits (Settled load moment ∷ past) (waiting_for key past) settled_waits; apart = give_up_apart (waiting_for key past) (waiting_once key past) }

-- who does not wait is in no list
pub idle-away : (c : ℕ) (past : History) → waits c past ≡ false → NotJoined past c
idle-away c past e =
    each-any (loads_under_way past) (λ sent. false_from_ne_true (is_in c (joined sent.key past)) (λ i. true≢false (sym (of_each (λ d. waits d past ≡ true) c (joined sent.key past) (joined-waits sent.key past) i) ∙ e)))

-- a connection that holds a command stays open as it is fed
exclusive : (o : Option Effect) → last_is is_held o ≡ true → last_is is_waiting o ≡ false
exclusive None e = absurd (true≢false (sym e))
exclusive (Some effect) e = ap (λ b. is_none effect.reply && not b) e ∙ and-false (is_none effect.reply)

stays_open : (f : Facts) → IsOpen f → last_is is_held f.effect ≡ true → open_in f ≡ true
stays_open f h e =
    ap (λ b. b && is_none (closing_in f)) h.opened ∙ ap (λ b. is_none (closing_in (record f { closed = b }))) h.closed
    ∙ ap (λ b. is_none (closing_in (record f { closed = false; quit = b }))) h.quit
    ∙ go f.effect (nat_lt 8192 (length (unread_in f))) (nat_lt 8192 (length (cut_at 10 (unread_in f)).0)) e
  where
    go : (o : Option Effect) (A B : Bool) → last_is is_held o ≡ true
        → is_none (cond (last_is is_waiting o && A) (Some by.Behind) (cond (not (last_is is_waiting o) && not (last_is is_held o) && B) (Some by.Long) None)) ≡ true
    go o A B e =
        ap (λ w. is_none (cond (w && A) (Some by.Behind) (cond (not w && not (last_is is_held o) && B) (Some by.Long) None))) (exclusive o e)
        ∙ ap (λ b. is_none (cond (true && not b && B) (Some by.Long) None)) e

fed_open : (c : ℕ) (piece : List ℕ) (moment : ℕ) (past : History) → is_open c past ≡ true → holds c past ≡ true → is_open c (Fed c piece moment ∷ past) ≡ true
fed_open c piece moment past is held =
    let parts : IsOpen (facts c past) = open-parts (facts c past) is in
    ap open_in (facts-own_fed c piece moment past) ∙ stays_open (with_bytes piece (facts c past)) (record { opened = parts.opened; closed = parts.closed; quit = parts.quit }) held

pub in_order-feed : (c : ℕ) (piece : List ℕ) (moment : ℕ) (past : History) → is_open c past ≡ true → InOrder (Fed c piece moment ∷ past) (tasks_to_feed c (holds c past))
in_order-feed c piece moment past is =
    elim (cases_Bool (holds c past)) [
      | inl e ↦ subst (λ b. InOrder (Fed c piece moment ∷ past) (tasks_to_feed c b)) (sym e) (record { awaits = ((fed_open c piece moment past is e, e), (tt, tt)); apart = ((tt, tt), (tt, tt)) })
      | inr e ↦ subst (λ b. InOrder (Fed c piece moment ∷ past) (tasks_to_feed c b)) (sym e) (record { awaits = (tt, tt); apart = (tt, tt) })
    ]

pub in_order-event : (e : Event) (past : History) → Sound past → Admitted past e → InOrder (happening_of e ∷ past) (tasks_of past e)
in_order-event (event.Open c) past h a = record { awaits = tt; apart = tt }
in_order-event (event.Close c) past h a = record { awaits = tt; apart = tt }
in_order-event (event.Feed c piece moment) past h a = in_order-feed c piece moment.nanos past a
in_order-event (event.Answer load outcome moment) past h a = in_order-answer load moment.nanos past h.keys outcome
in_order-event (event.GiveUp load moment) past h a = in_order-give_up load moment.nanos past h.keys

pub holds_idle : (c : ℕ) (past : History) → holds c past ≡ true → waits c past ≡ false
holds_idle c past e = exclusive (last_effect c past) e
