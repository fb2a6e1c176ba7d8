-- Records, one after another: what is true of each, and the keys that are held after them.
use Rattle.std.proofs.Common.{◌≡◌, ℕ, Bool, true, false, ◌&&◌, List, [], ◌∷◌, ◌++◌, Option, Some, None, refl, sym, ap, ◌∙◌, subst, suc, max, if◌then◌else◌, MatchOption, Ok}
use Rattle.std.specs.Option.{option_and_then, option_map_or}
use Rattle.std.proofs.lemmas.Bool.{and_from, and_parts}
use Rattle.std.proofs.lemmas.Option.{same_Some, none-some}
use Rattle.audit_laws.proofs.Following.{passed}
use Rattle.audit_model.specs.Follows.{after_event, after_record, after_records, tasks_in, after_steps, placed_step_in}
use Rattle.audit_model.specs.Places.{steps_of, due, first_due, left_after}
use Rattle.audit_model.specs.Situation.{Situation, Connection, connection_in, empty_situation, may_run_in, with_connection}
use Rattle.audit_model.specs.declared.config.Config.{Config}
use Rattle.audit_model.specs.declared.transcript.Record.{Record}
use Rattle.cache_lines.specs.Ordered.{HaveKeys, order_behind, HasKeys, order_behind_step}
use Rattle.cache_commands.specs.Order.{Order, Settled, Used, Unknown, order_by}
use Rattle.cache_spaces.specs.Throughout.{HaveKeysFrom, is_so_of_each, order_at_end, HasExactKeys}
use Rattle.std.specs.List.{flat_map, fold}
use Rattle.std.proofs.lemmas.List.Sorted.{IsPermutation-refl}
use Rattle.audit_model.specs.Bytewise.{is_empty}
use Rattle.audit_model.specs.Changes.{after_step}
use Rattle.audit_model.specs.Grammar.{Reading, reading}
use Rattle.audit_model.specs.Recency.{recency_after}
use Rattle.audit_model.specs.Steps.{Task, is_right}
use Rattle.audit_model.specs.declared.command.Command.{Command}
use Rattle.audit_model.specs.declared.event.Event.{Event}
use Rattle.audit_model.specs.declared.transcript.Step.{Step}
use Rattle.audit_model.specs.declared.transcript.Transcript.{Transcript}
use Rattle.cache_spaces.specs.Played.{AreSynced, KeepsList, IsCommand, is_of_list}
use Rattle.audit_model.specs.declared.command.Command.TheVariants as says
use Rattle.audit_model.specs.declared.event.Event.TheVariants as event

-- ---- one record more

-- the fact of one record, where those behind it are so from the situation to which it leads
abbrev so_then : (Situation → Record → Situation → Bool) → Config → Situation → Record → List Record → Option Situation → Bool
so_then fact config s entry entries o = option_map_or (λ t. fact s entry t && is_so_of_each fact config t entries) o false

-- the fact is so of one record more
pub so-of-one-more : (fact : Situation → Record → Situation → Bool) (config : Config) (s : Situation) (entries : List Record) (entry : Record) (t u : Situation)
    → is_so_of_each fact config s entries ≡ true → after_records config s entries ≡ Some t → after_record config t entry ≡ Some u → fact t entry u ≡ true
    → is_so_of_each fact config s (entries ++ entry ∷ []) ≡ true
so-of-one-more fact config s [] entry t u so leads follows now =
    let same : s ≡ t = same_Some s t leads in
    ap (λ x. so_then fact config x entry [] (after_record config x entry)) same ∙ ap (so_then fact config t entry []) follows ∙ and_from (fact t entry u) true now refl
so-of-one-more fact config s (x ∷ xs) entry t u so leads follows now = go (λ r. so-of-one-more fact config r xs entry t u) (after_record config s x) refl
  where
    go : ((r : Situation) → is_so_of_each fact config r xs ≡ true → after_records config r xs ≡ Some t → after_record config t entry ≡ Some u → fact t entry u ≡ true
        → is_so_of_each fact config r (xs ++ entry ∷ []) ≡ true)
        → (o : Option Situation) → after_record config s x ≡ o → is_so_of_each fact config s (x ∷ xs ++ entry ∷ []) ≡ true
    go next None e = let h : false ≡ true = sym (ap (so_then fact config s x xs) e) ∙ so in cc
    go next (Some r) e =
        let h = and_parts (fact s x r) (is_so_of_each fact config r xs) (sym (ap (so_then fact config s x xs) e) ∙ so) in
        ap (so_then fact config s x (xs ++ entry ∷ [])) e
        ∙ and_from (fact s x r) (is_so_of_each fact config r (xs ++ entry ∷ [])) h.0
        (next r h.1 (sym (ap (λ y. option_and_then (λ z. after_records config z xs) y) e) ∙ leads) follows now)

-- ---- the keys held

pub order-at-end-more : (config : Config) (n : ℕ) (order : Order) (entries : List Record) (entry : Record)
    → order_at_end config n order (entries ++ entry ∷ []) ≡ order_behind config n (order_at_end config n order entries) (steps_of entry)
order-at-end-more config n order [] entry = refl
order-at-end-more config n order (x ∷ xs) entry = order-at-end-more config n (order_behind config n order (steps_of x)) xs entry

-- what is so of the keys of a record, and of those behind it
abbrev KeysThen : Config → ℕ → Order → Situation → Record → List Record → Option Situation → Type 0
KeysThen config n order s entry entries o =
    HaveKeys config n order (after_event entry.event s) (tasks_in s entry.event) (steps_of entry)
    × MatchOption o ⊥ (λ t. HaveKeysFrom config n (order_behind config n order (steps_of entry)) t entries)

pub keys-one-more : (config : Config) (n : ℕ) (order : Order) (s : Situation) (entries : List Record) (entry : Record) (t u : Situation)
    → HaveKeysFrom config n order s entries → after_records config s entries ≡ Some t → after_record config t entry ≡ Some u
    → HaveKeys config n (order_at_end config n order entries) (after_event entry.event t) (tasks_in t entry.event) (steps_of entry)
    → HaveKeysFrom config n order s (entries ++ entry ∷ [])
keys-one-more config n order s [] entry t u keys leads follows now =
    let same : s ≡ t = same_Some s t leads in
    subst (λ x. KeysThen config n order x entry [] (after_record config x entry)) (sym same) (subst (KeysThen config n order t entry []) (sym follows) (now, tt))
keys-one-more config n order s (x ∷ xs) entry t u keys leads follows now =
    go (λ r. keys-one-more config n (order_behind config n order (steps_of x)) r xs entry t u) (after_record config s x) refl
  where
    go : ((r : Situation) → HaveKeysFrom config n (order_behind config n order (steps_of x)) r xs → after_records config r xs ≡ Some t → after_record config t entry ≡ Some u
        → HaveKeys config n (order_at_end config n (order_behind config n order (steps_of x)) xs) (after_event entry.event t) (tasks_in t entry.event) (steps_of entry)
        → HaveKeysFrom config n (order_behind config n order (steps_of x)) r (xs ++ entry ∷ []))
        → (o : Option Situation) → after_record config s x ≡ o → HaveKeysFrom config n order s (x ∷ xs ++ entry ∷ [])
    go next None e = absurd (subst (KeysThen config n order s x xs) e keys).1
    go next (Some r) e =
        let k = subst (KeysThen config n order s x xs) e keys in
        subst (KeysThen config n order s x (xs ++ entry ∷ [])) (sym e)
        (k.0, next r k.1 (sym (ap (λ y. option_and_then (λ z. after_records config z xs) y) e) ∙ leads) follows now)

-- ---- the recency list of commands each followed by a `SYNC`

-- ---- what is known behind such steps

said : (config : Config) (n : ℕ) (order : Order) (step : Step) (command : Command) → IsCommand config step command → order_behind_step config n order step ≡ order_by n (Ok command) order
said config n order step command h =
    ap (λ b. if b then Unknown else order_by n (reading config step.line) order) h.runs ∙ ap (λ (r : Reading). order_by n r order) h.says

listed : (n : ℕ) (keys : List (List ℕ)) (command : Command) → is_of_list command ≡ true → order_by n (Ok command) (Settled keys) ≡ Used (recency_after n keys command)
listed n keys (says.Set key ms value) h = refl
listed n keys (says.Get key) h = refl
listed n keys (says.Has key) h = refl
listed n keys (says.Del key) h = refl
listed n keys says.Keys h = refl
listed n keys (says.Load key) h = let e : false ≡ true = h in cc
listed n keys (says.Add key ms added) h = let e : false ≡ true = h in cc
listed n keys says.Clear h = let e : false ≡ true = h in cc
listed n keys (says.DropIf prefix) h = let e : false ≡ true = h in cc
listed n keys says.Sync h = let e : false ≡ true = h in cc
listed n keys says.Quit h = let e : false ≡ true = h in cc

synced-order : (config : Config) (n : ℕ) (commands : List Command) (steps : List Step) (keys : List (List ℕ))
    → AreSynced config commands steps → order_behind config n (Settled keys) steps ≡ Settled (fold (recency_after n) keys commands)
synced-order config n [] [] keys h = refl
synced-order config n [] (step ∷ steps) keys h = absurd h
synced-order config n (command ∷ commands) [] keys h = absurd h
synced-order config n (command ∷ commands) (step ∷ []) keys h = absurd h
synced-order config n (command ∷ commands) (step ∷ next ∷ steps) keys h =
    ap (λ (o : Order). order_behind config n (order_behind_step config n o next) steps) (said config n (Settled keys) step command h.0 ∙ listed n keys command h.1)
    ∙ ap (λ (o : Order). order_behind config n o steps) (said config n (Used (recency_after n keys command)) next says.Sync h.2)
    ∙ synced-order config n commands steps (recency_after n keys command) h.3

order-joined : (config : Config) (n : ℕ) (order : Order) (xs ys : List Step) → order_behind config n order (xs ++ ys) ≡ order_behind config n (order_behind config n order xs) ys
order-joined config n order [] ys = refl
order-joined config n order (x ∷ xs) ys = order-joined config n (order_behind_step config n order x) xs ys

order-of-steps : (config : Config) (n : ℕ) (order : Order) (entries : List Record) → order_behind config n order (flat_map steps_of entries) ≡ order_at_end config n order entries
order-of-steps config n order [] = refl
order-of-steps config n order (entry ∷ entries) =
    order-joined config n order (steps_of entry) (flat_map steps_of entries) ∙ order-of-steps config n (order_behind config n order (steps_of entry)) entries

-- ---- what is held at the end

held-after-event : (happened : Event) (s : Situation) → (after_event happened s).held ≡ s.held
held-after-event (event.Open conn) s = refl
held-after-event (event.Close conn) s = refl
held-after-event (event.Feed conn piece moment) s = go (connection_in conn s)
  where
    go : (o : Option Connection)
        → (let t = record s { latest = max moment.nanos s.latest } in option_map_or (λ (c : Connection). with_connection false (record c { unread = c.unread ++ piece }) t) o t).held ≡ s.held
    go None = refl
    go (Some c) = refl
held-after-event (event.Answer load outcome moment) s = refl
held-after-event (event.GiveUp load moment) s = refl

keys-behind-steps : (config : Config) (n : ℕ) (order : Order) (s t : Situation) (tasks : List Task) (steps : List Step)
    → HaveKeys config n order s tasks steps → HasKeys order s.held → after_steps config s tasks steps ≡ Some t → HasKeys (order_behind config n order steps) t.held
keys-behind-steps config n order s t tasks [] keys has after =
    subst (λ (x : Situation). HasKeys order x.held) (same_Some s t (passed (is_empty (due (may_run_in s) tasks)) (Some s) t after).rest) has
keys-behind-steps config n order s t tasks (step ∷ steps) keys has after =
    let now_due = due (may_run_in s) tasks in
    let placed = placed_step_in config s (first_due now_due) step in
    keys-behind-steps config n (order_behind_step config n order step) (after_step config s placed.task step placed.effect) t (left_after now_due) steps keys.1 keys.0
    (passed (is_right config placed) _ t after).rest

keys-behind-record : (config : Config) (n : ℕ) (order : Order) (s t : Situation) (entry : Record)
    → HaveKeys config n order (after_event entry.event s) (tasks_in s entry.event) (steps_of entry) → HasKeys order s.held → after_record config s entry ≡ Some t
    → HasKeys (order_behind config n order (steps_of entry)) t.held
keys-behind-record config n order s t entry keys has after =
    keys-behind-steps config n order (after_event entry.event s) t (tasks_in s entry.event) (steps_of entry) keys
    (subst (HasKeys order) (sym (held-after-event entry.event s)) has) (passed _ _ t after).rest

-- a front of records
keys-at-end : (config : Config) (n : ℕ) (order : Order) (s t : Situation) (front rest : List Record)
    → HaveKeysFrom config n order s (front ++ rest) → HasKeys order s.held → after_records config s front ≡ Some t → HasKeys (order_at_end config n order front) t.held
keys-at-end config n order s t [] rest keys has after = subst (λ (x : Situation). HasKeys order x.held) (same_Some s t after) has
keys-at-end config n order s t (entry ∷ front) rest keys has after =
    go (λ r. keys-at-end config n (order_behind config n order (steps_of entry)) r t front rest) (after_record config s entry) refl
  where
    go : ((r : Situation) → HaveKeysFrom config n (order_behind config n order (steps_of entry)) r (front ++ rest) → HasKeys (order_behind config n order (steps_of entry)) r.held
        → after_records config r front ≡ Some t → HasKeys (order_at_end config n (order_behind config n order (steps_of entry)) front) t.held)
        → (o : Option Situation) → after_record config s entry ≡ o → HasKeys (order_at_end config n order (entry ∷ front)) t.held
    go next None e = absurd (none-some t (sym (ap (λ o. option_and_then (λ z. after_records config z front) o) e) ∙ after))
    go next (Some r) e =
        let P : Option Situation → Type 0 = λ o. MatchOption o ⊥ (λ z. HaveKeysFrom config n (order_behind config n order (steps_of entry)) z (front ++ rest)) in
        next r (subst P e keys.1) (keys-behind-record config n order s r entry keys.0 has e) (sym (ap (λ o. option_and_then (λ z. after_records config z front) o) e) ∙ after)

-- ---- the list

pub keeps-list : (config : Config) (places : ℕ) (transcript : Transcript) → HasExactKeys config places transcript → KeepsList config places transcript
keeps-list config places transcript exact = λ front rest commands s joined after synced.
    let n = suc places in
    let start = empty_situation transcript.made.nanos in
    let keys = keys-at-end config n (Settled []) start s front rest (subst (HaveKeysFrom config n (Settled []) start) joined exact) (IsPermutation-refl []) after in
    subst (λ (o : Order). HasKeys o s.held) (sym (order-of-steps config n (Settled []) front) ∙ synced-order config n commands (flat_map steps_of front) [] synced) keys
