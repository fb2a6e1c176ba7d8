-- Records, and whole transcripts, agree.
use Rattle.std.proofs.Common.{inr, inl, ◌≡◌, refl, ap, ◌∙◌, sym, ℕ, Bool, true, false, true≢false, ◌&&◌, cond, List, [], ◌∷◌, ◌++◌, Option, Some, None, is_some, is_none, nat_lt, nat_le, arith}
use Rattle.std.specs.Prelude.{◌==◌}
use Rattle.std.specs.List.{list_all, find, flat_map}
use Rattle.std.specs.Option.{option_map, option_map_or, option_and_then}
use Rattle.std.proofs.Math.Path.{fun_ext}
use Rattle.std.proofs.lemmas.Bool.{cases_Bool, and_parts}
use Rattle.std.proofs.lemmas.Bool.Decides.{nat_tests}
use Rattle.audit_model.specs.Belongs.{refusal_of, known_from, is_admitted}
use Rattle.audit_model.specs.Bytewise.{is_empty}
use Rattle.audit_model.specs.Follows.{tasks_in, after_event, after_steps, known_in, after_record, after_records}
use Rattle.audit_model.specs.History.{History}
use Rattle.audit_model.specs.Loads.{Sent, loads_under_way, key_of_load, waiting_for}
use Rattle.audit_model.specs.Obeys.{is_numbered, has_right_number, is_finished, has_right_own_value, is_right_record}
use Rattle.audit_model.specs.Places.{tasks_to_answer, tasks_to_give_up, tasks_to_feed, tasks_of, happening_of, steps_of, PlacedRecord, placed_record, placed_records_after, history_after}
use Rattle.audit_model.specs.Situation.{Situation, empty_situation, is_holding, connection_in, pending_key, waiting_in, Ready, Held, Waiting}
use Rattle.audit_model.specs.Steps.{is_right}
use Rattle.audit_model.specs.Stream.{opened_count, was_opened, holds, is_open}
use Rattle.audit_model.specs.Summary.{connection_from, pending_from, situation_of, LeadsToSummary}
use Rattle.audit_model.specs.declared.config.Config.{Config}
use Rattle.audit_model.specs.declared.event.Event.{Event}
use Rattle.audit_model.specs.declared.event.Event.TheVariants as event
use Rattle.audit_model.specs.declared.transcript.Record.{Record}
use Rattle.audit_laws.specs.Placing.{placed_steps_in, placed_in, all_placed_in}
use Rattle.audit_laws.proofs.HeldStep.{find-map}
use Rattle.audit_laws.proofs.Views.{key-same}
use Rattle.audit_laws.proofs.Connections.{connection-of, open-same}
use Rattle.audit_laws.proofs.Sound.{Sound, Admitted, is-admitted, situation-event}
use Rattle.audit_laws.proofs.SoundSteps.{sound-event}
use Rattle.audit_laws.proofs.InOrder.{in_order-event}
use Rattle.audit_laws.proofs.WalkAgrees.{Agrees, walk_agrees, outcome_of}

module _ (config : Config) (made : ℕ) (past : History) (h : Sound past) where
  abbrev s : Situation
  s = situation_of config made past

  -- an event is refused alike in the situation and in the history
  pub known-same : known_in s ≡ known_from past
  known-same =
      ap (λ f. record { was_opened = f; is_open = λ conn. is_some (connection_in conn s); is_under_way = λ load. is_some (pending_key load s) }) (fun_ext (λ c. sym (h.opened c)))
      ∙ ap (λ f. record { was_opened = λ conn. was_opened conn past; is_open = f; is_under_way = λ load. is_some (pending_key load s) }) (fun_ext (λ c. sym (open-same config made past c)))
      ∙ ap (λ f. record { was_opened = λ conn. was_opened conn past; is_open = λ conn. is_open conn past; is_under_way = f }) (fun_ext (λ l. ap is_some (sym (key_of l))))
    where
      key_of : (load : ℕ) → key_of_load load past ≡ pending_key load s
      key_of load = key-same config made past h.stand load

  waiting-same : (load : ℕ) → waiting_in load s ≡ waiting_for (key_of_load load past) past
  waiting-same load =
      ap (λ o. option_map_or (λ u. u.waiting) o []) (find-map (pending_from past) (λ u. u.number == load) (loads_under_way past))
      ∙ go (find (λ sent. sent.number == load) (loads_under_way past))
    where
      go : (o : Option Sent) → option_map_or (λ u. u.waiting) (option_map (pending_from past) o) [] ≡ waiting_for (option_map (λ sent. sent.key) o) past
      go None = refl
      go (Some sent) = refl

  holding_by : (c : ℕ) (b w : Bool) (x y : List ℕ) → is_holding (cond b (Held x) (cond w (Waiting y) Ready)) ≡ b
  holding_by c true w x y = refl
  holding_by c false true x y = refl
  holding_by c false false x y = refl

  holding-same : (c : ℕ) → is_open c past ≡ true → option_map_or (λ l. is_holding l.standing) (connection_in c s) false ≡ holds c past
  holding-same c e =
      ap (λ o. option_map_or (λ l. is_holding l.standing) o false) (connection-of config made past c ∙ ap (λ b. cond b (Some (connection_from past c)) None) e)
      ∙ holding_by c (holds c past) _ _ _

  tasks-same : (e : Event) → Admitted past e → tasks_in s e ≡ tasks_of past e
  tasks-same (event.Open c) a = refl
  tasks-same (event.Close c) a = refl
  tasks-same (event.Feed c piece moment) a = ap (tasks_to_feed c) (holding-same c a)
  tasks-same (event.Answer load outcome moment) a =
      ap (λ k. tasks_to_answer k outcome (waiting_in load s)) (sym (key-same config made past h.stand load))
      ∙ ap (tasks_to_answer (key_of_load load past) outcome) (waiting-same load)
  tasks-same (event.GiveUp load moment) a = ap tasks_to_give_up (waiting-same load)

abbrev pub is_good_record : Config → PlacedRecord → Bool
is_good_record config placed = is_admitted config placed && is_right_record config placed

-- the tests of a record, in the order of both definitions
sorted_tests : {X : Type 0} (A N O D L : Bool) (x : Option X) → cond (A && N && O) (cond (L && D) x None) None ≡ cond (A && (N && D && O && L)) x None
sorted_tests false N O D L x = refl
sorted_tests true false O D L x = refl
sorted_tests true true false true L x = refl
sorted_tests true true false false L x = refl
sorted_tests true true true true true x = refl
sorted_tests true true true true false x = refl
sorted_tests true true true false true x = refl
sorted_tests true true true false false x = refl

module _ (config : Config) (made : ℕ) (past : History) (h : Sound past) (entry : Record) where
  abbrev now : Situation
  now = situation_of config made past

  abbrev placed : PlacedRecord
  placed = placed_record config made past entry

  abbrev A : Bool
  A = is_none (refusal_of config (known_from past) entry.event)

  abbrev N : Bool
  N = is_numbered (opened_count past) entry.event

  abbrev rest : Option Situation
  rest = after_steps config (after_event entry.event now) (tasks_in now entry.event) (steps_of entry)

  taken : A ≡ true → N ≡ true → Agrees config made (happening_of entry.event ∷ past) (tasks_of past entry.event) (steps_of entry)
  taken a n =
      let ad : Admitted past entry.event = is-admitted config past entry.event a n in
      walk_agrees config made (steps_of entry) (happening_of entry.event ∷ past) (tasks_of past entry.event) (sound-event past h entry.event ad) (in_order-event entry.event past h ad)

  rest-same : A ≡ true → N ≡ true → rest ≡ outcome_of config made placed.walked
  rest-same a n =
      let ad : Admitted past entry.event = is-admitted config past entry.event a n in
      ap (λ s'. after_steps config s' (tasks_in now entry.event) (steps_of entry)) (sym (situation-event config made past h entry.event ad))
      ∙ ap (λ ts. after_steps config (situation_of config made (happening_of entry.event ∷ past)) ts (steps_of entry)) (tasks-same config made past h entry.event ad)
      ∙ (taken a n).is

  under_tests : (a n o : Bool) → A ≡ a → N ≡ n → cond (a && n && o) rest None ≡ cond (a && n && o) (outcome_of config made placed.walked) None
  under_tests false n o e f = refl
  under_tests true false o e f = refl
  under_tests true true false e f = refl
  under_tests true true true e f = rest-same e f

  pub record-same : after_record config now entry ≡ cond (is_good_record config placed) (Some (situation_of config made placed.walked.after)) None
  record-same =
      ap (λ k. cond (is_none (refusal_of config k entry.event) && is_numbered now.opened entry.event && has_right_own_value entry) rest None) (known-same config made past h)
      ∙ under_tests A N (has_right_own_value entry) refl refl
      ∙ sorted_tests A N (has_right_own_value entry) (is_empty placed.walked.left) (list_all (is_right config) placed.walked.placed_steps) (Some (situation_of config made placed.walked.after))

  pub record-sound : is_good_record config placed ≡ true → Sound placed.walked.after
  record-sound e =
      let p = and_parts A _ e in
      let q = and_parts (has_right_number placed && is_finished placed && has_right_own_value entry) _ p.1 in
      let r = and_parts (has_right_number placed && is_finished placed) _ q.0 in
      (taken p.0 (and_parts N _ r.0).0).sound q.1

  pub record-placed : is_good_record config placed ≡ true → placed.walked.placed_steps ≡ placed_in config now entry
  record-placed e =
      let p = and_parts A _ e in
      let q = and_parts (has_right_number placed && is_finished placed && has_right_own_value entry) _ p.1 in
      let r = and_parts (has_right_number placed && is_finished placed) _ q.0 in
      let n = (and_parts N _ r.0).0 in
      let ad : Admitted past entry.event = is-admitted config past entry.event p.0 n in
      (taken p.0 n).placed q.1
      ∙ ap (λ s'. placed_steps_in config s' (tasks_of past entry.event) (steps_of entry)) (situation-event config made past h entry.event ad)
      ∙ ap (λ ts. placed_steps_in config (after_event entry.event now) ts (steps_of entry)) (sym (tasks-same config made past h entry.event ad))

abbrev pub outcome_after : Config → ℕ → History → List Record → Option Situation
outcome_after config made past entries =
    cond (list_all (is_good_record config) (placed_records_after config made past entries)) (Some (situation_of config made (history_after config made past entries))) None

pub records-same : (config : Config) (made : ℕ) (entries : List Record) (past : History) → Sound past
    → after_records config (situation_of config made past) entries ≡ outcome_after config made past entries
records-same config made [] past h = refl
records-same config made (entry ∷ entries) past h =
    ap (option_and_then (λ t. after_records config t entries)) (record-same config made past h entry)
    ∙ (elim (cases_Bool (is_good_record config (placed_record config made past entry))) [
      | inl is ↦ rw is (records-same config made entries (placed_record config made past entry).walked.after (record-sound config made past h entry is))
      | inr is ↦ rw is
    ])

-- the steps of good records have the same places
pub records-placed : (config : Config) (made : ℕ) (entries : List Record) (past : History) → Sound past
    → list_all (is_good_record config) (placed_records_after config made past entries) ≡ true
    → flat_map (λ placed. placed.walked.placed_steps) (placed_records_after config made past entries) ≡ all_placed_in config (situation_of config made past) entries
records-placed config made [] past h e = refl
records-placed config made (entry ∷ entries) past h e =
    let good = and_parts (is_good_record config (placed_record config made past entry)) _ e in
    let later = (placed_record config made past entry).walked.after in
    ap (λ xs. (placed_record config made past entry).walked.placed_steps ++ xs) (records-placed config made entries later (record-sound config made past h entry good.0) good.1)
    ∙ ap (λ xs. xs ++ all_placed_in config (situation_of config made later) entries) (record-placed config made past h entry good.0)
    ∙ ap (λ o. placed_in config (situation_of config made past) entry ++ option_map_or (λ t. all_placed_in config t entries) o [])
    (sym (record-same config made past h entry ∙ ap (λ b. cond b (Some (situation_of config made later)) None) good.0))

none_opened : (c : ℕ) → false ≡ (nat_lt 0 c && nat_le c 0)
none_opened c = grind (arith, nat_tests)

pub sound-empty : Sound []
sound-empty =
    record {
      stand = tt;
      opened = none_opened;
      listed = tt;
      joined_opened = λ key. tt;
      fresh = λ c k. refl;
      complete = λ c. record { answered = refl; read = λ e. absurd (true≢false (sym e)) };
      sent_numbers = tt;
      keys = tt;
      unsettled = λ n k. refl;
    }

pub records-from_empty : (config : Config) (made : ℕ) (entries : List Record) → after_records config (empty_situation made) entries ≡ outcome_after config made [] entries
records-from_empty config made entries = records-same config made entries [] sound-empty

-- records that follow one another lead to the situation that their history leaves
pub leads-to_summary : (config : Config) (made : ℕ) (entries : List Record) → is_some (after_records config (empty_situation made) entries) ≡ true → LeadsToSummary config made entries
leads-to_summary config made entries e =
    records-from_empty config made entries ∙ (elim (cases_Bool (list_all (is_good_record config) (placed_records_after config made [] entries))) [
      | inl is ↦ rw is
      | inr is ↦ rw is (absurd (true≢false (sym (rw is at (sym (ap is_some (records-from_empty config made entries)) ∙ e)))))
    ])
