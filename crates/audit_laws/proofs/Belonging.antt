-- Records that belong to inputs step by step.
use Rattle.std.proofs.Common.{arith, ◌≡◌, refl, ap, ◌∙◌, sym, subst, ℕ, true, true≢false, ◌&&◌, List, [], ◌∷◌, ◌++◌, Option, Some, None, is_none, inl, inr}
use Rattle.std.specs.Prelude.{MatchOption}
use Rattle.std.specs.Option.{option_and_then}
use Rattle.std.proofs.lemmas.Bool.{and_parts}
use Rattle.audit_model.specs.Belongs.{refusal_of, known_from, event_in, TakenOrNot, BelongsFrom}
use Rattle.audit_model.specs.BelongsIn.{TakenOrNotIn, BelongsIn}
use Rattle.audit_model.specs.Follows.{after_event, after_steps, tasks_in, known_in, after_records, Follows}
use Rattle.audit_model.specs.History.{History}
use Rattle.audit_model.specs.Obeys.{is_numbered, has_right_own_value}
use Rattle.audit_model.specs.Places.{placed_record, steps_of}
use Rattle.audit_model.specs.Situation.{Situation, empty_situation}
use Rattle.audit_model.specs.Stream.{opened_count}
use Rattle.audit_model.specs.Summary.{situation_of}
use Rattle.audit_model.specs.declared.config.Config.{Config}
use Rattle.audit_model.specs.declared.event.Event.{Event}
use Rattle.audit_model.specs.declared.input.Input.{Input}
use Rattle.audit_model.specs.declared.input.ServiceError.{ServiceError}
use Rattle.audit_model.specs.declared.transcript.Record.{Record}
use Rattle.audit_laws.specs.Laws.{BelongsStepByStep, BelongsOn}
use Rattle.std.proofs.lemmas.List.{append-nil}
use Rattle.audit_laws.proofs.Following.{passed}
use Rattle.audit_laws.proofs.RecordsAgree.{known-same, record-same, record-sound, sound-empty}
use Rattle.audit_laws.proofs.Sound.{Sound}
use Rattle.std.proofs.lemmas.Bool.Decides.{nat_tests}

-- ---- cases on an option

match-map : {X : Type 0} {P R : Type 0} {Q S : X → Type 0} (o : Option X) → (P → R) → ((x : X) → Q x → S x) → MatchOption o P Q → MatchOption o R S
match-map None f g h = f h
match-map (Some x) f g h = g x h

match-any : {X : Type 0} {P R : Type 0} {Q : X → Type 0} (o : Option X) → (P → R) → ((x : X) → Q x → R) → MatchOption o P Q → R
match-any None f g h = f h
match-any (Some x) f g h = g x h

-- ---- in parts

module _ (config : Config) (namespace : ℕ) where
  left-out : (s : Situation) (happened : Event) (entries : List Record) (Rest : Situation → List Record → Type 0) → Rest s entries → TakenOrNotIn config s happened entries Rest
  left-out s happened [] Rest h = h
  left-out s happened (entry ∷ entries) Rest h = inr h

  taken-on : (s : Situation) (happened : Event) (entries more : List Record) (Rest Then : Situation → List Record → Type 0)
      → ((t : Situation) (rest : List Record) → Rest t rest → Then t (rest ++ more))
      → TakenOrNotIn config s happened entries Rest → TakenOrNotIn config s happened (entries ++ more) Then
  taken-on s happened [] more Rest Then f h = left-out s happened more Then (f s [] h)
  taken-on s happened (entry ∷ entries) more Rest Then f (inl h) = inl (record { event = h.event; next = h.next; follows = h.follows; rest = f h.next entries h.rest })
  taken-on s happened (entry ∷ entries) more Rest Then f (inr h) = inr (f s (entry ∷ entries) h)

  -- two lists of inputs, one behind the other
  pub belongs_in-append : (inputs later : List Input) (s t u : Situation) (entries more : List Record)
      → BelongsIn config namespace s inputs entries t → BelongsIn config namespace t later more u → BelongsIn config namespace s (inputs ++ later) (entries ++ more) u
  belongs_in-append [] later s t u entries more h k =
      subst (λ es. BelongsIn config namespace s later (es ++ more) u) (sym h.0) (subst (λ x. BelongsIn config namespace x later more u) (sym h.1) k)
  belongs_in-append (i ∷ inputs) later s t u entries more h k =
      let on : (x : Situation) (rest : List Record) → BelongsIn config namespace x inputs rest t → BelongsIn config namespace x (inputs ++ later) (rest ++ more) u =
      λ x rest g. belongs_in-append inputs later x t u rest more g k in
      match-map (event_in namespace s.opened i) (on s entries)
      (λ happened. match-map (refusal_of config (known_in s) happened) (taken-on s happened entries more _ _ on) (λ refused. on s entries)) h

  -- ---- one input

  left-out_by : (o : Option Event) (refused : Event → Option ServiceError) (Here : Type 0) (Now : Event → Type 0) → Here → ((e : Event) → Here → Now e)
      → MatchOption o Here (λ e. MatchOption (refused e) (Now e) (λ r. Here))
  left-out_by None refused Here Now h f = h
  left-out_by (Some e) refused Here Now h f = go (refused e)
    where
      go : (r : Option ServiceError) → MatchOption r (Now e) (λ x. Here)
      go None = f e h
      go (Some r) = h

  -- an input may be left out
  pub left-out_one : (i : Input) (s : Situation) → BelongsIn config namespace s (i ∷ []) [] s
  left-out_one i s = left-out_by (event_in namespace s.opened i) (refusal_of config (known_in s)) _ _ (refl, refl) (λ e h. h)

  none-of : {X : Type 0} (o : Option X) → is_none o ≡ true → o ≡ None
  none-of None e = refl
  none-of (Some x) e = absurd (true≢false (sym e))

  -- what follows is not refused
  pub follows-unrefused : (s t : Situation) (entry : Record) → Follows config s entry t → refusal_of config (known_in s) entry.event ≡ None
  follows-unrefused s t entry f =
      let refusal = refusal_of config (known_in s) entry.event in
      let tests = passed (is_none refusal && is_numbered s.opened entry.event && has_right_own_value entry) (after_steps config (after_event entry.event s) (tasks_in s entry.event) (steps_of entry)) t f in
      none-of refusal (and_parts (is_none refusal) (is_numbered s.opened entry.event) (and_parts (is_none refusal && is_numbered s.opened entry.event) (has_right_own_value entry) tests.test).0).0

  -- or taken, with a record that is its event's and follows
  pub taken-one : (i : Input) (s t : Situation) (entry : Record) → event_in namespace s.opened i ≡ Some entry.event → Follows config s entry t
      → BelongsIn config namespace s (i ∷ []) (entry ∷ []) t
  taken-one i s t entry e f =
      subst (λ o. MatchOption o (BelongsIn config namespace s [] (entry ∷ []) t) (λ happened. MatchOption (refusal_of config (known_in s) happened) (Taking happened) (λ r. BelongsIn config namespace s [] (entry ∷ []) t))) (sym e)
      (subst (λ r. MatchOption r (Taking entry.event) (λ x. BelongsIn config namespace s [] (entry ∷ []) t)) (sym (follows-unrefused s t entry f))
      (inl (record { event = refl; next = t; follows = f; rest = (refl, refl) })))
    where
      Taking : Event → Type 0
      Taking happened = TakenOrNotIn config s happened (entry ∷ []) (λ x rest. BelongsIn config namespace x [] rest t)

  -- ---- what follows from it

  leads-taken : (s last : Situation) (happened : Event) (entries : List Record) (Rest : Situation → List Record → Type 0)
      → ((t : Situation) (rest : List Record) → Rest t rest → after_records config t rest ≡ Some last)
      → TakenOrNotIn config s happened entries Rest → after_records config s entries ≡ Some last
  leads-taken s last happened [] Rest f h = f s [] h
  leads-taken s last happened (entry ∷ entries) Rest f (inl h) =
      ap (option_and_then (λ t. after_records config t entries)) h.follows ∙ f h.next entries h.rest
  leads-taken s last happened (entry ∷ entries) Rest f (inr h) = f s (entry ∷ entries) h

  -- the records follow one another to the last situation
  pub belongs_in-leads : (inputs : List Input) (entries : List Record) (s last : Situation) → BelongsIn config namespace s inputs entries last → after_records config s entries ≡ Some last
  belongs_in-leads [] entries s last h = ap (after_records config s) h.0 ∙ ap Some h.1
  belongs_in-leads (i ∷ inputs) entries s last h =
      let on : (t : Situation) (rest : List Record) → BelongsIn config namespace t inputs rest last → after_records config t rest ≡ Some last =
      λ t rest g. belongs_in-leads inputs rest t last g in
      match-any (event_in namespace s.opened i) (on s entries)
      (λ happened. match-any (refusal_of config (known_in s) happened) (leads-taken s last happened entries _ on) (λ refused. on s entries)) h

  module _ (made : ℕ) where
    abbrev now : History → Situation
    now past = situation_of config made past

    -- the record is good, and leads to the situation that the history leaves
    record GoesOn (past : History) (entry : Record) (t : Situation) : Type 0 where
      sound : Sound (placed_record config made past entry).walked.after
      is : t ≡ now (placed_record config made past entry).walked.after

    goes-on : (past : History) (entry : Record) (t : Situation) → Sound past → Follows config (now past) entry t → GoesOn past entry t
    goes-on past entry t h f =
        let next = record-sound config made past h entry in
        let next2 = sym (record-same config made past h entry) ∙ f in
        grind (arith, nat_tests, next, next2)

    belongs-taken : (past : History) (happened : Event) (entries : List Record) (Rest : Situation → List Record → Type 0) (Then : History → List Record → Type 0)
        → Sound past → ((later : History) (rest : List Record) → Sound later → Rest (now later) rest → Then later rest)
        → TakenOrNotIn config (now past) happened entries Rest → TakenOrNot config made past happened entries Then
    belongs-taken past happened [] Rest Then sound f h = f past [] sound h
    belongs-taken past happened (entry ∷ entries) Rest Then sound f (inl h) =
        let on : GoesOn past entry h.next = goes-on past entry h.next sound h.follows in
        inl (h.event, f (placed_record config made past entry).walked.after entries on.sound (subst (λ t. Rest t entries) on.is h.rest))
    belongs-taken past happened (entry ∷ entries) Rest Then sound f (inr h) = inr (f past (entry ∷ entries) sound h)

    -- they belong to the inputs, from a history that leaves the first situation
    pub belongs_in-from : (inputs : List Input) (entries : List Record) (past : History) (last : Situation) → Sound past
        → BelongsIn config namespace (now past) inputs entries last → BelongsFrom config namespace made past inputs entries
    belongs_in-from [] entries past last sound h = h.0
    belongs_in-from (i ∷ inputs) entries past last sound h =
        let on : (later : History) (rest : List Record) → Sound later → BelongsIn config namespace (now later) inputs rest last → BelongsFrom config namespace made later inputs rest =
        λ later rest k g. belongs_in-from inputs rest later last k g in
        match-map (event_in namespace (opened_count past) i) (on past entries sound)
        (λ happened. match-map (refusal_of config (known_from past) happened) (belongs-taken past happened entries _ _ sound on) (λ refused. on past entries sound))
        (subst (λ known. MatchOption (event_in namespace (opened_count past) i) (BelongsIn config namespace (now past) inputs entries last)
        (λ happened. MatchOption (refusal_of config known happened)
        (TakenOrNotIn config (now past) happened entries (λ t rest. BelongsIn config namespace t inputs rest last))
        (λ refused. BelongsIn config namespace (now past) inputs entries last))) (known-same config made past sound) h)

-- ---- the laws

pub belongs_step_by_step : BelongsStepByStep
belongs_step_by_step =
    record {
      leads = λ config namespace inputs records s last h. belongs_in-leads config namespace inputs records s last h;
      belongs = λ config namespace made inputs records last h.
          (belongs_in-leads config namespace inputs records (empty_situation made.nanos) last h, belongs_in-from config namespace made.nanos inputs records [] last sound-empty h);
    }

pub belongs_on : BelongsOn
belongs_on =
    record {
      none = λ config namespace s. (refl, refl);
      left_out = λ config namespace inputs i records s last h.
          subst (λ rs. BelongsIn config namespace s (inputs ++ i ∷ []) rs last) (append-nil records) (belongs_in-append config namespace inputs (i ∷ []) s last last records [] h (left-out_one config namespace i last));
      taken = λ config namespace inputs i records entry s last next h e f.
          belongs_in-append config namespace inputs (i ∷ []) s last next records (entry ∷ []) h (taken-one config namespace i last next entry e f);
      in_parts = λ config namespace inputs later records more s t u h k. belongs_in-append config namespace inputs later s t u records more h k;
    }
