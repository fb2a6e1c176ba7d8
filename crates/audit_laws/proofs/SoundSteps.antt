-- Admitted events and right steps keep a history sound.
use Rattle.std.proofs.Common.{◌≡◌, refl, ap, ◌∙◌, sym, subst, ℕ, suc, ◌<◌, ◌≤◌, Bool, true, false, true≢false, not, ◌&&◌, ◌||◌, cond, List, [], ◌∷◌, ◌++◌, Option, Some, None, length, is_some, arith, nat_lt, nat_le}
use Rattle.std.specs.Prelude.{◌==◌}
use Rattle.std.specs.List.{filter, find}
use Rattle.std.specs.Option.{option_map}
use Rattle.std.proofs.lemmas.Bool.{cond_both, ne_eqb, eqb-true}
use Rattle.std.proofs.lemmas.Bool.Decides.{nat_tests}
use Rattle.audit_model.specs.History.{Effect, History, Opened, Closed, Fed, Settled, Stored, Ran}
use Rattle.audit_model.specs.Loads.{Sent, key_loaded, sent_by, loads_sent, is_load_settled, loads_under_way, key_of_load, waits_for, sends_for, joined}
use Rattle.audit_model.specs.Places.{happening_of}
use Rattle.audit_model.specs.Steps.{Task}
use Rattle.audit_model.specs.Stream.{opened_count, is_waiting, is_open}
use Rattle.audit_model.specs.Summary.{opened_conns}
use Rattle.audit_model.specs.declared.config.Config.{Config}
use Rattle.audit_model.specs.declared.event.Event.{Event}
use Rattle.audit_model.specs.declared.event.Event.TheVariants as event
use Rattle.audit_model.specs.declared.event.Outcome.{Outcome}
use Rattle.audit_model.specs.declared.event.Instant.{Instant}
use Rattle.audit_model.specs.declared.transcript.Step.{Step}
use Rattle.audit_laws.proofs.Told.{each-filter, Each, each-append, each-more}
use Rattle.audit_laws.proofs.HeldEvent.{stand-event}
use Rattle.audit_laws.proofs.Connections.{facts, facts-opened, facts-closed, facts-fed, facts-ran, facts-own}
use Rattle.audit_laws.proofs.LinesRead.{Complete, facts-own_fed, complete-fed, complete-ran}
use Rattle.audit_laws.proofs.Connections.{open_in}
use Rattle.audit_laws.proofs.PendingLoads.{SendsRightly, settled-filter}
use Rattle.audit_laws.proofs.Leaving.{Distinct, distinct-filter}
use Rattle.audit_laws.proofs.Changes.{StepFits, StoreFits, NumbersRightly, stand-ran, stand-stored}
use Rattle.audit_laws.proofs.Sound.{Sound, le_open, le_other', Admitted}

one_more : (x n : ℕ) → ((suc n == x) || (nat_lt 0 x && nat_le x n)) ≡ (nat_lt 0 x && nat_le x (suc n))
one_more x n = grind (arith, nat_tests)

module _ (past : History) (h : Sound past) where
  -- ---- events

  pub sound-opened : (c : ℕ) → c ≡ suc (opened_count past) → Sound (Opened c ∷ past)
  sound-opened c next =
      record {
        stand = stand-event past (event.Open c) h.stand;
        opened = λ x. ap (λ b. (c == x) || b) (h.opened x) ∙ ap (λ m. (m == x) || (nat_lt 0 x && nat_le x (opened_count past))) next ∙ one_more x (opened_count past);
        listed = each-append _ (opened_conns past) (c ∷ []) (each-more _ _ (opened_conns past) (λ d k. omega arith) h.listed) (omega arith, tt);
        joined_opened = λ key. each-more _ _ (joined key past) (λ d k. omega arith) (h.joined_opened key);
        fresh = λ x k. facts-opened x c past (ne_eqb c x (λ e. omega arith)) ∙ h.fresh x (omega arith);
        complete = λ x. record { answered = (h.complete x).answered; read = (h.complete x).read };
        sent_numbers = h.sent_numbers;
        keys = h.keys;
        unsettled = h.unsettled;
      }

  module _ (c : ℕ) (is : is_open c past ≡ true) where
    below : c ≤ opened_count past
    below = le_open c past h is

    pub sound-closed : Sound (Closed c ∷ past)
    sound-closed =
        record {
          stand = stand-event past (event.Close c) h.stand;
          opened = h.opened;
          listed = h.listed;
          joined_opened = h.joined_opened;
          fresh = λ x k. facts-closed x c past (le_other' x c (opened_count past) below k) ∙ h.fresh x k;
          complete = λ x. record { answered = (h.complete x).answered; read = (h.complete x).read };
          sent_numbers = h.sent_numbers;
          keys = h.keys;
          unsettled = h.unsettled;
        }

    complete_one : (piece : List ℕ) (moment x : ℕ) (same : Bool) → (c == x) ≡ same → Complete (facts x (Fed c piece moment ∷ past))
    complete_one piece moment x true e =
        subst (λ y. Complete (facts y (Fed c piece moment ∷ past))) (eqb-true c x e) (subst Complete (sym (facts-own_fed c piece moment past)) (complete-fed piece (facts c past) (h.complete c)))
    complete_one piece moment x false e = subst Complete (sym (facts-fed x c piece moment past e)) (h.complete x)

    pub sound-fed : (piece : List ℕ) (moment : Instant) → Sound (Fed c piece moment.nanos ∷ past)
    sound-fed piece moment =
        record {
          stand = stand-event past (event.Feed c piece moment) h.stand;
          opened = h.opened;
          listed = h.listed;
          joined_opened = h.joined_opened;
          fresh = λ x k. facts-fed x c piece moment.nanos past (le_other' x c (opened_count past) below k) ∙ h.fresh x k;
          complete = λ x. complete_one piece moment.nanos x (c == x) refl;
          sent_numbers = h.sent_numbers;
          keys = h.keys;
          unsettled = h.unsettled;
        }

  found_within : (load n : ℕ) (sents : List Sent) → Each (λ sent. sent.number ≤ n) sents → is_some (option_map (λ sent. sent.key) (find (λ sent. sent.number == load) sents)) ≡ true → load ≤ n
  found_within load n [] k e = absurd (true≢false (sym e))
  found_within load n (x ∷ xs) (p, k) e = let next = found_within load n xs k in grind (arith, nat_tests, e, next)

  pub sound-settled : (load : ℕ) (moment : Instant) → is_some (key_of_load load past) ≡ true → Sound (Settled load moment.nanos ∷ past)
  sound-settled load moment a =
      record {
        stand = stand-event past (event.GiveUp load moment) h.stand;
        opened = h.opened;
        listed = h.listed;
        joined_opened = h.joined_opened;
        fresh = h.fresh;
        complete = h.complete;
        sent_numbers = h.sent_numbers;
        keys = subst Distinct (sym (settled-filter load past (loads_sent past))) (distinct-filter (λ sent. not (sent.number == load)) (loads_under_way past) h.keys);
        unsettled = λ n k. ap (λ b. b || is_load_settled n past) (ne_eqb load n (λ e. omega (arith, within))) ∙ h.unsettled n k;
      }
    where
      within : load ≤ length (loads_sent past)
      within = found_within load (length (loads_sent past)) (loads_under_way past) (each-filter _ _ (loads_sent past) h.sent_numbers) a

  pub sound-event : (e : Event) → Admitted past e → Sound (happening_of e ∷ past)
  sound-event (event.Open c) a = sound-opened c a
  sound-event (event.Close c) a = sound-closed c a
  sound-event (event.Feed c piece moment) a = sound-fed c a piece moment
  sound-event (event.Answer load outcome moment) a = sound-settled load moment a
  sound-event (event.GiveUp load moment) a = sound-settled load moment a

  -- ---- steps

  pub sound-stored : (config : Config) (made : ℕ) (key : Option (List ℕ)) (outcome : Outcome) (step : Step) (effect : Effect) → StoreFits config made past key outcome effect → Sound (Stored effect ∷ past)
  sound-stored config made key outcome step effect fits =
      record {
        stand = stand-stored config made past key outcome step effect h.stand fits;
        opened = h.opened;
        listed = h.listed;
        joined_opened = h.joined_opened;
        fresh = h.fresh;
        complete = h.complete;
        sent_numbers = h.sent_numbers;
        keys = h.keys;
        unsettled = h.unsettled;
      }

  module _ (config : Config) (made : ℕ) (task : Option Task) (step : Step) (effect : Effect) (fits : StepFits config made past task step effect) where
    abbrev c : ℕ
    c = step.conn

    abbrev then' : History
    then' = Ran c effect ∷ past

    within : c ≤ opened_count past
    within = le_open c past h fits.is_open

    complete_ran : (x : ℕ) (same : Bool) → (c == x) ≡ same → Complete (facts x then')
    complete_ran x true e =
        subst (λ y. Complete (facts y then')) (eqb-true c x e) (subst Complete (sym (facts-own c effect past)) (complete-ran c effect past step.line fits.held_silent fits.line (h.complete c)))
    complete_ran x false e = subst Complete (sym (facts-ran x c effect past e)) (h.complete x)

    numbers_then : (ko : Option (List ℕ)) (lo : Option ℕ) → NumbersRightly past ko lo → Each (λ sent. sent.number ≤ length (sent_by ko lo ++ loads_sent past)) (sent_by ko lo ++ loads_sent past)
    numbers_then None lo r = h.sent_numbers
    numbers_then (Some key) None r = h.sent_numbers
    numbers_then (Some key) (Some n) r = (omega arith, each-more _ _ (loads_sent past) (λ sent k. omega arith) h.sent_numbers)

    keys_then : (waits : Bool) (ko : Option (List ℕ)) (lo : Option ℕ) → SendsRightly past c (λ d. open_in (facts d past)) fits.is_open waits ko lo
        → Distinct (filter (λ sent. not (is_load_settled sent.number past)) (sent_by ko lo ++ loads_sent past))
    keys_then waits None lo r = h.keys
    keys_then waits (Some key) None r = h.keys
    keys_then waits (Some key) (Some n) r = grind (arith, nat_tests, r.2)

    unsettled_then : (ko : Option (List ℕ)) (lo : Option ℕ) (n : ℕ) → length (sent_by ko lo ++ loads_sent past) < n → is_load_settled n past ≡ false
    unsettled_then None lo n k = h.unsettled n k
    unsettled_then (Some key) None n k = h.unsettled n k
    unsettled_then (Some key) (Some m) n k = h.unsettled n (omega arith)

    pub sound-ran : Sound then'
    sound-ran =
        record {
          stand = stand-ran config made past task step effect h.stand fits;
          opened = h.opened;
          listed = h.listed;
          joined_opened = λ key.
              each-append _ (cond (sends_for key effect) [] (filter (λ x. not (x == c)) (joined key past))) _
              (cond_both (sends_for key effect) [] _ (Each _) (λ _. tt) (λ _. each-filter _ _ (joined key past) (h.joined_opened key)))
              (cond_both (waits_for key effect) _ [] (Each _) (λ _. (within, tt)) (λ _. tt));
          fresh = λ x k. facts-ran x c effect past (le_other' x c (opened_count past) within k) ∙ h.fresh x k;
          complete = λ x. complete_ran x (c == x) refl;
          sent_numbers = numbers_then (key_loaded effect.action) effect.load fits.numbers;
          keys = keys_then (is_waiting effect) (key_loaded effect.action) effect.load fits.sends;
          unsettled = λ n k. unsettled_then (key_loaded effect.action) effect.load n k;
        }
