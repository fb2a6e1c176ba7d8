-- The first record that breaks a rule is the same in the whole history and by situations.
use Rattle.std.proofs.Common.{inr, inl, ◌≡◌, refl, ap, ◌∙◌, sym, ℕ, zero, suc, ◌+◌, Bool, true, false, ◌&&◌, cond, List, [], ◌∷◌, ◌++◌, append_assoc, Option, Some, None, is_some, length, take, arith, true≢false, subst, ◌<◌, ◌≤◌, zero-add}
use Rattle.std.specs.Prelude.{IsTrue, ◌==◌, MatchOption}
use Rattle.std.proofs.lemmas.Bool.Decides.{nat_tests}
use Rattle.std.specs.Option.{option_or, option_map_or, option_and_then}
use Rattle.audit_model.specs.Belongs.{is_good, first_break_within}
use Rattle.audit_model.specs.Follows.{after_record, after_records, followed}
use Rattle.audit_model.specs.History.{Value}
use Rattle.audit_model.specs.Obeys.{accepted_values, agree_on_parts}
use Rattle.audit_model.specs.Places.{placed_steps}
use Rattle.audit_model.specs.Situation.{Situation, empty_situation}
use Rattle.audit_model.specs.declared.config.Config.{Config}
use Rattle.audit_model.specs.declared.event.Instant.{Instant}
use Rattle.audit_model.specs.declared.transcript.Record.{Record}
use Rattle.audit_model.specs.declared.transcript.Transcript.{Transcript}
use Rattle.audit_laws.specs.Placing.{accepted_in}
use Rattle.audit_laws.specs.Breaking.{first_break_from, IsFaultless, transcript_front, BreaksFirstAt}
use Rattle.audit_laws.specs.Laws.{BreaksAgree, BreaksWhereUnfollowed, FirstBreakIsFirst}
use Rattle.audit_laws.proofs.Fronts.{parts_front}
use Rattle.audit_laws.proofs.Following.{after_records-append}
use Rattle.audit_laws.proofs.Journals.{accepted-more}
use Rattle.audit_laws.proofs.FirstFailing.{first_from, later-sum, first_from-last, Finds, finds-from}
use Rattle.audit_laws.proofs.Faultless.{good-test, good_is_faultless}
use Rattle.std.proofs.lemmas.Bool.{cases_Bool}

-- ---- fronts

take-front : (front : List Record) (entry : Record) (rest : List Record) → take (suc (length front)) (front ++ entry ∷ rest) ≡ front ++ entry ∷ []
take-front [] entry rest = refl
take-front (x ∷ front) entry rest = ap (λ xs. x ∷ xs) (take-front front entry rest)

length-longer : (front : List Record) (entry : Record) → length (front ++ entry ∷ []) ≡ suc (length front)
length-longer [] entry = refl
length-longer (x ∷ front) entry = ap suc (length-longer front entry)

module _ (config : Config) (made : Instant) (records : List Record) where
  abbrev start : Situation
  start = empty_situation made.nanos

  abbrev of : List Record → Transcript
  of front = record { made = made; records = front }

  abbrev good_front : ℕ → Bool
  good_front n = is_good config (of (take n records))

  within-from : (n : ℕ) → first_break_within config (of records) n ≡ first_from good_front 0 n
  within-from zero = refl
  within-from (suc n) =
      ap (λ o. option_or o (cond (good_front (suc n)) None (Some (suc n)))) (within-from n)
      ∙ ap (λ k. option_or (first_from good_front 0 n) (cond (good_front (suc k)) None (Some (suc k)))) (sym (later-sum 0 n ∙ omega arith))
      ∙ sym (first_from-last good_front 0 n)

  -- a front leads to s and accepts these values
  record Stood (front : List Record) (m : ℕ) (s : Situation) (values : List Value) : Type 0 where
    number : length front ≡ m
    leads : after_records config start front ≡ Some s
    accepted : accepted_values (placed_steps config (of front)) ≡ values

  module _ (front : List Record) (m : ℕ) (s : Situation) (values : List Value) (stood : Stood front m s values) (entry : Record) where
    abbrev longer : List Record
    longer = front ++ entry ∷ []

    follows-same : after_records config start longer ≡ after_record config s entry
    follows-same =
        after_records-append config start front (entry ∷ [])
        ∙ ap (option_and_then (λ u. after_records config u (entry ∷ []))) stood.leads
        ∙ ended (after_record config s entry)
      where
        ended : (o : Option Situation) → option_and_then (λ u. Some u) o ≡ o
        ended None = refl
        ended (Some t) = refl

    good-longer : (o : Option Situation) → after_record config s entry ≡ o
        → is_good config (of longer) ≡ option_map_or (λ t. agree_on_parts (values ++ accepted_in config s entry)) o false
    good-longer None e =
        good-test config (of longer) ∙ ap (λ o. is_some o && agree_on_parts (accepted_values (placed_steps config (of longer)))) (follows-same ∙ e)
    good-longer (Some t) e =
        good-test config (of longer)
        ∙ ap (λ o. is_some o && agree_on_parts (accepted_values (placed_steps config (of longer)))) (follows-same ∙ e)
        ∙ ap agree_on_parts (accepted-more config made front entry s t stood.leads e ∙ ap (λ vs. vs ++ accepted_in config s entry) stood.accepted)

    stood-longer : (t : Situation) → after_record config s entry ≡ Some t → Stood longer (suc m) t (values ++ accepted_in config s entry)
    stood-longer t e =
        record {
          number = length-longer front entry ∙ ap suc stood.number;
          leads = follows-same ∙ e;
          accepted = accepted-more config made front entry s t stood.leads e ∙ ap (λ vs. vs ++ accepted_in config s entry) stood.accepted;
        }

  from-same : (rest front : List Record) (m : ℕ) (s : Situation) (values : List Value) → records ≡ front ++ rest → Stood front m s values
      → first_from good_front m (length rest) ≡ first_break_from config s values m rest
  from-same [] front m s values e stood = refl
  from-same (entry ∷ rest) front m s values e stood =
      ap (λ b. cond b (first_from good_front (suc m) (length rest)) (Some (suc m)))
      (ap (λ n. good_front (suc n)) (sym stood.number)
      ∙ ap (λ rs. is_good config (of (take (suc (length front)) rs))) e
      ∙ ap (λ rs. is_good config (of rs)) (take-front front entry rest))
      ∙ go (λ t k. from-same rest (front ++ entry ∷ []) (suc m) t (values ++ accepted_in config s entry) (e ∙ sym (append_assoc front (entry ∷ []) rest)) (stood-longer front m s values stood entry t k))
      (after_record config s entry) refl (good-longer front m s values stood entry (after_record config s entry) refl)
    where
      go : ((t : Situation) → after_record config s entry ≡ Some t → first_from good_front (suc m) (length rest) ≡ first_break_from config t (values ++ accepted_in config s entry) (suc m) rest)
          → (o : Option Situation) → after_record config s entry ≡ o → is_good config (of (front ++ entry ∷ [])) ≡ option_map_or (λ t. agree_on_parts (values ++ accepted_in config s entry)) o false
          → cond (is_good config (of (front ++ entry ∷ []))) (first_from good_front (suc m) (length rest)) (Some (suc m))
          ≡ option_map_or (λ t. cond (agree_on_parts (values ++ accepted_in config s entry)) (first_break_from config t (values ++ accepted_in config s entry) (suc m) rest) (Some (suc m))) o (Some (suc m))
      go ih None k g = ap (λ b. cond b (first_from good_front (suc m) (length rest)) (Some (suc m))) g
      go ih (Some t) k g =
          ap (λ b. cond b (first_from good_front (suc m) (length rest)) (Some (suc m))) g ∙ (elim (cases_Bool (agree_on_parts (values ++ accepted_in config s entry))) [
            | inl e ↦ rw e (ih t k)
            | inr e ↦ rw e
          ])

  -- where each key has one part, the tests of parts pass
  one_part : IsTrue (agree_on_parts (accepted_values (placed_steps config (of records))))
      → (front rest : List Record) → records ≡ front ++ rest → (values : List Value) → accepted_values (placed_steps config (of front)) ≡ values → agree_on_parts values ≡ true
  one_part parts front rest e values is =
      ap agree_on_parts (sym is) ∙ parts_front config made.nanos front rest (subst (λ rs. IsTrue (agree_on_parts (accepted_values (placed_steps config (of rs))))) e parts)

  never_zero : (n : ℕ) → (0 == suc n) ≡ false
  never_zero n = grind (arith, nat_tests)

  eq-suc : (a b : ℕ) → (suc a == suc b) ≡ (a == b)
  eq-suc a b = grind (arith, nat_tests)

  moved : (a b : ℕ) → suc a + b ≡ a + suc b
  moved a b = omega arith

  unfollowed-same : IsTrue (agree_on_parts (accepted_values (placed_steps config (of records))))
      → (rest front : List Record) (m : ℕ) (s : Situation) (values : List Value) → records ≡ front ++ rest → Stood front m s values
      → first_break_from config s values m rest ≡ cond (followed config s rest == length rest) None (Some (suc (m + followed config s rest)))
  unfollowed-same parts [] front m s values e stood = refl
  unfollowed-same parts (entry ∷ rest) front m s values e stood =
      go (after_record config s entry) refl
      (λ t k. unfollowed-same parts rest (front ++ entry ∷ []) (suc m) t (values ++ accepted_in config s entry) (e ∙ sym (append_assoc front (entry ∷ []) rest)) (stood-longer front m s values stood entry t k))
    where
      go : (o : Option Situation) → after_record config s entry ≡ o
          → ((t : Situation) → after_record config s entry ≡ Some t
          → first_break_from config t (values ++ accepted_in config s entry) (suc m) rest ≡ cond (followed config t rest == length rest) None (Some (suc (suc m + followed config t rest))))
          → option_map_or (λ t. cond (agree_on_parts (values ++ accepted_in config s entry)) (first_break_from config t (values ++ accepted_in config s entry) (suc m) rest) (Some (suc m))) o (Some (suc m))
          ≡ cond (option_map_or (λ t. suc (followed config t rest)) o 0 == suc (length rest)) None (Some (suc (m + option_map_or (λ t. suc (followed config t rest)) o 0)))
      go None k ih = ap (λ n. Some (suc n)) (omega arith) ∙ sym (ap (λ b. cond b None (Some (suc (m + 0)))) (never_zero (length rest)))
      go (Some t) k ih =
          ap (λ b. cond b (first_break_from config t (values ++ accepted_in config s entry) (suc m) rest) (Some (suc m)))
          (one_part parts (front ++ entry ∷ []) rest (e ∙ sym (append_assoc front (entry ∷ []) rest)) (values ++ accepted_in config s entry) (stood-longer front m s values stood entry t k).accepted)
          ∙ ih t k
          ∙ ap (λ n. cond (followed config t rest == length rest) None (Some (suc n))) (moved m (followed config t rest))
          ∙ ap (λ b. cond b None (Some (suc (m + suc (followed config t rest))))) (sym (eq-suc (followed config t rest) (length rest)))

pub breaks_agree : BreaksAgree
breaks_agree config transcript =
    within-from config transcript.made transcript.records (length transcript.records)
    ∙ from-same config transcript.made transcript.records transcript.records [] 0 (empty_situation transcript.made.nanos) [] refl (record { number = refl; leads = refl; accepted = refl })

pub breaks_where_unfollowed : BreaksWhereUnfollowed
breaks_where_unfollowed config transcript parts =
    breaks_agree config transcript
    ∙ unfollowed-same config transcript.made transcript.records parts transcript.records [] 0 (empty_situation transcript.made.nanos) [] refl (record { number = refl; leads = refl; accepted = refl })
    ∙ ap (λ n. cond (followed config (empty_situation transcript.made.nanos) transcript.records == length transcript.records) None (Some (suc n))) (zero-add (followed config (empty_situation transcript.made.nanos) transcript.records))

-- ---- the first break is the first

take-all : {X : Type 0} (xs : List X) → take (length xs) xs ≡ xs
take-all [] = refl
take-all (x ∷ xs) = ap (λ ys. x ∷ ys) (take-all xs)

module _ (config : Config) (transcript : Transcript) where
  abbrev test : ℕ → Bool
  test n = good_front config transcript.made transcript.records n

  nothing : test 0 ≡ true
  nothing = refl

  all-pass : ((j : ℕ) → 0 < j → j ≤ 0 + length transcript.records → test j ≡ true) → test (length transcript.records) ≡ true
  all-pass all = from (length transcript.records) refl
    where
      from : (n : ℕ) → length transcript.records ≡ n → test (length transcript.records) ≡ true
      from zero e = ap test e ∙ nothing
      from (suc n) e = all (length transcript.records) (omega arith) (omega arith)

  earlier-pass : (n : ℕ) → ((j : ℕ) → 0 < j → j < n → test j ≡ true) → (j : ℕ) → j < n → test j ≡ true
  earlier-pass n all zero below = nothing
  earlier-pass n all (suc j) below = all (suc j) (omega arith) below

  found-first : (o : Option ℕ) → Finds test 0 (length transcript.records) o → MatchOption o (IsFaultless config transcript) (BreaksFirstAt config transcript)
  found-first None f =
      subst (λ rs. IsFaultless config (record transcript { records = rs })) (take-all transcript.records)
      ((good_is_faultless config (transcript_front (length transcript.records) transcript)).0 (all-pass f))
  found-first (Some n) f =
      record {
        above = f.above;
        within = subst (λ m. n ≤ m) (zero-add (length transcript.records)) f.within;
        faulty = λ good. true≢false (sym ((good_is_faultless config (transcript_front n transcript)).1 good) ∙ f.fails);
        before = λ m below. (good_is_faultless config (transcript_front m transcript)).0 (earlier-pass n f.before m below);
      }

pub first_break_is_first : FirstBreakIsFirst
first_break_is_first config transcript =
    subst (λ o. MatchOption o (IsFaultless config transcript) (BreaksFirstAt config transcript)) (sym (within-from config transcript.made transcript.records (length transcript.records)))
    (found-first config transcript (first_from (test config transcript) 0 (length transcript.records)) (finds-from (test config transcript) (length transcript.records) 0))
