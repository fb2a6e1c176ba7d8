-- A transcript obeys, and has no refused event, exactly where its keys have one part and its records follow one another.
use Rattle.std.proofs.Common.{inr, inl, ◌≡◌, refl, ap, ◌∙◌, sym, Bool, true, ◌&&◌, List, [], ◌∷◌, is_some}
use Rattle.std.specs.Prelude.{IsTrue}
use Rattle.std.specs.List.{list_all, flat_map}
use Rattle.std.proofs.lemmas.Bool.{cases_Bool, and_parts, and_from}
use Rattle.std.proofs.lemmas.List.Folds.{list_all-append}
use Rattle.audit_model.specs.Belongs.{is_admitted, IsAdmitted}
use Rattle.audit_model.specs.Follows.{after_records, AgreesWithHistory}
use Rattle.audit_laws.specs.Laws.{StepsAgree}
use Rattle.audit_model.specs.Obeys.{Obeys, has_right_number, is_finished, has_right_own_value, accepted_values, agree_on_parts, is_right_record}
use Rattle.audit_model.specs.Places.{PlacedRecord, placed_records, placed_steps}
use Rattle.audit_model.specs.Situation.{empty_situation}
use Rattle.audit_model.specs.Steps.{PlacedStep, is_in_turn, is_held_rightly, has_right_line, has_right_reply, has_right_load, has_right_acceptance, has_right_notes, is_quiet_where_silent, keeps_shares, is_right}
use Rattle.audit_model.specs.declared.config.Config.{Config}
use Rattle.audit_model.specs.declared.transcript.Transcript.{Transcript}
use Rattle.audit_laws.proofs.RecordsAgree.{is_good_record, records-from_empty}

pub all-more : {X : Type 0} (p q : X → Bool) (xs : List X) → ((x : X) → p x ≡ true → q x ≡ true) → list_all p xs ≡ true → list_all q xs ≡ true
all-more p q [] f h = refl
all-more p q (x ∷ xs) f h = let parts = and_parts (p x) (list_all p xs) h in and_from (q x) (list_all q xs) (f x parts.0) (all-more p q xs f parts.1)

pub all-both : {X : Type 0} (p q : X → Bool) (xs : List X) → list_all p xs ≡ true → list_all q xs ≡ true → list_all (λ x. p x && q x) xs ≡ true
all-both p q [] h k = refl
all-both p q (x ∷ xs) h k =
    let a = and_parts (p x) (list_all p xs) h in
    let b = and_parts (q x) (list_all q xs) k in and_from (p x && q x) (list_all (λ y. p y && q y) xs) (and_from (p x) (q x) a.0 b.0) (all-both p q xs a.1 b.1)

pub all-flat : {X Y : Type 0} (f : X → List Y) (p : Y → Bool) (xs : List X) → list_all p (flat_map f xs) ≡ list_all (λ x. list_all p (f x)) xs
all-flat f p [] = refl
all-flat f p (x ∷ xs) = list_all-append p (f x) (flat_map f xs) ∙ ap (λ b. list_all p (f x) && b) (all-flat f p xs)

module _ (config : Config) (transcript : Transcript) where
  abbrev all : List PlacedRecord
  all = placed_records config transcript

  abbrev steps : List PlacedStep
  steps = placed_steps config transcript

  pub all_right : Obeys config transcript → list_all (is_right config) steps ≡ true
  all_right o =
      all-both _ (keeps_shares config) steps
      (all-both _ is_quiet_where_silent steps
      (all-both _ (has_right_notes config) steps
      (all-both _ (has_right_acceptance config) steps
      (all-both _ has_right_load steps
      (all-both _ (has_right_reply config) steps
      (all-both _ has_right_line steps
      (all-both is_in_turn is_held_rightly steps o.in_turn o.held) o.lines) o.replies) o.loads) o.accepted) o.told) o.silent) o.within

  -- each record of a transcript that obeys is right
  pub obeys-right : Obeys config transcript → list_all (is_right_record config) all ≡ true
  obeys-right o =
      all-both _ (λ placed. list_all (is_right config) placed.walked.placed_steps) all
      (all-both _ (λ placed. has_right_own_value placed.entry) all (all-both has_right_number is_finished all o.numbered o.finished) o.owned)
      (sym (all-flat (λ placed. placed.walked.placed_steps) (is_right config) all) ∙ all_right o)

  all_good : Obeys config transcript → IsAdmitted config transcript → list_all (is_good_record config) all ≡ true
  all_good o a =
      all-both (is_admitted config) (is_right_record config) all a (obeys-right o)

  pub follow-good : is_some (after_records config (empty_situation transcript.made.nanos) transcript.records) ≡ list_all (is_good_record config) all
  follow-good =
      ap is_some (records-from_empty config transcript.made.nanos transcript.records)
      ∙ (elim (cases_Bool (list_all (is_good_record config) all)) [ inl e ↦ rw e | inr e ↦ rw e ])

  module _ (right_records : list_all (is_right_record config) all ≡ true) (same_parts : IsTrue (agree_on_parts (accepted_values steps))) where
    right_steps : list_all (is_right config) steps ≡ true
    right_steps =
        all-flat (λ placed. placed.walked.placed_steps) (is_right config) all
        ∙ all-more (is_right_record config) (λ placed. list_all (is_right config) placed.walked.placed_steps) all (λ placed e. (and_parts _ (list_all (is_right config) placed.walked.placed_steps) e).1) right_records

    first_tests : (placed : PlacedRecord) → is_right_record config placed ≡ true → (has_right_number placed && is_finished placed && has_right_own_value placed.entry) ≡ true
    first_tests placed e = (and_parts _ (list_all (is_right config) placed.walked.placed_steps) e).0

    -- where each record is right, the transcript obeys
    pub right-obeys : Obeys config transcript
    right-obeys =
        record {
          numbered = all-more (is_right_record config) has_right_number all (λ placed e. (and_parts (has_right_number placed) _ (and_parts _ (has_right_own_value placed.entry) (first_tests placed e)).0).0) right_records;
          finished = all-more (is_right_record config) is_finished all (λ placed e. (and_parts (has_right_number placed) _ (and_parts _ (has_right_own_value placed.entry) (first_tests placed e)).0).1) right_records;
          owned = all-more (is_right_record config) (λ placed. has_right_own_value placed.entry) all (λ placed e. (and_parts _ (has_right_own_value placed.entry) (first_tests placed e)).1) right_records;
          in_turn = all-more (is_right config) is_in_turn steps (λ x e. (and_parts _ _ (p2 x e)).0) right_steps;
          held = all-more (is_right config) is_held_rightly steps (λ x e. (and_parts _ _ (p2 x e)).1) right_steps;
          lines = all-more (is_right config) has_right_line steps (λ x e. (and_parts _ _ (p3 x e)).1) right_steps;
          replies = all-more (is_right config) (has_right_reply config) steps (λ x e. (and_parts _ _ (p4 x e)).1) right_steps;
          loads = all-more (is_right config) has_right_load steps (λ x e. (and_parts _ _ (p5 x e)).1) right_steps;
          accepted = all-more (is_right config) (has_right_acceptance config) steps (λ x e. (and_parts _ _ (p6 x e)).1) right_steps;
          told = all-more (is_right config) (has_right_notes config) steps (λ x e. (and_parts _ _ (p7 x e)).1) right_steps;
          silent = all-more (is_right config) is_quiet_where_silent steps (λ x e. (and_parts _ _ (p8 x e)).1) right_steps;
          within = all-more (is_right config) (keeps_shares config) steps (λ x e. (and_parts _ _ e).1) right_steps;
          parts = same_parts;
        }
      where
        p8 : (x : PlacedStep) → is_right config x ≡ true → (is_in_turn x && is_held_rightly x && has_right_line x && has_right_reply config x && has_right_load x && has_right_acceptance config x && has_right_notes config x && is_quiet_where_silent x) ≡ true
        p8 x e = (and_parts _ (keeps_shares config x) e).0

        p7 : (x : PlacedStep) → is_right config x ≡ true → (is_in_turn x && is_held_rightly x && has_right_line x && has_right_reply config x && has_right_load x && has_right_acceptance config x && has_right_notes config x) ≡ true
        p7 x e = (and_parts _ (is_quiet_where_silent x) (p8 x e)).0

        p6 : (x : PlacedStep) → is_right config x ≡ true → (is_in_turn x && is_held_rightly x && has_right_line x && has_right_reply config x && has_right_load x && has_right_acceptance config x) ≡ true
        p6 x e = (and_parts _ (has_right_notes config x) (p7 x e)).0

        p5 : (x : PlacedStep) → is_right config x ≡ true → (is_in_turn x && is_held_rightly x && has_right_line x && has_right_reply config x && has_right_load x) ≡ true
        p5 x e = (and_parts _ (has_right_acceptance config x) (p6 x e)).0

        p4 : (x : PlacedStep) → is_right config x ≡ true → (is_in_turn x && is_held_rightly x && has_right_line x && has_right_reply config x) ≡ true
        p4 x e = (and_parts _ (has_right_load x) (p5 x e)).0

        p3 : (x : PlacedStep) → is_right config x ≡ true → (is_in_turn x && is_held_rightly x && has_right_line x) ≡ true
        p3 x e = (and_parts _ (has_right_reply config x) (p4 x e)).0

        p2 : (x : PlacedStep) → is_right config x ≡ true → (is_in_turn x && is_held_rightly x) ≡ true
        p2 x e = (and_parts _ (has_right_line x) (p3 x e)).0

  module _ (good : list_all (is_good_record config) all ≡ true) where
    right-good : list_all (is_right_record config) all ≡ true
    right-good = all-more (is_good_record config) (is_right_record config) all (λ placed e. (and_parts (is_admitted config placed) _ e).1) good

    good-admitted : IsAdmitted config transcript
    good-admitted = all-more (is_good_record config) (is_admitted config) all (λ placed e. (and_parts (is_admitted config placed) _ e).0) good

  pub agrees : AgreesWithHistory config transcript
  agrees = (
    (λ both. (both.0.parts, follow-good ∙ all_good both.0 both.1)),
    (λ both. let good = sym follow-good ∙ both.1 in (right-obeys (right-good good) both.0, good-admitted good)),
  )

pub steps_agree : StepsAgree
steps_agree config transcript = agrees config transcript
