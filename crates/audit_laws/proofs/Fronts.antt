-- A front of an obeying transcript obeys.
use Rattle.std.proofs.Common.{◌≡◌, refl, ap, ◌∙◌, sym, subst, ℕ, Bool, List, [], ◌∷◌, ◌++◌}
use Rattle.std.specs.List.{list_all, flat_map}
use Rattle.std.specs.Prelude.{IsTrue}
use Rattle.std.proofs.lemmas.Bool.{and_parts, and_from}
use Rattle.std.proofs.lemmas.List.Folds.{list_all-append}
use Rattle.std.proofs.lemmas.Grind.{flat_map-append}
use Rattle.std.proofs.lemmas.List.Elements.{filter_map-append}
use Rattle.audit_model.specs.History.{History, Value}
use Rattle.audit_model.specs.Places.{placed_record, placed_records_after, history_after, PlacedRecord}
use Rattle.audit_model.specs.Steps.{PlacedStep}
use Rattle.audit_model.specs.Obeys.{Obeys, accepted_values, agree_on_parts}
use Rattle.audit_model.specs.declared.config.Config.{Config}
use Rattle.audit_model.specs.declared.event.Instant.{Instant}
use Rattle.audit_model.specs.declared.transcript.Record.{Record}

-- records in a row
pub placed_records_after-append : (config : Config) (made : ℕ) (past : History) (xs ys : List Record)
    → placed_records_after config made past (xs ++ ys) ≡ placed_records_after config made past xs ++ placed_records_after config made (history_after config made past xs) ys
placed_records_after-append config made past [] ys = refl
placed_records_after-append config made past (x ∷ xs) ys =
    ap (λ rs. placed_record config made past x ∷ rs) (placed_records_after-append config made (placed_record config made past x).walked.after xs ys)

pub front_passes : {X : Type 0} (p : X → Bool) (xs ys : List X) → IsTrue (list_all p (xs ++ ys)) → IsTrue (list_all p xs)
front_passes p xs ys h = (and_parts (list_all p xs) (list_all p ys) (sym (list_all-append p xs ys) ∙ h)).0

pub front_agrees : (xs ys : List Value) → IsTrue (agree_on_parts (xs ++ ys)) → IsTrue (agree_on_parts xs)
front_agrees [] ys h = refl
front_agrees (x ∷ xs) ys h =
    let parts = and_parts _ (agree_on_parts (xs ++ ys)) h in
    and_from _ (agree_on_parts xs) (front_passes _ xs ys parts.0) (front_agrees xs ys parts.1)

module _ (config : Config) (made : ℕ) (front rest : List Record) where
  abbrev first : List PlacedRecord
  first = placed_records_after config made [] front

  abbrev second : List PlacedRecord
  second = placed_records_after config made (history_after config made [] front) rest

  pub run_front : (p : PlacedRecord → Bool) → IsTrue (list_all p (placed_records_after config made [] (front ++ rest))) → IsTrue (list_all p first)
  run_front p h = front_passes p first second (subst (λ rs. IsTrue (list_all p rs)) (placed_records_after-append config made [] front rest) h)

  abbrev pub scenes_in : List PlacedRecord → List PlacedStep
  scenes_in rs = flat_map (λ placed. placed.walked.placed_steps) rs

  pub placed_steps_front : scenes_in (placed_records_after config made [] (front ++ rest)) ≡ scenes_in first ++ scenes_in second
  placed_steps_front = ap scenes_in (placed_records_after-append config made [] front rest) ∙ flat_map-append (λ placed. placed.walked.placed_steps) first second

  pub placed_step_front : (p : PlacedStep → Bool) → IsTrue (list_all p (scenes_in (placed_records_after config made [] (front ++ rest)))) → IsTrue (list_all p (scenes_in first))
  placed_step_front p h = front_passes p (scenes_in first) (scenes_in second) (subst (λ ss. IsTrue (list_all p ss)) placed_steps_front h)

  pub parts_front : IsTrue (agree_on_parts (accepted_values (scenes_in (placed_records_after config made [] (front ++ rest))))) → IsTrue (agree_on_parts (accepted_values (scenes_in first)))
  parts_front h =
      front_agrees (accepted_values (scenes_in first)) (accepted_values (scenes_in second))
      (subst (λ vs. IsTrue (agree_on_parts vs)) (ap accepted_values placed_steps_front ∙ filter_map-append (λ placed. placed.effect.value) (scenes_in first) (scenes_in second)) h)

pub front_obeys : (config : Config) (made : Instant) (front rest : List Record)
    → Obeys config (record { made = made; records = front ++ rest }) → Obeys config (record { made = made; records = front })
front_obeys config made front rest o =
    record {
      numbered = run_front config made.nanos front rest _ o.numbered;
      finished = run_front config made.nanos front rest _ o.finished;
      owned = run_front config made.nanos front rest _ o.owned;
      in_turn = placed_step_front config made.nanos front rest _ o.in_turn;
      held = placed_step_front config made.nanos front rest _ o.held;
      lines = placed_step_front config made.nanos front rest _ o.lines;
      replies = placed_step_front config made.nanos front rest _ o.replies;
      loads = placed_step_front config made.nanos front rest _ o.loads;
      accepted = placed_step_front config made.nanos front rest _ o.accepted;
      told = placed_step_front config made.nanos front rest _ o.told;
      silent = placed_step_front config made.nanos front rest _ o.silent;
      within = placed_step_front config made.nanos front rest _ o.within;
      parts = parts_front config made.nanos front rest o.parts;
    }
