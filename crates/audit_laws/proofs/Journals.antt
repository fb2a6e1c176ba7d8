-- A transcript grows by a record that follows.
use Rattle.std.proofs.Common.{inr, inl, ◌≡◌, refl, ap, ◌∙◌, sym, ℕ, true, true≢false, not, ◌||◌, List, [], ◌∷◌, ◌++◌, append_assoc, Option, Some, None, is_some}
use Rattle.std.specs.Prelude.{IsTrue, ◌==◌}
use Rattle.std.specs.List.{list_all}
use Rattle.std.specs.Option.{option_and_then, option_map_or}
use Rattle.std.proofs.lemmas.Bool.{cases_Bool, and_parts, and_from, eqb-true, eq-eqb}
use Rattle.std.proofs.lemmas.List.Elements.{filter_map-append}
use Rattle.std.proofs.lemmas.List.Folds.{list_all-append}
use Rattle.std.proofs.lemmas.List.{append-nil}
use Rattle.audit_model.specs.Bytewise.{same}
use Rattle.audit_model.specs.Follows.{after_record, after_records, Follows}
use Rattle.audit_model.specs.History.{Value}
use Rattle.audit_model.specs.Obeys.{accepted_values, agree_on_parts}
use Rattle.audit_model.specs.Places.{placed_steps}
use Rattle.audit_model.specs.Situation.{Situation, empty_situation}
use Rattle.audit_model.specs.Steps.{PlacedStep}
use Rattle.audit_model.specs.declared.config.Config.{Config}
use Rattle.audit_model.specs.declared.event.Instant.{Instant}
use Rattle.audit_model.specs.declared.transcript.Record.{Record}
use Rattle.audit_model.specs.declared.transcript.Transcript.{Transcript}
use Rattle.audit_laws.specs.Placing.{placed_in, accepted_in, all_placed_in}
use Rattle.audit_laws.specs.Leading.{LeadsTo, is_parted}
use Rattle.audit_laws.specs.Laws.{LeadsOn, LeadsOnBy, LedObeys, PlacesAgree}
use Rattle.audit_laws.proofs.Following.{after_records-append}
use Rattle.audit_laws.proofs.Views.{same-true}
use Rattle.audit_laws.proofs.RecordsAgree.{records-placed, sound-empty}
use Rattle.audit_laws.proofs.TranscriptsAgree.{agrees, all-more, follow-good}

-- ---- one part a key

parts_same : (part_of : List ℕ → ℕ) (v w : Value) → is_parted part_of v ≡ true → is_parted part_of w ≡ true → (not (same v.key w.key) || (v.part == w.part)) ≡ true
parts_same part_of v w p q =
    elim (cases_Bool (same v.key w.key)) [
      | inl e ↦ rw e (eq-eqb v.part w.part (eqb-true v.part (part_of v.key) p ∙ ap part_of (same-true v.key w.key e) ∙ sym (eqb-true w.part (part_of w.key) q)))
      | inr e ↦ rw e
    ]

-- where each value has its key's part, each key has one part
pub parts-by : (part_of : List ℕ → ℕ) (vs : List Value) → list_all (is_parted part_of) vs ≡ true → IsTrue (agree_on_parts vs)
parts-by part_of [] h = refl
parts-by part_of (v ∷ vs) h =
    let p = and_parts (is_parted part_of v) (list_all (is_parted part_of) vs) h in
    and_from _ (agree_on_parts vs) (all-more (is_parted part_of) (λ w. not (same v.key w.key) || (v.part == w.part)) vs (λ w q. parts_same part_of v w p.0 q) p.1) (parts-by part_of vs p.1)

-- ---- steps in their places

pub places_agree : PlacesAgree
places_agree config transcript e = records-placed config transcript.made.nanos transcript.records [] sound-empty (sym (follow-good config transcript) ∙ e)

-- records that lead from s to t, with more behind them
pub all_placed_in-append : (config : Config) (xs ys : List Record) (s t : Situation) → after_records config s xs ≡ Some t
    → all_placed_in config s (xs ++ ys) ≡ all_placed_in config s xs ++ all_placed_in config t ys
all_placed_in-append config [] ys s t e = let same_one : s ≡ t = cc in ap (λ u. all_placed_in config u ys) same_one
all_placed_in-append config (x ∷ xs) ys s t e = go (λ u. all_placed_in-append config xs ys u t) (after_record config s x) e
  where
    go : ((u : Situation) → after_records config u xs ≡ Some t → all_placed_in config u (xs ++ ys) ≡ all_placed_in config u xs ++ all_placed_in config t ys)
        → (o : Option Situation) → option_and_then (λ u. after_records config u xs) o ≡ Some t
        → placed_in config s x ++ option_map_or (λ u. all_placed_in config u (xs ++ ys)) o [] ≡ (placed_in config s x ++ option_map_or (λ u. all_placed_in config u xs) o []) ++ all_placed_in config t ys
    go ih None k = absurd (true≢false (sym (ap is_some k)))
    go ih (Some u) k = ap (λ ps. placed_in config s x ++ ps) (ih u k) ∙ sym (append_assoc (placed_in config s x) (all_placed_in config u xs) (all_placed_in config t ys))

-- ---- one record more

pub leads-more : LeadsOn
leads-more config made records added s t l f =
    after_records-append config (empty_situation made.nanos) records (added ∷ [])
    ∙ ap (option_and_then (λ u. after_records config u (added ∷ []))) l
    ∙ ap (option_and_then (λ u. Some u)) f

module _ (config : Config) (made : Instant) (records : List Record) (added : Record) (s t : Situation)
    (leads : LeadsTo config (record { made = made; records = records }) s) (follows : Follows config s added t) where
  abbrev start : Situation
  start = empty_situation made.nanos

  abbrev longer : Transcript
  longer = record { made = made; records = records ++ added ∷ [] }

  -- the steps of the longer transcript
  pub placed-more : placed_steps config longer ≡ placed_steps config (record { made = made; records = records }) ++ placed_in config s added
  placed-more =
      places_agree config longer (ap is_some (leads-more config made records added s t leads follows))
      ∙ all_placed_in-append config records (added ∷ []) start s leads
      ∙ ap (λ ps. ps ++ all_placed_in config s (added ∷ [])) (sym (places_agree config (record { made = made; records = records }) (ap is_some leads)))
      ∙ ap (λ ps. placed_steps config (record { made = made; records = records }) ++ ps) (ap (λ o. placed_in config s added ++ option_map_or (λ u. all_placed_in config u []) o []) follows ∙ append-nil (placed_in config s added))

  -- the values that the longer transcript accepts
  pub accepted-more : accepted_values (placed_steps config longer) ≡ accepted_values (placed_steps config (record { made = made; records = records })) ++ accepted_in config s added
  accepted-more = ap accepted_values placed-more ∙ filter_map-append (λ (placed : PlacedStep). placed.effect.value) (placed_steps config (record { made = made; records = records })) (placed_in config s added)

pub leads_by-more : LeadsOnBy
leads_by-more config part_of made records added s t l f p =
    record {
      leads = leads-more config made records added s t l.leads f;
      parted =
          ap (list_all (is_parted part_of)) (accepted-more config made records added s t l.leads f)
          ∙ list_all-append (is_parted part_of) (accepted_values (placed_steps config (record { made = made; records = records }))) (accepted_in config s added)
          ∙ and_from (list_all (is_parted part_of) (accepted_values (placed_steps config (record { made = made; records = records })))) (list_all (is_parted part_of) (accepted_in config s added)) l.parted p;
    }

pub obeys-led : LedObeys
obeys-led config part_of transcript s l = (agrees config transcript).1 (parts-by part_of (accepted_values (placed_steps config transcript)) l.parted, ap is_some l.leads)
