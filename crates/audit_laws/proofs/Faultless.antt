-- The test of a good transcript says that it is faultless.
use Rattle.std.proofs.Common.{arith, ◌≡◌, refl, ap, ◌∙◌, sym, Bool, ◌&&◌, List, [], ◌∷◌, is_some}
use Rattle.std.specs.List.{list_all}
use Rattle.std.proofs.lemmas.Bool.{and_parts, and_from}
use Rattle.audit_model.specs.Belongs.{is_admitted, is_good}
use Rattle.audit_model.specs.Follows.{after_records}
use Rattle.audit_model.specs.Obeys.{accepted_values, agree_on_parts, is_right_record}
use Rattle.audit_model.specs.Places.{placed_records, placed_steps}
use Rattle.audit_model.specs.Situation.{empty_situation}
use Rattle.audit_model.specs.declared.config.Config.{Config}
use Rattle.audit_model.specs.declared.transcript.Transcript.{Transcript}
use Rattle.audit_laws.specs.Laws.{GoodIsFaultless}
use Rattle.audit_laws.proofs.TranscriptsAgree.{agrees, follow-good}

list_all-and : {X : Type 0} (p q : X → Bool) (xs : List X) → list_all (λ x. p x && q x) xs ≡ (list_all p xs && list_all q xs)
list_all-and p q [] = refl
list_all-and p q (x ∷ xs) = let next = list_all-and p q xs in grind (arith, next)

turned : (r g a : Bool) → ((r && g) && a) ≡ ((a && r) && g)
turned r g a = grind arith

-- a transcript is good exactly where its records follow and each key has one part
pub good-test : (config : Config) (transcript : Transcript)
    → is_good config transcript ≡ (is_some (after_records config (empty_situation transcript.made.nanos) transcript.records) && agree_on_parts (accepted_values (placed_steps config transcript)))
good-test config transcript =
    turned (list_all (is_right_record config) (placed_records config transcript)) (agree_on_parts (accepted_values (placed_steps config transcript))) (list_all (is_admitted config) (placed_records config transcript))
    ∙ ap (λ b. b && agree_on_parts (accepted_values (placed_steps config transcript)))
    (sym (list_all-and (is_admitted config) (is_right_record config) (placed_records config transcript)) ∙ sym (follow-good config transcript))

pub good_is_faultless : GoodIsFaultless
good_is_faultless config transcript =
    let law = agrees config transcript in (
      λ e.
          let p = and_parts (is_some (after_records config (empty_situation transcript.made.nanos) transcript.records)) (agree_on_parts (accepted_values (placed_steps config transcript))) (sym (good-test config transcript) ∙ e) in
          law.1 (p.1, p.0),
      λ faultless.
          let q = law.0 faultless in
          good-test config transcript ∙ and_from (is_some (after_records config (empty_situation transcript.made.nanos) transcript.records)) (agree_on_parts (accepted_values (placed_steps config transcript))) q.1 q.0,
    )
