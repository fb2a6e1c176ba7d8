-- The first record that breaks a rule, as the judge finds it.
use Rattle.std.proofs.Common.{arith, inl, inr, ◌≡◌, refl, sym, ap, ◌∙◌, subst, ℕ, suc, Bool, true, false, not, ◌&&◌, ◌||◌, ◌==◌, List, [], ◌∷◌, ◌++◌, map, Option, Some, None, if◌then◌else◌, append_assoc}
use Rattle.std.proofs.lemmas.Option.{none-some}
use Rattle.std.proofs.Math.Bool.{and-true}
use Rattle.std.specs.List.{list_all, filter_map, find}
use Rattle.std.specs.Option.{option_map_or, option_to_list, option_map}
use Rattle.std.proofs.lemmas.List.{append-nil, map-append}
use Rattle.std.proofs.lemmas.List.Folds.{list_all-append}
use Rattle.audit_model.specs.Bytewise.{same}
use Rattle.audit_model.specs.Changes.{after_step}
use Rattle.audit_model.specs.Follows.{placed_step_in, after_steps, after_record, after_event, tasks_in}
use Rattle.audit_model.specs.History.{Value}
use Rattle.audit_model.specs.Obeys.{accepted_values, agree_on_parts}
use Rattle.audit_model.specs.Places.{due, first_due, left_after, steps_of}
use Rattle.audit_model.specs.Situation.{Situation, may_run_in}
use Rattle.audit_model.specs.Steps.{Task, PlacedStep, is_right}
use Rattle.audit_model.specs.declared.config.Config.{Config}
use Rattle.audit_model.specs.declared.transcript.Record.{Record}
use Rattle.audit_model.specs.declared.transcript.Step.{Step}
use Rattle.audit_laws.specs.Breaking.{first_break_from}
use Rattle.audit_laws.specs.Placing.{placed_steps_in, accepted_in}
use Rattle.std.specs.Prelude.{is_some}
use Rattle.std.proofs.lemmas.Bool.{and_from, and_parts, both_ways, cases_Bool, false_from_ne_true, eqb-true}
use Rattle.std.proofs.lemmas.Slice.Eq.{bytes_eq-Decides}
use Rattle.audit_situation.specs.Held.Known.{KeyPart, part_of_key, agrees, agrees_with, with_part, with_value}
use Rattle.audit_situation.proofs.held.Pushing.{find-behind, find-past}
use Rattle.moka_audit.specs.Records.Auditing.{Reached, audited_steps, audited_record, audited_from, is_taken, reached_by, with_values}

abbrev goes : Value → Value → Bool
goes v w = not (same v.key w.key) || (v.part == w.part)

crossed : (a b c d : Bool) → ((a && (b && true)) && (c && d)) ≡ ((a && c) && (b && d))
crossed a b c d = grind arith

-- the key has that part in all of these
abbrev fits : List Value → List ℕ → ℕ → Bool
fits vs key part = list_all (λ v. not (same v.key key) || (v.part == part)) vs

-- the parts are those of these values
abbrev pub Knows : List KeyPart → List Value → Type 0
Knows parts values = (key : List ℕ) (part : ℕ) → agrees parts key part ≡ fits values key part

-- one value more
agree-push : (vs : List Value) (w : Value) → agree_on_parts (vs ++ w ∷ []) ≡ (agree_on_parts vs && fits vs w.key w.part)
agree-push [] w = refl
agree-push (v ∷ vs) w =
    ap (λ b. b && agree_on_parts (vs ++ w ∷ [])) (list_all-append (goes v) vs (w ∷ [])) ∙ ap (λ b. (list_all (goes v) vs && (goes v w && true)) && b) (agree-push vs w)
    ∙ crossed (list_all (goes v) vs) (goes v w) (agree_on_parts vs) (fits vs w.key w.part)

agree-with : (parts : List KeyPart) (vs : List Value) (o : Option Value) → Knows parts vs → agree_on_parts vs ≡ true → agrees_with parts o ≡ agree_on_parts (vs ++ option_to_list o)
agree-with parts vs None k e = sym (ap agree_on_parts (append-nil vs) ∙ e)
agree-with parts vs (Some w) k e = k w.key w.part ∙ sym (agree-push vs w ∙ ap (λ b. b && fits vs w.key w.part) e)

-- ---- the parts of one value more

same-flip : (a b : List ℕ) → same a b ≡ same b a
same-flip a b = elim (cases_Bool (same a b)) [
  | inl e ↦ e ∙ sym ((bytes_eq-Decides b a).1 (sym ((bytes_eq-Decides a b).0 e)))
  | inr e ↦ e ∙ sym (false_from_ne_true (same b a) (λ f. both_ways (same a b) e ((bytes_eq-Decides a b).1 (sym ((bytes_eq-Decides b a).0 f)))))
]

module _ (parts : List KeyPart) (w : Value) (key : List ℕ) (part : ℕ) where
  abbrev here : Bool
  here = not (same w.key key) || (w.part == part)

  here-same : same key w.key ≡ true → here ≡ (w.part == part)
  here-same e = ap (λ b. not b || (w.part == part)) (same-flip w.key key ∙ e)

  here-other : same key w.key ≡ false → here ≡ true
  here-other e = ap (λ b. not b || (w.part == part)) (same-flip w.key key ∙ e)

  known-same : same key w.key ≡ true → part_of_key parts key ≡ part_of_key parts w.key
  known-same e = ap (part_of_key parts) ((bytes_eq-Decides key w.key).0 e)

  -- the key had no part
  first-known : part_of_key parts w.key ≡ None → agrees (parts ++ record { key = w.key; part = w.part } ∷ []) key part ≡ (agrees parts key part && (here && true))
  first-known none = elim (cases_Bool (same key w.key)) [
    | inl e ↦
        ap (λ o. option_map_or (λ p. p == part) (option_map (λ (p : KeyPart). p.part) o) true)
        (find-behind (λ (p : KeyPart). same key p.key) parts (record { key = w.key; part = w.part }) (unknown (find (λ p. same key p.key) parts) (known-same e ∙ none))
        ∙ ap (λ b. if b then Some (record { key = w.key; part = w.part }) else None) e)
        ∙ sym (ap (λ b. b && (here && true)) (ap (λ o. option_map_or (λ p. p == part) o true) (known-same e ∙ none)) ∙ and-true here ∙ here-same e)
    | inr e ↦
        ap (λ o. option_map_or (λ p. p == part) (option_map (λ (p : KeyPart). p.part) o) true) (find-past (λ (p : KeyPart). same key p.key) parts (record { key = w.key; part = w.part }) e)
        ∙ sym (ap (λ b. agrees parts key part && (b && true)) (here-other e) ∙ and-true (agrees parts key part))
  ]
    where
      unknown : (o : Option KeyPart) → option_map (λ (p : KeyPart). p.part) o ≡ None → o ≡ None
      unknown None e = refl
      unknown (Some p) e = absurd (none-some p.part (sym e))

  -- it had this one
  known-before : (q : ℕ) → part_of_key parts w.key ≡ Some q → (q == w.part) ≡ true → agrees parts key part ≡ (agrees parts key part && (here && true))
  known-before q some eq = elim (cases_Bool (same key w.key)) [
    | inl e ↦
        let is : agrees parts key part ≡ (w.part == part) = ap (λ o. option_map_or (λ p. p == part) o true) (known-same e ∙ some) ∙ ap (λ n. n == part) (eqb-true q w.part eq) in
        let there = here-same e in
        grind (arith, is, there)
    | inr e ↦ sym (ap (λ b. agrees parts key part && (b && true)) (here-other e) ∙ and-true (agrees parts key part))
  ]

  one-more : agrees parts w.key w.part ≡ true → agrees (with_part parts w.key w.part) key part ≡ (agrees parts key part && (here && true))
  one-more ok = go (part_of_key parts w.key) refl ok
    where
      go : (o : Option ℕ) → part_of_key parts w.key ≡ o → option_map_or (λ p. p == w.part) o true ≡ true
          → agrees (if is_some o then parts else parts ++ record { key = w.key; part = w.part } ∷ []) key part ≡ (agrees parts key part && (here && true))
      go None e ok = first-known e
      go (Some q) e ok = known-before q e ok

knows-one : (parts : List KeyPart) (vs : List Value) (w : Value) → Knows parts vs → agrees parts w.key w.part ≡ true → Knows (with_value parts (Some w)) (vs ++ w ∷ [])
knows-one parts vs w k ok key part =
    one-more parts w key part ok ∙ ap (λ b. b && ((not (same w.key key) || (w.part == part)) && true)) (k key part)
    ∙ sym (list_all-append (λ v. not (same v.key key) || (v.part == part)) vs (w ∷ []))

knows-more : (parts : List KeyPart) (vs : List Value) (o : Option Value) → Knows parts vs → agree_on_parts vs ≡ true → agree_on_parts (vs ++ option_to_list o) ≡ true → Knows (with_value parts o) (vs ++ option_to_list o)
knows-more parts vs None k e f = subst (Knows parts) (sym (append-nil vs)) k
knows-more parts vs (Some w) k e f = knows-one parts vs w k (agree-with parts vs (Some w) k e ∙ f)

with-front : (parts : List KeyPart) (o : Option Value) (rest : List Value) → with_values (with_value parts o) rest ≡ with_values parts (option_to_list o ++ rest)
with-front parts None rest = refl
with-front parts (Some v) rest = refl

-- the front of values that agree agrees
agree-front : (a b : List Value) → agree_on_parts (a ++ b) ≡ true → agree_on_parts a ≡ true
agree-front [] b e = refl
agree-front (v ∷ a) b e =
    let parts = and_parts (list_all (goes v) (a ++ b)) (agree_on_parts (a ++ b)) e in
    let first = and_parts (list_all (goes v) a) (list_all (goes v) b) (sym (list_all-append (goes v) a b) ∙ parts.0) in
    and_from _ _ first.0 (agree-front a b parts.1)

agree-not : (a b : List Value) → agree_on_parts a ≡ false → agree_on_parts (a ++ b) ≡ false
agree-not a b e = false_from_ne_true _ (λ f. both_ways _ e (agree-front a b f))

accepted-cons : (placed : PlacedStep) (rest : List PlacedStep) → accepted_values (placed ∷ rest) ≡ option_to_list placed.effect.value ++ accepted_values rest
accepted-cons placed rest = go placed.effect.value
  where
    go : (o : Option Value) → filter_map (λ p. p.effect.value) (record placed { effect = record placed.effect { value = o } } ∷ rest) ≡ option_to_list o ++ accepted_values rest
    go None = refl
    go (Some v) = refl

-- nothing is reached where the front disagrees
none-reached : (parts : List KeyPart) (values more : List Value) (o : Option Situation) → agree_on_parts (values ++ more) ≡ false → reached_by parts values more o ≡ None
none-reached parts values more None e = refl
none-reached parts values more (Some t) e = ap (λ b. if b then Some (record { situation = t; parts = with_values parts more }) else None) e

-- what is reached depends on all values alone
reached-along : (p q : List KeyPart) (a b c d : List Value) (o : Option Situation) → (a ++ b) ≡ (c ++ d) → with_values p b ≡ with_values q d → reached_by p a b o ≡ reached_by q c d o
reached-along p q a b c d None e f = refl
reached-along p q a b c d (Some t) e f =
    ap (λ vs. if agree_on_parts vs then Some (record { situation = t; parts = with_values p b }) else None) e
    ∙ ap (λ ps. if agree_on_parts (c ++ d) then Some (record { situation = t; parts = ps }) else None) f

-- the parts of all values that agree
knows-all : (parts : List KeyPart) (values more : List Value) → Knows parts values → agree_on_parts (values ++ more) ≡ true → Knows (with_values parts more) (values ++ more)
knows-all parts values [] k e = subst (Knows parts) (sym (append-nil values)) k
knows-all parts values (v ∷ more) k e =
    let along : ((values ++ v ∷ []) ++ more) ≡ (values ++ v ∷ more) = append_assoc values (v ∷ []) more in
    let all = ap agree_on_parts along ∙ e in
    let front = agree-front (values ++ v ∷ []) more all in
    subst (Knows (with_values parts (v ∷ more))) along
    (knows-all (with_value parts (Some v)) (values ++ v ∷ []) more (knows-more parts values (Some v) k (agree-front values (v ∷ []) front) front) all)

module _ (config : Config) where
  next-step : (parts : List KeyPart) (values : List Value) (placed : PlacedStep) (t : Situation) (left : List Task) (steps : List Step) → Knows parts values → agree_on_parts values ≡ true
      → (agree_on_parts (values ++ option_to_list placed.effect.value) ≡ true
      → audited_steps config (with_value parts placed.effect.value) t left steps
      ≡ reached_by (with_value parts placed.effect.value) (values ++ option_to_list placed.effect.value) (accepted_values (placed_steps_in config t left steps)) (after_steps config t left steps))
      → (if is_right config placed && agrees_with parts placed.effect.value then audited_steps config (with_value parts placed.effect.value) t left steps else None)
      ≡ reached_by parts values (accepted_values (placed ∷ placed_steps_in config t left steps)) (if is_right config placed then after_steps config t left steps else None)
  next-step parts values placed t left steps k e ih =
      ap (λ b. if is_right config placed && b then audited_steps config (with_value parts placed.effect.value) t left steps else None) (agree-with parts values placed.effect.value k e)
      ∙ go (is_right config placed) (agree_on_parts (values ++ option_to_list placed.effect.value)) refl
    where
      opt : List Value
      opt = option_to_list placed.effect.value

      rest : List Value
      rest = accepted_values (placed_steps_in config t left steps)

      after : Option Situation
      after = after_steps config t left steps

      all : List Value
      all = accepted_values (placed ∷ placed_steps_in config t left steps)

      along : ((values ++ opt) ++ rest) ≡ (values ++ all)
      along = append_assoc values opt rest ∙ ap (λ vs. values ++ vs) (sym (accepted-cons placed (placed_steps_in config t left steps)))

      joined : with_values (with_value parts placed.effect.value) rest ≡ with_values parts all
      joined = with-front parts placed.effect.value rest ∙ ap (with_values parts) (sym (accepted-cons placed (placed_steps_in config t left steps)))

      go : (r b : Bool) → agree_on_parts (values ++ opt) ≡ b
          → (if r && b then audited_steps config (with_value parts placed.effect.value) t left steps else None) ≡ reached_by parts values all (if r then after else None)
      go false b f = refl
      go true false f =
          sym (sym (reached-along (with_value parts placed.effect.value) parts (values ++ opt) rest values all after along joined)
          ∙ none-reached (with_value parts placed.effect.value) (values ++ opt) rest after (agree-not (values ++ opt) rest f))
      go true true f = ih f ∙ reached-along (with_value parts placed.effect.value) parts (values ++ opt) rest values all after along joined

  pub steps-are : (parts : List KeyPart) (values : List Value) (s : Situation) (tasks : List Task) (steps : List Step) → Knows parts values → agree_on_parts values ≡ true
      → audited_steps config parts s tasks steps ≡ reached_by parts values (accepted_values (placed_steps_in config s tasks steps)) (after_steps config s tasks steps)
  steps-are parts values s tasks [] k e = grind (arith, e, append-nil values)
  steps-are parts values s tasks (step ∷ steps) k e =
      let now_due = due (may_run_in s) tasks in
      let placed = placed_step_in config s (first_due now_due) step in
      next-step parts values placed (after_step config s placed.task step placed.effect) (left_after now_due) steps k e
      (λ f. steps-are (with_value parts placed.effect.value) (values ++ option_to_list placed.effect.value) (after_step config s placed.task step placed.effect) (left_after now_due) steps (knows-more parts values placed.effect.value k e f) f)

  record-is : (parts : List KeyPart) (values : List Value) (s : Situation) (entry : Record) → Knows parts values → agree_on_parts values ≡ true
      → audited_record config parts s entry ≡ reached_by parts values (accepted_in config s entry) (after_record config s entry)
  record-is parts values s entry k e = elim (cases_Bool (is_taken config s entry)) [
    | inl is ↦ rw is (steps-are parts values (after_event entry.event s) (tasks_in s entry.event) (steps_of entry) k e)
    | inr is ↦ rw is
  ]

  -- the judge's first break is the first break
  pub breaks-are : (parts : List KeyPart) (values : List Value) (s : Situation) (n : ℕ) (entries : List Record) → Knows parts values → agree_on_parts values ≡ true
      → audited_from config parts s n entries ≡ first_break_from config s values n entries
  breaks-are parts values s n [] k e = refl
  breaks-are parts values s n (entry ∷ entries) k e =
      ap (λ o. option_map_or (λ (r : Reached). audited_from config r.parts r.situation (suc n) entries) o (Some (suc n))) (record-is parts values s entry k e)
      ∙ go (after_record config s entry)
      (λ t f. breaks-are (with_values parts (accepted_in config s entry)) (values ++ accepted_in config s entry) t (suc n) entries (knows-all parts values (accepted_in config s entry) k f) f)
    where
      added : List Value
      added = accepted_in config s entry

      more : List Value
      more = values ++ added

      go : (o : Option Situation)
          → ((t : Situation) → agree_on_parts more ≡ true → audited_from config (with_values parts added) t (suc n) entries ≡ first_break_from config t more (suc n) entries)
          → option_map_or (λ (r : Reached). audited_from config r.parts r.situation (suc n) entries) (reached_by parts values added o) (Some (suc n))
          ≡ option_map_or (λ t. if agree_on_parts more then first_break_from config t more (suc n) entries else Some (suc n)) o (Some (suc n))
      go None ih = refl
      go (Some t) ih = elim (cases_Bool (agree_on_parts more)) [ inl f ↦ rw f (ih t f) | inr f ↦ rw f ]
