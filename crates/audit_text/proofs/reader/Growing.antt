-- A text that grows by the piece of one value more.
use Rattle.std.proofs.Common.{◌≡◌, ℕ, false, List, [], ◌∷◌, ◌++◌, Option, Some, None, sym, ap, ◌∙◌}
use Rattle.std.specs.List.{flat_map}
use Rattle.std.specs.Prelude.{Result, Ok, Err, OnOk}
use Rattle.std.specs.Option.{is_some, option_map_or}
use Rattle.std.proofs.lemmas.Grind.{flat_map-append}
use Rattle.std.proofs.lemmas.List.{append_assoc, append-nil}
use Rattle.audit_model.specs.declared.config.Config.{Config}
use Rattle.audit_model.specs.declared.event.Instant.{Instant}
use Rattle.audit_model.specs.declared.input.Input.{Input}
use Rattle.audit_model.specs.declared.transcript.Step.{Step}
use Rattle.audit_text.specs.Text.{config_words, step_text}
use Rattle.audit_text.specs.Words.{line}
use Rattle.audit_text.specs.Reader.Entries.{begun_text}

pub flat_map_push : {X : Type 0} (f : X → List ℕ) (xs : List X) (x : X) → flat_map f (xs ++ x ∷ []) ≡ flat_map f xs ++ f x
flat_map_push f xs x = flat_map-append f xs (x ∷ []) ∙ ap (λ l. flat_map f xs ++ l) (append-nil (f x))

-- where a record grows, and no step stands behind it, what was gathered grows
pub recorded : (front l old new : List ℕ) (step : Option Step) → is_some step ≡ false → new ≡ old ++ l
    → (front ++ new) ++ option_map_or step_text step [] ≡ ((front ++ old) ++ option_map_or step_text step []) ++ l
recorded front l old new None none more =
    append-nil (front ++ new) ∙ ap (λ t. front ++ t) more ∙ sym (append_assoc front old l) ∙ ap (λ t. t ++ l) (sym (append-nil (front ++ old)))
recorded front l old new (Some step) none more = cc

-- the same where it may fail
pub recorded-if : {A E : Type 0} (r : Result A E) (front l old new : List ℕ) (step : Option Step) → is_some step ≡ false → OnOk r (new ≡ old ++ l)
    → OnOk r ((front ++ new) ++ option_map_or step_text step [] ≡ ((front ++ old) ++ option_map_or step_text step []) ++ l)
recorded-if (Ok a) front l old new step none more = recorded front l old new step none more
recorded-if (Err e) front l old new step none more = tt

-- where nothing but configurations was read, one more stands at the end
pub configured : (front more : List Config) (config : Config) (made : Option Instant) (inputs : List Input) → made ≡ None → inputs ≡ [] → more ≡ front ++ config ∷ []
    → begun_text (record { configs = more; made = made; inputs = inputs }) ≡ begun_text (record { configs = front; made = made; inputs = inputs }) ++ line (config_words config)
configured front more config (Some made) inputs none nothing grown = cc
configured front more config None (i ∷ inputs) none nothing grown = cc
configured front more config None [] none nothing grown =
    let text : List Config → List ℕ = flat_map (λ config. line (config_words config)) in
    append-nil (text more ++ []) ∙ append-nil (text more) ∙ ap text grown ∙ flat_map_push (λ config. line (config_words config)) front config
    ∙ ap (λ t. t ++ line (config_words config)) (sym (append-nil (text front ++ []) ∙ append-nil (text front)))
