-- The text form of the inputs of a replay, line by line.
use Rattle.std.specs.Prelude.{◌≡◌, ◌≢◌, ℕ, List, [], ◌∷◌, ◌++◌, codes, decimal}
use Rattle.std.specs.List.{flat_map, AllByRecursion}
use Rattle.audit_model.specs.declared.input.Input.{Input}
use Rattle.audit_model.specs.declared.input.Input.TheVariants as input
use Rattle.audit_text.specs.Text.{config_words, made_words, outcome_words}
use Rattle.audit_text.specs.Words.{bytes_word, line}
use Rattle.audit_text.specs.Reader.Fits.{FitsNumber, FitsBytes, FitsConfig, FitsOutcome}
use Rattle.audit_text.specs.declared.reader.inputs.Replay.{Replay}

-- what is asked of a namespace; an opening has no number
abbrev pub asked_words : Input → List (List ℕ)
asked_words (input.Open namespace) = decimal namespace ∷ codes "open" ∷ []
asked_words (input.Close conn) = decimal conn.namespace ∷ codes "close" ∷ decimal conn.number ∷ []
asked_words (input.Feed conn piece moment) =
    decimal conn.namespace ∷ codes "feed" ∷ decimal conn.number ∷ decimal moment.nanos
    ∷ bytes_word piece ∷ []
asked_words (input.Answer load outcome moment) =
    decimal load.namespace ∷ codes "answer" ∷ decimal load.number ∷ decimal moment.nanos
    ∷ outcome_words outcome
asked_words (input.GiveUp load moment) =
    decimal load.namespace ∷ codes "giveup" ∷ decimal load.number ∷ decimal moment.nanos ∷ []

-- an input
abbrev pub input_words : Input → List (List ℕ)
input_words input = codes "input" ∷ asked_words input

-- the configurations, the moment of creation, and the inputs
abbrev pub replay_text : Replay → List ℕ
replay_text replay =
    flat_map (λ config. line (config_words config)) replay.configs ++ line
    (made_words replay.made.nanos) ++ flat_map (λ input. line (input_words input)) replay.inputs

abbrev pub FitsInput : Input → Type 0
FitsInput (input.Open namespace) = FitsNumber namespace
FitsInput (input.Close conn) = FitsNumber conn.namespace × FitsNumber conn.number
FitsInput (input.Feed conn piece moment) =
    FitsNumber conn.namespace × FitsNumber conn.number × FitsNumber moment.nanos × FitsBytes piece
FitsInput (input.Answer load outcome moment) =
    FitsNumber load.namespace × FitsNumber load.number × FitsNumber moment.nanos
    × FitsOutcome outcome
FitsInput (input.GiveUp load moment) =
    FitsNumber load.namespace × FitsNumber load.number × FitsNumber moment.nanos

-- a replay that can be written: it has a configuration
pub record FitsReplay (replay : Replay) : Type 0 where
  pub some : replay.configs ≢ []
  pub configs : AllByRecursion FitsConfig replay.configs
  pub made : FitsNumber replay.made.nanos
  pub inputs : AllByRecursion FitsInput replay.inputs
