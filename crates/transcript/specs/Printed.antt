-- What a replay prints.
use Rattle.std.specs.Prelude.{◌≡◌, ℕ, ◌+◌, List, [], ◌∷◌, ◌++◌, codes, decimal}
use Rattle.audit_model.specs.declared.config.Config.{Config}
use Rattle.audit_model.specs.declared.transcript.Transcript.{Transcript}
use Rattle.audit_text.specs.Text.{transcript_text}
use Rattle.cache_spaces.specs.Played.{ArePlayed}
use Rattle.audit_text.specs.Reader.Inputs.{replay_text}
use Rattle.audit_text.specs.Reader.Lines.{kept}
use Rattle.audit_text.specs.declared.reader.inputs.Replay.{Replay}

-- a namespace: its number, and its transcript
abbrev pub namespace_text : ℕ → Config → Transcript → List ℕ
namespace_text number config transcript =
    codes "namespace " ++ decimal number ++ 10 ∷ [] ++ transcript_text config transcript

-- namespaces, from the one of this number on
abbrev pub namespaces_text : ℕ → List Config → List Transcript → List ℕ
namespaces_text number [] ts = []
namespaces_text number (c ∷ cs) [] = []
namespaces_text number (c ∷ cs) (t ∷ ts) =
    namespace_text number c t ++ namespaces_text (number + 1) cs ts

-- the lines of the text that are kept are those of a replay's inputs, and what was printed are the transcripts that it comes to
pub record IsPrintedOf (text printed : List ℕ) : Type 0 where
  pub replay : Replay
  pub read : replay_text replay ≡ kept text
  pub transcripts : List Transcript
  pub played : ArePlayed replay.configs replay.made replay.inputs transcripts
  pub written : printed ≡ namespaces_text 0 replay.configs transcripts
