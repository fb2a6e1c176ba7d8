-- The verdict on a text.
use Rattle.std.specs.Prelude.{◌≡◌, ℕ, List}
use Rattle.audit_model.specs.declared.config.Config.{Config}
use Rattle.audit_model.specs.declared.transcript.Transcript.{Transcript}
use Rattle.moka_audit.specs.Records.Verdicts.{IsJustVerdict}
use Rattle.moka_audit.specs.declared.records.auditing.Verdict.{Verdict}
use Rattle.audit_text.specs.Reader.Lines.{kept}
use Rattle.audit_text.specs.Text.{transcript_text}

-- the lines of the text that are kept are a transcript's, and the verdict on that transcript is just
pub record IsJustOf (text : List ℕ) (verdict : Verdict) : Type 0 where
  pub config : Config
  pub transcript : Transcript
  pub read : transcript_text config transcript ≡ kept text
  pub just : IsJustVerdict config transcript verdict
