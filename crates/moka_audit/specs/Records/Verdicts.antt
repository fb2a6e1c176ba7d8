-- What a verdict says.
use Rattle.std.specs.Prelude.{ℕ}
use Rattle.audit_model.specs.declared.config.Config.{Config}
use Rattle.audit_model.specs.declared.transcript.Transcript.{Transcript}
use Rattle.audit_laws.specs.Breaking.{IsFaultless, BreaksFirstAt}
use Rattle.moka_audit.specs.declared.records.auditing.Verdict.{Verdict}
use Rattle.moka_audit.specs.declared.records.auditing.Verdict.TheVariants.{Yes, Breaks, OutOfMemory}

-- yes: the transcript obeys, and none of its events is refused; breaks: this is not so, and the first n records are the shortest front of
-- which it is not so; out of memory says nothing
abbrev pub IsJustVerdict : Config → Transcript → Verdict → Type 0
IsJustVerdict config transcript Yes = IsFaultless config transcript
IsJustVerdict config transcript (Breaks n) =
    (¬ IsFaultless config transcript) × BreaksFirstAt config transcript n
IsJustVerdict config transcript OutOfMemory = Unit {0}
