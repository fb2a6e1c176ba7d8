use Rattle.audit_text.proofs.reader.Law.{one-text}
use Rattle.audit_text.proofs.reader.reading.texts_tell_transcripts_apart.Goals as goal

pub returns : goal.returns
returns c = λ config transcript fits_config fits_transcript other_config other fits_other_config fits_other e. one-text config transcript fits_config fits_transcript other_config other fits_other_config fits_other e
