use Rattle.audit_laws.proofs.CutTranscripts.{transcripts_may_be_cut}
use Rattle.audit_laws.proofs.transcripts_may_be_cut.Goals as goal

pub returns : goal.returns
returns c = transcripts_may_be_cut
