use Rattle.audit_laws.proofs.TwinRecords.{replies_by_commands}
use Rattle.audit_laws.proofs.replies_by_commands.Goals as goal

pub returns : goal.returns
returns c = replies_by_commands
