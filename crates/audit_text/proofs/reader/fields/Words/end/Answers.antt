use Rattle.audit_text.proofs.reader.Wording.{left-some}
use Rattle.audit_text.proofs.reader.fields.Words.end.Goals as goal

pub returns-else-is_none : goal.returns-else-is_none
returns-else-is_none c = left-some c.args.self.now.rest c.is_none.result c.is_none.ensures c.if-is_none.false
