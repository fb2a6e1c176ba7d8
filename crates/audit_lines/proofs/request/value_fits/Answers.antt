use Rattle.audit_lines.proofs.Values.{is_value-searched}
use Rattle.audit_lines.proofs.request.value_fits.Goals as goal

pub returns : goal.returns
returns c = is_value-searched c.args.bytes.now c.memchr2.result c.is_none.result c.memchr2.ensures c.is_none.ensures
