use Rattle.audit_model.proofs.Waiting.{removed}
use Rattle.audit_model.proofs.loads.keys.remove_key.Goals as goal

pub returns : goal.returns
returns c q = removed c.args.key.now q c.args.keys.now c.remove.new.self c.remove.ensures.entries c.remove.ensures.updates.1
