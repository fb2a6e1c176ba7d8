use Rattle.audit_model.proofs.Waiting.{put}
use Rattle.audit_model.proofs.loads.keys.put_key.Goals as goal

pub returns-clause-put : goal.returns-clause-put
returns-clause-put c q = put c.args.key c.args.number q c.args.keys.now c.insert.new.self c.in_ok-insert.ensures.entries c.in_ok-insert.ensures.updates.1
