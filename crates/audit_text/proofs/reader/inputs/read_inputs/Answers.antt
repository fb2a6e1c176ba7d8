use Rattle.audit_text.proofs.reader.Entered.{given-replay, reading-replay}
use Rattle.audit_text.proofs.reader.inputs.read_inputs.Goals as goal

pub returns-clause-exact : goal.returns-clause-exact
returns-clause-exact c = λ replay fits e. given-replay c.args.text.now replay c.read_entries.result c.read_entries.ensures.said (reading-replay c.args.text.now replay fits e)
