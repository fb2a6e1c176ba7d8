use Rattle.audit_text.proofs.reader.Growing.{configured}
use Rattle.audit_text.proofs.reader.inputs.begin_config.Goals as goal

pub returns-clause-text : goal.returns-clause-text
returns-clause-text c =
    let b = c.args.begun.now in
    let only = c.has_only_configs.ensures.none c.if-not-has_only_configs.false in
    configured b.configs c.push.new.self c.args.config b.made b.inputs only.0 only.1 c.in_ok-push.ensures.ok
