use Rattle.std.proofs.Common.{sym, ap, ◌∙◌, false}
use Rattle.audit_model.specs.History.{accepts_values}
use Rattle.audit_model.specs.declared.config.Config.{Config}
use Rattle.cache_commands.proofs.Answered.{answered-off, answered-set}
use Rattle.cache_commands.proofs.commands.set.Goals as goal

pub returns-then-not-accepts-clause-ok : goal.returns-then-not-accepts-clause-ok
returns-then-not-accepts-clause-ok g c =
    answered-off _ _ _ _ _ _ _ c.sound.ensures c.requires.in_time.0 (ap (λ (f : Config). accepts_values f.capacity) (sym c.config.ensures) ∙ sym c.accepts.ensures ∙ c.if-not-accepts.true) (cc)

pub returns-clause-ok : goal.returns-clause-ok
returns-clause-ok g c =
    answered-set _ _ _ _ _ _ _ _ _ c.sound.ensures (ap (λ (f : Config). accepts_values f.capacity) (sym c.config.ensures) ∙ sym c.accepts.ensures ∙ c.if-not-accepts.false) (cc) (c.in_ok-part.ensures.does false)
