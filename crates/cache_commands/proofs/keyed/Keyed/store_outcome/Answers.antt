use Rattle.std.proofs.Common.{sym, ap, ◌∙◌, subst, None, false}
use Rattle.audit_model.specs.History.{accepts_values}
use Rattle.audit_model.specs.declared.config.Config.{Config}
use Rattle.cache_commands.specs.Answered.{IsStored}
use Rattle.cache_commands.proofs.Answered.{stored-fault, stored-none, stored-off, stored-value}
use Rattle.cache_commands.proofs.keyed.Keyed.store_outcome.Goals as goal

pub returns-then-not-accepts-clause-ok : goal.returns-then-not-accepts-clause-ok
returns-then-not-accepts-clause-ok g c =
    let is = c.self.view_is in
    stored-off _ _ _ _ (rw is at c.sound.ensures) c.requires.in_time.0 (ap (λ (f : Config). accepts_values f.capacity) (sym (rw is at c.config.ensures)) ∙ sym c.accepts.ensures ∙ c.if-not-accepts.true)

pub returns-in_ok-part-in-Value-clause-ok : goal.returns-in_ok-part-in-Value-clause-ok
returns-in_ok-part-in-Value-clause-ok g c =
    let is = c.self.view_is in
    rw (← c.in-Value.is) at (stored-value _ _ _ _ _ _ _ (rw is at c.sound.ensures)
    (ap (λ (f : Config). accepts_values f.capacity) (sym (rw is at c.config.ensures)) ∙ sym c.accepts.ensures ∙ c.if-not-accepts.false)
    (rw c.as_slice.ensures at (rw c.in_ok-fill-in-Value.ensures at (rw is at (c.in_ok-part-in-Value.ensures.does false)))))

pub returns-in-None-clause-ok : goal.returns-in-None-clause-ok
returns-in-None-clause-ok g c =
    let v = g.S.Store.view c.args.self.now in
    subst (λ o. IsStored c.args.now c.args.key.now o None v v) (sym c.in-None.is) (stored-none _ _ _ (rw c.self.view_is at c.sound.ensures) c.requires.in_time.0)

pub returns-in-Fault-clause-ok : goal.returns-in-Fault-clause-ok
returns-in-Fault-clause-ok g c =
    let v = g.S.Store.view c.args.self.now in
    subst (λ o. IsStored c.args.now c.args.key.now o None v v) (sym c.in-Fault.is) (stored-fault _ _ _ _ (rw c.self.view_is at c.sound.ensures) c.requires.in_time.0)
