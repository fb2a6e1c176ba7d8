use Rattle.std.proofs.Common.{sym, ap, ◌∙◌, nat_eq}
use Rattle.std.specs.List.{starts_with}
use Rattle.audit_situation.proofs.held.Opening.{none-there, none-first}
use Rattle.audit_situation.proofs.held.open.first_with.Goals as goal
use Rattle.audit_situation.proofs.held.open.first_with.Goals.{in_default-via-in-Some+else-starts_with, in_default-via-in_default}

pub returns-in_default-clause-none : goal.returns-in_default-clause-none
returns-in_default-clause-none c =
    elim c.in_default.branch [
      | in_default-via-in-Some+else-starts_with w ↦
          none-first c.args.prefix.now c.args.keys.now c.range.result (c.range.ensures.in_range tt) w.in-Some.key.now c.next.new.self w.in-Some.ensures.steps
          (sym (w.starts_with.ensures.value ∙ ap (λ k. starts_with nat_eq k w.as_slice.result.now) w.deref.ensures.value ∙ ap (λ p. starts_with nat_eq w.in-Some.key.now.items p) w.as_slice.ensures.value)
          ∙ w.if-starts_with.false)
      | in_default-via-in_default w ↦ none-there c.args.prefix.now c.args.keys.now c.range.result (c.range.ensures.in_range tt) w.in_default.ensures.steps.0
    ]
