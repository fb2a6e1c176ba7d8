use Rattle.std.proofs.Common.{◌≡◌, ◌∙◌, sym, subst, ◌<◌, ℕ, false, arith}
use Rattle.audit_model.specs.Notes.{is_over}
use Rattle.audit_situation.specs.Held.Weights.{values_of}
use Rattle.moka_audit.proofs.steps.Within.{one-over, none-over}
use Rattle.moka_audit.proofs.steps.judging.are_within.Goals as goal

pub returns-then-is_over : goal.returns-then-is_over
returns-then-is_over c = sym (one-over c.args.config.now c.loop-part.part (values_of c.args.held.now) (sym c.is_over.ensures ∙ c.if-is_over.true))

pub returns : goal.returns
returns c =
    let last : c.loop-part.part ≡ 256 = omega arith in
    sym (none-over c.args.config.now (values_of c.args.held.now) c.args.held.now c.len-number.ensures.small
    (subst (λ (n : ℕ). (part : ℕ) → part < n → is_over c.args.config.now part (values_of c.args.held.now) ≡ false) last c.loop-part.invariant))
