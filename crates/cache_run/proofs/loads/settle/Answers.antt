use Rattle.std.proofs.Common.{◌≡◌, ◌∙◌, true, is_some, subst, sym}
use Rattle.audit_model.specs.Belongs.{refusal_of_outcome}
use Rattle.cache_spaces.specs.Spaces.{config_of}
use Rattle.cache_run.specs.Happened.{IsGivenUpFor}
use Rattle.cache_spaces.proofs.Placing.{fact-here, at-after}
use Rattle.std.proofs.lemmas.Result.{on_err_weaker, on_ok_weaker}
use Rattle.cache_run.proofs.Driving.{by-answer, by-give-up}
use Rattle.cache_run.proofs.loads.settle.Goals as goal

pub returns-in-None-clause-ok : goal.returns-in-None-clause-ok
returns-in-None-clause-ok c =
    on_ok_weaker c.give_up.result (λ a. by-give-up c.args.conn c.args.load c.args.moment c.args.said _ _ (λ x at. subst (IsGivenUpFor (config_of x)) (sym c.in-None.is) tt) a) c.give_up.ensures.ok

pub returns-in-Ok-true-clause-ok : goal.returns-in-Ok-true-clause-ok
returns-in-Ok-true-clause-ok c = by-answer c.args.conn c.args.load c.in-Some.outcome c.args.moment c.args.said _ _ c.in-Some.is (c.in-Ok-true.ensures.settled c.in-Ok-true.field-0-test)

pub returns-in-Ok-false-clause-ok : goal.returns-in-Ok-false-clause-ok
returns-in-Ok-false-clause-ok c =
    let refused = c.in-Ok-false.ensures.refused c.in-Ok-false.field-0-test in
    on_ok_weaker c.give_up-in-Ok-false.result
    (λ a.
    by-give-up c.args.conn c.args.load c.args.moment c.args.said _ _
    (λ x at. subst (IsGivenUpFor (config_of x)) (sym c.in-Some.is) (fact-here (λ was. is_some (refusal_of_outcome (config_of was) c.in-Some.outcome) ≡ true) _ _ x at refused.1)) (at-after _ _ _ refused.0 a))
    c.give_up-in-Ok-false.ensures.ok

pub returns-in-Ok-false-clause-unchanged : goal.returns-in-Ok-false-clause-unchanged
returns-in-Ok-false-clause-unchanged c =
    let refused = c.in-Ok-false.ensures.refused c.in-Ok-false.field-0-test in
    on_err_weaker c.give_up-in-Ok-false.result (λ same. same ∙ refused.0) c.give_up-in-Ok-false.ensures.unchanged
