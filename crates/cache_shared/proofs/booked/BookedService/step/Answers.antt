use Rattle.std.proofs.Common.{[], refl, sym, true≢false, ◌∙◌}
use Rattle.cache_shared.proofs.Causes.{used_up_refused}
use Rattle.cache_shared.proofs.Stepping.{came-result, counts}
use Rattle.cache_shared.specs.Intakes.{input_in}
use Rattle.cache_shared.proofs.booked.BookedService.step.Goals as goal

pub returns-then-KEEPS-clause-counted : goal.returns-then-KEEPS-clause-counted
returns-then-KEEPS-clause-counted g c =
    counts _ _ (input_in c.args.intake) c.step_kept.result _ _ _ _ _ c.step_kept.ensures.count.0 (λ kept. c.step_kept.ensures.receipt) (λ none. absurd (true≢false (sym (sym c.KEEPS.ensures ∙ c.if-KEEPS.true) ∙ none)))
    (came-result g.C.Shareable.spaces g.C.Shareable.untaken g.C.Shareable.untold (input_in c.args.intake) c.step_kept.result _ _ _ c.args.self.now.stands.reached.led c.step_kept.ensures.taken)

pub returns-clause-counted : goal.returns-clause-counted
returns-clause-counted g c =
    counts _ _ (input_in c.args.intake) c.count_one.result _ _ _ _ [] c.count_one.ensures.count (λ kept. absurd (true≢false (sym kept ∙ sym c.KEEPS.ensures ∙ c.if-KEEPS.false))) (λ none namespace. refl)
    (came-result g.C.Shareable.spaces g.C.Shareable.untaken g.C.Shareable.untold (input_in c.args.intake) c.count_one.result _ _ _ c.args.self.now.stands.reached.led c.count_one.ensures.taken)

pub returns-then-KEEPS-clause-used_up : goal.returns-then-KEEPS-clause-used_up
returns-then-KEEPS-clause-used_up g c = used_up_refused (input_in c.args.intake) c.step_kept.result _ _ c.step_kept.ensures.refused

pub returns-clause-used_up : goal.returns-clause-used_up
returns-clause-used_up g c = used_up_refused (input_in c.args.intake) c.count_one.result _ _ c.count_one.ensures.refused
