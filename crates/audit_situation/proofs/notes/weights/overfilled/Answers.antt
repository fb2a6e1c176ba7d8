use Rattle.std.proofs.Common.{ap, ◌∙◌, option_map}
use Rattle.audit_situation.proofs.notes.Weighing.{overfilled-some, if-ok}
use Rattle.audit_situation.proofs.notes.weights.overfilled.Goals as goal

pub returns-in-Some : goal.returns-in-Some
returns-in-Some c =
    if-ok c.overfilled_with.result
    (λ marks f now deed e part lt.
    f part lt
    ∙ overfilled-some c.args.config.now now c.args.held.now deed c.in-Some.newcomer.now.value part (e ∙ ap (λ n. option_map (λ h. h.value) (option_map (λ h. h.now) n)) c.in-Some.is))
    c.overfilled_with.ensures
