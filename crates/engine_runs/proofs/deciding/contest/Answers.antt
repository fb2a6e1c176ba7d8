use Rattle.std.proofs.Common.{ap, sym, ◌∙◌}
use Rattle.policy_base.specs.Counts.{frequency_of}
use Rattle.engine_reference.specs.Admission.{shortest_front}
use Rattle.engine_reference.specs.Records.{settled_in}
use Rattle.engine_runs.specs.Deciding.{refused_as}
use Rattle.engine_runs.proofs.Contests.{contest-won, contest-lost}
use Rattle.engine_runs.proofs.deciding.contest.Goals as goal

pub returns-then-is_won : goal.returns-then-is_won
returns-then-is_won g c =
    let s = c.args.tables.now.state in
    contest-won s.sketch c.args.write.hash c.frequency-wanted.result (refused_as c.args.write c.args.found.now) (c.frequency-wanted.ensures.least ∙ ap (λ k. frequency_of k c.args.write.hash) c.sketch.ensures) (shortest_front c.args.write.weight (settled_in s.records s.access)) (sym c.is_won.ensures ∙ c.if-is_won.true)

pub returns-else-is_won : goal.returns-else-is_won
returns-else-is_won g c =
    let s = c.args.tables.now.state in
    c.refused_as.ensures ∙ contest-lost s.sketch c.args.write.hash c.frequency-wanted.result (refused_as c.args.write c.args.found.now) (c.frequency-wanted.ensures.least ∙ ap (λ k. frequency_of k c.args.write.hash) c.sketch.ensures) (shortest_front c.args.write.weight (settled_in s.records s.access)) (sym c.is_won.ensures ∙ c.if-is_won.false)
