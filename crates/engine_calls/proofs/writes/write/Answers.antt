use Rattle.std.proofs.Common.{ap, ◌∙◌}
use Rattle.engine_reference.specs.Calls.{written}
use Rattle.engine_calls.specs.Sending.{sent_if}
use Rattle.engine_calls.proofs.writes.write.Goals as goal

pub returns-in-Some : goal.returns-in-Some
returns-in-Some g c =
    let a = g.R.Rules.answers in
    let s = c.args.tables.now.state in
    let f = c.in-Some.ensures.found in
    c.write_over.ensures f.0 f.1
    ∙ ap (λ h. sent_if c.args.at_once s.next_ticket (written a g.K.PartialEq.eq s c.args.key h c.args.value c.args.now c.args.step)) (c.in-Some.ensures.hash f.0 f.1)
