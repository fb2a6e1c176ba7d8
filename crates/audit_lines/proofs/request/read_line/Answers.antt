use Rattle.std.proofs.Common.{arith, sym, ap, ◌∙◌}
use Rattle.std.specs.Prelude.{option_map}
use Rattle.audit_lines.proofs.Cuts.{cut_at-shorter}
use Rattle.audit_lines.proofs.Words.{IsFit-within}
use Rattle.audit_lines.proofs.request.read_line.Goals as goal

pub returns-in-Some-rest-clause-fit : goal.returns-in-Some-rest-clause-fit
returns-in-Some-rest-clause-fit c =
    let rest = c.in-Some-rest.rest.now in
    let cut = sym c.cut.ensures ∙ ap (λ o. (c.cut.result.0.now, option_map (λ r. r.now) o)) c.in-Some-rest.is in
    let shorter = cut_at-shorter 32 c.args.line.now c.cut.result.0.now rest cut in
    IsFit-within c.args.config.now rest c.args.line.now c.read_behind.result (omega arith) c.read_behind.ensures.fit

pub returns-in-None-rest-clause-fit : goal.returns-in-None-rest-clause-fit
returns-in-None-rest-clause-fit c = c.read_alone.ensures.fit c.args.config.now c.args.line.now
