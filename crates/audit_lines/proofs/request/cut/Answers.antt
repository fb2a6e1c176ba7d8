use Rattle.std.proofs.Common.{◌+◌, Some, take, sym, ap, ◌∙◌}
use Rattle.std.proofs.lemmas.List.{take_rest}
use Rattle.audit_lines.proofs.Cuts.{cut_at-searched, cut_at-missed}
use Rattle.audit_lines.proofs.request.cut.Goals as goal

pub returns-in-Some : goal.returns-in-Some
returns-in-Some c =
    let line = c.args.line.now in
    let at = c.in-Some.at in
    ap (λ behind. (take at line, Some behind)) (take_rest line (at + 1)) ∙ sym (cut_at-searched 32 at line (rw c.in-Some.is at c.requires))

pub returns-in-None : goal.returns-in-None
returns-in-None c = sym (cut_at-missed 32 c.args.line.now (rw c.in-None.is at c.requires))
