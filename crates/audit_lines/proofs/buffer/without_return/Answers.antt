use Rattle.std.proofs.Common.{◌-◌, length, sym, ap, ◌∙◌, arith}
use Rattle.std.proofs.lemmas.List.{nil_from_length}
use Rattle.audit_model.specs.Stream.{without_return}
use Rattle.audit_lines.proofs.Returns.{without_return-dropped, without_return-kept}
use Rattle.audit_lines.proofs.buffer.without_return.Goals as goal

pub returns-then-len-eq0-clause-line : goal.returns-then-len-eq0-clause-line
returns-then-len-eq0-clause-line c =
    let none = nil_from_length c.args.line.now c.if-len-eq0.true in
    none ∙ sym (ap without_return none)

pub returns-then-line-len-eq13-clause-line : goal.returns-then-line-len-eq13-clause-line
returns-then-line-len-eq13-clause-line c =
    let line = c.args.line.now in
    sym (without_return-dropped (length line - 1) line (omega arith) c.if-line-len-eq13.true)

pub returns-else-line-len-eq13-clause-line : goal.returns-else-line-len-eq13-clause-line
returns-else-line-len-eq13-clause-line c =
    let line = c.args.line.now in
    sym (without_return-kept (length line - 1) line (omega arith) c.if-line-len-eq13.false)
