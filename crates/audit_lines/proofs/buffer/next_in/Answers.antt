use Rattle.std.proofs.Common.{arith}
use Rattle.audit_lines.proofs.Cuts.{cut_at-found_in, NoneBelow-from_search, cut_at-none, cut_at-long}
use Rattle.audit_lines.proofs.buffer.next_in.Goals as goal

pub returns-in-Some : goal.returns-in-Some
returns-in-Some c =
    let bytes = c.args.bytes.now in
    let found = cut_at-found_in 10 c.min-end.result c.in-Some.at bytes (omega arith) c.in-Some.ensures in
    record { inside = omega arith; short = omega arith; cut = found.1 }

pub returns-in-None : goal.returns-in-None
returns-in-None c =
    let bytes = c.args.bytes.now in
    let none = NoneBelow-from_search 10 c.min-end.result bytes (omega arith) c.in-None.ensures in
    record { short = omega arith; none = cut_at-none 10 bytes (λ k under. none k (omega arith)) }

pub returns-in-None-2 : goal.returns-in-None-2
returns-in-None-2 c =
    let bytes = c.args.bytes.now in
    let none = NoneBelow-from_search 10 c.min-end.result bytes (omega arith) c.in-None-2.ensures in
    omega (arith, cut_at-long 10 8193 bytes (omega arith) (λ k under. none k (omega arith)))
