use Rattle.std.proofs.Common.{◌-◌, length, sym, arith}
use Rattle.memcache_lines.proofs.Returns.{without_one_return-dropped, without_one_return-kept}
use Rattle.memcache_lines.proofs.arrival.without_return.Goals as goal

pub returns-then-line-len-eq13 : goal.returns-then-line-len-eq13
returns-then-line-len-eq13 c =
    let line = c.args.line.now in
    sym (without_one_return-dropped (length line - 1) line (omega arith) c.if-line-len-eq13.true)

pub returns-else-line-len-eq13 : goal.returns-else-line-len-eq13
returns-else-line-len-eq13 c =
    let line = c.args.line.now in
    sym (without_one_return-kept (length line - 1) line (omega arith) c.if-line-len-eq13.false)
