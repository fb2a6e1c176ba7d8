use Rattle.std.proofs.Common.{rules, arith, ◌≡◌, ◌≤◌, ◌<◌, ◌-◌, ◌∷◌, ◌∙◌, suc, ap, drop, length, decimal}
use Rattle.std.proofs.lemmas.Fmt.{length-decimal-le}
use Rattle.memcache_service.proofs.Placing.{drop-set}
use Rattle.memcache_service.proofs.replies.put_before.Goals as goal

pub write_digits-start-requires : goal.write_digits-start-requires
write_digits-start-requires c =
    let short : length (decimal c.args.number) ≤ 20 = search (rules, length-decimal-le 20) in
    (omega (arith, short, c.requires.0), c.requires.1)

pub overflow_sub-row : goal.overflow_sub-row
overflow_sub-row c =
    let short : length (decimal c.args.number) ≤ 20 = search (rules, length-decimal-le 20) in
    omega (arith, short, c.requires.0, c.write_digits-start.ensures.start)

pub overflow_sub-result : goal.overflow_sub-result
overflow_sub-result c =
    let short : length (decimal c.args.number) ≤ 20 = search (rules, length-decimal-le 20) in
    omega (arith, short, c.requires.0, c.write_digits-start.ensures.start)

pub returns-clause-start : goal.returns-clause-start
returns-clause-start c =
    let short : length (decimal c.args.number) ≤ 20 = search (rules, length-decimal-le 20) in
    let start = c.write_digits-start.ensures.start in
    (omega (arith, short, c.requires.0, start), omega (arith, short, c.requires.0, start))

pub returns-clause-put : goal.returns-clause-put
returns-clause-put c =
    let short : length (decimal c.args.number) ≤ 20 = search (rules, length-decimal-le 20) in
    let start = c.write_digits-start.result in
    let row = c.write_digits-start.new.buf in
    let first : suc (start - 1) ≡ start = omega (arith, short, c.requires.0, c.write_digits-start.ensures.start) in
    let low : start - 1 < length row = omega (arith, short, c.requires.0, c.requires.1, c.write_digits-start.ensures.start, c.write_digits-start.auto.buf) in
    drop-set row (start - 1) 32 low ∙ ap (λ n. 32 ∷ drop n row) first ∙ ap (λ rest. 32 ∷ rest) c.write_digits-start.ensures.written
