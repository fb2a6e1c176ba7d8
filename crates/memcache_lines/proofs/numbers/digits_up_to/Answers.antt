use Rattle.std.proofs.Common.{◌+◌, ◌^◌, sym, ◌∙◌, arith}
use Rattle.memcache_lines.proofs.Digits.{digits_below-none, digits_below-some}
use Rattle.memcache_lines.proofs.numbers.digits_up_to.Goals as goal

pub returns-in-Some : goal.returns-in-Some
returns-in-Some c = record {
  number = c.at_most.ensures.value ∙ sym (digits_below-some (c.args.most + 1) (2 ^ 64) c.in-Some.value c.args.word.now (sym c.in-Some.ensures));
  small = c.at_most.ensures.small;
}

pub returns-in-None : goal.returns-in-None
returns-in-None c = record {
  number = sym (digits_below-none (c.args.most + 1) (2 ^ 64) c.args.word.now (omega arith) (sym c.in-None.ensures));
  small = tt;
}
