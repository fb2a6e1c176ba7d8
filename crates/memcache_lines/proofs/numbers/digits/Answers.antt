use Rattle.std.proofs.Common.{◌≤◌, ◌+◌, ◌-◌, ◌*◌, ◌^◌, length, get_or, sym, ap, subst, ◌∙◌, arith, Some}
use Rattle.std.specs.Str.Parse.{digits_value}
use Rattle.std.proofs.lemmas.List.{take_all}
use Rattle.memcache_lines.proofs.Digits.{AreDigits, digit-at, digits_value_more, digits_below-large, digits_below-fits}
use Rattle.memcache_lines.proofs.numbers.digits.Goals as goal

pub returns-in-None : goal.returns-in-None
returns-in-None c =
    let word = c.args.word.now in
    let at = c.loop-digit.digit-index in
    let digits : AreDigits word = sym c.are_digits.ensures ∙ c.if-not-are_digits.false in
    let value = c.loop-digit.invariant.value in
    let large : 2 ^ 64 ≤ c.loop-digit.value * 10 + (get_or word at 0 - 48) = omega (arith, c.in-None.ensures) in
    sym (digits_below-large word at (omega arith) digits (subst (λ v. 2 ^ 64 ≤ v * 10 + (get_or word at 0 - 48)) value large))

pub loop-digit-preserved : goal.loop-digit-preserved
loop-digit-preserved c =
    let word = c.args.word.now in
    let at = c.loop-digit.digit-index in
    let digits : AreDigits word = sym c.are_digits.ensures ∙ c.if-not-are_digits.false in
    record {
      inside = omega arith;
      value = c.in-Some.ensures.1 ∙ ap (λ v. v * 10 + (get_or word at 0 - 48)) c.loop-digit.invariant.value
          ∙ sym (digits_value_more word at (omega arith) (digit-at word at (omega arith) digits));
      small = omega (arith, c.in-Some.ensures.0, c.in-Some.ensures.1);
    }

pub returns : goal.returns
returns c =
    let word = c.args.word.now in
    let all = take_all c.loop-digit.digit-index word (omega arith) in
    let digits : AreDigits word = sym c.are_digits.ensures ∙ c.if-not-are_digits.false in
    let value = c.loop-digit.invariant.value ∙ ap (digits_value 10) all in
    let some : 1 ≤ length word = grind (arith, c.is_empty.ensures, c.if-is_empty.false) in
    ap Some value ∙ sym (digits_below-fits word some (omega arith) digits (omega (arith, value, c.loop-digit.invariant.small)))
