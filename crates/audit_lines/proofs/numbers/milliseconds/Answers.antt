use Rattle.std.proofs.Common.{◌≡◌, ◌+◌, ◌*◌, true, take, get_or, sym, ap, subst, ◌∙◌, arith}
use Rattle.std.specs.Str.Parse.{digits_value}
use Rattle.std.proofs.lemmas.List.{take_all}
use Rattle.audit_model.specs.Grammar.{is_digit}
use Rattle.audit_lines.proofs.Digits.{AreDigits, digits_more, digits_value_more, digits_value_front, digits_value_whole}
use Rattle.audit_lines.proofs.numbers.milliseconds.Goals as goal

pub overflow_mul-value : goal.overflow_mul-value
overflow_mul-value c =
    let invariant = c.loop-digit.invariant in
    let small = digits_value_front c.args.word.now c.loop-digit.digit-index (omega arith) (omega arith) invariant.digits in
    omega arith

pub overflow_add-value : goal.overflow_add-value
overflow_add-value c =
    let invariant = c.loop-digit.invariant in
    let small = digits_value_front c.args.word.now c.loop-digit.digit-index (omega arith) (omega arith) invariant.digits in
    omega (arith, c.type_inv.word c.loop-digit.digit-index)

pub loop-digit-preserved : goal.loop-digit-preserved
loop-digit-preserved c =
    let word = c.args.word.now in
    let at = c.loop-digit.digit-index in
    let digit : is_digit (get_or word at 0) ≡ true = sym c.is_ascii_digit.ensures.value ∙ c.if-not-is_ascii_digit.false in
    record {
      inside = omega arith;
      value = ap (λ value. value * 10 + c.from.result) c.loop-digit.invariant.value ∙ ap (λ d. digits_value 10 (take at word) * 10 + d) c.from.ensures
          ∙ sym (digits_value_more word at (omega arith) digit);
      digits = digits_more word at (omega arith) digit c.loop-digit.invariant.digits;
    }

pub returns-clause-small : goal.returns-clause-small
returns-clause-small c =
    let word = c.args.word.now in
    let all = take_all c.loop-digit.digit-index word (omega arith) in
    let digits : AreDigits word = subst AreDigits all c.loop-digit.invariant.digits in
    omega (arith, c.loop-digit.invariant.value ∙ ap (digits_value 10) all, digits_value_whole word (omega arith) digits)
