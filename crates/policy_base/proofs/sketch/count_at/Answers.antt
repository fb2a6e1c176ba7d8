use Rattle.std.proofs.Common.{◌≡◌, ◌+◌, ◌*◌, ◌/◌, ◌%◌, ◌^◌, sym, ap, ◌∙◌, arith}
use Rattle.std.proofs.lemmas.Nat.{shr-shr}
use Rattle.policy_base.proofs.Nibbles.{pow16, get_or-nibbles}
use Rattle.policy_base.proofs.sketch.count_at.Goals as goal

pub returns-clause-count : goal.returns-clause-count
returns-clause-count c =
    let e : 16 * c.args.row + 4 * c.args.i ≡ 4 * (4 * c.args.row + c.args.i) = omega arith in
    ap (λ q. q % 16) (shr-shr c.args.word (16 * c.args.row) (4 * c.args.i)) ∙ ap (λ k. c.args.word / 2 ^ k % 16) e ∙ ap (λ q. c.args.word / q % 16) (sym (pow16 (4 * c.args.row + c.args.i))) ∙ sym (get_or-nibbles 16 c.args.word (4 * c.args.row + c.args.i) (omega arith))
