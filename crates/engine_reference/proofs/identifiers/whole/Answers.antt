use Rattle.std.proofs.Common.{rules, ◌≡◌, ℕ, ◌<◌, length, get_or}
use Rattle.uuid.proofs.TextLemmas.{all_fit}
use Rattle.engine_reference.proofs.identifiers.whole.Goals as goal

pub returns-clause-whole : goal.returns-clause-whole
returns-clause-whole c =
    let size : length c.args.bytes ≡ 16 = search rules in
    let fits : (k : ℕ) → k < length c.args.bytes → get_or c.args.bytes k 0 < 256 = λ k within. search rules in
    record { sixteen = size; each = all_fit c.args.bytes fits }
