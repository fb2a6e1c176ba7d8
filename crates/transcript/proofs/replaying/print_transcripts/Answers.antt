use Rattle.std.proofs.Common.{◌≡◌, ◌++◌, length, drop, sym, ap, ◌∙◌, arith}
use Rattle.std.proofs.lemmas.List.{append-nil}
use Rattle.transcript.proofs.Printing.{namespaces_none}
use Rattle.transcript.proofs.replaying.print_transcripts.Goals as goal

pub returns-in_default : goal.returns-in_default
returns-in_default c =
    let printed = c.loop-config.printed.items in
    let none : length c.loop-config.left.now ≡ 0 = (let below = c.in_default.len_below in omega arith) in
    sym (append-nil printed)
    ∙ ap (λ t. printed ++ t) (sym (namespaces_none c.loop-config.number (drop c.loop-config.config-index c.args.configs.now) c.loop-config.left.now none))
    ∙ c.loop-config.invariant.text
