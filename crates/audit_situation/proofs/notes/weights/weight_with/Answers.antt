use Rattle.std.proofs.Common.{ap, ◌∙◌, arith}
use Rattle.std.specs.Option.{option_map_or}
use Rattle.audit_situation.specs.Held.Weights.{weight_if_in}
use Rattle.audit_situation.proofs.notes.Weighing.{enough, accepted-weighs}
use Rattle.audit_situation.proofs.notes.weights.weight_with.Goals as goal

pub overflow_sub-left : goal.overflow_sub-left
overflow_sub-left c =
    let older = c.from.ensures ∙ c.weight_seen.ensures ∙ ap (λ o. option_map_or (weight_if_in c.args.part) o 0) c.requires in
    let least = enough c.args.newcomer.now.value.key c.args.part c.from.result c.args.held.now older in
    omega arith

pub returns-in-Some : goal.returns-in-Some
returns-in-Some c =
    let older = c.from.ensures ∙ c.weight_seen.ensures ∙ ap (λ o. option_map_or (weight_if_in c.args.part) o 0) c.requires in
    accepted-weighs c.args.newcomer.now c.args.part c.from.result c.from-2.result c.weight_of.result c.in-Some.weight c.args.held.now
    older (c.from-2.ensures ∙ c.weight_seen-own.ensures ∙ ap (weight_if_in c.args.part) c.see.ensures) c.weight_of.ensures (omega arith)
