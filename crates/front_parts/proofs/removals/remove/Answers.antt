use Rattle.std.proofs.Common.{◌∙◌, sym}
use Rattle.front_parts.proofs.Options.{none-seen, some-seen, taken-none, taken-some}
use Rattle.front_parts.proofs.removals.remove.Goals as goal

pub returns-in-Ok-Some-clause-takes_out : goal.returns-in-Ok-Some-clause-takes_out
returns-in-Ok-Some-clause-takes_out g c =
    taken-some g.R.Rules.answers c.args.now c.args.part.now c.remove_with_hash.new.self c.apply_reads_writes_if_needed.new.self _ (some-seen _ _ _ (sym c.in-Ok-Some.field-0-is ∙ c.in-Ok-Some.ensures.value)) c.in-Ok-Some.ensures.removed c.apply_reads_writes_if_needed.ensures.due

pub returns-in-Ok-None-clause-takes_out : goal.returns-in-Ok-None-clause-takes_out
returns-in-Ok-None-clause-takes_out g c =
    taken-none g.R.Rules.answers c.args.now c.args.part.now c.remove_with_hash.new.self c.remove_with_hash.new.self _ (none-seen _ _ (sym c.in-Ok-None.field-0-is ∙ c.in-Ok-None.ensures.value)) c.in-Ok-None.ensures.removed
