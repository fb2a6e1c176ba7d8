use Rattle.std.proofs.Common.{◌∙◌, sym}
use Rattle.front_parts.proofs.Options.{taken-none, taken-some}
use Rattle.front_parts.proofs.removals.invalidate.Goals as goal

pub returns-in-Ok-true-clause-takes_out : goal.returns-in-Ok-true-clause-takes_out
returns-in-Ok-true-clause-takes_out g c = taken-some g.R.Rules.answers c.args.now c.args.part.now c.invalidate_with_hash.new.self c.apply_reads_writes_if_needed.new.self _ (sym c.in-Ok-true.ensures.held ∙ c.in-Ok-true.field-0-test) c.in-Ok-true.ensures.removed c.apply_reads_writes_if_needed.ensures.due

pub returns-in-Ok-false-clause-takes_out : goal.returns-in-Ok-false-clause-takes_out
returns-in-Ok-false-clause-takes_out g c = taken-none g.R.Rules.answers c.args.now c.args.part.now c.invalidate_with_hash.new.self c.invalidate_with_hash.new.self _ (sym c.in-Ok-false.ensures.held ∙ c.in-Ok-false.field-0-test) c.in-Ok-false.ensures.removed
