use Rattle.std.proofs.Common.{arith}
use Rattle.cache_spaces.proofs.Journaling.{were-none}
use Rattle.cache_spaces.proofs.Gaining.{start-have}
use Rattle.cache_spaces.proofs.Reading.{start-reads, start-unread}
use Rattle.cache_spaces.proofs.journals.RecordedService.new.Goals as goal

pub invariant_of-result : goal.invariant_of-result
invariant_of-result c = (
  ∣ were-none c.args.configs.now c.args.generator c.args.moment c.in_ok-core.core c.in_ok-core.ensures.made ∣₁,
  c.in-Ok.ensures.items,
  let count = c.in_ok-core.ensures.made.count in let capacity = c.in-Ok.ensures.capacity in omega (arith, count, capacity),
  let count = c.in_ok-core.ensures.made.count in let counted = c.in-Ok-new_cursors.ensures.counted in omega (arith, count, counted),
  start-reads c.in_ok-core.core c.in-Ok-new_cursors.read.items _ c.in-Ok-new_cursors.ensures,
  start-have c.args.configs.now c.args.generator c.args.moment c.in_ok-core.core c.in-Ok-new_cursors.read.items _ c.in_ok-core.ensures.made c.in-Ok-new_cursors.ensures
      (let count = c.in_ok-core.ensures.made.count in let counted = c.in-Ok-new_cursors.ensures.counted in omega (arith, count, counted)),
)

pub returns-in-Ok-new_cursors-clause-unread : goal.returns-in-Ok-new_cursors-clause-unread
returns-in-Ok-new_cursors-clause-unread c = start-unread c.in_ok-core.core c.in-Ok-new_cursors.read.items _ c.in-Ok-new_cursors.ensures
