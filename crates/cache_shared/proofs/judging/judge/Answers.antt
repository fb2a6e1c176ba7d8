use Rattle.std.proofs.Common.{subst}
use Rattle.cache_shared.specs.Marks.{AllMarked}
use Rattle.cache_shared.proofs.Stepping.{once_of}
use Rattle.cache_shared.proofs.judging.judge.Goals as goal

pub returns-then-mark_all : goal.returns-then-mark_all
returns-then-mark_all g c = λ yes. once_of _ _ _ _ _ c.requires (c.mark_all.ensures.ok c.if-mark_all.true) (subst (AllMarked c.mark_all.new.seen) c.mark_all.ensures.len (c.all_marked.ensures yes))
