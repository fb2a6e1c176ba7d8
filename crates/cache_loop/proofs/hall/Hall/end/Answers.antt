use Rattle.std.proofs.Common.{Some, None, subst, sym}
use Rattle.slab.specs.Slab.{Slab}
use Rattle.cache_loop.specs.Turns.{ClosedAt}
use Rattle.cache_loop.specs.declared.served.Served.{Served}
use Rattle.cache_loop.proofs.hall.Hall.end.Goals as goal

pub returns-in-Some : goal.returns-in-Some
returns-in-Some g c = (
  Some c.in-Some.stream,
  subst (λ (x : Slab (Served _)). ClosedAt g.S.Steward c.args.key c.args.outcome c.args.self.now.served c.args.steward.now c.in-Some.stream x c.close.new.steward) (sym c.part.ensures) c.in-Some.ensures,
)

pub returns-in-None : goal.returns-in-None
returns-in-None g c = (None, c.in-None.ensures)
