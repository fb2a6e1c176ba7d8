use Rattle.std.proofs.Common.{◌≡◌}
use Rattle.cache_run.specs.Driver.Drives.{Outside}
use Rattle.cache_run.specs.Driver.Driven.{HoldsSession, Underway, beside, spot}
use Rattle.cache_run.specs.Driver.Interludes.{InterludeBut, together}
use Rattle.cache_link.proofs.attending.settle_all.Given as goal

abbrev pub invariant-loop-load : goal.invariant-loop-load
invariant-loop-load g l = record {
  known : HoldsSession g.H.Host.LENT g.H.Host.knows l.session l.place;
  same : l.session.conn ≡ l.fn.session.conn;
  goes : (remaining : _) (start : _) (a : Outside _ _) → Underway g.H.Host.LENT g.H.Host.came g.H.Host.closes g.K.Clock.reads g.D.Loader.loads start a l.fn.session l.fn.place (beside remaining (spot g.O.Write.contents l.fn.place l.fn.writer l.fn.clock l.fn.loader))
      → Underway g.H.Host.LENT g.H.Host.came g.H.Host.closes g.K.Clock.reads g.D.Loader.loads start a l.session l.place (beside remaining (spot g.O.Write.contents l.place l.writer l.clock l.loader));
  among : InterludeBut g.H.Host g.K.Clock.reads g.D.Loader.loads l.fn.session.conn (together l.fn.place l.fn.clock l.fn.loader) (together l.place l.clock l.loader);
}
