use Rattle.std.proofs.Common.{◌≡◌, ◌≤◌, ◌^◌, ◌-◌, [], true}
use Rattle.cache_run.specs.Devices.Watched.{failures}
use Rattle.cache_run.specs.Driver.Causes.{RunsFor}
use Rattle.cache_run.specs.Driver.Drives.{Outside}
use Rattle.cache_run.specs.Driver.Driven.{HoldsSession, Underway, around}
use Rattle.cache_run.proofs.driver.driving.converse.Given as goal

abbrev pub decreases-loop-turn : goal.decreases-loop-turn
decreases-loop-turn g l = 2 ^ 128 - 1 - l._turn

abbrev pub invariant-loop-turn : goal.invariant-loop-turn
invariant-loop-turn g l = record {
  known : HoldsSession g.H.Host.LENT g.H.Host.knows l.session l.place;
  same : l.session.conn ≡ l.fn.session.conn;
  goes : (start : _) (a : Outside _ _) → Underway g.H.Host.LENT g.H.Host.came g.H.Host.closes g.K.Clock.reads g.D.Loader.loads start a l.fn.session l.fn.place (around g.I.Read.remaining g.O.Write.contents l.fn.reader l.fn.writer l.fn.clock l.fn.loader)
      → Underway g.H.Host.LENT g.H.Host.came g.H.Host.closes g.K.Clock.reads g.D.Loader.loads start a l.session l.place (around g.I.Read.remaining g.O.Write.contents l.reader l.writer l.clock l.loader);
  more : g.H.Host.LENT ≡ true → l.fn.session.inbox ≡ [] → (l.session.inbox ≡ []) × RunsFor l._turn g.I.Read.remaining g.D.Loader.loads l.fn.reader l.reader l.fn.loader l.loader;
  reads : failures l.fn.reader ≤ failures l.reader;
  writes : failures l.fn.writer ≤ failures l.writer;
  counts : g.H.Host.counted l.fn.place ≤ g.H.Host.counted l.place;
}
