use Rattle.std.proofs.Common.{◌≡◌, ◌≤◌, false}
use Rattle.cache_run.specs.Devices.Watched.{failures}
use Rattle.cache_run.specs.Driver.Driven.{Underway, around}
use Rattle.cache_service.specs.Sitting.{Closes, Comes}
use Rattle.cache_service.proofs.serving.serve_and_tell.Given as goal

abbrev pub invariant-loop-turn : goal.invariant-loop-turn
invariant-loop-turn g l = record {
  goes : Underway false (Comes g.L.Seating.configs g.C.Shareable.spaces g.C.Shareable.untaken g.C.Shareable.KEEPS g.C.Shareable.untold) (Closes g.L.Seating.configs g.C.Shareable.spaces g.C.Shareable.untaken g.C.Shareable.KEEPS) g.K.Clock.reads g.D.Loader.loads l.initial.seat
      (around g.I.Read.remaining g.O.Write.contents l.initial.reader l.initial.writer l.initial.clock l.initial.loader) l.session l.seat (around g.I.Read.remaining g.O.Write.contents l.reader l.writer l.clock l.loader);
  same : l.session.conn ≡ l.initial.session.conn;
  reads : failures l.initial.reader ≤ failures l.reader;
  writes : failures l.initial.writer ≤ failures l.writer;
  counts : l.initial.seat.count ≤ l.seat.count;
}
