use Rattle.cache_service.specs.Sitting.{tally}
use Rattle.cache_service.proofs.Exchanging.{comes-looked}
use Rattle.cache_service.proofs.sitting.SittingHost.await_owed.Goals as goal

pub returns-clause-came : goal.returns-clause-came
returns-clause-came g c = comes-looked g.L.Seating.configs g.C.Shareable.spaces g.C.Shareable.untaken g.C.Shareable.untold c.args.conn _ _ g.C.Shareable.KEEPS (tally c.args.place.now) (tally c.take_owed.new.seat) c.take_owed.result c.take_owed.ensures.seat c.take_owed.ensures.given c.take_owed.ensures.looked
