use Rattle.cache_service.proofs.Exchanging.{comes-fed}
use Rattle.cache_service.proofs.sitting.SittingHost.feed.Goals as goal

pub returns-in-Ok-clause-came : goal.returns-in-Ok-clause-came
returns-in-Ok-clause-came g c = (
  comes-fed g.L.Seating.configs g.C.Shareable.spaces g.C.Shareable.untaken g.C.Shareable.untold c.args.conn _ _ g.C.Shareable.KEEPS c.args.piece.now c.args.moment c.in-Ok.given c.requires.fits c.in-Ok.ensures.taken c.in-Ok.ensures.given c.in-Ok.ensures.turned,
  c.in-Ok.ensures.given.suits,
)
