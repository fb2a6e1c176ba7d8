use Rattle.std.proofs.Common.{◌∙◌}
use Rattle.cache_loop.proofs.LoadsSettled.{settle-then}
use Rattle.cache_loop.proofs.lines.LineStewardSteward.take_answers.Goals as goal

pub returns : goal.returns
returns g c =
    let first = c.take_answers in
    let more = c.ask_loads in (
      settle-then g.H.Host.came g.H.Host.rests c.args.self.now.loading.conn _ _ _ c.args.self.now.place.now _ _ _ first.ensures.conn first.ensures.each more.ensures.0,
      more.ensures.1 ∙ first.ensures.conn,
      more.ensures.2,
    )
