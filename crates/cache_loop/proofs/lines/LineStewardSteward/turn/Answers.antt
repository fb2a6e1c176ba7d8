use Rattle.std.proofs.Common.{ap, refl, ◌∙◌}
use Rattle.cache_loop.specs.declared.replies.Overheard.{Overheard}
use Rattle.cache_loop.proofs.Wiring.{turn-over}
use Rattle.cache_loop.proofs.lines.LineStewardSteward.turn.Goals as goal

pub returns : goal.returns
returns g c =
    let turn = c.turn.ensures in (
      record { remaining = g.I.Read.remaining c.turn.new.reader.inner; contents = g.O.Write.contents c.turn.new.writer.inner.inner },
      (
        turn-over _ _ _ c.turn.result c.args.link.now.link c.turn.new.self _ _ _ _ _ _ turn.known.1 turn.goes turn.among (ap g.I.Read.remaining c.new-reader.ensures.holds)
            (ap (λ (device : Overheard _). g.O.Write.contents device.inner) c.new-writer.ensures.holds ∙ ap g.O.Write.contents c.new.ensures),
        refl,
      ),
    )
