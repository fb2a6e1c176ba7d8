use Rattle.std.proofs.Common.{ap, subst}
use Rattle.cache_link.specs.Dialogues.{Wire}
use Rattle.cache_link.specs.Served.{wire}
use Rattle.cache_loop.proofs.Wiring.{wire-is}
use Rattle.memcache_cache.specs.Served.{TakesItsTurn}
use Rattle.bivrangd_server.proofs.memcache.MemcacheStewardSteward.turn.Goals as goal

pub returns : goal.returns
returns g c =
    let turn = c.turn.ensures in
    let before = wire g.I.Read.remaining g.O.Write.contents c.new-reader.result c.new-writer.result in
    let after = wire g.I.Read.remaining g.O.Write.contents c.turn.new.reader c.turn.new.writer in (
      after,
      (
        subst (λ (w : Wire). TakesItsTurn g.T.Shelf c.turn.result c.args.link.now c.turn.new.self c.args.self.now.service c.turn.new.service w after)
            (wire-is before _ _ (ap g.I.Read.remaining c.new-reader.ensures.holds) (ap g.O.Write.contents c.new-writer.ensures.holds)) turn.goes,
        (c.moment-now.result, c.moment-now.ensures, turn.turn),
      ),
    )
