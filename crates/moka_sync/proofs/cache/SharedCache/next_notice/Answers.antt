use Rattle.std.proofs.Common.{◌≡◌, None, arith}
use Rattle.std.specs.Arc.{arc_value}
use Rattle.moka_sync.proofs.Telling.{range-all}
use Rattle.moka_sync.specs.Holding.{DidTell}
use Rattle.moka_sync.specs.Spreading.{desk_count}
use Rattle.moka_sync.proofs.cache.SharedCache.next_notice.Goals as goal

pub returns-in-None-clause-none : goal.returns-in-None-clause-none
returns-in-None-clause-none g c = λ is number low.
    let inner = arc_value c.args.self.now.inner in
    let many : c.len-count.result ≡ desk_count inner.spread = cc (c.len-count.ensures, c.deref.ensures, inner.counted) in
    range-all c.ask_next-first.result c.len-count.result (DidTell None) (c.next_between.ensures.none c.in-None.is) (c.next_between-in-None.ensures.none is) number (omega (arith, low, many))
