use Rattle.std.specs.Arc.{arc_value}
use Rattle.moka_sync.proofs.Holding.{done-all}
use Rattle.moka_sync.specs.Covering.{CoversShards}
use Rattle.moka_sync.specs.Spreading.{desk_count}
use Rattle.moka_sync.proofs.sharded.«SharedCache+K+V+S+R+E+Sharded».invalidate_entries_if.Goals as goal

pub returns-clause-did : goal.returns-clause-did
returns-clause-did g c =
    done-all c.invalidate_entries_if.result (desk_count (arc_value c.args.self.now.inner).spread) (CoversShards c.args.predicate) c.in_ok-all.all c.invalidate_entries_if.new.self c.in_ok-all.ensures.many c.in_ok-all.ensures.numbered c.invalidate_entries_if.ensures.covers
