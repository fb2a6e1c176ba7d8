use Rattle.std.proofs.Common.{◌<◌, ◌^◌, arith}
use Rattle.sync_desk.proofs.Preparing.{prepares_as_drawn}
use Rattle.sync_desk.proofs.Refusing.{refused_to_cover}
use Rattle.sync_desk.proofs.sharding.«Desk+K+V+S+R+G+Sharded».prepare_cover.Goals as goal

pub returns-in-Ok-clause-prepares : goal.returns-in-Ok-clause-prepares
returns-in-Ok-clause-prepares g c =
    let low : c.in-Ok.at.step < 2 ^ 64 = omega arith in
    prepares_as_drawn c.args.self.now.state _ c.args.self.now.moment c.in-Ok.at _ _ c.prepare_cover.result c.in-Ok.ensures.drawn low c.prepare_cover.ensures.ok c.prepare_cover.ensures.drawn

pub returns-in-Ok-clause-cause : goal.returns-in-Ok-clause-cause
returns-in-Ok-clause-cause g c =
    refused_to_cover c.args.self.now.state _ _ c.prepare_cover.result c.prepare_cover.ensures.cause
