use Rattle.std.proofs.Common.{◌≡◌, ap}
use Rattle.std.specs.Sync.Mutex.{mutex_guard_with_value}
use Rattle.front_state.specs.Sharding.{FirstHasRoom}
use Rattle.moka_sync.proofs.Shards.{at_released, at_so}
use Rattle.moka_sync.proofs.covering.AllDesks.release_at.Goals as goal

pub release_cover-requires : goal.release_cover-requires
release_cover-requires g c =
    let guard = c.index_mut.result.now in
    let old = mutex_guard_with_value guard c.deref_mut-desk.result.now in
    let alike : old ≡ guard = ap (λ desk. mutex_guard_with_value guard desk) c.deref_mut-desk.ensures.value in
    at_so _ c.self.inside.guards.items c.args.self.now c.args.number guard old old c.self.view_is c.index_mut.ensures.value alike (λ d. FirstHasRoom d.state) c.requires.within c.requires.room

pub returns : goal.returns
returns g c =
    let guard = c.index_mut.result.now in
    let old = mutex_guard_with_value guard c.deref_mut-desk.result.now in
    let new = mutex_guard_with_value guard c.release_cover.new.self in
    let alike : old ≡ guard = ap (λ desk. mutex_guard_with_value guard desk) c.deref_mut-desk.ensures.value in
    at_released _ c.self.inside.guards.items c.args.self.now c.args.number guard old new c.self.view_is c.index_mut.ensures.value alike c.release_cover.ensures.state (ap (λ desk. record { number = desk.number; state = desk.state; writes = desk.writes.steps; moment = desk.moment }) c.release_cover.ensures.rest)
