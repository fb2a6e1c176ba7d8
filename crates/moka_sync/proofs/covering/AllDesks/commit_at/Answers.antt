use Rattle.std.proofs.Common.{◌≡◌, ap}
use Rattle.std.specs.Sync.Mutex.{mutex_guard_with_value}
use Rattle.moka_sync.specs.Covering.{IsPrepared}
use Rattle.moka_sync.proofs.Shards.{at_committed, at_so}
use Rattle.moka_sync.proofs.covering.AllDesks.commit_at.Goals as goal

pub commit_cover-requires-clause-room : goal.commit_cover-requires-clause-room
commit_cover-requires-clause-room g c =
    let guard = c.index_mut.result.now in
    let old = mutex_guard_with_value guard c.deref_mut-desk.result.now in
    let alike : old ≡ guard = ap (λ desk. mutex_guard_with_value guard desk) c.deref_mut-desk.ensures.value in
    (at_so _ c.self.inside.guards.items c.args.self.now c.args.number guard old old c.self.view_is c.index_mut.ensures.value alike IsPrepared c.requires.within c.requires.prepared).room

pub commit_cover-requires-clause-steps : goal.commit_cover-requires-clause-steps
commit_cover-requires-clause-steps g c =
    let guard = c.index_mut.result.now in
    let old = mutex_guard_with_value guard c.deref_mut-desk.result.now in
    let alike : old ≡ guard = ap (λ desk. mutex_guard_with_value guard desk) c.deref_mut-desk.ensures.value in
    (at_so _ c.self.inside.guards.items c.args.self.now c.args.number guard old old c.self.view_is c.index_mut.ensures.value alike IsPrepared c.requires.within c.requires.prepared).steps

pub returns : goal.returns
returns g c =
    let guard = c.index_mut.result.now in
    let old = mutex_guard_with_value guard c.deref_mut-desk.result.now in
    let new = mutex_guard_with_value guard c.commit_cover.new.self in
    let alike : old ≡ guard = ap (λ desk. mutex_guard_with_value guard desk) c.deref_mut-desk.ensures.value in
    at_committed _ c.self.inside.guards.items c.args.self.now c.args.number guard old new c.self.view_is c.index_mut.ensures.value alike c.args.predicate c.args.id c.commit_cover.ensures.commits (ap (λ desk. record { number = desk.number; state = desk.state; writes = desk.writes.steps; moment = desk.moment }) c.commit_cover.ensures.rest)
