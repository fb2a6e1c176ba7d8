use Rattle.std.proofs.Common.{◌≡◌, ap}
use Rattle.std.specs.Sync.Mutex.{mutex_guard_with_value}
use Rattle.moka_sync.proofs.Shards.{at_caused, at_may, at_prepared, at_refused}
use Rattle.moka_sync.proofs.covering.AllDesks.prepare_at.Goals as goal

pub returns-clause-ok : goal.returns-clause-ok
returns-clause-ok g c =
    let guard = c.index_mut.result.now in
    let old = mutex_guard_with_value guard c.deref_mut-desk.result.now in
    let new = mutex_guard_with_value guard c.prepare_cover.new.self in
    let alike : old ≡ guard = ap (λ desk. mutex_guard_with_value guard desk) c.deref_mut-desk.ensures.value in
    at_prepared _ c.self.inside.guards.items c.args.self.now c.args.number guard old new c.self.view_is c.index_mut.ensures.value alike _ _ c.prepare_cover.result c.prepare_cover.ensures.prepares (ap (λ desk. record { number = desk.number; state = desk.state; writes = desk.writes.steps; moment = desk.moment }) c.prepare_cover.ensures.rest)

pub returns-clause-may : goal.returns-clause-may
returns-clause-may g c =
    let guard = c.index_mut.result.now in
    let old = mutex_guard_with_value guard c.deref_mut-desk.result.now in
    let alike : old ≡ guard = ap (λ desk. mutex_guard_with_value guard desk) c.deref_mut-desk.ensures.value in
    at_may _ c.self.inside.guards.items c.args.self.now c.args.number guard old old c.self.view_is c.index_mut.ensures.value alike _ _ c.prepare_cover.result c.prepare_cover.new.self.state c.prepare_cover.ensures.prepares

pub returns-clause-err : goal.returns-clause-err
returns-clause-err g c =
    let guard = c.index_mut.result.now in
    let old = mutex_guard_with_value guard c.deref_mut-desk.result.now in
    let new = mutex_guard_with_value guard c.prepare_cover.new.self in
    let alike : old ≡ guard = ap (λ desk. mutex_guard_with_value guard desk) c.deref_mut-desk.ensures.value in
    at_refused _ c.self.inside.guards.items c.args.self.now c.args.number guard old new c.self.view_is c.index_mut.ensures.value alike c.prepare_cover.result c.requires c.prepare_cover.ensures.err (ap (λ desk. record { number = desk.number; state = desk.state; writes = desk.writes.steps; moment = desk.moment }) c.prepare_cover.ensures.rest)

pub returns-clause-cause : goal.returns-clause-cause
returns-clause-cause g c =
    let guard = c.index_mut.result.now in
    let old = mutex_guard_with_value guard c.deref_mut-desk.result.now in
    let alike : old ≡ guard = ap (λ desk. mutex_guard_with_value guard desk) c.deref_mut-desk.ensures.value in
    at_caused _ c.self.inside.guards.items c.args.self.now c.args.number guard old old c.self.view_is c.index_mut.ensures.value alike _ _ c.prepare_cover.result c.prepare_cover.ensures.cause
