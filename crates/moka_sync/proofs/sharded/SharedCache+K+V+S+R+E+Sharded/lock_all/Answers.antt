use Rattle.std.proofs.Common.{◌∙◌, ap, arith, sym}
use Rattle.std.specs.Prelude.{slice_get}
use Rattle.moka_sync.proofs.Numbered.{numbered-more, numbered-seen}
use Rattle.moka_sync.specs.Holding.{GuardedShard}
use Rattle.moka_sync.proofs.sharded.«SharedCache+K+V+S+R+E+Sharded».lock_all.Goals as goal

pub loop-number-preserved : goal.loop-number-preserved
loop-number-preserved g c =
    let so_far = c.loop-number.invariant in
    let guards = c.loop-number.guards in
    let is = c.lock_at.ensures.number ∙ c.get.ensures.number ∙ sym so_far.many ∙ guards.ok.0 in
    record {
      many = omega (arith, c.in_ok-push.ensures.len, so_far.many);
      numbered = λ place d at. numbered-more _ guards.items c.lock_at.result so_far.numbered is place d (ap (λ gs. slice_get gs place) (sym c.in_ok-push.ensures.items) ∙ at);
    }

pub returns-clause-numbered : goal.returns-clause-numbered
returns-clause-numbered g c = λ place d at.
    numbered-seen _ (λ (desk : GuardedShard _ _ _ _ _). desk.number) c.loop-number.guards.items c.loop-number.invariant.numbered place d (ap (λ ds. slice_get ds place) (sym c.new.ensures) ∙ at)
