use Rattle.std.proofs.Common.{[], refl}
use Rattle.cache_loop.proofs.Goings.{goes-on}
use Rattle.cache_loop.proofs.Pairs.{pairs-same}
use Rattle.cache_loop.specs.Turns.{begins, stays}
use Rattle.cache_loop.proofs.looping.serve_all.Goals as goal

pub returns-in_err-register : goal.returns-in_err-register
returns-in_err-register g c = (record { slots = []; vacant_key = 0; capacity = 0 }, record { slots = []; vacant_key = 0; capacity = 0 }, refl, begins)

pub returns-in_err-events : goal.returns-in_err-events
returns-in_err-events g c = (record { slots = []; vacant_key = 0; capacity = 0 }, record { slots = []; vacant_key = 0; capacity = 0 }, refl, begins)

pub returns : goal.returns
returns g c =
    let hall = c.new-hall.result in
    let turned = c.turn_round-ended in
    let ended = c.end_all in
    let told = c.counts-counts in
    let s = c.args.steward.now in (
      hall.served,
      told.new.self.served,
      c.new-hall.ensures,
      stays ended.new.self.served told.new.self.served ended.new.steward
          (goes-on g.S.Steward hall.served turned.new.hall.served s turned.new.steward ended.new.self.served ended.new.steward turned.ensures ended.ensures)
          (pairs-same ended.new.self.served told.new.self.served told.ensures),
    )
