use Rattle.std.proofs.Common.{◌+◌, refl, arith}
use Rattle.policy_queue.specs.Timers.Places.{taken}
use Rattle.policy_queue.proofs.timers.Wheels.{below_came, one_more, permutes_came, lacks_named}
use Rattle.policy_queue.proofs.timers.Arrays.{LacksSerial-next, AreBelow-more}
use Rattle.policy_queue.proofs.timers.wheel.TimerWheel.place.Goals as goal

pub add-requires-clause-new : goal.add-requires-clause-new
add-requires-clause-new g c = (refl, LacksSerial-next c.self.inside.next_serial (taken c.self.inside.row.places) c.self.invariant.below)

pub invariant_of-self : goal.invariant_of-self
invariant_of-self g c =
    let ts = taken c.self.inside.row.places in
    let next = c.self.inside.next_serial in
    record { arranged = c.add.ensures.arranged; below = below_came (next + 1) ts (taken c.add.new.row.places) _ c.add.ensures.comes (AreBelow-more next ts c.self.invariant.below) (omega arith) }

pub returns : goal.returns
returns g c =
    let ts = taken c.self.inside.row.places in
    let below = c.self.invariant.below in
    let grown = one_more ts (taken c.add.new.row.places) _ c.add.ensures.comes in
    rw (← c.self.view_is) (record {
      timers = permutes_came ts (taken c.add.new.row.places) _ c.add.ensures.comes;
      serial = refl;
      fresh = lacks_named ts _ (LacksSerial-next c.self.inside.next_serial ts below);
      is_enabled = refl;
      origin = refl;
      moment = refl;
      next_serial = refl;
      room =
          let before = c.self.invariant.arranged.counted in
          let after = c.add.ensures.arranged.counted in
          let kept = c.add.ensures.capacity in
          let slots = c.add.ensures.slots in
          omega arith;
    })
