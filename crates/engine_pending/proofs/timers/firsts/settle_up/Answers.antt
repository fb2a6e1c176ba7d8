use Rattle.std.proofs.Common.{arith}
use Rattle.engine_pending.proofs.timers.Showing.{shown-above}
use Rattle.engine_pending.proofs.timers.firsts.settle_up.Goals as goal

pub up-preserved : goal.up-preserved
up-preserved c = record {
  within = omega arith;
  others = shown-above c.args.expiries.now c.settle.new.firsts c.up.at c.settle.result c.settle.ensures.own c.settle.ensures.others;
}
