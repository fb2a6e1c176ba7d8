use Rattle.std.proofs.Common.{Ok}
use Rattle.cache_loop.specs.Turns.{begins, closes, stays}
use Rattle.cache_loop.proofs.hall.Hall.count_one.Goals as goal

pub returns-then-is_too_quiet : goal.returns-then-is_too_quiet
returns-then-is_too_quiet g c =
    let old = c.args.self.now.served in
    let s = c.args.steward.now in
    let quiet = c.is_too_quiet.new.self.served in
    closes c.args.key _ c.end.ensures.0 quiet c.end.new.self.served s c.end.new.steward (stays old quiet s begins c.is_too_quiet.ensures) c.end.ensures.1

pub returns-else-is_too_quiet : goal.returns-else-is_too_quiet
returns-else-is_too_quiet g c = stays c.args.self.now.served c.is_too_quiet.new.self.served c.args.steward.now begins c.is_too_quiet.ensures
