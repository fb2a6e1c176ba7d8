use Rattle.std.proofs.Common.{sym}
use Rattle.cache_loop.proofs.Pairs.{pairs-kept}
use Rattle.cache_loop.proofs.hall.Hall.is_too_quiet.Goals as goal

pub returns-in-Some : goal.returns-in-Some
returns-in-Some g c = pairs-kept c.args.self.now.served c.args.key c.in-Some.served.now c.count_second.new.self (sym c.in-Some.ensures.value) c.count_second.ensures.0 c.count_second.ensures.1
