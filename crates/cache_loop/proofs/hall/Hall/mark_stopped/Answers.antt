use Rattle.std.proofs.Common.{sym}
use Rattle.cache_loop.proofs.Pairs.{pair-there, pair-told}
use Rattle.cache_loop.proofs.hall.Hall.mark_stopped.Goals as goal

pub returns-in-Some-clause-one : goal.returns-in-Some-clause-one
returns-in-Some-clause-one g c = λ _.
    let was = c.in-Some.served.now in
    let there = sym c.in-Some.ensures.value in
    record {
      socket = was.stream;
      was = was.link;
      is = c.stop.new.self.link;
      there = pair-there c.args.self.now.served c.args.key was there;
      told = c.stop.ensures.1;
      kept = pair-told c.args.self.now.served c.args.key was c.stop.new.self there c.stop.ensures.0;
    }
