use Rattle.std.proofs.Common.{None, refl, sym}
use Rattle.cache_loop.proofs.Pairs.{pair-there, pair-updated, pairs-same}
use Rattle.cache_loop.proofs.hall.Hall.close.Goals as goal

pub returns-in-Some : goal.returns-in-Some
returns-in-Some g c =
    let one = c.in-Some in
    record {
      link = one.served.link;
      there = pair-there c.args.self.now.served c.args.key one.served (sym one.ensures.value);
      closed = c.close.ensures;
      gone = pair-updated c.args.self.now.served c.try_remove.new.self c.args.key None one.ensures.updates;
    }

pub returns-in-None : goal.returns-in-None
returns-in-None g c = record { absent = sym c.in-None.ensures.value; same = pairs-same c.args.self.now.served c.try_remove.new.self c.in-None.ensures.absent; idle = refl }
