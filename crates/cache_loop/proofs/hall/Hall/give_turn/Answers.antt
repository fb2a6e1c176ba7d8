use Rattle.std.proofs.Common.{refl, sym}
use Rattle.cache_loop.proofs.Pairs.{pair-written}
use Rattle.cache_loop.proofs.hall.Hall.give_turn.Goals as goal

pub returns-in-Some : goal.returns-in-Some
returns-in-Some g c =
    let there = sym c.in-Some.ensures.value in
    record {
      was = c.in-Some.served.now;
      is = c.turn.new.self;
      there = there;
      had = c.turn.ensures;
      kept = pair-written c.args.self.now.served c.args.key c.in-Some.served.now c.turn.new.self there;
    }

pub returns-in-None : goal.returns-in-None
returns-in-None g c = record { absent = sym c.in-None.ensures.value; same = λ key. refl; idle = refl }
