use Rattle.cache_loop.proofs.LoadsSettled.{told-unwanted}
use Rattle.cache_loop.proofs.apart.Apart.give_up.Goals as goal

pub returns-clause-told : goal.returns-clause-told
returns-clause-told g c =
    let settle = c.settle.ensures in
    told-unwanted g.H.Host.came g.H.Host.rests c.args.conn _ c.args.load c.settle.result c.args.place.now c.settle.new.place settle.came settle.suits settle.rests
