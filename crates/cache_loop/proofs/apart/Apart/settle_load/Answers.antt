use Rattle.std.proofs.Common.{[], sym, ap, ◌∙◌}
use Rattle.std.proofs.lemmas.List.{append-nil}
use Rattle.cache_loop.specs.Loads.{outs_in}
use Rattle.cache_loop.proofs.LoadsSettled.{given-settles}
use Rattle.cache_loop.proofs.apart.Apart.settle_load.Goals as goal

pub returns-in-Some-clause-settled : goal.returns-in-Some-clause-settled
returns-in-Some-clause-settled g c =
    let ok = c.in_ok-owed in
    let keep = c.keep.ensures in
    (keep.kept, given-settles g.H.Host.came g.H.Host.rests c.args.conn c.args.load c.args.moment c.args.said ok.field-0 c.args.place.now c.settle.new.place _ (ap outs_in c.in-Some.is ∙ keep.of) ok.ensures.came, keep.behind)

pub returns-clause-settled : goal.returns-clause-settled
returns-clause-settled g c =
    let ok = c.in_ok-owed in
    ([], given-settles g.H.Host.came g.H.Host.rests c.args.conn c.args.load c.args.moment c.args.said ok.field-0 c.args.place.now c.settle.new.place [] (ap outs_in c.in-None.is) ok.ensures.came, sym (append-nil c.args.self.now.loads.items))
