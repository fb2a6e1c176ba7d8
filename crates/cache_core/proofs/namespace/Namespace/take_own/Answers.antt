use Rattle.std.proofs.Common.{◌∙◌, subst}
use Rattle.cache_core.specs.Owing.{GivesOwn}
use Rattle.cache_core.specs.State.{state_of}
use Rattle.cache_core.proofs.Orders.{closing-number, order-taken, output-number, output-taken, waits-number}
use Rattle.cache_core.proofs.namespace.Namespace.take_own.Goals as goal

pub invariant_of-self : goal.invariant_of-self
invariant_of-self g c = order-taken g.S.Store.view g.T.Tape.view c.self.inside.interior.base c.self.inside.latest c.in_ok-index.index c.self.inside.interior.connections c.take_at.new.connections c.take_at.ensures.rest c.self.invariant

pub returns-clause-given : goal.returns-clause-given
returns-clause-given g c =
    let inside = c.self.inside in
    let cs = inside.interior.connections in
    let i = c.in_ok-index.index in
    let place = c.in_ok-index.ensures.place in
    let owed = c.take_at.ensures.owed in
    subst (λ n. GivesOwn g.S.Store.view n (state_of inside.interior.base inside.latest c.take_at.new.connections) c.args.number c.take_at.result) c.self.view_is (record {
      replies = owed.replies ∙ output-number cs i c.args.number place.0 place.1;
      closing = owed.closing ∙ closing-number cs i c.args.number place.0 place.1;
      waits = owed.waits ∙ waits-number g.S.Store.view inside.interior.base inside.latest cs i c.args.number place.0 place.1;
      rest = output-taken inside.interior.base inside.latest i c.args.number cs c.take_at.new.connections c.take_at.ensures.rest place.0;
    })
