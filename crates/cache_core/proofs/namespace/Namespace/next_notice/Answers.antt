use Rattle.cache_core.specs.State.{state_of}
use Rattle.cache_core.proofs.Orders.{order-noticed}
use Rattle.cache_core.proofs.namespace.Namespace.next_notice.Goals as goal

pub invariant_of-self : goal.invariant_of-self
invariant_of-self g c =
    order-noticed g.S.Store.view g.T.Tape.view (state_of c.self.inside.interior.base c.self.inside.latest c.self.inside.interior.connections) c.next_notice.new.self c.next_notice.result c.next_notice.ensures.taken c.next_notice.ensures.gives c.self.invariant
