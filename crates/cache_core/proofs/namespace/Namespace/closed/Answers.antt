use Rattle.std.proofs.Common.{◌∙◌, subst, ◌≡◌}
use Rattle.cache_core.specs.State.{closing_in}
use Rattle.cache_core.proofs.Orders.{closing-number}
use Rattle.cache_core.proofs.namespace.Namespace.closed.Goals as goal

pub returns-clause-closing : goal.returns-clause-closing
returns-clause-closing g c =
    subst (λ n. c.closing.result ≡ closing_in n c.args.number) c.self.view_is
    (c.closing.ensures ∙ closing-number c.self.inside.interior.connections c.in_ok-index.index c.args.number c.in_ok-index.ensures.place.0 c.in_ok-index.ensures.place.1)
