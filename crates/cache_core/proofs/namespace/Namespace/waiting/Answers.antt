use Rattle.std.proofs.Common.{◌∙◌, subst, ◌≡◌, []}
use Rattle.cache_core.specs.State.{situation_with}
use Rattle.cache_core.specs.Turned.{is_waiting_in}
use Rattle.cache_core.proofs.Orders.{waits-number}
use Rattle.cache_core.proofs.namespace.Namespace.waiting.Goals as goal

pub returns-clause-waits : goal.returns-clause-waits
returns-clause-waits g c =
    subst (λ n. c.waits_at_place.result ≡ is_waiting_in (situation_with g.S.Store.view n []) c.args.number) c.self.view_is
    (c.waits_at_place.ensures ∙ waits-number g.S.Store.view c.self.inside.interior.base c.self.inside.latest c.self.inside.interior.connections c.in_ok-index.index c.args.number c.in_ok-index.ensures.place.0 c.in_ok-index.ensures.place.1)
