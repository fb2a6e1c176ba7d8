use Rattle.std.proofs.Common.{refl, subst}
use Rattle.audit_model.specs.Situation.{Situation}
use Rattle.cache_core.specs.State.{StateStandsFor, SuitsItself, situation_with, state_of}
use Rattle.cache_core.proofs.Opened.{counted-all, listed-open}
use Rattle.cache_core.proofs.namespace.Namespace.sound.Goals as goal

pub returns-clause-stands : goal.returns-clause-stands
returns-clause-stands g c =
    subst (λ n. (s : Situation) × StateStandsFor g.S.Store.view n s) c.self.view_is
    (situation_with g.S.Store.view (state_of c.self.inside.interior.base c.self.inside.latest c.self.inside.interior.connections) c.sound.ensures.some, record { held = c.sound.ensures.some; stands = c.sound.ensures.stands; is = refl })

pub returns-clause-suits : goal.returns-clause-suits
returns-clause-suits g c =
    let inside = c.self.inside in
    subst (λ n. SuitsItself g.S.Store.view n) c.self.view_is (record { listed = λ number opened. listed-open inside.interior.connections number opened; counted = counted-all inside.interior.connections; sent = inside.interior.base.loads.sent_before; fewer = inside.interior.base.loads.fewer })
