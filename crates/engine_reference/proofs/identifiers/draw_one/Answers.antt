use Rattle.std.proofs.Common.{◌∙◌, subst}
use Rattle.engine_reference.specs.Identifiers.Drawing.{AreSixteenBytes}
use Rattle.engine_reference.proofs.identifiers.draw_one.Goals as goal

pub returns-clause-bytes : goal.returns-clause-bytes
returns-clause-bytes g c = subst (λ bs. AreSixteenBytes bs) (c.whole-bytes.ensures.same ∙ c.into_bytes.ensures) c.whole-bytes.ensures.whole
