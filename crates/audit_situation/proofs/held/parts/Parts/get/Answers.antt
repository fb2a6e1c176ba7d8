use Rattle.std.proofs.Common.{ap, ◌∙◌}
use Rattle.audit_situation.specs.Held.Known.{part_of_key}
use Rattle.audit_situation.proofs.held.Keyed.{lookup_is}
use Rattle.audit_situation.proofs.held.parts.Parts.get.Goals as goal

pub returns : goal.returns
returns c = c.copied.ensures ∙ c.get.ensures.value ∙ lookup_is c.args.key.now c.self.inside.parts.entries ∙ ap (λ xs. part_of_key xs c.args.key.now) c.self.view_is
