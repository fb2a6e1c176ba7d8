use Rattle.std.proofs.Common.{◌++◌, ◌∷◌, [], ap, ◌∙◌}
use Rattle.std.proofs.lemmas.List.{map-append}
use Rattle.audit_situation.specs.Held.Known.{parts_of, part_of_key}
use Rattle.audit_situation.proofs.held.Keyed.{Entry, inserted}
use Rattle.audit_situation.proofs.held.parts.Parts.insert.Goals as goal

pub returns : goal.returns
returns c =
    let es = c.self.inside.parts.entries in
    ap parts_of (c.in_ok-insert.ensures.entries ∙ inserted es c.args.key c.args.part (ap (λ xs. part_of_key xs c.args.key.items) c.self.view_is ∙ c.requires))
    ∙ map-append (λ (e : Entry). record { key = e.0.items; part = e.1 }) es ((c.args.key, c.args.part) ∷ [])
    ∙ ap (λ xs. xs ++ record { key = c.args.key.items; part = c.args.part } ∷ []) c.self.view_is
