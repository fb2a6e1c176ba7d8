use Rattle.std.proofs.Common.{ap, ◌∙◌, sym, refl, ◌&&◌}
use Rattle.std.proofs.lemmas.Bool.{and_parts}
use Rattle.audit_situation.specs.Notes.Scenes.{deed_in, newcomer_in, newcomer_left}
use Rattle.audit_situation.proofs.notes.Judging.{none-succeeded, absent-new, spared}
use Rattle.audit_situation.proofs.notes.notes.are_none_succeeded.Goals as goal

pub returns-clause-none : goal.returns-clause-none
returns-clause-none c =
    let scene = c.args.scene.now in
    c.are_all.ensures
    ∙ none-succeeded scene.config.now scene.moment (deed_in scene) (newcomer_in scene) refl c.args.held.now (newcomer_left c.args.left (newcomer_in scene)) _ _ _
    (c.is_absent-written.ensures ∙ ap (λ k. spared k c.args.held.now) c.new_key.ensures) c.is_absent-deleted.ensures c.spares_new-own.ensures

pub returns-clause-absent : goal.returns-clause-absent
returns-clause-absent c e =
    let scene = c.args.scene.now in
    let both = and_parts (c.is_absent-written.result && c.is_absent-deleted.result) c.spares_new-own.result (sym c.are_all.ensures ∙ e) in
    absent-new (newcomer_in scene) c.args.held.now
    (ap (λ k. spared k c.args.held.now) (sym c.new_key.ensures) ∙ sym c.is_absent-written.ensures ∙ (and_parts c.is_absent-written.result c.is_absent-deleted.result both.0).0)
