use Rattle.std.proofs.Common.{◌≡◌, ◌++◌, map, drop}
use Rattle.audit_model.specs.Notes.{are_true_notes}
use Rattle.audit_model.specs.Situation.{candidate_at}
use Rattle.audit_model.specs.Values.{untold}
use Rattle.audit_situation.specs.Notes.Scenes.{deed_in, newcomer_in, newcomer_left, candidates_in}
use Rattle.audit_situation.proofs.notes.notes.are_true_notes.Given as goal

abbrev pub invariant-loop-note : goal.invariant-loop-note
invariant-loop-note l = record {
  right :
      are_true_notes l.scene.config.now (map (candidate_at l.scene.config.now l.scene.moment) l.initial.held) (deed_in l.scene) (candidates_in l.scene l.initial.held l.initial.left) l.notes
      ≡ are_true_notes l.scene.config.now (map (candidate_at l.scene.config.now l.scene.moment) l.initial.held) (deed_in l.scene) (candidates_in l.scene l.held l.left) (drop l.note-index l.notes);
  all :
      untold (λ h. h.value.key) l.notes (l.initial.held ++ newcomer_left l.initial.left (newcomer_in l.scene))
      ≡ untold (λ h. h.value.key) (drop l.note-index l.notes) (l.held ++ newcomer_left l.left (newcomer_in l.scene));
}
