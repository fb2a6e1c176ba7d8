use Rattle.front_parts.proofs.Looked.{note-acts}
use Rattle.front_parts.proofs.coalesced.note.Goals as goal

pub returns : goal.returns
returns g c = note-acts _ _ _ _ _ _ _ _ _ c.note_look_up.ensures
