use Rattle.std.proofs.Common.{◌≡◌, vec_capacity, vec_len, ◌+◌}
use Rattle.cache_shared.specs.Events.{KeepsStanding}
use Rattle.cache_shared.specs.Looked.{MovesNotes}
use Rattle.cache_shared.specs.Taken.{MovesNotesOf}
use Rattle.cache_shared.proofs.booked.BookedService.take_notices.Given as goal

abbrev pub invariant-loop-place : goal.invariant-loop-place
invariant-loop-place g l = record {
  moved : MovesNotes l.initial.notes.items l.notes.items (g.C.Shareable.untold l.initial.self.core l.namespace) (g.C.Shareable.untold l.self.core l.namespace);
  room : vec_capacity l.notes ≡ vec_capacity l.initial.notes;
  many : vec_len l.notes ≡ vec_len l.initial.notes + l._place;
  here : l.namespace ≡ l.initial.namespace;
  others : MovesNotesOf g.C.Shareable.spaces g.C.Shareable.untaken g.C.Shareable.untold l.initial.self.core l.self.core l.namespace;
  standing : KeepsStanding g.C.Shareable.spaces g.C.Shareable.journals l.initial.self.core l.self.core;
}
