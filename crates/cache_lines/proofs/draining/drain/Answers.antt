use Rattle.std.proofs.Common.{refl, ap, ◌∙◌, arith, ◌++◌}
use Rattle.cache_lines.proofs.NotesTaken.{fewer, gives-more, gives-none, taken-next}
use Rattle.cache_lines.proofs.draining.drain.Goals as goal

pub loop-note-init : goal.loop-note-init
loop-note-init g c = record { room = c.requires; order = refl; gives = gives-none _ }

pub loop-note-preserved : goal.loop-note-preserved
loop-note-preserved g c =
    let i = c.loop-note.invariant in
    record {
      room = let e = fewer _ _ c.in-Some.note c.in-Some.ensures.taken in omega (arith, c.push_within.ensures.len, c.push_within.ensures.capacity, i.room);
      order =
          ap (λ ns. ns ++ (g.S.Store.view c.next_notice.new.self).untaken) c.push_within.ensures.items
          ∙ taken-next (g.S.Store.view c.loop-note.store).untaken (g.S.Store.view c.next_notice.new.self).untaken c.loop-note.notes.items c.in-Some.note _ c.in-Some.ensures.taken i.order;
      gives = gives-more _ _ _ i.gives c.next_notice.ensures.gives;
    }
