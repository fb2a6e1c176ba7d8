use Rattle.std.proofs.lemmas.Result.{on_ok_weaker}
use Rattle.cached_server.proofs.script.Gathered.{gathers-more}
use Rattle.cached_server.proofs.script.notes.write_note.Goals as goal

pub returns-clause-ok : goal.returns-clause-ok
returns-clause-ok g c =
    rw (← c.word.ensures, ← c.as_slice.ensures, ← c.as_slice-2.ensures) (on_ok_weaker c.put-7.result
    (λ last. gathers-more _ _ _ _ _ _ _ _
    (gathers-more _ _ _ _ _ _ _ _
    (gathers-more _ _ _ _ _ _ _ _
    (gathers-more _ _ _ _ _ _ _ _
    (gathers-more _ _ _ _ _ _ _ _
    (gathers-more _ _ _ _ _ _ _ _ c.in_ok-put.ensures.ok c.in_ok-put-2.ensures.ok)
    c.in_ok-put-3.ensures.ok)
    c.in_ok-put-4.ensures.ok)
    c.in_ok-put-5.ensures.ok)
    c.in_ok-put-6.ensures.ok)
    last)
    c.put-7.ensures.ok)
