use Rattle.std.proofs.Common.{ap, sym, arith, ◌∙◌, ◌≡◌, ◌++◌, [], true, false, List, length, if◌then◌else◌}
use Rattle.audit_model.specs.declared.transcript.Note.{Note}
use Rattle.cache_core.proofs.Admitted.{gives-itself}
use Rattle.cache_core.proofs.answering.store_noted.Goals as goal

pub drain-requires : goal.drain-requires
drain-requires g c =
    let room = c.requires.room c.if-keeps.true in
    let empty = ap length room.1 in
    omega (arith, c.in-Ok.ensures.ok.few, room.0, empty)

pub returns-then-keeps-clause-stored : goal.returns-then-keeps-clause-stored
returns-then-keeps-clause-stored g c =
    let middle = c.store_outcome.new.self in
    record {
      middle = middle;
      stored = c.in-Ok.ensures.ok;
      drains = c.drain.ensures.gives;
      untaken_is = c.drain.ensures.none ∙ sym (ap (λ b. if b then [] else (g.S.Store.view middle).untaken) c.if-keeps.true);
      notes_are = λ e. c.drain.ensures.drained ∙ ap (λ (ns : List Note). ns ++ (g.S.Store.view middle).untaken) (c.requires.room c.if-keeps.true).1;
    }

pub returns-clause-stored : goal.returns-clause-stored
returns-clause-stored g c =
    let middle = c.store_outcome.new.self in
    record {
      middle = middle;
      stored = c.in-Ok.ensures.ok;
      drains = gives-itself (g.S.Store.view middle);
      untaken_is = sym (ap (λ b. if b then [] else (g.S.Store.view middle).untaken) c.if-keeps.false);
      notes_are = λ e. let no : false ≡ true = sym c.if-keeps.false ∙ e in cc;
    }
