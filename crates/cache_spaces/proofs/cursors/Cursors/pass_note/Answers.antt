use Rattle.std.proofs.Common.{length, subst, sym, arith}
use Rattle.std.specs.List.{slice_get}
use Rattle.cache_spaces.specs.Cursors.{TakesFrom, notes_from}
use Rattle.cache_spaces.specs.declared.told.Told.{Told}
use Rattle.cache_spaces.proofs.Reading.{no-record, first-behind, none-behind}
use Rattle.cache_spaces.proofs.cursors.Cursors.pass_note.Goals as goal
use Rattle.cache_spaces.proofs.cursors.Cursors.pass_note.Goals.{in-Some, in-None}

pub returns-clause-note : goal.returns-clause-note
returns-clause-note c =
    let records = c.args.records.now in
    let told = c.args.self.now.notes in
    elim c.match-find_note.branch [
      | in-Some w ↦ subst (λ (is : Told). TakesFrom records told is (slice_get (notes_from records told) 0)) (sym w.self-is) (first-behind (notes_from records told) _ _ w.in-Some.ensures.first)
      | in-None w ↦
          let end : Told = record { entry = length records; list = 0; note = 0 } in
          subst (λ (is : Told). TakesFrom records told is (slice_get (notes_from records told) 0)) (sym w.self-is)
          (none-behind (notes_from records told) (notes_from records end) w.in-None.ensures.first (no-record records end (omega arith)))
    ]
