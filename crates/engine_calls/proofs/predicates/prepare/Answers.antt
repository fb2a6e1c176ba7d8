use Rattle.std.proofs.Common.{◌≡◌, ap, ◌∙◌, ℕ, ◌+◌, ◌-◌, arith}
use Rattle.engine_cells.specs.Kept.{Kept}
use Rattle.engine_reference.specs.Calls.{without_room}
use Rattle.engine_calls.proofs.predicates.prepare.Goals as goal

given-back : (n : ℕ) → (n + 1) - 1 ≡ n
given-back n = omega arith

pub returns-in-Err-clause-err : goal.returns-in-Err-clause-err
returns-in-Err-clause-err g c =
    let old = c.args.tables.now in
    c.release_room.ensures
    ∙ ap (λ (t : Kept g.row.K.Denot g.row.V.Denot g.row.R-Predicate.Denot g.row.S.Denot g.row.R.Denot). record t { state = without_room t.state }) c.in_ok-reserve.ensures.ok
    ∙ ap (λ (n : ℕ). record old { state = record old.state { reserved = n } }) (given-back old.state.reserved)
