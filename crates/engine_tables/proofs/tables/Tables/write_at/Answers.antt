use Rattle.std.proofs.Common.{refl, ap, sym, ◌∙◌, subst, arith, length}
use Rattle.std.specs.Prelude.{slice_get}
use Rattle.std.proofs.lemmas.List.{length-map}
use Rattle.std.proofs.lemmas.Option.{slice_get_read}
use Rattle.engine_cells.specs.Noting.{write_of, number_written, AimsOnlyAt}
use Rattle.engine_cells.proofs.Pointing.{points-to, write-aimed, mapped-at}
use Rattle.engine_tables.proofs.tables.Tables.write_at.Goals as goal

pub returns : goal.returns
returns g c =
    let cells = c.self.inside.cells.slots in
    let next = c.self.inside.next_number in
    let writes = c.self.inside.backlog.writes in
    let w = c.index-writes-index.result in
    let long = ap (λ t. length t.state.writes) c.self.view_is in
    let many = ap length c.writes.ensures in
    let at = ap (λ ws. slice_get ws c.args.index) (sym c.writes.ensures) ∙ slice_get_read c.writes.result.now _ c.args.index w refl (omega (arith, long, many, length-map writes write_of)) c.index-writes-index.is in
    record {
      is = ap (λ t. slice_get t.state.writes c.args.index) (sym c.self.view_is) ∙ mapped-at write_of writes c.args.index w at;
      right = subst (λ t. AimsOnlyAt t.numbers w.place (number_written w.write)) c.self.view_is (points-to cells next w.place (number_written w.write) (write-aimed cells next w writes c.args.index at c.self.invariant.aimed.writes_are));
    }
