use Rattle.std.proofs.Common.{ap, sym, ◌∙◌, subst, arith, length, get_or}
use Rattle.std.specs.Prelude.{slice_get}
use Rattle.std.proofs.lemmas.List.{length-map}
use Rattle.std.proofs.lemmas.Option.{slice_get-get_or}
use Rattle.engine_cells.specs.declared.noting.Noted.{Noted}
use Rattle.engine_cells.specs.declared.noting.Noted.TheVariants.{Hit}
use Rattle.engine_cells.specs.Noting.{read_of, AimsRight}
use Rattle.engine_cells.proofs.Pointing.{is-right, read-aimed, mapped-at}
use Rattle.engine_tables.proofs.tables.Tables.read_at.Goals as goal

pub returns : goal.returns
returns g c =
    let cells = c.self.inside.cells.slots in
    let next = c.self.inside.next_number in
    let reads = c.self.inside.backlog.reads in
    let n : Noted = get_or reads c.args.index (Hit 0 0 0) in
    let long = ap (λ t. length t.state.reads) c.self.view_is in
    let at = slice_get-get_or reads c.args.index (Hit 0 0 0) (omega (arith, long, length-map reads read_of)) in
    rw c.reads.ensures (record {
      is = ap (λ t. slice_get t.state.reads c.args.index) (sym c.self.view_is) ∙ mapped-at read_of reads c.args.index n at;
      right = subst (λ t. AimsRight t.numbers n) c.self.view_is (is-right cells next n (read-aimed cells next n reads c.args.index at c.self.invariant.aimed.reads_are));
    })
