use Rattle.std.proofs.Common.{ap, sym, ◌∙◌, arith, length}
use Rattle.std.specs.Prelude.{map}
use Rattle.std.proofs.lemmas.List.{length-map}
use Rattle.engine_pending.specs.Whole.{unsent_of}
use Rattle.engine_cells.specs.Noting.{write_of}
use Rattle.engine_tables.proofs.tables.Tables.can_send.Goals as goal

pub returns : goal.returns
returns g c can =
    let h = c.can_send.ensures can in
    let long = ap (λ t. length t.state.writes) c.self.view_is in (
      sym (ap (λ t. t.state.unsent) c.self.view_is) ∙ ap (λ us. map (unsent_of write_of) us) h.0,
      omega (arith, h.1, long, length-map c.self.inside.backlog.writes write_of),
    )
