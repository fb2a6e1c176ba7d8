use Rattle.std.proofs.Common.{◌≡◌, ◌<◌, refl, ap, sym, ◌∙◌, subst, [], ◌∷◌, Some, None}
use Rattle.std.proofs.lemmas.List.{map-append}
use Rattle.engine_reference.specs.Records.{record_at}
use Rattle.engine_cells.specs.Cells.{records_by_number}
use Rattle.engine_cells.specs.declared.noting.Noted.TheVariants.{Hit}
use Rattle.engine_cells.specs.Noting.{read_of}
use Rattle.engine_cells.proofs.Listed.{record_at-there}
use Rattle.engine_cells.proofs.Pointing.{aims-noted}
use Rattle.engine_tables.proofs.tables.Tables.push_gone.Goals as goal

pub invariant_of-self : goal.invariant_of-self
invariant_of-self g c =
    let cells = c.self.inside.cells.slots in
    let gone = ap (λ t. record_at t.state.records c.args.number) c.self.view_is ∙ c.requires.gone in
    let made = subst (λ t. c.args.number < t.state.next_number) (sym c.self.view_is) c.requires.made in
    rw c.push_read.ensures (record {
      kept = c.self.invariant.kept;
      used = c.self.invariant.used;
      written = c.self.invariant.written;
      cells = c.self.invariant.cells;
      access = c.self.invariant.access;
      order = c.self.invariant.order;
      notices = c.self.invariant.notices;
      tallied = c.self.invariant.tallied;
      aimed = aims-noted cells c.self.inside.next_number (Hit c.args.hash 0 c.args.number) (
        made,
        λ i d at same.
            let e : None ≡ Some d = sym gone ∙ ap (λ n. record_at (records_by_number cells) n) (sym same) ∙ record_at-there cells i d c.self.invariant.kept.apart at in
            absurd (cc),
      ) c.self.invariant.aimed;
      reserved = c.self.invariant.reserved;
      tickets = c.self.invariant.tickets;
      numbers = c.self.invariant.numbers;
      spotted = c.self.invariant.spotted;
      hashed = c.self.invariant.hashed;
      keys = c.self.invariant.keys;
      awaited = c.self.invariant.awaited;
      live = c.self.invariant.live;
      since = c.self.invariant.since;
    })

pub returns : goal.returns
returns g c = rw (← c.self.view_is, c.push_read.ensures, map-append read_of c.self.inside.backlog.reads (Hit c.args.hash 0 c.args.number ∷ [])) refl
