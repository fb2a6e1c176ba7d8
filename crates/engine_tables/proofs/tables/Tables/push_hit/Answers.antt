use Rattle.std.proofs.Common.{refl, ap, sym, ◌∙◌, [], ◌∷◌}
use Rattle.std.proofs.lemmas.List.{map-append}
use Rattle.engine_cells.specs.declared.noting.Noted.TheVariants.{Hit}
use Rattle.engine_cells.specs.Kept.{kept_at}
use Rattle.engine_cells.specs.Noting.{read_of}
use Rattle.engine_cells.proofs.Views.{kept-in}
use Rattle.engine_cells.proofs.Pointing.{aims-noted, aims-there}
use Rattle.engine_tables.proofs.tables.Tables.push_hit.Goals as goal

pub invariant_of-self : goal.invariant_of-self
invariant_of-self g c =
    let cells = c.self.inside.cells.slots in
    let x = c.requires.there.0 in
    let there = sym (ap (λ t. kept_at t c.args.place) (sym c.self.view_is) ∙ kept-in cells c.args.place c.self.invariant.kept.apart) ∙ c.requires.there.1 in
    rw c.push_read.ensures (record {
      kept = c.self.invariant.kept;
      used = c.self.invariant.used;
      written = c.self.invariant.written;
      cells = c.self.invariant.cells;
      access = c.self.invariant.access;
      order = c.self.invariant.order;
      notices = c.self.invariant.notices;
      tallied = c.self.invariant.tallied;
      aimed = aims-noted cells c.self.inside.next_number (Hit c.args.hash c.args.place c.args.number) (rw c.requires.there.2 (aims-there cells c.self.inside.next_number c.args.place x c.self.invariant.kept there)) c.self.invariant.aimed;
      reserved = c.self.invariant.reserved;
      tickets = c.self.invariant.tickets;
      numbers = c.self.invariant.numbers;
      spotted = c.self.invariant.spotted;
      hashed = c.self.invariant.hashed;
      keys = c.self.invariant.keys;
      awaited = c.self.invariant.awaited;
      live = c.self.invariant.live;
      since = c.self.invariant.since;
    })

pub returns : goal.returns
returns g c = (
  c.requires.there.0,
  c.requires.there.1,
  rw (← c.requires.there.2, ← c.self.view_is, c.push_read.ensures, map-append read_of c.self.inside.backlog.reads (Hit c.args.hash c.args.place c.args.number ∷ [])) refl,
)
