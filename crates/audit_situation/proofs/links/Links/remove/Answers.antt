use Rattle.std.proofs.Common.{ap, ◌∙◌, nat_lt}
use Rattle.audit_model.specs.Situation.{Connection, without_number}
use Rattle.audit_situation.proofs.Listing.{removed-ranked, swapped-listing, swapped-past}
use Rattle.audit_situation.proofs.Ranked.{rising}
use Rattle.audit_situation.proofs.links.Links.remove.Goals as goal

pub invariant_of-self-inside : goal.invariant_of-self-inside
invariant_of-self-inside c =
    let inside = c.self.inside in
    rw c.swap_remove.ensures.entries (swapped-listing (λ (d : Connection). d.number) c.args.conn inside.table.entries inside.listing, (swapped-past inside.last c.args.conn inside.table.entries inside.past, tt))

pub returns : goal.returns
returns c =
    let inside = c.self.inside in
    rw c.swap_remove.ensures.entries (removed-ranked nat_lt rising (λ (d : Connection). d.number) c.args.conn inside.table.entries inside.listing ∙ ap (without_number c.args.conn) c.self.view_is)
