use Rattle.std.proofs.Common.{◌==◌, not, ap, ◌∙◌, nat_lt}
use Rattle.std.specs.List.{find, filter}
use Rattle.audit_model.specs.Situation.{PendingLoad}
use Rattle.audit_situation.proofs.Listing.{found-ranked, removed-ranked, swapped-listing}
use Rattle.audit_situation.proofs.Ranked.{falling}
use Rattle.audit_situation.proofs.numbered.Numbered.take.Goals as goal

pub invariant_of-self-inside : goal.invariant_of-self-inside
invariant_of-self-inside c =
    let inside = c.self.inside in
    rw c.swap_remove.ensures.entries (swapped-listing (λ (p : PendingLoad). p.number) c.args.number inside.table.entries inside.listing, tt)

pub returns-clause-found : goal.returns-clause-found
returns-clause-found c =
    c.swap_remove.ensures.value ∙ found-ranked (λ a b. nat_lt b a) falling (λ (p : PendingLoad). p.number) c.args.number c.self.inside.table.entries c.self.inside.listing
    ∙ ap (find (λ (p : PendingLoad). p.number == c.args.number)) c.self.view_is

pub returns-clause-rest : goal.returns-clause-rest
returns-clause-rest c =
    let inside = c.self.inside in
    rw c.swap_remove.ensures.entries (removed-ranked (λ a b. nat_lt b a) falling (λ (p : PendingLoad). p.number) c.args.number inside.table.entries inside.listing ∙ ap (filter (λ (p : PendingLoad). not (p.number == c.args.number))) c.self.view_is)
