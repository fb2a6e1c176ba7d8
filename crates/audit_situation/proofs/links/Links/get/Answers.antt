use Rattle.std.proofs.Common.{◌==◌, ap, ◌∙◌, nat_lt}
use Rattle.std.specs.List.{find}
use Rattle.audit_model.specs.Situation.{Connection}
use Rattle.audit_situation.proofs.Listing.{found-ranked, lent}
use Rattle.audit_situation.proofs.Ranked.{rising}
use Rattle.audit_situation.proofs.links.Links.get.Goals as goal

pub returns : goal.returns
returns c =
    lent c.get.result ∙ c.get.ensures.value ∙ found-ranked nat_lt rising (λ (d : Connection). d.number) c.args.conn c.self.inside.table.entries c.self.inside.listing
    ∙ ap (find (λ (d : Connection). d.number == c.args.conn)) c.self.view_is
