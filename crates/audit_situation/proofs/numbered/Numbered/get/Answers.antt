use Rattle.std.proofs.Common.{◌==◌, ap, ◌∙◌, nat_lt}
use Rattle.std.specs.List.{find}
use Rattle.audit_model.specs.Situation.{PendingLoad}
use Rattle.audit_situation.proofs.Listing.{found-ranked, lent}
use Rattle.audit_situation.proofs.Ranked.{falling}
use Rattle.audit_situation.proofs.numbered.Numbered.get.Goals as goal

pub returns : goal.returns
returns c =
    lent c.get.result ∙ c.get.ensures.value ∙ found-ranked (λ a b. nat_lt b a) falling (λ (p : PendingLoad). p.number) c.args.number c.self.inside.table.entries c.self.inside.listing
    ∙ ap (find (λ (p : PendingLoad). p.number == c.args.number)) c.self.view_is
