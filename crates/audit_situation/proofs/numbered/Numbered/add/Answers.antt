use Rattle.std.proofs.Common.{◌≡◌, ◌∷◌, true, ap, ◌∙◌, nat_lt, nat_eq}
use Rattle.std.specs.List.{list_all}
use Rattle.std.specs.Map.{values_of, lookup}
use Rattle.audit_model.specs.Situation.{PendingLoad}
use Rattle.audit_situation.specs.Listings.{ranked}
use Rattle.audit_situation.proofs.Listing.{absent, inserted, added-first, inserted-listing}
use Rattle.audit_situation.proofs.numbered.Numbered.add.Goals as goal

pub invariant_of-self-inside : goal.invariant_of-self-inside
invariant_of-self-inside c =
    let inside = c.self.inside in
    let es = inside.table.entries in
    let below : list_all (λ y. nat_lt y.number c.args.load.number) (ranked (λ a b. nat_lt b a) (λ (p : PendingLoad). p.number) (values_of es)) ≡ true = ap (list_all (λ (y : PendingLoad). nat_lt y.number c.args.load.number)) c.self.view_is ∙ c.requires in
    let none = absent (λ (p : PendingLoad). p.number) c.args.load es inside.listing below in
    (inserted-listing (λ (p : PendingLoad). p.number) c.args.load es c.number.result c.number.ensures none inside.listing c.insert.new.self.entries c.insert.result c.insert.ensures.entries c.insert.ensures.err, tt)

pub returns-clause-added : goal.returns-clause-added
returns-clause-added c =
    let inside = c.self.inside in
    let es = inside.table.entries in
    let below : list_all (λ y. nat_lt y.number c.args.load.number) (ranked (λ a b. nat_lt b a) (λ (p : PendingLoad). p.number) (values_of es)) ≡ true = ap (list_all (λ (y : PendingLoad). nat_lt y.number c.args.load.number)) c.self.view_is ∙ c.requires in
    let none = absent (λ (p : PendingLoad). p.number) c.args.load es inside.listing below in
    ap (λ fs. ranked (λ a b. nat_lt b a) (λ (p : PendingLoad). p.number) (values_of fs))
    (c.in_ok-insert.ensures.entries ∙ inserted (λ (p : PendingLoad). p.number) c.args.load es c.number.result c.number.ensures (ap (λ m. lookup (nat_eq m) es) c.number.ensures ∙ none))
    ∙ added-first (λ (p : PendingLoad). p.number) c.args.load es below ∙ ap (λ ps. c.args.load ∷ ps) c.self.view_is
