use Rattle.std.proofs.Common.{◌≡◌, ◌++◌, ◌∷◌, [], ◌<◌, true, sym, ap, ◌∙◌, subst, arith, nat_lt, nat_le, ℕ}
use Rattle.std.specs.List.{list_all}
use Rattle.std.specs.Map.{values_of}
use Rattle.audit_model.specs.Situation.{Connection}
use Rattle.audit_situation.specs.Listings.{ranked}
use Rattle.audit_situation.proofs.Listing.{above-none, inserted, added-last, last-listing, all-past}
use Rattle.audit_situation.proofs.links.Links.add.Goals as goal

pub invariant_of-self-inside-2 : goal.invariant_of-self-inside-2
invariant_of-self-inside-2 c =
    let inside = c.self.inside in
    let es = inside.table.entries in
    let link = c.args.link in
    let own = c.number-number.ensures in
    let above : inside.last < link.number = omega arith in
    let absent = above-none inside.last link.number es inside.past above in
    let added = c.in_ok-insert.ensures.entries ∙ inserted (λ (d : Connection). d.number) link es c.number-number.result own (above-none inside.last c.number-number.result es inside.past (omega arith)) in
    rw added
    (last-listing (λ (d : Connection). d.number) link es inside.listing absent, (subst (λ m. list_all (λ (e : ℕ × Connection). nat_le e.0 m) (es ++ (link.number, link) ∷ []) ≡ true) (sym own) (all-past inside.last link.number link es inside.past above), tt))

pub returns : goal.returns
returns c =
    let inside = c.self.inside in
    let es = inside.table.entries in
    let link = c.args.link in
    let own = c.number-number.ensures in
    let above : inside.last < link.number = omega arith in
    ap (λ fs. ranked nat_lt (λ (d : Connection). d.number) (values_of fs))
    (c.in_ok-insert.ensures.entries ∙ inserted (λ (d : Connection). d.number) link es c.number-number.result own (above-none inside.last c.number-number.result es inside.past (omega arith)))
    ∙ added-last (λ (d : Connection). d.number) link inside.last es inside.listing inside.past above ∙ ap (λ cs. cs ++ link ∷ []) c.self.view_is
