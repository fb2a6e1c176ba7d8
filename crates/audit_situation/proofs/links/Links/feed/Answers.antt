use Rattle.std.proofs.Common.{◌≡◌, ◌==◌, refl, sym, ap, ◌∙◌, subst, map, false, IfOk, nat_lt}
use Rattle.std.specs.List.{find}
use Rattle.std.specs.Map.{values_of}
use Rattle.std.specs.Option.{option_map_or}
use Rattle.audit_model.specs.Situation.{Connection, is_overlong}
use Rattle.audit_model.specs.Numbered.{changed_numbered}
use Rattle.audit_situation.specs.Listings.{ranked}
use Rattle.audit_situation.specs.Standings.{fed_with}
use Rattle.audit_situation.proofs.Listing.{found-ranked, follows, changed-ranked, unchanged-ranked, changed-listing, set-past}
use Rattle.audit_situation.proofs.Ranked.{rising}
use Rattle.audit_situation.proofs.links.Links.feed.Goals as goal
use Rattle.audit_situation.proofs.links.Links.feed.Goals.{in-Some, in-None}

pub invariant_of-self-inside : goal.invariant_of-self-inside
invariant_of-self-inside c =
    let inside = c.self.inside in
    let es = inside.table.entries in
    let new = c.feed_link.new.link in
    rw (c.get_mut.follows.holds new).0 (
      changed-listing (λ (d : Connection). d.number) c.args.conn es c.in-Some.link.now new inside.listing (sym c.in-Some.ensures.value) c.feed_link.ensures.number,
      (set-past inside.last c.args.conn es new inside.past, tt),
    )

pub returns-clause-closes : goal.returns-clause-closes
returns-clause-closes c =
    let es = c.self.inside.table.entries in
    let there = found-ranked nat_lt rising (λ (d : Connection). d.number) c.args.conn es c.self.inside.listing ∙ ap (find (λ (d : Connection). d.number == c.args.conn)) c.self.view_is in
    elim c.match-get_mut.branch [
      | in-Some w ↦
          rw w.result-is
          (subst (λ o. IfOk w.feed_link.result (λ b. b ≡ option_map_or (λ d. is_overlong (fed_with c.args.piece.now d)) o false)) (w.in-Some.ensures.value ∙ there) w.feed_link.ensures.closes)
      | in-None w ↦
          rw w.result-is
          (ap (λ o. option_map_or (λ d. is_overlong (fed_with c.args.piece.now d)) o false) (w.in-None.ensures.value ∙ there))
    ]

pub returns-clause-fed : goal.returns-clause-fed
returns-clause-fed c =
    let es = c.self.inside.table.entries in
    let F = fed_with c.args.piece.now in
    elim c.match-get_mut.branch [
      | in-Some w ↦
          rw w.result-is
          (rw w.self-inside-is
          (follows w.feed_link.result (λ is.
          ap (λ fs. ranked nat_lt (λ (d : Connection). d.number) (values_of fs)) (c.get_mut.follows.holds w.feed_link.new.link).0
          ∙ changed-ranked nat_lt rising (λ (d : Connection). d.number) c.args.conn F (λ d. refl) es w.in-Some.link.now w.feed_link.new.link c.self.inside.listing (sym w.in-Some.ensures.value) is
          ∙ ap (map (changed_numbered (λ (d : Connection). d.number) c.args.conn F)) c.self.view_is) w.feed_link.ensures.fed))
      | in-None w ↦
          rw w.result-is
          (rw w.self-inside-is
          (ap (λ (m : _). ranked nat_lt (λ (d : Connection). d.number) (values_of m.entries)) c.get_mut.follows.holds-at-none
          ∙ unchanged-ranked nat_lt rising (λ (d : Connection). d.number) c.args.conn F (λ d. refl) es c.self.inside.listing (sym w.in-None.ensures.value)
          ∙ ap (map (changed_numbered (λ (d : Connection). d.number) c.args.conn F)) c.self.view_is))
    ]
