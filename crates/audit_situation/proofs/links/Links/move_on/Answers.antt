use Rattle.std.proofs.Common.{◌≡◌, ◌==◌, ◌||◌, refl, sym, ap, ◌∙◌, subst, map, false, IfOk, nat_lt}
use Rattle.std.specs.List.{find}
use Rattle.std.specs.Map.{values_of}
use Rattle.std.specs.Option.{option_map_or}
use Rattle.audit_model.specs.Situation.{Connection, is_overlong}
use Rattle.audit_model.specs.Numbered.{changed_numbered}
use Rattle.audit_situation.specs.Listings.{ranked}
use Rattle.audit_situation.specs.Standings.{moved_on}
use Rattle.audit_situation.proofs.Listing.{found-ranked, follows, changed-ranked, unchanged-ranked, changed-listing, set-past}
use Rattle.audit_situation.proofs.Ranked.{rising}
use Rattle.audit_situation.proofs.links.Links.move_on.Goals as goal
use Rattle.audit_situation.proofs.links.Links.move_on.Goals.{in-Some, in-None}

pub invariant_of-self-inside : goal.invariant_of-self-inside
invariant_of-self-inside c =
    let inside = c.self.inside in
    let es = inside.table.entries in
    let new = c.move_link.new.link in
    rw (c.get_mut.follows.holds new).0 (
      changed-listing (λ (d : Connection). d.number) c.args.conn es c.in-Some.link.now new inside.listing (sym c.in-Some.ensures.value) c.move_link.ensures.number,
      (set-past inside.last c.args.conn es new inside.past, tt),
    )

pub returns-clause-closes : goal.returns-clause-closes
returns-clause-closes c =
    let es = c.self.inside.table.entries in
    let there = found-ranked nat_lt rising (λ (d : Connection). d.number) c.args.conn es c.self.inside.listing ∙ ap (find (λ (d : Connection). d.number == c.args.conn)) c.self.view_is in
    elim c.match-get_mut.branch [
      | in-Some w ↦
          rw w.result-is
          (subst (λ o. IfOk w.move_link.result (λ b. b ≡ option_map_or (λ d. c.args.quits || is_overlong (moved_on c.args.moving.reads c.args.moving.holds c.args.moving.replies c.args.moving.line.now d)) o false)) (w.in-Some.ensures.value ∙ there) w.move_link.ensures.closes)
      | in-None w ↦
          rw w.result-is
          (ap (λ o. option_map_or (λ d. c.args.quits || is_overlong (moved_on c.args.moving.reads c.args.moving.holds c.args.moving.replies c.args.moving.line.now d)) o false) (w.in-None.ensures.value ∙ there))
    ]

pub returns-clause-moved : goal.returns-clause-moved
returns-clause-moved c =
    let es = c.self.inside.table.entries in
    let F = moved_on c.args.moving.reads c.args.moving.holds c.args.moving.replies c.args.moving.line.now in
    elim c.match-get_mut.branch [
      | in-Some w ↦
          rw w.result-is
          (rw w.self-inside-is
          (follows w.move_link.result (λ is.
          ap (λ fs. ranked nat_lt (λ (d : Connection). d.number) (values_of fs)) (c.get_mut.follows.holds w.move_link.new.link).0
          ∙ changed-ranked nat_lt rising (λ (d : Connection). d.number) c.args.conn F (λ d. refl) es w.in-Some.link.now w.move_link.new.link c.self.inside.listing (sym w.in-Some.ensures.value) is
          ∙ ap (map (changed_numbered (λ (d : Connection). d.number) c.args.conn F)) c.self.view_is) w.move_link.ensures.moved))
      | in-None w ↦
          rw w.result-is
          (rw w.self-inside-is
          (ap (λ (m : _). ranked nat_lt (λ (d : Connection). d.number) (values_of m.entries)) c.get_mut.follows.holds-at-none
          ∙ unchanged-ranked nat_lt rising (λ (d : Connection). d.number) c.args.conn F (λ d. refl) es c.self.inside.listing (sym w.in-None.ensures.value)
          ∙ ap (map (changed_numbered (λ (d : Connection). d.number) c.args.conn F)) c.self.view_is))
    ]
