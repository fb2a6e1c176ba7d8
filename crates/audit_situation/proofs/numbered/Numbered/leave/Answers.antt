use Rattle.std.proofs.Common.{refl, sym, ap, ◌∙◌, map, nat_lt}
use Rattle.std.specs.Map.{values_of}
use Rattle.audit_model.specs.Situation.{PendingLoad, without_waiting}
use Rattle.audit_model.specs.Numbered.{changed_numbered}
use Rattle.audit_situation.specs.Listings.{ranked}
use Rattle.audit_situation.proofs.Listing.{changed-ranked, unchanged-ranked, changed-listing}
use Rattle.audit_situation.proofs.Ranked.{falling}
use Rattle.audit_situation.proofs.numbered.Numbered.leave.Goals as goal
use Rattle.audit_situation.proofs.numbered.Numbered.leave.Goals.{in-Some, in_default}

pub invariant_of-self-inside : goal.invariant_of-self-inside
invariant_of-self-inside c =
    let inside = c.self.inside in
    rw (c.get_mut.follows.holds c.leave.new.self).0
    (changed-listing (λ (p : PendingLoad). p.number) c.args.number inside.table.entries c.in-Some.load.now c.leave.new.self inside.listing (sym c.in-Some.ensures.value) (ap (λ (p : PendingLoad). p.number) c.leave.ensures), tt)

pub returns : goal.returns
returns c =
    let es = c.self.inside.table.entries in
    let F = without_waiting c.args.conn in
    elim c.match-get_mut.branch [
      | in-Some w ↦
          rw w.self-inside-is
          (ap (λ fs. ranked (λ a b. nat_lt b a) (λ (p : PendingLoad). p.number) (values_of fs)) (c.get_mut.follows.holds w.leave.new.self).0
          ∙ changed-ranked (λ a b. nat_lt b a) falling (λ (p : PendingLoad). p.number) c.args.number F (λ p. refl) es w.in-Some.load.now w.leave.new.self c.self.inside.listing (sym w.in-Some.ensures.value) w.leave.ensures
          ∙ ap (map (changed_numbered (λ (p : PendingLoad). p.number) c.args.number F)) c.self.view_is)
      | in_default w ↦
          rw w.self-inside-is
          (ap (λ (m : _). ranked (λ a b. nat_lt b a) (λ (p : PendingLoad). p.number) (values_of m.entries)) c.get_mut.follows.holds-at-none
          ∙ unchanged-ranked (λ a b. nat_lt b a) falling (λ (p : PendingLoad). p.number) c.args.number F (λ p. refl) es c.self.inside.listing (sym w.in_default.ensures.value)
          ∙ ap (map (changed_numbered (λ (p : PendingLoad). p.number) c.args.number F)) c.self.view_is)
    ]
