use Rattle.std.proofs.Common.{◌++◌, ◌∷◌, [], refl, sym, ap, ◌∙◌, map, nat_lt}
use Rattle.std.specs.Map.{values_of}
use Rattle.audit_model.specs.Situation.{PendingLoad}
use Rattle.audit_model.specs.Numbered.{changed_numbered}
use Rattle.audit_situation.specs.Listings.{ranked}
use Rattle.audit_situation.proofs.Listing.{follows, fails, changed-ranked, unchanged-ranked, put-back, changed-listing}
use Rattle.audit_situation.proofs.Ranked.{falling}
use Rattle.audit_situation.proofs.numbered.Numbered.join.Goals as goal
use Rattle.audit_situation.proofs.numbered.Numbered.join.Goals.{in-Some, in-None}

pub invariant_of-self-inside : goal.invariant_of-self-inside
invariant_of-self-inside c =
    let inside = c.self.inside in
    rw (c.get_mut.follows.holds c.join.new.self).0
    (changed-listing (λ (p : PendingLoad). p.number) c.args.number inside.table.entries c.in-Some.load.now c.join.new.self inside.listing (sym c.in-Some.ensures.value) c.join.ensures.number, tt)

pub returns-clause-joined : goal.returns-clause-joined
returns-clause-joined c =
    let es = c.self.inside.table.entries in
    let F = λ (p : PendingLoad). record p { waiting = p.waiting ++ c.args.conn ∷ [] } in
    elim c.match-get_mut.branch [
      | in-Some w ↦
          rw w.result-is
          (rw w.self-inside-is
          (follows w.join.result (λ is.
          ap (λ fs. ranked (λ a b. nat_lt b a) (λ (p : PendingLoad). p.number) (values_of fs)) (c.get_mut.follows.holds w.join.new.self).0
          ∙ changed-ranked (λ a b. nat_lt b a) falling (λ (p : PendingLoad). p.number) c.args.number F (λ p. refl) es w.in-Some.load.now w.join.new.self c.self.inside.listing (sym w.in-Some.ensures.value) is
          ∙ ap (map (changed_numbered (λ (p : PendingLoad). p.number) c.args.number F)) c.self.view_is) w.join.ensures.joined))
      | in-None w ↦
          rw w.result-is
          (rw w.self-inside-is
          (ap (λ (m : _). ranked (λ a b. nat_lt b a) (λ (p : PendingLoad). p.number) (values_of m.entries)) c.get_mut.follows.holds-at-none
          ∙ unchanged-ranked (λ a b. nat_lt b a) falling (λ (p : PendingLoad). p.number) c.args.number F (λ p. refl) es c.self.inside.listing (sym w.in-None.ensures.value)
          ∙ ap (map (changed_numbered (λ (p : PendingLoad). p.number) c.args.number F)) c.self.view_is))
    ]

pub returns-clause-unchanged : goal.returns-clause-unchanged
returns-clause-unchanged c =
    let es = c.self.inside.table.entries in
    elim c.match-get_mut.branch [
      | in-Some w ↦
          rw w.result-is
          (rw w.self-inside-is
          (fails w.join.result (λ is. ap (λ fs. ranked (λ a b. nat_lt b a) (λ (p : PendingLoad). p.number) (values_of fs)) ((c.get_mut.follows.holds w.join.new.self).0 ∙ put-back c.args.number es w.in-Some.load.now w.join.new.self (sym w.in-Some.ensures.value) is) ∙ c.self.view_is) w.join.ensures.unchanged))
      | in-None w ↦
          rw w.result-is tt
    ]
