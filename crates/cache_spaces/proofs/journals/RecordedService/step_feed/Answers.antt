use Rattle.std.proofs.Common.{◌≤◌, ◌∙◌, refl, subst, sym, IfErr, vec_capacity}
use Rattle.audit_model.specs.declared.input.Input.TheVariants as input
use Rattle.cache_spaces.specs.Calls.{Refuses, RefusedInput}
use Rattle.cache_spaces.specs.Recorded.{Recorded}
use Rattle.cache_spaces.proofs.Gaining.{stepped}
use Rattle.cache_spaces.proofs.journals.RecordedService.step_feed.Goals as goal

pub invariant_of-self : goal.invariant_of-self
invariant_of-self c =
    let i = input.Feed c.args.conn c.args.piece.now c.args.moment in
    let inside = c.self.inside in
    let kept = c.self.invariant in
    let e = c.step_feed.ensures in
    let s = stepped i inside.core c.step_feed.new.self inside.read.items c.args.self.now c.self.view_is c.step_feed.result refl e.performed e.unchanged kept.0 kept.4 kept.5 in
    (s.played, kept.1, subst (λ n. n ≤ vec_capacity inside.room) (sym s.many) kept.2, kept.3 ∙ sym s.many, s.reads, s.have)

pub returns : goal.returns
returns c =
    let i = input.Feed c.args.conn c.args.piece.now c.args.moment in
    let inside = c.self.inside in
    let kept = c.self.invariant in
    let e = c.step_feed.ensures in
    let s = stepped i inside.core c.step_feed.new.self inside.read.items c.args.self.now c.self.view_is c.step_feed.result refl e.performed e.unchanged kept.0 kept.4 kept.5 in
    record {
      performed = s.performed;
      gained = s.gained;
      cursors = s.cursors;
      refused = subst (λ (s : Recorded). IfErr c.step_feed.result (λ error. Refuses s.spaces c.args.conn.namespace error (RefusedInput i error))) c.self.view_is e.refused;
      unchanged = s.unchanged;
      journals = s.journals;
    }
