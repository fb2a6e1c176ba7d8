use Rattle.std.proofs.Common.{◌≤◌, ◌∙◌, subst, sym, IfErr, vec_capacity}
use Rattle.cache_spaces.specs.Calls.{Refuses, RefusedInput, namespace_of}
use Rattle.cache_spaces.specs.Recorded.{Recorded}
use Rattle.cache_spaces.proofs.Gaining.{opens-none, stepped}
use Rattle.cache_spaces.proofs.journals.RecordedService.step.Goals as goal

pub invariant_of-self : goal.invariant_of-self
invariant_of-self c =
    let inside = c.self.inside in
    let kept = c.self.invariant in
    let e = c.step.ensures in
    let s = stepped c.args.input inside.core c.step.new.self inside.read.items c.args.self.now c.self.view_is c.step.result (opens-none c.args.input c.in_default.not-Open) e.performed e.unchanged kept.0 kept.4 kept.5 in
    (s.played, kept.1, subst (λ n. n ≤ vec_capacity inside.room) (sym s.many) kept.2, kept.3 ∙ sym s.many, s.reads, s.have)

pub returns-in_default : goal.returns-in_default
returns-in_default c =
    let inside = c.self.inside in
    let kept = c.self.invariant in
    let i = c.args.input in
    let e = c.step.ensures in
    let s = stepped i inside.core c.step.new.self inside.read.items c.args.self.now c.self.view_is c.step.result (opens-none i c.in_default.not-Open) e.performed e.unchanged kept.0 kept.4 kept.5 in
    record {
      performed = s.performed;
      gained = s.gained;
      cursors = s.cursors;
      refused = subst (λ (s : Recorded). IfErr c.step.result (λ refusal. Refuses s.spaces (namespace_of i) refusal.error (RefusedInput i refusal.error))) c.self.view_is e.refused;
      back = e.back;
      unchanged = s.unchanged;
      journals = s.journals;
    }
