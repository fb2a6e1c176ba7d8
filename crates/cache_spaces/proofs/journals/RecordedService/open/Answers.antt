use Rattle.std.proofs.Common.{◌≤◌, ◌∙◌, refl, slice_set, subst, sym, IfErr, IfOk, OnErr, OnOk, vec_capacity, ◌≡◌}
use Rattle.std.proofs.Math.Logic.{∥∥₁_map}
use Rattle.std.proofs.lemmas.List.{length-set}
use Rattle.audit_model.specs.declared.input.Input.TheVariants as input
use Rattle.cache_spaces.specs.Calls.{At, Refuses, Performs, RefusedInput}
use Rattle.cache_spaces.specs.Journals.{kept_by}
use Rattle.cache_spaces.specs.Recorded.{GainsRecord, KeepsTaken, Recorded, recorded_of}
use Rattle.cache_spaces.specs.declared.cursors.Cursors.{Cursors}
use Rattle.cache_spaces.proofs.Journaling.{step-length, were-journals, were-on}
use Rattle.cache_spaces.proofs.Gaining.{open-gains, open-have, open-keeps, open-reads, open-same}
use Rattle.cache_spaces.proofs.journals.RecordedService.open.Goals as goal

pub invariant_of-self-2 : goal.invariant_of-self-2
invariant_of-self-2 c =
    let core = c.self.inside.core in
    let read = c.self.inside.read.items in
    let n = c.args.namespace in
    let here = c.in-Some.cursors.now in
    let is : Cursors = record here { replies = c.open_in.new.replies } in
    let item = c.in-Some.ensures.item in
    let e = c.open_in.ensures in
    let new = c.open_in.new.core in
    let count = step-length n core new c.open_in.result _ e.performed e.unchanged in (
      ∥∥₁_map c.self.invariant.0 (were-on (input.Open n) core new c.open_in.result e.performed e.unchanged),
      c.self.invariant.1,
      subst (λ m. m ≤ vec_capacity c.self.inside.room) (sym count) c.self.invariant.2,
      length-set read n is ∙ c.self.invariant.3 ∙ sym count,
      open-reads n core new read here is item.3.0 item.1 c.open_in.result e.performed e.unchanged refl e.added e.kept c.self.invariant.0 c.self.invariant.4,
      open-have n core new read here is item.3.0 item.1 c.open_in.result e.performed e.unchanged refl e.added e.kept c.self.invariant.0 c.self.invariant.5,
    )

pub returns : goal.returns
returns c =
    let core = c.self.inside.core in
    let read = c.self.inside.read.items in
    let n = c.args.namespace in
    let here = c.in-Some.cursors.now in
    let is : Cursors = record here { replies = c.open_in.new.replies } in
    let item = c.in-Some.ensures.item in
    let e = c.open_in.ensures in
    let new = c.open_in.new.core in
    let r = c.open_in.result in
    record {
      performed = subst (λ (s : Recorded). IfOk r (λ output. At s.spaces new n (Performs kept_by (input.Open n) output))) c.self.view_is e.performed;
      gained = subst (λ (s : Recorded). OnOk r (GainsRecord n s (recorded_of new (slice_set read n is)))) c.self.view_is
          (open-gains n core new read here is item.3.0 item.1 r e.performed e.unchanged refl e.added e.kept c.self.invariant.0 c.self.invariant.4);
      cursors = subst (λ (s : Recorded). KeepsTaken s (recorded_of new (slice_set read n is))) c.self.view_is
          (open-keeps n core new read here is item.3.0 item.1 r e.performed e.unchanged refl e.added e.kept new);
      refused = subst (λ (s : Recorded). IfErr r (λ refusal. Refuses s.spaces n refusal.error (RefusedInput (input.Open n) refusal.error))) c.self.view_is e.refused;
      back = e.back;
      unchanged = subst (λ (s : Recorded). OnErr r (recorded_of new (slice_set read n is) ≡ s)) c.self.view_is
          (open-same n core new read here is item.3.0 item.1 r e.performed e.unchanged refl e.added e.kept);
      journals = were-journals new (∥∥₁_map c.self.invariant.0 (were-on (input.Open n) core new r e.performed e.unchanged));
    }

pub returns-in_default-clause-cursors : goal.returns-in_default-clause-cursors
returns-in_default-clause-cursors c = subst (λ (s : Recorded). KeepsTaken s (recorded_of c.self.inside.core c.self.inside.read.items)) c.self.view_is (λ k. (λ number. refl, refl))

pub returns-in_default-clause-unchanged : goal.returns-in_default-clause-unchanged
returns-in_default-clause-unchanged c = c.self.view_is

pub returns-in_default-clause-journals : goal.returns-in_default-clause-journals
returns-in_default-clause-journals c = were-journals c.self.inside.core c.self.invariant.0
