use Rattle.std.proofs.Common.{rules, ◌≡◌, ◌∙◌, refl, ap, sym, arith, length}
use Rattle.std.specs.Prelude.{slice_index_or}
use Rattle.engine_reference.specs.Calls.{registered}
use Rattle.front_parts.specs.Wholes.Covering.{commits}
use Rattle.front_parts.specs.Wholes.Firsts.{changed_first}
use Rattle.front_parts.proofs.wholes.Drawn.{all-last}
use Rattle.front_parts.proofs.wholes.Firsts.{first-step, set-length, set-other, there}
use Rattle.front_parts.proofs.wholes.covering.commit_all.Goals as goal

pub loop-place-init : goal.loop-place-init
loop-place-init g c =
    let e = c.requires.predicates in
    record {
      long = refl;
      rest = λ k low. refl;
      left = omega arith;
      far = λ p h. (h, refl);
      count = search rules;
    }

pub unreachable-requires : goal.unreachable-requires
unreachable-requires g c =
    let low = c.loop-place-test.true in
    let left = c.loop-place.invariant.left in
    let count = c.loop-place.invariant.count in
    let none = c.in-None.ensures.cases.0 in
    absurd (omega arith)

pub commit_predicate-requires : goal.commit_predicate-requires
commit_predicate-requires g c =
    let low = c.loop-place-test.true in
    let long = c.loop-place.invariant.long in
    let count = c.loop-place.invariant.count in
    c.requires.room c.loop-place.place c.index_mut-part.result.now
    (sym (c.loop-place.invariant.rest c.loop-place.place (omega arith)) ∙ there c.loop-place.parts.items c.loop-place.place c.index_mut-part.result.now (omega arith) c.index_mut-part.ensures.value)

pub loop-place-preserved : goal.loop-place-preserved
loop-place-preserved g c =
    let low = c.loop-place-test.true in
    let long = c.loop-place.invariant.long in
    let count = c.loop-place.invariant.count in
    let left = c.loop-place.invariant.left in
    let shorter = c.in-Some.ensures.cases in
    record {
      long = set-length c.loop-place.parts.items c.loop-place.place c.commit_predicate.new.self ∙ long;
      rest = λ k less. set-other c.loop-place.parts.items c.loop-place.place k c.commit_predicate.new.self (omega arith) ∙ c.loop-place.invariant.rest k (omega arith);
      left = omega arith;
      far = λ p h.
          let k = c.loop-place.invariant.far p h in
          let l = all-last p c.in-Some.predicate c.loop-place.predicates.items c.pop.new.self.items c.in-Some.ensures.items k.0 in (
            l.0,
            first-step (commits p c.args.step c.args.ids.now) c.loop-place.place c.args.parts.now.items c.loop-place.parts.items c.index_mut-part.result.now c.commit_predicate.new.self k.1 (omega arith) c.index_mut-part.ensures.value
                (c.commit_predicate.ensures ∙ ap (λ q. registered (record { id = slice_index_or c.args.ids.now c.loop-place.place 0; predicate = q; step = c.args.step }) c.index_mut-part.result.now) l.1),
          );
      count = count;
    }

pub returns : goal.returns
returns g c =
    let past = c.loop-place-test.false in
    let end = c.loop-place.auto.place-end in
    let count = c.loop-place.invariant.count in
    let done : c.loop-place.place ≡ length c.args.parts.now.items = omega arith in
    λ p h. (c.loop-place.invariant.far p h).1 ∙ ap (λ n. changed_first (commits p c.args.step c.args.ids.now) n c.args.parts.now.items) done
