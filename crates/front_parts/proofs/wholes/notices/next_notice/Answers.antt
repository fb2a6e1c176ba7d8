use Rattle.std.proofs.Common.{◌∙◌, ap, sym, arith, length}
use Rattle.std.specs.Prelude.{slice_get, slice_set}
use Rattle.front_parts.proofs.wholes.Firsts.{set_same, there}
use Rattle.front_parts.proofs.wholes.Told.{none-next, none-taken, none-told, nothing-taken, taken, told}
use Rattle.front_parts.proofs.wholes.notices.next_notice.Goals as goal

pub loop-place-preserved : goal.loop-place-preserved
loop-place-preserved g c =
    let low = c.loop-place-test.true in
    let count = c.loop-place.invariant.count in
    let long = ap length c.loop-place.invariant.same in
    let here = there c.loop-place.parts.items c.loop-place.place c.index_mut-part.result.now (omega arith) c.index_mut-part.ensures.value in
    record {
      same = ap (λ x. slice_set c.loop-place.parts.items c.loop-place.place x) (nothing-taken c.index_mut-part.result.now c.next_notice.new.self c.in-None.ensures.taken c.in-None.ensures.notice)
          ∙ set_same c.loop-place.parts.items c.loop-place.place c.index_mut-part.result.now here ∙ c.loop-place.invariant.same;
      none = none-next c.loop-place.place c.args.parts.now.items c.index_mut-part.result.now (ap (λ l. slice_get l c.loop-place.place) (sym c.loop-place.invariant.same) ∙ here) c.in-None.ensures.notice c.loop-place.invariant.none;
      count = count;
    }

pub returns-in-Some : goal.returns-in-Some
returns-in-Some g c =
    let low = c.loop-place-test.true in
    let count = c.loop-place.invariant.count in
    let long = ap length c.loop-place.invariant.same in
    let here = there c.loop-place.parts.items c.loop-place.place c.index_mut-part.result.now (omega arith) c.index_mut-part.ensures.value in
    let at = ap (λ l. slice_get l c.loop-place.place) (sym c.loop-place.invariant.same) ∙ here in
    record {
      notice = told c.loop-place.place c.args.parts.now.items c.index_mut-part.result.now c.in-Some.notice at c.in-Some.ensures.notice c.loop-place.invariant.none;
      taken = ap (λ l. slice_set l c.loop-place.place c.next_notice.new.self) c.loop-place.invariant.same
          ∙ taken c.loop-place.place c.args.parts.now.items c.index_mut-part.result.now c.next_notice.new.self c.in-Some.notice at c.in-Some.ensures.notice c.in-Some.ensures.taken c.loop-place.invariant.none;
    }

pub returns : goal.returns
returns g c =
    let past = c.loop-place-test.false in
    let count = c.loop-place.invariant.count in
    record {
      notice = none-told c.loop-place.place c.args.parts.now.items (omega arith) c.loop-place.invariant.none;
      taken = c.loop-place.invariant.same ∙ none-taken c.loop-place.place c.args.parts.now.items (omega arith) c.loop-place.invariant.none;
    }
