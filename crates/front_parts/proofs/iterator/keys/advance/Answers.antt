use Rattle.std.proofs.Common.{◌∙◌, ◌<◌, sym, subst}
use Rattle.front_parts.specs.Iterator.Coming.{TakesFirst, LeavesKeys, pairs_back, source_at}
use Rattle.front_parts.proofs.iterator.Pairs.{first_of_coming, on_err, opened, same_coming}
use Rattle.front_parts.proofs.iterator.keys.advance.Goals as goal

pub returns-in_err-pair-clause-err : goal.returns-in_err-pair-clause-err
returns-in_err-pair-clause-err g c =
    let s = source_at g.C.ScanningGet.segments g.C.ScanningGet.keys_in g.C.ScanningGet.value_of c.args.source.now c.args.now in
    on_err _ c.from_residual.result (same_coming s c.loop-place.keys.items c.take_last.new.keys.items c.loop-place.place c.in_err-pair.ensures.err ∙ c.loop-place.invariant)

pub returns-in-Some-clause-found : goal.returns-in-Some-clause-found
returns-in-Some-clause-found g c =
    let s = source_at g.C.ScanningGet.segments g.C.ScanningGet.keys_in g.C.ScanningGet.value_of c.args.source.now c.args.now in
    sym c.loop-place.invariant
    ∙ first_of_coming s c.loop-place.keys.items c.take_last.new.keys.items c.loop-place.place c.in-Some.pair
    (subst (λ o. TakesFirst o (pairs_back s c.loop-place.keys.items) (pairs_back s c.take_last.new.keys.items)) c.in-Some.is c.in_ok-pair.ensures.found)

pub returns-in_err-keys-clause-err : goal.returns-in_err-keys-clause-err
returns-in_err-keys-clause-err g c =
    let s = source_at g.C.ScanningGet.segments g.C.ScanningGet.keys_in g.C.ScanningGet.value_of c.args.source.now c.args.now in
    let none = subst (λ o. TakesFirst o (pairs_back s c.loop-place.keys.items) (pairs_back s c.take_last.new.keys.items)) c.in-None.is c.in_ok-pair.ensures.found in
    let left = subst (λ o. LeavesKeys o c.take_last.new.keys.items) c.in-None.is c.in_ok-pair.ensures.left in
    on_err _ c.from_residual-in_err-keys.result (same_coming s c.loop-place.keys.items c.take_last.new.keys.items c.loop-place.place (none.1 ∙ sym none.0) ∙ c.loop-place.invariant)

pub loop-place-preserved : goal.loop-place-preserved
loop-place-preserved g c =
    let s = source_at g.C.ScanningGet.segments g.C.ScanningGet.keys_in g.C.ScanningGet.value_of c.args.source.now c.args.now in
    let none = subst (λ o. TakesFirst o (pairs_back s c.loop-place.keys.items) (pairs_back s c.take_last.new.keys.items)) c.in-None.is c.in_ok-pair.ensures.found in
    let count = c.num_cht_segments-count.ensures in
    let low = c.loop-place-test.true in
    opened s c.loop-place.keys.items c.in_ok-keys.field-0.items c.loop-place.place (subst (λ n. c.loop-place.place < n) count low) none.0 c.in_ok-keys.ensures ∙ c.loop-place.invariant
