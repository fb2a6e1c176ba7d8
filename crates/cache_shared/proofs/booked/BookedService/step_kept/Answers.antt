use Rattle.std.proofs.Common.{◌<◌, length, refl, rules}
use Rattle.std.proofs.lemmas.Result.{err_from_is_err_and}
use Rattle.cache_shared.proofs.Stepping.{gains-receipt, stays}
use Rattle.cache_shared.specs.Intakes.{input_in}
use Rattle.cache_shared.proofs.booked.BookedService.step_kept.Goals as goal

pub returns-in_default-reserve-clause-unchanged : goal.returns-in_default-reserve-clause-unchanged
returns-in_default-reserve-clause-unchanged g c = (
  (refl, refl),
  refl,
  stays c.args.seat.now.receipts.items c.make_lists.new.lists.items c.namespace-namespace.result c.index_mut-own.result.now c.reserve.new.self c.in-Ok.ensures.same c.index_mut-own.ensures.value c.reserve.ensures.items,
)

pub returns-in_default-copy-clause-unchanged : goal.returns-in_default-copy-clause-unchanged
returns-in_default-copy-clause-unchanged g c = (
  (refl, refl),
  refl,
  stays c.args.seat.now.receipts.items c.make_lists.new.lists.items c.namespace-namespace.result c.index_mut-own.result.now c.reserve.new.self c.in-Ok.ensures.same c.index_mut-own.ensures.value c.reserve.ensures.items,
)

pub returns-in_err-output-clause-unchanged : goal.returns-in_err-output-clause-unchanged
returns-in_err-output-clause-unchanged g c =
    let u = c.in_err-output.ensures.unchanged in
    let p = err_from_is_err_and c.from_residual.result c.from_residual.ensures.1 in
    rw p.1 (
      u.0,
      u.1,
      stays c.args.seat.now.receipts.items c.make_lists.new.lists.items c.namespace-namespace.result c.index_mut-own.result.now c.reserve.new.self c.in-Ok.ensures.same c.index_mut-own.ensures.value c.reserve.ensures.items,
    )

pub returns-clause-receipt : goal.returns-clause-receipt
returns-clause-receipt g c =
    let lt : c.namespace-namespace.result < length c.make_lists.new.lists.items = search rules in
    gains-receipt (g.C.Shareable.journals c.count_one.new.self.core) (input_in c.args.intake) c.in-Ok-copy.copy c.in_ok-output.output c.last_number.result
    c.args.seat.now.receipts.items c.make_lists.new.lists.items c.namespace-namespace.result c.index_mut-own.result.now c.reserve.new.self c.push_reserved.new.self
    c.in-Ok.ensures.same lt c.index_mut-own.ensures.value c.reserve.ensures.items c.namespace-namespace.ensures c.in-Ok-copy.ensures c.last_number.ensures c.push_reserved.ensures.items
