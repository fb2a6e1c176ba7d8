use Rattle.std.proofs.Common.{◌∙◌, arith}
use Rattle.std.proofs.lemmas.Grind.{common_steps}
use Rattle.cache_shared.proofs.Guarding.{all-claimed}
use Rattle.cache_shared.specs.declared.seat.Seat.{Seat}
use Rattle.cache_shared.proofs.booked.BookedService.close.Goals as goal

pub loop-seat-preserved : goal.loop-seat-preserved
loop-seat-preserved g c = record {
  split = grind (arith, common_steps);
  len = grind (arith, common_steps);
  parts = grind (arith, common_steps);
  amount = grind (arith, common_steps);
  lists = grind (arith, common_steps);
  many = grind (arith, common_steps);
  keeper = c.look.ensures.same.0 ∙ c.loop-seat.invariant.keeper;
  all = all-claimed c.args.keeper.now c.loop-seat.keeper
      (λ (seat : Seat g.row.L.Denot g.row.C.Denot g.L.Seating g.L.Naming). seat.claims)
      c.loop-seat.yielded c.in-Some.seat c.look.new.claims c.loop-seat.invariant.keeper
      c.look.ensures.same.1 c.look.ensures.are c.loop-seat.invariant.all;
  room = grind (arith, common_steps);
}
