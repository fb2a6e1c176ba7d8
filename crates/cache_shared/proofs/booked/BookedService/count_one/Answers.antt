use Rattle.cache_shared.proofs.Stepping.{one-further}
use Rattle.cache_shared.specs.Intakes.{input_in}
use Rattle.cache_shared.proofs.booked.BookedService.count_one.Goals as goal

pub invariant_of-self-2-clause-stands : goal.invariant_of-self-2-clause-stands
invariant_of-self-2-clause-stands g c =
    one-further g.C.Shareable.KEEPS g.L.Seating.configs g.C.Shareable.spaces g.C.Shareable.journals (input_in c.args.intake) c.in_ok-output.output c.args.self.now.core c.pass.new.core c.args.self.now.book.total c.add.new.self.total
    c.args.self.now.stands c.in_ok-output.ensures.taken.performed c.in_ok-output.ensures.one c.add.ensures.total
