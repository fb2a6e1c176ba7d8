use Rattle.std.proofs.Common.{inl, inr, refl, ◌∙◌}
use Rattle.cache_loop.proofs.Pairs.{pair-seated, pairs-roomier}
use Rattle.cache_loop.proofs.hall.Hall.seat.Goals as goal

pub returns-then-lacks_room : goal.returns-then-lacks_room
returns-then-lacks_room g c = (pairs-roomier c.args.self.now.served c.lacks_room.new.self.served c.lacks_room.ensures.same, inl refl)

pub returns-then-is_err : goal.returns-then-is_err
returns-then-is_err g c = (pairs-roomier c.args.self.now.served c.lacks_room.new.self.served c.lacks_room.ensures.same, inl refl)

pub returns-in-None : goal.returns-in-None
returns-in-None g c = (pairs-roomier c.args.self.now.served c.lacks_room.new.self.served c.lacks_room.ensures.same, inr c.in-None.ensures)

pub returns-in-Some : goal.returns-in-Some
returns-in-Some g c =
    let put = c.insert_reserved-key in
    let seated = pair-seated c.args.self.now.served c.lacks_room.new.self.served put.new.self put.result c.new.result c.args.stream c.in-Some.link c.lacks_room.ensures.same put.ensures.key put.ensures.was_vacant put.ensures.updates (c.new.ensures.0 ∙ c.register.ensures) c.new.ensures.1 in
    (c.in-Some.link, c.in-Some.ensures, seated.0, seated.1)
