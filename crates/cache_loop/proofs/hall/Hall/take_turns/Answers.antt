use Rattle.cache_loop.proofs.Goings.{goes-on}
use Rattle.cache_loop.proofs.hall.Hall.take_turns.Goals as goal

pub returns : goal.returns
returns g c =
    let first = c.take_first_turns in
    let more = c.take_more_turns in
    goes-on g.S.Steward c.args.self.now.served first.new.self.served c.args.steward.now first.new.steward more.new.self.served more.new.steward first.ensures more.ensures
