use Rattle.cache_loop.proofs.Goings.{goes-on, goes-same}
use Rattle.cache_loop.proofs.Pairs.{pairs-same}
use Rattle.cache_loop.specs.Turns.{settles, stays}
use Rattle.cache_loop.proofs.looping.work.Goals as goal

pub returns : goal.returns
returns g c =
    let old = c.args.hall.now.served in
    let s = c.args.steward.now in
    let answers = c.take_answers in
    let woken = c.wake_waiting in
    let came = c.accept_all in
    let turns = c.take_turns in
    let said = c.say_farewell in
    let seconds = c.count_seconds in
    let told = c.counts-counts in
    let asked = settles answers.new.self.served s answers.new.steward (goes-same g.S.Steward old answers.new.self.served s answers.ensures.0) answers.ensures.1 in
    let listed = stays answers.new.self.served woken.new.self.served answers.new.steward asked woken.ensures in
    let more = goes-on g.S.Steward old woken.new.self.served s answers.new.steward came.new.self.served came.new.steward listed came.ensures in
    let turned = goes-on g.S.Steward old came.new.self.served s came.new.steward turns.new.self.served turns.new.steward more turns.ensures in
    let farewells = stays turns.new.self.served said.new.self.served turns.new.steward turned (pairs-same turns.new.self.served said.new.self.served said.ensures) in
    let counted = goes-on g.S.Steward old said.new.self.served s turns.new.steward seconds.new.hall.served seconds.new.steward farewells seconds.ensures in
    stays seconds.new.hall.served told.new.self.served seconds.new.steward counted (pairs-same seconds.new.hall.served told.new.self.served told.ensures)
