use Rattle.std.proofs.Common.{refl}
use Rattle.cache_spaces.proofs.Placing.{put-at, refused-at}
use Rattle.cache_spaces.proofs.service.Core.open.Goals.{in-Ok, in-Err}
use Rattle.cache_spaces.proofs.service.Core.open.Goals as goal

pub returns-clause-taken : goal.returns-clause-taken
returns-clause-taken g c =
    elim c.match-open.branch [
      | in-Ok w ↦ rw w.result-is (refl, put-at c.args.self.now c.self.inside.spaces.items c.self.view_is c.args.namespace c.in-Some.space.now c.in-Some.ensures.item.3.0 c.in-Some.ensures.item.1 _ c.open.new.self (w.in-Ok.ensures.turned.1, w.in-Ok.ensures.turned.0))
      | in-Err w ↦ rw w.result-is tt
    ]

pub returns-clause-refused : goal.returns-clause-refused
returns-clause-refused g c =
    elim c.match-open.branch [
      | in-Ok w ↦ rw w.result-is tt
      | in-Err w ↦ rw w.result-is (refused-at c.args.self.now c.self.inside.spaces.items c.self.view_is c.args.namespace c.in-Some.space.now c.in-Some.ensures.item.3.0 c.in-Some.ensures.item.1 _ _ refl)
    ]
