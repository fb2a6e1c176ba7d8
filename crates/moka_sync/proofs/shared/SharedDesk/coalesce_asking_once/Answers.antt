use Rattle.std.proofs.Common.{rules}
use Rattle.std.specs.Fn.{FnOnceReturnsAt}
use Rattle.front_parts.specs.Places.Calls.{ways_by}
use Rattle.moka_sync.proofs.Resting.{asked-once}
use Rattle.moka_sync.proofs.shared.SharedDesk.coalesce_asking_once.Goals as goal

pub returns-in-Ok-clause-answer : goal.returns-in-Ok-clause-answer
returns-in-Ok-clause-answer g c =
    let ways = ways_by g.R.Rules g.K.PartialEq.eq g.K.Hash.hash_input g.S.BuildHasher g.S.Hasher.Hasher in
    asked-once ways c.args.self.now.number c.args.kind (g.A.Names.named_key c.args.asked) (FnOnceReturnsAt g.P.FnOnce c.args.replace_if) _ c.in-Ok.passing (λ v b said. search rules) c.in-Ok.ensures.may _ c.coalesce.result c.coalesce.ensures.answer
