use Rattle.std.proofs.Common.{subst}
use Rattle.front_parts.specs.Places.Calls.{ways_by}
use Rattle.moka_sync.specs.Holding.{DoneUnderLock}
use Rattle.moka_sync.specs.Making.{DidFinish}
use Rattle.moka_sync.proofs.turns.Lead.finish_with.Goals as goal

pub returns-in-Ok-finish-clause-did : goal.returns-in-Ok-finish-clause-did
returns-in-Ok-finish-clause-did g c =
    let ways = ways_by g.R.Rules g.K.PartialEq.eq g.K.Hash.hash_input g.S.BuildHasher g.S.Hasher.Hasher in
    subst (λ made. DoneUnderLock c.args.self.shared.now.number (DidFinish ways c.args.self.number made)) (c.in-Ok.ensures.exact c.requires.exact (λ x y same. same)) c.in-Ok-finish.ensures.did
