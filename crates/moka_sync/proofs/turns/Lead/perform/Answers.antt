use Rattle.std.proofs.Common.{subst, sym}
use Rattle.front_parts.specs.Places.Calls.{ways_by}
use Rattle.moka_sync.specs.Making.{OperatesUnderLock}
use Rattle.moka_sync.proofs.turns.Lead.perform.Goals as goal

pub returns-in-Ok-clause-did : goal.returns-in-Ok-clause-did
returns-in-Ok-clause-did g c =
    let ways = ways_by g.R.Rules g.K.PartialEq.eq g.K.Hash.hash_input g.S.BuildHasher g.S.Hasher.Hasher in
    subst (λ does. OperatesUnderLock ways c.args.self.shared.now.number c.args.self.number c.args.key.now c.args.seen does c.shown_removed.result) (sym c.in-Remove.is) (c.in-Ok.removed, c.shown_removed.ensures.shown c.args.seen, c.in-Ok.ensures.did)
