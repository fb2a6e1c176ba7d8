use Rattle.std.proofs.Common.{None, rules, subst}
use Rattle.std.specs.Prelude.{⊤}
use Rattle.front_parts.specs.Places.Calls.{ways_by}
use Rattle.front_reference.specs.declared.data.Made.TheVariants as makes
use Rattle.moka_sync.specs.Holding.{DoneUnderLock}
use Rattle.moka_sync.specs.Making.{DidFinish}
use Rattle.moka_sync.proofs.turns.Lead.put_copy.Goals as goal

pub returns-in-Ok-put-clause-did : goal.returns-in-Ok-put-clause-did
returns-in-Ok-put-clause-did g c = λ key seen is.
    let ways = ways_by g.R.Rules g.K.PartialEq.eq g.K.Hash.hash_input g.S.BuildHasher g.S.Hasher.Hasher in (
      c.shown_put.ensures.shown seen None is,
      subst (λ v. DoneUnderLock c.args.self.shared.now.number (DidFinish ways {F = ⊤} c.args.self.number (makes.Value v))) (c.requires.exact c.args.value c.in-Ok.kept (search rules)) c.in-Ok-put.ensures.did,
    )
