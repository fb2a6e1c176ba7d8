use Rattle.std.proofs.Common.{refl}
use Rattle.cache_spaces.specs.Calls.{IsUnknown}
use Rattle.cache_run.proofs.Driving.{at-gives, known-owed, not-unknown, suits-so}
use Rattle.cache_spaces.proofs.Placing.{refused-here}
use Rattle.cache_run.proofs.giving.give.Goals as goal

pub returns : goal.returns
returns c =
    let a = c.in-Ok.ensures.given in
    record {
      gives = at-gives _ _ _ c.args.conn.number c.args.wants_loads c.in-Ok.owed _ c.sound.ensures a refl refl refl;
      suits = (suits-so _ _ a.fact.1.wanted refl, refl);
      known = known-owed _ _ _ c.args.conn.number c.args.wants_loads c.in-Ok.owed a c.requires.known;
    }

pub unreachable-requires : goal.unreachable-requires
unreachable-requires c =
    let r = c.requires.known in not-unknown r.space c.args.conn.number _ r.fact (refused-here _ _ _ (λ was. IsUnknown was c.args.conn.number c.in-Err.field-0) r.space r.at c.in-Err.ensures.refused)
