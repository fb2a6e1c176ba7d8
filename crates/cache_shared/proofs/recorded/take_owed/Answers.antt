use Rattle.std.proofs.Common.{◌∙◌}
use Rattle.cache_core.specs.declared.owing.Owed.{Owed}
use Rattle.cache_shared.proofs.Moving.{moves-parts, owed-parts, still-there}
use Rattle.cache_shared.specs.Recordings.{spaces_in}
use Rattle.cache_spaces.specs.Recorded.{untaken_in, untold_in}
use Rattle.cache_shared.proofs.recorded.take_owed.Goals as goal

pub returns-clause-moved : goal.returns-clause-moved
returns-clause-moved c = (moves-parts spaces_in untaken_in untold_in _ _ _ c.args.conn _ c.take_replies.ensures.all c.take_wanted.ensures.all).0

pub returns-clause-notes : goal.returns-clause-notes
returns-clause-notes c =
    let owed : Owed = record { replies = c.take_replies.result; loads = c.take_wanted.result; closing = c.in_ok-closing.closing; waits = c.in_ok-waits.waits } in
    (moves-parts spaces_in untaken_in untold_in _ _ _ c.args.conn owed c.take_replies.ensures.all c.take_wanted.ensures.all).1

pub returns-clause-told : goal.returns-clause-told
returns-clause-told c =
    let owed : Owed = record { replies = c.take_replies.result; loads = c.take_wanted.result; closing = c.in_ok-closing.closing; waits = c.in_ok-waits.waits } in
    owed-parts spaces_in untaken_in untold_in _ _ c.args.conn c.args.wants_loads owed
    (moves-parts spaces_in untaken_in untold_in _ _ _ c.args.conn owed c.take_replies.ensures.all c.take_wanted.ensures.all).0
    c.in_ok-closing.ensures.closing c.in_ok-waits.ensures.waits
    (c.take_wanted.ensures.wanted (still-there _ _ c.args.conn.namespace _ c.take_replies.ensures.standing.2 c.in_ok-closing.ensures.closing.at))

pub returns-clause-standing : goal.returns-clause-standing
returns-clause-standing c =
    let a = c.take_replies.ensures.standing in
    let b = c.take_wanted.ensures.standing in
    (b.0 ∙ a.0, λ n w. b.1 n (a.1 n w), b.2 ∙ a.2)
