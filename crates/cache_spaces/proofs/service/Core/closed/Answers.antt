use Rattle.std.proofs.Common.{inr}
use Rattle.std.proofs.lemmas.Result.{IfOk-weaker, MatchResult-weaker}
use Rattle.cache_spaces.proofs.Placing.{looked, unknown}
use Rattle.cache_spaces.proofs.service.Core.closed.Goals as goal

pub returns-clause-closing : goal.returns-clause-closing
returns-clause-closing g c =
    IfOk-weaker c.closed.result _ _ (λ a fact. record { space = c.in_ok-space.field-0.now; at = c.in_ok-space.ensures.space; fact = fact })
    (looked c.in_ok-space.field-0.now c.args.conn.number _ c.closed.result c.closed.ensures.closing c.closed.ensures.refused)

pub returns-clause-refused : goal.returns-clause-refused
returns-clause-refused g c =
    MatchResult-weaker c.closed.result (unknown c.in_ok-space.field-0.now c.args.conn.number c.closed.result c.closed.ensures.refused c.closed.ensures.error) (λ a t. t)
    (λ e cause. inr (record { space = c.in_ok-space.field-0.now; at = c.in_ok-space.ensures.space; fact = cause }))
