use Rattle.std.proofs.Common.{inr}
use Rattle.std.proofs.lemmas.Result.{IfOk-weaker, MatchResult-weaker}
use Rattle.cache_spaces.proofs.Placing.{looked, unknown}
use Rattle.cache_spaces.proofs.service.Core.waiting.Goals as goal

pub returns-clause-waits : goal.returns-clause-waits
returns-clause-waits g c =
    IfOk-weaker c.waiting.result _ _ (λ a fact. record { space = c.in_ok-space.field-0.now; at = c.in_ok-space.ensures.space; fact = fact })
    (looked c.in_ok-space.field-0.now c.args.conn.number _ c.waiting.result c.waiting.ensures.waits c.waiting.ensures.refused)

pub returns-clause-refused : goal.returns-clause-refused
returns-clause-refused g c =
    MatchResult-weaker c.waiting.result (unknown c.in_ok-space.field-0.now c.args.conn.number c.waiting.result c.waiting.ensures.refused c.waiting.ensures.error) (λ a t. t)
    (λ e cause. inr (record { space = c.in_ok-space.field-0.now; at = c.in_ok-space.ensures.space; fact = cause }))
