use Rattle.std.proofs.Common.{◌∙◌, ap, [], ◌∷◌, ◌++◌}
use Rattle.moka_sync.proofs.Numbered.{numbered-one}
use Rattle.moka_sync.proofs.inner.Inner.one.Goals as goal

pub invariant_of-result-clause-numbered : goal.invariant_of-result-clause-numbered
invariant_of-result-clause-numbered g c =
    numbered-one _ c.new.result c.push.new.self.items (c.in_ok-push.ensures.items ∙ ap (λ ds. ds ++ c.new.result ∷ []) c.in_ok-desks.ensures.items)
    (ap (λ desk. desk.number) c.new.ensures ∙ c.numbered-desk.ensures.number)
