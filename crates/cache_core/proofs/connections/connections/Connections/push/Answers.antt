use Rattle.std.proofs.Common.{sym, ap, ◌∙◌, subst, arith, ◌≡◌, ◌<◌, ◌++◌, ◌∷◌, [], Some, length}
use Rattle.cache_core.specs.Connections.Presence.{Here}
use Rattle.cache_core.specs.Connections.Residents.{AreSettled, first_reason, presences_of}
use Rattle.cache_core.proofs.connections.Saying.{added, added-settled}
use Rattle.cache_core.proofs.connections.connections.Connections.push.Goals as goal

pub invariant_of-self-2 : goal.invariant_of-self-2
invariant_of-self-2 c =
    let rs = c.self.inside.residents.items in
    let ws = c.self.inside.words in
    let k = c.args.connection in
    let index_is : c.len-index.result ≡ length rs = c.len-index.ensures ∙ c.self.inside.residents.ok.0 in
    let few : length rs < first_reason = omega (arith, index_is, c.if-index.false) in
    let residents_are : c.push_within.new.elements.items ≡ rs ++ (record { place = length ws; connection = Some k }) ∷ [] =
    c.push_within.ensures.items
    ∙ ap (λ xs. xs ++ (record { place = c.len-place.result; connection = Some k }) ∷ []) c.try_reserve.ensures.items
    ∙ ap (λ n. rs ++ (record { place = n; connection = Some k }) ∷ []) c.len-place.ensures in
    let words_are : c.push.new.self ≡ ws ++ length rs ∷ [] = c.in_ok-push.ensures.pushed ∙ ap (λ n. ws ++ n ∷ []) index_is in
    subst (λ xs. AreSettled xs c.push.new.self) (sym residents_are) (subst (λ ns. AreSettled (rs ++ (record { place = length ws; connection = Some k }) ∷ []) ns) (sym words_are) (added-settled rs ws k c.self.invariant few))

pub returns-clause-pushed : goal.returns-clause-pushed
returns-clause-pushed c =
    let rs = c.self.inside.residents.items in
    let ws = c.self.inside.words in
    let k = c.args.connection in
    let index_is : c.len-index.result ≡ length rs = c.len-index.ensures ∙ c.self.inside.residents.ok.0 in
    let few : length rs < first_reason = omega (arith, index_is, c.if-index.false) in
    let residents_are : c.push_within.new.elements.items ≡ rs ++ (record { place = length ws; connection = Some k }) ∷ [] =
    c.push_within.ensures.items
    ∙ ap (λ xs. xs ++ (record { place = c.len-place.result; connection = Some k }) ∷ []) c.try_reserve.ensures.items
    ∙ ap (λ n. rs ++ (record { place = n; connection = Some k }) ∷ []) c.len-place.ensures in
    let words_are : c.push.new.self ≡ ws ++ length rs ∷ [] = c.in_ok-push.ensures.pushed ∙ ap (λ n. ws ++ n ∷ []) index_is in
    ap (λ xs. presences_of xs c.push.new.self) residents_are
    ∙ ap (presences_of (rs ++ (record { place = length ws; connection = Some k }) ∷ [])) words_are
    ∙ added rs ws k c.self.invariant few ∙ ap (λ ps. ps ++ Here k ∷ []) c.self.view_is
