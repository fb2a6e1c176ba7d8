use Rattle.std.proofs.Common.{◌∙◌, ap, sym, arith, ◌≡◌, false, true}
use Rattle.std.proofs.lemmas.Option.{slice_get_within}
use Rattle.std.specs.List.{slice_get}
use Rattle.cache_core.specs.Connections.Presence.{Here, is_here}
use Rattle.cache_core.proofs.Spots.{was-none, was-some}
use Rattle.cache_core.proofs.Touched.{all-itself, all-replaced, leaves-others}
use Rattle.cache_core.proofs.reserving.reserve_at.Goals as goal
use Rattle.cache_core.proofs.reserving.reserve_at.Goals.{then-index-len-via-then-index-len, then-index-len-via-else-index-len+then-is_none}

pub returns-then-index-len-clause-same : goal.returns-then-index-len-clause-same
returns-then-index-len-clause-same c = all-itself c.args.connections.now

pub returns-clause-same : goal.returns-clause-same
returns-clause-same c = all-replaced c.args.connections.now c.reserve_there.new.connections c.saturating_sub-index.result c.reserve_there.ensures.same.0 c.reserve_there.ensures.same.1

pub returns-clause-others : goal.returns-clause-others
returns-clause-others c = λ place ne.
    (leaves-others c.args.connections.now c.reserve_there.new.connections c.saturating_sub-index.result c.reserve_there.ensures.same.0).others place (λ e. ne (e ∙ c.saturating_sub-index.ensures))

pub reserve_there-requires : goal.reserve_there-requires
reserve_there-requires c = was-some c.get.result _ _ _ (λ x at. ap is_here at) c.if-is_none.ensures c.get.ensures

pub returns-then-index-len-clause-room : goal.returns-then-index-len-clause-room
returns-then-index-len-clause-room c = λ k at.
    let ps = c.args.connections.now in
    let lt = slice_get_within ps _ (Here k) at in
    elim c.then-index-len.branch [
      | then-index-len-via-then-index-len w ↦ (let above = w.if-index-len.true in absurd (omega (arith, lt, c.saturating_sub-index.ensures, above, c.len.ensures)))
      | then-index-len-via-else-index-len+then-is_none w ↦ (
          let away = was-none w.get.result _ _ w.if-is_none.ensures w.get.ensures in
          let here : is_here (slice_get ps c.saturating_sub-index.result) ≡ true = ap (λ i. is_here (slice_get ps i)) c.saturating_sub-index.ensures ∙ ap is_here at in
          let no : false ≡ true = sym away ∙ here in cc)
    ]
