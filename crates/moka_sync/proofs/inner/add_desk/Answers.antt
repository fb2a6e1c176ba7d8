use Rattle.std.proofs.Common.{◌∙◌, ap, sym}
use Rattle.std.specs.Prelude.{slice_get}
use Rattle.moka_sync.proofs.Numbered.{numbered-more}
use Rattle.moka_sync.proofs.inner.add_desk.Goals as goal

pub returns-clause-numbered : goal.returns-clause-numbered
returns-clause-numbered g c = λ place d at.
    let is = ap (λ desk. desk.number) c.new.ensures ∙ c.numbered-desk.ensures.number ∙ c.len.ensures ∙ c.args.desks.now.ok.0 in
    numbered-more _ c.args.desks.now.items c.new.result c.requires is place d (ap (λ ds. slice_get ds place) (sym c.in_ok-push.ensures.items) ∙ at)
