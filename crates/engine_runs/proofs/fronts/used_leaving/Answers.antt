use Rattle.std.proofs.Common.{◌≡◌, ap, sym, ◌∙◌, subst, Some, None}
use Rattle.engine_cells.specs.Kept.{numbered_at}
use Rattle.engine_runs.specs.Fronts.{why_used}
use Rattle.engine_runs.proofs.Fronting.{leaves-by_use, used-clean, kept-number}
use Rattle.engine_runs.proofs.fronts.used_leaving.Goals as goal

pub returns-in-Some-why_used-clause-found : goal.returns-in-Some-why_used-clause-found
returns-in-Some-why_used-clause-found g c =
    let s = c.args.tables.now.state in
    let r = c.in-Some.found.now in
    let is = ap (λ t. why_used t.idle c.args.now r) (sym c.settings-settings.ensures) ∙ sym c.why_used.ensures ∙ c.in-Some-why_used.is in
    (r, sym c.in-Some.ensures, leaves-by_use s c.args.now r c.in-Some-why_used.cause is)

pub returns-in-None-why_used-clause-none : goal.returns-in-None-why_used-clause-none
returns-in-None-why_used-clause-none g c =
    let s = c.args.tables.now.state in
    let f = c.in_ok-place.ensures.first in
    let same : Some c.in-Some.found.now ≡ Some f.0 = c.in-Some.ensures ∙ f.1 in
    let r_is : c.in-Some.found.now ≡ f.0 = cc in
    let r = c.in-Some.found.now in
    let is = ap (λ t. why_used t.idle c.args.now r) (sym c.settings-settings.ensures) ∙ sym c.why_used.ensures ∙ c.in-None-why_used.is in
    used-clean s c.args.now f.0 f.2 (kept-number s.records (numbered_at c.args.tables.now.numbers c.in_ok-place.place) f.0 f.1) f.3 (subst (λ x. why_used s.settings.idle c.args.now x ≡ None) r_is is)
