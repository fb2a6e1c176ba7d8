use Rattle.std.proofs.Common.{◌≡◌, ap, sym, ◌∙◌, subst, Some, None}
use Rattle.engine_cells.specs.Kept.{numbered_at}
use Rattle.engine_runs.specs.Fronts.{why_written}
use Rattle.engine_runs.proofs.Fronting.{leaves-by_write, never-written, written-clean, kept-number}
use Rattle.engine_runs.proofs.fronts.written_leaving.Goals as goal

pub returns-then-lacks_write_list-clause-none : goal.returns-then-lacks_write_list-clause-none
returns-then-lacks_write_list-clause-none g c =
    let live = ap (λ t. t.live) (sym c.settings-settings.ensures) ∙ c.lacks_write_list.ensures.none c.if-lacks_write_list.true in
    never-written c.args.tables.now.state c.args.now live (c.requires live)

pub returns-in-Some-why_written-clause-found : goal.returns-in-Some-why_written-clause-found
returns-in-Some-why_written-clause-found g c =
    let s = c.args.tables.now.state in
    let r = c.in-Some.found.now in
    let is = ap (λ n. why_written s.settings.live n c.args.now r) (sym c.cleared-cleared.ensures) ∙ ap (λ t. why_written t.live c.cleared-cleared.result c.args.now r) (sym c.settings-settings.ensures) ∙ sym c.why_written.ensures ∙ c.in-Some-why_written.is in
    (r, sym c.in-Some.ensures, leaves-by_write s c.args.now r c.in-Some-why_written.cause is)

pub returns-in-None-why_written-clause-none : goal.returns-in-None-why_written-clause-none
returns-in-None-why_written-clause-none g c =
    let s = c.args.tables.now.state in
    let f = c.in_ok-place.ensures.first in
    let same : Some c.in-Some.found.now ≡ Some f.0 = c.in-Some.ensures ∙ f.1 in
    let r_is : c.in-Some.found.now ≡ f.0 = cc in
    let r = c.in-Some.found.now in
    let is = ap (λ n. why_written s.settings.live n c.args.now r) (sym c.cleared-cleared.ensures) ∙ ap (λ t. why_written t.live c.cleared-cleared.result c.args.now r) (sym c.settings-settings.ensures) ∙ sym c.why_written.ensures ∙ c.in-None-why_written.is in
    written-clean s c.args.now f.0 f.2 (kept-number s.records (numbered_at c.args.tables.now.numbers c.in_ok-place.place) f.0 f.1) f.3 (subst (λ x. why_written s.settings.live s.cleared c.args.now x ≡ None) r_is is)
