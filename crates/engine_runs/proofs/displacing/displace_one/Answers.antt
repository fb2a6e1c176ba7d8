use Rattle.std.proofs.Common.{◌≡◌, ap, sym, ◌∙◌, subst, ◌-◌, ◌<◌, length}
use Rattle.std.proofs.lemmas.Option.{same_Some}
use Rattle.engine_reference.specs.Records.{weight_at}
use Rattle.engine_runs.specs.Displacing.{GivesWay}
use Rattle.engine_runs.proofs.Displaced.{next-goes, without_place, fewer-place}
use Rattle.engine_runs.proofs.displacing.displace_one.Goals as goal

pub returns-clause-way : goal.returns-clause-way
returns-clause-way g c =
    let t = c.args.tables.now in
    let o = c.requires.oldest in
    let u = c.leave.ensures in
    let same : u.0 ≡ o.0 = same_Some _ _ (sym u.1 ∙ o.1) in
    let seen : c.record_in.result.now ≡ o.0 = same_Some _ _ (sym c.record_in.ensures ∙ o.1) in
    let after : c.leave.new.self ≡ without_place t c.args.place o.0 = u.2 ∙ ap (λ r. without_place t c.args.place r) same in
    subst (λ x. GivesWay c.args.left c.saturating_sub.result t x) (sym after)
    (next-goes t c.args.left c.saturating_sub.result c.args.place o.0 c.access_stands.ensures.once c.access_stands.ensures.admitted c.requires.front c.requires.some o.1 o.2
    (c.saturating_sub.ensures ∙ ap (λ n. c.args.left - n) (rw c.counts.ensures at c.unwrap_or-weight.ensures) ∙ ap (λ x. c.args.left - weight_at x) seen))

pub returns-clause-fewer : goal.returns-clause-fewer
returns-clause-fewer g c =
    let t = c.args.tables.now in
    let o = c.requires.oldest in
    let u = c.leave.ensures in
    let same : u.0 ≡ o.0 = same_Some _ _ (sym u.1 ∙ o.1) in
    let after : c.leave.new.self ≡ without_place t c.args.place o.0 = u.2 ∙ ap (λ r. without_place t c.args.place r) same in
    subst (λ x. length x.state.records < length t.state.records) (sym after) (fewer-place t c.args.place o.0 o.1)
