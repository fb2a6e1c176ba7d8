use Rattle.std.proofs.Common.{◌≡◌, ap, sym, ◌∙◌, Some}
use Rattle.std.proofs.lemmas.Option.{same_Some}
use Rattle.engine_reference.specs.declared.rules.causes.RemovalCause.TheVariants as cause
use Rattle.engine_reference.specs.Runs.{with_left}
use Rattle.engine_reference.proofs.HeldRecords.{record_at-number}
use Rattle.engine_runs.specs.declared.deciding.Decision.TheVariants as decide
use Rattle.engine_runs.proofs.Outcomes.{leads, front_there, not_counted}
use Rattle.engine_runs.proofs.Displaced.{counting-at, put_off-at}
use Rattle.engine_runs.proofs.applying.apply_found.Goals as goal

pub returns-in-Skip : goal.returns-in-Skip
returns-in-Skip g c =
    let h = c.requires in
    sym (leads decide.Skip c.args.tables.now.state c.args.write h.0 h.2 (c.in-Skip.ensures h.0 h.1))

pub returns-in-Count : goal.returns-in-Count
returns-in-Count g c =
    let s = c.args.tables.now.state in
    let h = c.requires in
    let u = c.count.ensures in
    let same : u.0 ≡ h.0 = same_Some _ _ (sym u.1 ∙ h.1) in
    ap (λ t. t.state) u.2
    ∙ counting-at s c.args.write u.0.number (ap (λ x. x.number) same ∙ record_at-number s.records c.args.write.number h.0 h.2)
    ∙ sym (leads decide.Count s c.args.write h.0 h.2 (c.in-Count.ensures h.0 h.1))

pub displace_for-requires-clause-front : goal.displace_for-requires-clause-front
displace_for-requires-clause-front g c =
    let h = c.requires in
    front_there c.args.tables.now.state c.args.write h.0 (sym (c.in-Displace.ensures h.0 h.1))

pub displace_for-requires-clause-found : goal.displace_for-requires-clause-found
displace_for-requires-clause-found g c =
    let s = c.args.tables.now.state in
    let h = c.requires in
    (h.0, h.1, record_at-number s.records c.args.write.number h.0 h.2, not_counted s c.args.write h.0 (sym (c.in-Displace.ensures h.0 h.1)))

pub returns-in-Displace : goal.returns-in-Displace
returns-in-Displace g c =
    let h = c.requires in
    c.displace_for.ensures ∙ sym (leads decide.Displace c.args.tables.now.state c.args.write h.0 h.2 (c.in-Displace.ensures h.0 h.1))

pub returns-in-PutOff : goal.returns-in-PutOff
returns-in-PutOff g c =
    let s = c.args.tables.now.state in
    let h = c.requires in
    let u = c.put_off.ensures in
    let same : u.0 ≡ h.0 = same_Some _ _ (sym u.1 ∙ h.1) in
    ap (λ t. t.state) u.2
    ∙ put_off-at s c.args.write u.0.number (ap (λ x. x.number) same ∙ record_at-number s.records c.args.write.number h.0 h.2)
    ∙ sym (leads decide.PutOff s c.args.write h.0 h.2 (c.in-PutOff.ensures h.0 h.1))

pub returns-in-Refuse : goal.returns-in-Refuse
returns-in-Refuse g c =
    let s = c.args.tables.now.state in
    let h = c.requires in
    let u = c.leave.ensures in
    let same : u.0 ≡ h.0 = same_Some _ _ (sym u.1 ∙ h.1) in
    ap (λ t. t.state) u.2
    ∙ ap (λ o. with_left cause.Size s o) (ap (λ x. Some x) same ∙ sym h.2)
    ∙ sym (leads decide.Refuse s c.args.write h.0 h.2 (c.in-Refuse.ensures h.0 h.1))
