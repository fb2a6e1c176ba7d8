use Rattle.std.proofs.Common.{◌≡◌, ap, sym, ◌∙◌, is_some}
use Rattle.std.proofs.lemmas.Option.{same_Some}
use Rattle.engine_reference.specs.Runs.{counting}
use Rattle.engine_runs.proofs.Displaced.{counting-at}
use Rattle.engine_runs.proofs.displacing.displace_for.Goals as goal

pub returns : goal.returns
returns g c =
    let f = c.requires.found in
    let u = c.count.ensures in
    let same : u.0 ≡ f.0 = same_Some _ _ (sym u.1 ∙ c.displace.ensures.keeps c.args.place f.0 f.1 f.3) in
    ap (λ t. t.state) u.2
    ∙ counting-at c.displace.new.tables.state c.args.write u.0.number (ap (λ x. x.number) same ∙ f.2)
    ∙ ap (λ s. counting c.args.write s) c.displace.ensures.gone

pub count-requires : goal.count-requires
count-requires g c = let f = c.requires.found in ap (λ o. is_some o) (c.displace.ensures.keeps c.args.place f.0 f.1 f.3)
