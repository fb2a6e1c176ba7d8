use Rattle.std.proofs.Common.{ap, ◌∙◌, refl}
use Rattle.engine_cells.specs.Kept.{Kept, kept_at}
use Rattle.engine_calls.proofs.Finding.{kept-changed}
use Rattle.engine_calls.proofs.Writing.{used-as, used-in}
use Rattle.engine_calls.proofs.uses.use_in.Goals as goal

pub push_hit-requires-clause-there : goal.push_hit-requires-clause-there
push_hit-requires-clause-there g c =
    let u = c.use_at-number.ensures.changes in
    let next = used-as c.as_nanos.result c.expires_after_use-expires.result in (
      next u.0,
      ap (λ (t : Kept g.row.K.Denot g.row.V.Denot g.row.R-Predicate.Denot g.row.S.Denot g.row.R.Denot). kept_at t c.args.place) u.2
          ∙ kept-changed c.args.tables.now c.args.place u.0 next (λ x. refl) u.1,
      c.use_at-number.ensures.number u.0 u.1,
    )

pub returns : goal.returns
returns g c = λ r there.
    used-in g.R.Rules.answers c.args.tables.now c.use_at-number.new.self c.push_hit.new.self c.args.place c.args.hash c.args.now c.as_nanos.result c.expires_after_use-expires.result r there
    c.as_nanos.ensures.nanos (c.expires_after_use-expires.ensures r there) c.use_at-number.ensures.changes c.push_hit.ensures
