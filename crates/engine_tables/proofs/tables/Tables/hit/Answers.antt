use Rattle.std.proofs.Common.{◌≡◌, refl, ap, sym, ◌∙◌, subst, true, ℕ, Option, Some, None, is_some, eqb}
use Rattle.engine_cells.specs.Kept.{kept_at, is_admitted_as}
use Rattle.engine_cells.proofs.Views.{kept-in}
use Rattle.engine_reference.specs.Records.{record_at}
use Rattle.engine_reference.specs.declared.data.Record.{Record}
use Rattle.engine_cells.proofs.Pointing.{hit-there, hit-nothing}
use Rattle.std.proofs.lemmas.Bool.{and_parts}
use Rattle.engine_cells.specs.Noting.{AimsOnlyAt}
use Rattle.engine_tables.proofs.tables.Tables.hit.Goals as goal

-- the record that is admitted
admitted-of : {K V : Type 0} (number : ℕ) (o : Option (Record K V)) → is_admitted_as number o ≡ true → (r : Record K V) × (o ≡ Some r) × (is_some r.counts ≡ true)
admitted-of number None e = absurd (cc)
admitted-of number (Some r) e = (r, refl, (and_parts (eqb r.number number) (is_some r.counts) e).1)

pub use_again-requires : goal.use_again-requires
use_again-requires g c = admitted-of c.args.number _ (sym c.is_admitted_at.ensures ∙ c.if-is_admitted_at.true)

pub returns-then-is_admitted_at : goal.returns-then-is_admitted_at
returns-then-is_admitted_at g c =
    let cells = c.self.inside.cells.slots in
    let apart = c.self.invariant.kept.apart in
    let seen = ap (λ t. kept_at t c.args.place) (sym c.self.view_is) ∙ kept-in cells c.args.place apart in
    let admitted = sym (c.is_admitted_at.ensures ∙ ap (λ o. is_admitted_as c.args.number o) seen) ∙ c.if-is_admitted_at.true in
    let u = c.use_again.ensures in
    let is = sym seen ∙ u.1 in
    let at = ap (λ t. record_at t.state.records c.args.number) (sym c.self.view_is) ∙ hit-there cells c.args.place c.args.number apart admitted ∙ is in
    let counts : is_some u.0.counts ≡ true = (and_parts (eqb u.0.number c.args.number) (is_some u.0.counts) (ap (λ o. is_admitted_as c.args.number o) (sym is) ∙ admitted)).1 in
    rw (at, counts) (u.2 counts)

pub returns-else-is_admitted_at : goal.returns-else-is_admitted_at
returns-else-is_admitted_at g c =
    let cells = c.self.inside.cells.slots in
    let apart = c.self.invariant.kept.apart in
    let seen = ap (λ t. kept_at t c.args.place) (sym c.self.view_is) ∙ kept-in cells c.args.place apart in
    let passed = sym (c.is_admitted_at.ensures ∙ ap (λ o. is_admitted_as c.args.number o) seen) ∙ c.if-is_admitted_at.false in
    let points = subst (λ t. AimsOnlyAt t.numbers c.args.place c.args.number) (sym c.self.view_is) c.requires in
    rw (ap (λ t. record_at t.state.records c.args.number) (sym c.self.view_is), hit-nothing cells c.args.place c.args.number c.args.self.now.state apart points passed) refl
