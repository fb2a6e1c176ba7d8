use Rattle.std.proofs.Common.{ap, sym, ◌∙◌, subst}
use Rattle.std.specs.Fn.{FnOnceReturnsAt}
use Rattle.std.proofs.lemmas.Option.{same_Some}
use Rattle.engine_reference.specs.declared.data.Record.{Record}
use Rattle.engine_calls.proofs.looks.is_ignored.Goals as goal

pub returns : goal.returns
returns g c = λ r there.
    subst (λ v. FnOnceReturnsAt g.F.FnOnce c.args.ignore_if v c.says_of.result)
    (c.value.ensures ∙ ap (λ (x : Record g.row.K.Denot g.row.V.Denot). x.entry.value) (same_Some _ _ (sym c.record_in-found.ensures ∙ there))) c.says_of.ensures
