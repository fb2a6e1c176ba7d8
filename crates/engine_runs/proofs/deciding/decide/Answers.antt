use Rattle.std.proofs.Common.{ap, sym, ◌∙◌}
use Rattle.std.proofs.lemmas.Option.{same_Some}
use Rattle.engine_runs.specs.Deciding.{decision}
use Rattle.engine_runs.proofs.deciding.decide.Goals as goal

pub returns : goal.returns
returns g c = λ r there. c.decide_on.ensures ∙ ap (λ x. decision c.args.tables.now.state c.args.write x) (same_Some _ _ (sym c.record_in-found.ensures ∙ there))
