use Rattle.toml.proofs.Views.{table_get}
use Rattle.cached_config.proofs.Saying.{found-none, found-some}
use Rattle.cached_config.proofs.values.at_key.Goals as goal

pub returns : goal.returns
returns c =
    let found = table_get c.get.result c.args.key.now c.args.table.now.entries c.get.ensures.value in
    record { some = found-some c.get.result _ found; none = found-none c.get.result _ found }
