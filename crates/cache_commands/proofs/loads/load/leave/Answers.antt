use Rattle.std.proofs.Common.{rules, ap, not, ◌==◌}
use Rattle.cache_commands.specs.Loads.Keys.{pending_load}
use Rattle.std.proofs.lemmas.Fn.{filter_same}
use Rattle.cache_commands.proofs.loads.load.leave.Goals as goal

pub returns : goal.returns
returns c = record { left = ap (λ waiting. record (pending_load c.args.load.now) { waiting = waiting }) (filter_same _ (λ n. not (n == c.args.conn)) _ (λ x b f' k. search rules) _ _ c.retain.ensures.filtered) }
