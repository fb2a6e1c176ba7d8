use Rattle.std.proofs.Math.Logic.{∥∥₁_map}
use Rattle.engine_runs.proofs.Covering.{cover-none}
use Rattle.engine_runs.proofs.Joining.{stretch-join}
use Rattle.engine_runs.proofs.covered.end_predicates.Goals as goal

pub end_all-requires-clause-none : goal.end_all-requires-clause-none
end_all-requires-clause-none g c = λ answers covers.
    cover-none answers c.scan.new.tables.state (∥∥₁_map c.requires.sound c.scan.ensures.rest.sound) (c.scan.ensures.none answers covers)

pub returns-then-predicates-gt0-clause-stretch : goal.returns-then-predicates-gt0-clause-stretch
returns-then-predicates-gt0-clause-stretch g c = λ answers now covers.
    stretch-join answers now c.args.tables.now.state c.scan.new.tables.state c.end_all.new.tables.state (c.scan.ensures.stretch answers now covers) (c.end_all.ensures.stretch answers now covers)
