use Rattle.cache_lines.specs.Bases.{seen_on}
use Rattle.cache_core.proofs.connection.Pieces.{fed-ready}
use Rattle.cache_core.proofs.connection.feeding.feed_ready.Goals as goal

pub returns-clause-ran : goal.returns-clause-ran
returns-clause-ran g c =
    fed-ready c.args.now c.args.number c.args.connection.now c.run_on.new.self c.args.piece.now c.is_holding.result
    (seen_on g.S.Store.view g.T.Tape.view c.args.base.now c.args.connection.now.output) (seen_on g.S.Store.view g.T.Tape.view c.run_on.new.base c.run_on.new.self.output)
    c.requires.ready c.run_on.ensures.left c.is_holding.ensures
