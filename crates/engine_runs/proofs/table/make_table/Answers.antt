use Rattle.std.proofs.Common.{ap, sym}
use Rattle.engine_runs.proofs.Making.{grown-stretch, grown-applied, grown-there}
use Rattle.engine_runs.proofs.table.make_table.Goals as goal

pub returns-clause-stretch : goal.returns-clause-stretch
returns-clause-stretch g c = λ answers now.
    let m = c.in_ok-make_table.ensures.made in
    grown-stretch answers now c.args.hashes m.0 c.args.tables.now.state c.make_table.new.self.state c.requires.applied c.requires.lacks m.1 (ap (λ t. t.state) m.2)

pub returns-clause-applied : goal.returns-clause-applied
returns-clause-applied g c =
    let m = c.in_ok-make_table.ensures.made in
    grown-applied c.args.hashes m.0 c.args.tables.now.state c.make_table.new.self.state c.requires.applied (ap (λ t. t.state) m.2)

pub returns-clause-refused : goal.returns-clause-refused
returns-clause-refused g c =
    let m = c.in_ok-make_table.ensures.made in
    sym (grown-there c.args.hashes m.0 c.args.tables.now.state c.make_table.new.self.state c.requires.lacks m.1 (ap (λ t. t.state) m.2))
