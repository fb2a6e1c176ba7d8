use Rattle.std.proofs.Common.{ap, sym, ◌∙◌}
use Rattle.engine_reference.proofs.HeldRecords.{record_at-number}
use Rattle.engine_calls.proofs.Writing.{gone-read, read-alike}
use Rattle.engine_calls.proofs.uses.use_found.Goals as goal

pub returns-in-Some : goal.returns-in-Some
returns-in-Some g c = λ r same.
    let s = c.args.tables.now.state in
    let f = c.in-Some.ensures.found in
    c.use_in.ensures f.0 f.1 ∙ read-alike g.R.Rules.answers s r f.0 c.args.hash c.args.now (record_at-number s.records c.args.number f.0 f.2 ∙ sym same)

pub returns-in-None : goal.returns-in-None
returns-in-None g c = λ r same.
    ap (λ t. t.state) c.push_gone.ensures ∙ gone-read g.R.Rules.answers c.args.tables.now.state r c.args.number c.args.hash c.args.now same c.in-None.ensures.none
