use Rattle.std.proofs.Common.{sym, ◌∙◌, true}
use Rattle.engine_reference.specs.Visible.{visible_record}
use Rattle.engine_calls.proofs.Finding.{found-in, visible-as}
use Rattle.engine_calls.proofs.looks.find.Goals as goal

pub returns-then-is_seen_at : goal.returns-then-is_seen_at
returns-then-is_seen_at g c =
    let a = g.R.Rules.answers in
    let key = g.Q.Names.named_key c.args.key.now in
    let t = c.args.tables.now in
    let f = c.in-Some.ensures.found in
    found-in g.K.PartialEq.eq t c.args.hash c.in-Some.place key f.0 (visible_record a g.K.PartialEq.eq t.state c.args.now key) f.1 f.2 (c.in-Some.ensures.hash f.0 f.1)
    (visible-as a g.K.PartialEq.eq t.state c.args.now key f.0 true f.2 (sym (c.is_seen_at.ensures f.0 f.1) ∙ c.if-is_seen_at.true))
