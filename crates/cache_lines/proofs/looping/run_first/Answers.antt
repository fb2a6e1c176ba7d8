use Rattle.std.proofs.Common.{◌∙◌, ap, arith, ◌≡◌}
use Rattle.std.proofs.lemmas.Grind.{common_steps}
use Rattle.std.specs.Option.{option_map}
use Rattle.cache_lines.specs.Bases.{seen_on}
use Rattle.cache_lines.specs.Gathered.{gathered, stage}
use Rattle.cache_lines.specs.Ended.{line_in_front}
use Rattle.cache_lines.specs.Tape.Taped.{spends, step_held}
use Rattle.cache_lines.proofs.Gathering.{held-gathered, same-under}
use Rattle.cache_lines.proofs.looping.run_first.Goals as goal

pub returns-in-Err-clause-runs : goal.returns-in-Err-clause-runs
returns-in-Err-clause-runs g c =
    let view = g.S.Store.view in
    let tape = g.T.Tape.view in
    let line = line_in_front c.args.bytes.now c.in-Line.len in
    let said : c.without_return-line.result.now ≡ line = grind (arith, common_steps) in
    let same = c.in-Err.ensures.refused in
    let store = c.run_line.new.base.store in
    let text = c.run_line.new.output.text.items in
    let held = c.hold.ensures ∙ ap (λ l. option_map (spends (step_held c.args.number l)) (tape c.run_line.new.base.tape)) said in (
      c.in-Line.len,
      c.in-Line.ensures,
      record {
        gathered_is = ap (λ t. gathered (stage (view store) text t)) held ∙ held-gathered (gathered (seen_on view tape c.args.base.now c.args.output.now).stage) (view store) text line c.args.number (tape c.run_line.new.base.tape) same.gathered_is;
        loads_are = same-under c.args.base.now.loads c.run_line.new.base.loads same.loads_are;
      },
    )
