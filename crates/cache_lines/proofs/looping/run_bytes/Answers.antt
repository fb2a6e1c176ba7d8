use Rattle.std.proofs.Common.{◌∙◌, ap, arith, drop, length-drop, refl, subst, sym, ◌+◌, false, Err, Ok}
use Rattle.std.proofs.lemmas.List.{drop-drop}
use Rattle.cache_lines.specs.Bases.{seen_on}
use Rattle.cache_lines.specs.Making.{making_of}
use Rattle.cache_lines.specs.Ended.{RunsFirst}
use Rattle.cache_commands.proofs.Taking.{taken-on, taken-same}
use Rattle.cache_lines.proofs.Gathering.{has-spare}
use Rattle.cache_lines.proofs.LineRuns.{ran-none, frames-more, line-next}
use Rattle.cache_lines.proofs.ReadyEnds.{lines-end}
use Rattle.cache_lines.proofs.looping.run_bytes.Goals as goal

pub loop-len-init : goal.loop-len-init
loop-len-init g c =
    let old = seen_on g.S.Store.view g.T.Tape.view c.args.base.now c.args.output.now in
    record {
      ran = λ s agrees there. ran-none (making_of old.stage.values.frame) c.args.number s s.held c.args.bytes.now old.stage agrees.stands agrees.dropped;
      frame = record { rest = refl; latest = c.requires.in_time.0 };
      fresh = c.requires.clear;
      still = refl;
      goes = taken-same c.args.base.now.loads;
      within = omega arith;
      spare = refl;
    }

pub run_first-requires : goal.run_first-requires
run_first-requires g c =
    let i = c.loop-len.invariant in
    record {
      in_time = (i.frame.latest, c.requires.in_time.1);
      clear = i.fresh;
      spare = has-spare (g.T.Tape.view c.args.base.now.tape) (g.T.Tape.view c.loop-len.base.tape) i.spare c.requires.spare;
    }

pub loop-len-preserved : goal.loop-len-preserved
loop-len-preserved g c =
    let i = c.loop-len.invariant in
    let bytes = c.args.bytes.now in
    let old = seen_on g.S.Store.view g.T.Tape.view c.args.base.now c.args.output.now in
    let middle = seen_on g.S.Store.view g.T.Tape.view c.loop-len.base c.loop-len.output in
    let new = seen_on g.S.Store.view g.T.Tape.view c.run_first.new.base c.run_first.new.output in
    let n = c.in-Ok.len in
    let one = subst (λ b. RunsFirst c.args.now c.args.number b (Ok n) middle new) c.behind.ensures c.in-Ok.ensures.runs in
    record {
      ran =
          line-next c.args.now c.args.number bytes c.loop-len.used n false (drop (c.loop-len.used + (n + 1)) bytes) old.stage middle.stage new.stage i.frame i.ran one.0 one.1.0
          (λ _. sym (drop-drop (n + 1) c.loop-len.used bytes));
      frame = frames-more old.stage.values.frame middle.stage.values.frame new.stage.values.frame c.args.now i.frame one.1.0.frame;
      fresh = one.1.0.fresh;
      still = one.1.1 ∙ i.still;
      goes = taken-on i.goes c.in-Ok.ensures.goes;
      within = let inside = one.0.inside in omega (arith, length-drop c.loop-len.used bytes, inside, i.within);
      spare = c.in-Ok.ensures.kept ∙ i.spare;
    }

pub returns-in-Err-clause-ran : goal.returns-in-Err-clause-ran
returns-in-Err-clause-ran g c =
    let i = c.loop-len.invariant in
    let old = seen_on g.S.Store.view g.T.Tape.view c.args.base.now c.args.output.now in
    let middle = seen_on g.S.Store.view g.T.Tape.view c.loop-len.base c.loop-len.output in
    let new = seen_on g.S.Store.view g.T.Tape.view c.run_first.new.base c.run_first.new.output in
    lines-end c.args.now c.args.number c.args.bytes.now c.loop-len.used old middle i.ran i.frame i.fresh i.still c.in-Err.end new c.sound.ensures
    (subst (λ b. RunsFirst c.args.now c.args.number b (Err c.in-Err.end) middle new) c.behind.ensures c.in-Err.ensures.runs)
    (λ q. ap g.S.Store.view (c.in-Err.ensures.rests q))
