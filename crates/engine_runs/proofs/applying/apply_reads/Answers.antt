use Rattle.std.proofs.Common.{refl, ap, sym, ◌∙◌, subst, arith, length}
use Rattle.engine_reference.specs.Runs.{all_applied}
use Rattle.engine_cells.specs.Stretches.{Stretch}
use Rattle.engine_runs.proofs.Stretching.{stretch-start, walk-read, read-on, reads-left, drop-all}
use Rattle.engine_runs.proofs.applying.apply_reads.Goals as goal

pub loop-index-init : goal.loop-index-init
loop-index-init g c = record {
  stretch = λ answers moment. stretch-start answers moment c.args.tables.now.state;
  all = refl;
  end = sym c.number_of_reads-index-end.ensures;
}

pub loop-index-preserved : goal.loop-index-preserved
loop-index-preserved g c =
    let s = c.loop-index.tables.state in
    let u = c.apply_read.ensures in
    let is = ap (λ t. t.state) u.2 in
    record {
      stretch = λ answers moment. walk-read answers moment c.args.tables.now.state s _ c.loop-index.index u.0 (c.loop-index.invariant.stretch answers moment) u.1 is;
      all = read-on s _ c.loop-index.index u.0 u.1 is ∙ c.loop-index.invariant.all;
      end = ap (λ t. length t.reads) is ∙ ap (λ l. length l) (reads-left u.0 s) ∙ c.loop-index.invariant.end;
    }

pub returns-clause-stretch : goal.returns-clause-stretch
returns-clause-stretch g c = λ answers moment.
    let s = c.loop-index.tables.state in
    let none = drop-all s.reads c.loop-index.index (omega (arith, c.loop-index.invariant.end)) in
    subst (λ t. Stretch answers moment c.args.tables.now.state t) (ap (λ rs. record s { reads = rs }) none ∙ sym (ap (λ t. t.state) c.end_reads.ensures)) (c.loop-index.invariant.stretch answers moment)

pub returns-clause-all : goal.returns-clause-all
returns-clause-all g c =
    let s = c.loop-index.tables.state in
    let none = drop-all s.reads c.loop-index.index (omega (arith, c.loop-index.invariant.end)) in
    ap (λ t. all_applied t.state) c.end_reads.ensures ∙ ap (λ rs. all_applied (record s { reads = rs })) (sym none) ∙ c.loop-index.invariant.all
