use Rattle.std.proofs.Common.{refl, ap, sym, ◌∙◌, subst, arith, length, []}
use Rattle.engine_reference.specs.Runs.{all_applied}
use Rattle.engine_cells.specs.Stretches.{Stretch}
use Rattle.engine_reference.proofs.SoundSteps.{after_write-frame}
use Rattle.engine_runs.proofs.Stretching.{stretch-start, walk-write, write-on, nothing-left, drop-all}
use Rattle.engine_runs.proofs.applying.apply_writes.Goals as goal

pub loop-index-init : goal.loop-index-init
loop-index-init g c = record {
  stretch = λ answers moment. stretch-start answers moment c.args.tables.now.state;
  all = refl;
  read = c.requires;
  end = sym c.number_of_writes-index-end.ensures;
}

pub loop-index-preserved : goal.loop-index-preserved
loop-index-preserved g c =
    let s = c.loop-index.tables.state in
    let u = c.apply_at.ensures in
    let f = after_write-frame u.0 s in
    record {
      stretch = λ answers moment. walk-write answers moment c.args.tables.now.state s _ c.loop-index.index u.0 c.loop-index.invariant.read (c.loop-index.invariant.stretch answers moment) u.1 u.2;
      all = write-on s _ c.loop-index.index u.0 c.loop-index.invariant.read u.1 u.2 ∙ c.loop-index.invariant.all;
      read = ap (λ t. t.reads) u.2 ∙ f.reads ∙ c.loop-index.invariant.read;
      end = ap (λ t. length t.writes) u.2 ∙ ap (λ l. length l) f.writes ∙ c.loop-index.invariant.end;
    }

pub returns-clause-stretch : goal.returns-clause-stretch
returns-clause-stretch g c = λ answers moment.
    let s = c.loop-index.tables.state in
    let none = drop-all s.writes c.loop-index.index (omega (arith, c.loop-index.invariant.end)) in
    subst (λ t. Stretch answers moment c.args.tables.now.state t) (ap (λ ws. record s { writes = ws }) none ∙ sym (ap (λ t. t.state) c.end_writes.ensures)) (c.loop-index.invariant.stretch answers moment)

pub returns-clause-applied : goal.returns-clause-applied
returns-clause-applied g c = record {
  reads = ap (λ t. t.state.reads) c.end_writes.ensures ∙ c.loop-index.invariant.read;
  writes = ap (λ t. t.state.writes) c.end_writes.ensures;
}

pub returns-clause-all : goal.returns-clause-all
returns-clause-all g c =
    let s = c.loop-index.tables.state in
    let none = drop-all s.writes c.loop-index.index (omega (arith, c.loop-index.invariant.end)) in
    ap (λ t. t.state) c.end_writes.ensures ∙ sym (nothing-left (record s { writes = [] }) c.loop-index.invariant.read refl) ∙ ap (λ ws. all_applied (record s { writes = ws })) (sym none) ∙ c.loop-index.invariant.all
