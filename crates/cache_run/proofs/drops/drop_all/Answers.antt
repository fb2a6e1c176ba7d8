use Rattle.std.proofs.Common.{ℕ, ◌==◌, ◌+◌, List, [], take, get_or, refl, ap, arith, subst, take_all}
use Rattle.std.proofs.lemmas.List.{take_more}
use Rattle.audit_model.specs.declared.input.LoadId.{LoadId}
use Rattle.cache_spaces.specs.Calls.{At}
use Rattle.cache_run.specs.Loading.{is_left}
use Rattle.cache_run.specs.Lent.{Drops}
use Rattle.cache_run.proofs.Dropping.{dropped-next, dropped-none}
use Rattle.cache_spaces.proofs.Placing.{at-more, at-same}
use Rattle.cache_run.proofs.drops.drop_all.Goals as goal

pub loop-load-init : goal.loop-load-init
loop-load-init c = let i = c.requires.known in record { dropped = at-same (Drops c.args.conn.number (λ n. is_left n [])) _ _ i.space i.at (dropped-none c.args.conn.number i.space); known = i }

pub loop-load-preserved : goal.loop-load-preserved
loop-load-preserved c =
    let number = c.args.conn.number in
    let before = take c.loop-load.load-index c.args.loads.now in
    let after = take (c.loop-load.load-index + 1) c.args.loads.now in
    let out = get_or c.args.loads.now c.loop-load.load-index c.loop-load-item.result in record {
      dropped = at-more (Drops number (λ n. is_left n before)) (Drops number (λ n. n == out.0.number)) (Drops number (λ n. is_left n after)) _ _ _ _ c.loop-load.invariant.dropped
          (subst (λ load. At c.loop-load.service c.drop_load.new.service c.args.conn.namespace (Drops number (λ n. n == load))) (ap (λ (o : LoadId × List ℕ). o.0.number) c.loop-load-item.is) c.drop_load.ensures.dropped)
          (λ x y z p q. dropped-next number before after out out.0.number x y z (take_more c.args.loads.now c.loop-load.load-index c.loop-load-item.result c.loop-load-test.true) refl p q);
      known = c.drop_load.ensures.known;
    }

pub returns-clause-dropped : goal.returns-clause-dropped
returns-clause-dropped c =
    subst (λ outs. At c.args.service.now c.loop-load.service c.args.conn.namespace (Drops c.args.conn.number (λ n. is_left n outs))) (take_all c.loop-load.load-index c.args.loads.now (omega (arith, c.loop-load-test.false))) c.loop-load.invariant.dropped
