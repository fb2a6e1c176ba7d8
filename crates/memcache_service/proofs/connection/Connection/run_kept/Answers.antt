use Rattle.std.proofs.Common.{◌∙◌, List, ℕ, ap, sym, subst, drop, true≢false}
use Rattle.std.proofs.lemmas.Result.{err_from_is_err_and}
use Rattle.memcache_service.proofs.Feeding.{ran-as}
use Rattle.memcache_service.specs.Serving.{HasLacked, HasRun}
use Rattle.memcache_service.proofs.connection.Connection.run_kept.Goals as goal

pub returns-in_err-used-clause-lacks : goal.returns-in_err-used-clause-lacks
returns-in_err-used-clause-lacks g c =
    let p = err_from_is_err_and c.from_residual.result c.from_residual.ensures.1 in
    let s = c.args.self.now in
    rw p.1 (subst (λ (bytes : List ℕ). HasLacked g.T.Shelf c.args.moment c.args.stock.now.most c.args.stock.now bytes s.skip s.output.items c.run.new.stock c.run.new.self.output.items) (c.as_slice.ensures.value ∙ ap (λ z. z.items) c.swap.ensures.y_after) c.in_err-used.ensures.lacks)

pub returns-then-not-self-clause-ran : goal.returns-then-not-self-clause-ran
returns-then-not-self-clause-ran g c =
    let s = c.args.self.now in
    let left = drop c.in_ok-used.used c.as_slice.result.now in (
      left,
      subst (λ (bytes : List ℕ). HasRun g.T.Shelf c.args.moment c.args.stock.now.most c.args.stock.now bytes s.skip s.output.items c.run.new.stock left c.put_back.new.self) (c.as_slice.ensures.value ∙ ap (λ z. z.items) c.swap.ensures.y_after)
          (ran-as g.T.Shelf c.args.moment c.args.stock.now.most c.args.stock.now c.as_slice.result.now s.skip s.output.items c.run.new.stock left c.run.new.self c.put_back.new.self c.put_back.ensures.rest c.in_ok-used.ensures.ran),
      λ still. c.put_back.ensures.kept ∙ c.drop_front.ensures ∙ ap (drop c.in_ok-used.used) (sym c.as_slice.ensures.value),
    )

pub returns-else-not-self-clause-ran : goal.returns-else-not-self-clause-ran
returns-else-not-self-clause-ran g c =
    let s = c.args.self.now in
    let left = drop c.in_ok-used.used c.as_slice.result.now in (
      left,
      subst (λ (bytes : List ℕ). HasRun g.T.Shelf c.args.moment c.args.stock.now.most c.args.stock.now bytes s.skip s.output.items c.run.new.stock left c.run.new.self) (c.as_slice.ensures.value ∙ ap (λ z. z.items) c.swap.ensures.y_after) c.in_ok-used.ensures.ran,
      λ still. absurd (true≢false (sym c.if-not-self.false ∙ still)),
    )
