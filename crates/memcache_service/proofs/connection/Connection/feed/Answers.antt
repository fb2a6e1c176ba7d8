use Rattle.std.proofs.Common.{List, ℕ, ◌++◌, ◌-◌, ap, sym, subst, drop, length}
use Rattle.memcache_service.specs.Serving.{HasLacked}
use Rattle.memcache_service.proofs.connection.Connection.feed.Goals as goal

pub returns-in-Ok-clause-feeds : goal.returns-in-Ok-clause-feeds
returns-in-Ok-clause-feeds g c = λ still. c.in-Ok.ensures.feeds

pub returns-in-Err-clause-lacks : goal.returns-in-Err-clause-lacks
returns-in-Err-clause-lacks g c =
    let s = c.args.self.now in
    let first = c.args.stock.now in (
      subst (λ (said : List ℕ). HasLacked g.T.Shelf c.args.moment first.most first (s.input.items ++ drop s.skip c.args.piece.now) (s.skip - length c.args.piece.now) s.output.items c.take_in.new.stock said)
          (sym (ap (λ k. k.output.items) c.close.ensures)) c.in-Err.ensures.lacks,
      ap (λ k. k.is_closed) c.close.ensures,
    )
