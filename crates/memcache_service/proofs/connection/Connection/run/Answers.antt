use Rattle.std.proofs.Common.{◌+◌, ◌-◌, ◌<◌, ◌≤◌, ◌∙◌, Bool, drop, length, refl, sym, subst, arith}
use Rattle.std.proofs.lemmas.Result.{err_from_is_err_and}
use Rattle.memcache_lines.specs.Said.{asks}
use Rattle.memcache_model.proofs.Fronts.{takes}
use Rattle.memcache_model.specs.Commands.{Request}
use Rattle.memcache_model.specs.Grammar.{part, request}
use Rattle.memcache_service.proofs.Parting.{arrived-from, lacked, served_one, some-arrived}
use Rattle.memcache_service.specs.Serving.{AreServed, no_more}
use Rattle.memcache_service.proofs.connection.Connection.run.Goals as goal

pub loop-moment-init : goal.loop-moment-init
loop-moment-init g c = record {
  within = omega arith;
  served =
      subst (λ (ends : Bool). AreServed g.T.Shelf c.args.moment c.args.stock.now.most c.args.stock.now c.args.bytes.now c.args.self.now.skip c.args.self.now.output.items c.args.stock.now c.args.bytes.now c.args.self.now.skip c.args.self.now.output.items ends) (sym c.requires.going) no_more;
  input = refl;
  may_follow = c.requires.in_time;
  most = refl;
}

pub loop-moment-smaller : goal.loop-moment-smaller
loop-moment-smaller g c =
    let bytes = c.args.bytes.now in
    let start = c.loop-moment.start in
    let r : Request = record { command = asks c.in-Request.request.command; quiet = c.in-Request.request.quiet } in
    let most = c.loop-moment.stock.most in
    let arrives = arrived-from most most bytes start (request r c.in-Request.used) c.in-Request.ensures refl in
    let t : 1 ≤ c.in-Request.used = takes most (drop start bytes) r c.in-Request.used arrives in
    let m = c.min-there.ensures in
    let s : start < length bytes = some-arrived most bytes start r c.in-Request.used arrives in
    omega (arith, t, m, s)

pub loop-moment-preserved : goal.loop-moment-preserved
loop-moment-preserved g c =
    let bytes = c.args.bytes.now in
    let start = c.loop-moment.start in
    let r : Request = record { command = asks c.in-Request.request.command; quiet = c.in-Request.request.quiet } in
    let most = c.args.stock.now.most in
    let were = c.loop-moment.invariant in
    let m = c.min-there.ensures in
    let first = c.args.stock.now in
    let before = c.args.self.now.output.items in
    let skipped = c.args.self.now.skip in
    let still = c.may_run.ensures.going c.loop-moment-test.true in
    let going = subst (λ (ends : Bool). AreServed g.T.Shelf c.args.moment most first bytes skipped before c.loop-moment.stock (drop start bytes) c.loop-moment.self.skip c.loop-moment.self.output.items ends) still were.served in
    record {
      within = omega (arith, m, were.within);
      served = subst (λ (ends : Bool). AreServed g.T.Shelf c.args.moment most first bytes skipped before c.serve.new.stock (drop (start + c.min-there.result) bytes) (c.in-Request.used - c.min-there.result) c.serve.new.self.output.items ends) (sym c.in_ok-serve-in-Request.ensures.ended)
          (served_one g.T.Shelf c.args.moment most first bytes skipped before c.loop-moment.stock c.serve.new.stock r c.in-Request.used c.loop-moment.self.skip start c.min-there.result c.loop-moment.self.output.items c.serve.new.self.output.items were.within m going
          (arrived-from most c.loop-moment.stock.most bytes start (request r c.in-Request.used) c.in-Request.ensures were.most) c.in_ok-serve-in-Request.ensures.served);
      input = c.serve.ensures.kept ∙ were.input;
      may_follow = c.serve.ensures.may_follow;
      most = c.serve.ensures.most ∙ were.most;
    }

pub returns-in-Part-clause-ran : goal.returns-in-Part-clause-ran
returns-in-Part-clause-ran g c = record {
  served = c.loop-moment.invariant.served;
  all = λ still few. arrived-from c.args.stock.now.most c.loop-moment.stock.most c.args.bytes.now c.loop-moment.start part c.in-Part.ensures c.loop-moment.invariant.most;
}

pub returns-clause-ran : goal.returns-clause-ran
returns-clause-ran g c = record {
  served = c.loop-moment.invariant.served;
  all = λ still few. let many = c.may_run.ensures.full c.loop-moment-test.false still in absurd (omega (arith, many, few));
}

pub returns-in_err-serve-in-Request-clause-lacks : goal.returns-in_err-serve-in-Request-clause-lacks
returns-in_err-serve-in-Request-clause-lacks g c =
    let p = err_from_is_err_and c.from_residual.result c.from_residual.ensures.1 in
    let were = c.loop-moment.invariant in
    let refused = c.in_err-serve-in-Request.ensures.refused in
    rw p.1 (lacked g.T.Shelf c.args.moment c.args.stock.now.most c.args.stock.now c.args.bytes.now c.args.self.now.skip c.args.self.now.output.items c.loop-moment.stock c.serve.new.stock
    (drop c.loop-moment.start c.args.bytes.now) c.loop-moment.self.skip c.loop-moment.self.output.items c.serve.new.self.output.items c.loop-moment.self.is_closed
    (c.may_run.ensures.going c.loop-moment-test.true) were.served refused.0 refused.1)
