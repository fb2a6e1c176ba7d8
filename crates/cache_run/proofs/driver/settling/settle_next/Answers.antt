use Rattle.std.proofs.Common.{◌≡◌, ◌∙◌, true, false, sym, arith, Err}
use Rattle.std.proofs.lemmas.Result.{err_from_is_err_and}
use Rattle.cache_run.proofs.devices.Sending.{failed_after}
use Rattle.cache_run.specs.Driver.Driven.{IsClosed}
use Rattle.cache_run.proofs.driver.Exchanges.{moves-comes, moves-on, closed-left, moves-beside, why-map}
use Rattle.cache_run.proofs.driver.Interludes.{but-beside, but-more}
use Rattle.cache_run.proofs.driver.settling.settle_next.Goals as goal
use Rattle.cache_run.proofs.driver.settling.settle_next.Goals.{else-has_no_load-via-then-has_no_load+else-eq, else-has_no_load-via-else-has_no_load}

pub returns-in_err-settle_one : goal.returns-in_err-settle_one
returns-in_err-settle_one g c =
    let p = err_from_is_err_and c.from_residual.result c.from_residual.ensures.1 in
    let settled = c.in_err-settle_one.ensures in rw (p.1, p.2) (record {
      same = settled.same;
      known = settled.known;
      goes = λ remaining start a goes. moves-comes _ _ remaining _ _ settled.same.0 goes.talks (λ is. settled.same.1 ∙ goes.whole is) (Err _) settled.goes;
      among = settled.among;
      why = settled.why;
      forward = settled.forward;
      asked = settled.asked;
    })

pub returns-then-eq : goal.returns-then-eq
returns-then-eq g c =
    let counted = g.H.Host.counted in
    let settled = c.in_ok-settle_one.ensures in
    let fed = c.feed_piece.ensures in record {
      same = (fed.same.0 ∙ settled.same.0, fed.same.1 ∙ settled.same.1);
      known = fed.known;
      goes = λ remaining start a goes.
          let on = moves-on _ _ remaining _ _ settled.same.0 goes.talks IsClosed settled.goes in
          moves-comes _ _ remaining _ _ fed.same.0 on.talks (λ is. fed.same.1 ∙ settled.same.1 ∙ goes.whole is) c.feed_piece.result (moves-beside g.D.Loader.loads c.settle_one.new.loader fed.goes);
      among = but-more g.H.Host g.K.Clock.reads g.D.Loader.loads _ _ _ _ _ settled.same.0 settled.among (but-beside g.H.Host g.K.Clock.reads g.D.Loader.loads _ _ _ _ _ c.settle_one.new.loader fed.among);
      why = why-map c.feed_piece.result (λ no. no) (failed_after _ _ _ settled.forward.0 fed.forward.0)
          (g.met.H.Host.exhausts_within (counted c.args.place.now) (counted c.settle_one.new.place) (counted c.feed_piece.new.place) (counted c.feed_piece.new.place) settled.forward.1 (omega arith)) (λ late. late) fed.why;
      forward = (omega (arith, settled.forward.0, fed.forward.0), omega (arith, settled.forward.1, fed.forward.1));
      asked = settled.asked;
    }

pub returns : goal.returns
returns g c =
    let settled = c.in_ok-settle_one.ensures in record {
      same = settled.same;
      known = settled.known;
      goes = λ remaining start a goes.
          let on = moves-on _ _ remaining _ _ settled.same.0 goes.talks IsClosed settled.goes in record {
            talks = on.talks;
            stands = record {
              closed = on.stands.closed;
              done = λ is none all. on.stands.done is none (closed-left c.settle_one.new.session.footing (settled.known.ready is) (λ ready. elim c.else-has_no_load.branch [
                | else-has_no_load-via-then-has_no_load+else-eq w ↦ let same = rw ready at w.eq.ensures in let no : true ≡ false = sym same ∙ w.if-eq.false in cc
                | else-has_no_load-via-else-has_no_load w ↦ c.has_no_load.ensures.some w.if-has_no_load.false none
              ]));
            };
            whole = λ is. settled.same.1 ∙ goes.whole is;
          };
      among = settled.among;
      why = tt;
      forward = settled.forward;
      asked = settled.asked;
    }
