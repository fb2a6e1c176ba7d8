use Rattle.std.proofs.Common.{◌∙◌, [], ap, arith, drop}
use Rattle.std.proofs.lemmas.List.{drop_all}
use Rattle.cache_run.proofs.driver.Exchanges.{moves-beside, moves-comes, why-map}
use Rattle.cache_run.proofs.driver.Interludes.{but-beside}
use Rattle.cache_link.proofs.attending.take_step.Goals as goal

pub returns-then-not-has_no_load : goal.returns-then-not-has_no_load
returns-then-not-has_no_load g c =
    let next = c.settle_next.ensures in record {
      known = (next.known, next.same.0);
      goes = next.goes;
      among = next.among;
      why = why-map c.settle_next.result (λ no. no) (λ failed. tt) (λ used. tt) (λ late. late) next.why;
    }

pub returns : goal.returns
returns g c =
    let fed = c.feed_piece.ensures in record {
      known = (fed.known, fed.same.0);
      goes = λ remaining start a goes. moves-comes _ _ remaining _ _ fed.same.0 goes.talks
          (λ is. fed.same.1 ∙ ap (drop c.cut-count.result) (goes.whole is) ∙ drop_all c.cut-count.result [] (omega arith)) c.feed_piece.result (moves-beside g.D.Loader.loads c.args.loader.now fed.goes);
      among = but-beside g.H.Host g.K.Clock.reads g.D.Loader.loads _ _ _ _ _ c.args.loader.now fed.among;
      why = why-map c.feed_piece.result (λ no. no) (λ failed. tt) (λ used. tt) (λ late. late) fed.why;
    }
