use Rattle.std.proofs.Common.{◌≡◌, true, false, arith, sym, subst}
use Rattle.std.proofs.lemmas.Result.{err_from_is_err_and}
use Rattle.cache_run.specs.Driver.Exchanges.{Fed}
use Rattle.cache_run.specs.Driver.Hosting.{exchange_of}
use Rattle.cache_run.specs.Lent.{ComesAt}
use Rattle.cache_run.proofs.Driving.{at-comes}
use Rattle.cache_run.proofs.lent.LentHost.feed.Goals as goal

pub returns : goal.returns
returns c =
    let given = c.give.result in record {
      came = (
        subst (λ held. ComesAt c.args.conn c.args.place.now (exchange_of (Fed c.args.piece.now c.args.moment held) given) c.give.new.service) (sym c.give.ensures.suits.1)
            (at-comes _ _ _ _ c.args.conn.number (Fed c.args.piece.now c.args.moment c.in_ok-held.held) given c.in_ok-held.ensures.fed c.give.ensures.gives),
        c.give.ensures.suits.0,
      );
      closed = λ none. let no : true ≡ false = none in cc;
      rests = tt;
      known = c.give.ensures.known;
      count = omega arith;
      why = tt;
    }

pub returns-in_err-held : goal.returns-in_err-held
returns-in_err-held c =
    let p = err_from_is_err_and c.from_residual.result c.from_residual.ensures.1 in
    rw (p.1, p.2) (record { came = tt; closed = tt; rests = c.in_err-held.ensures.unchanged; known = c.in_err-held.ensures.known; count = omega arith; why = c.in_err-held.ensures.why })
