use Rattle.std.proofs.Common.{◌≡◌, [], ◌∷◌, false, take, refl, sym, ap, ◌∙◌}
use Rattle.std.proofs.lemmas.Result.{err_from_is_err_and}
use Rattle.std.specs.Option.{is_some, option_map}
use Rattle.cache_run.specs.declared.devices.errors.RunError.TheVariants.{Moment, OutOfMemory}
use Rattle.cache_run.specs.Driver.Driven.{IsAnyFooting, asks_nobody}
use Rattle.cache_run.specs.Driver.Exchanges.{Fed}
use Rattle.cache_run.specs.Driver.Hosting.{exchange_of}
use Rattle.cache_run.proofs.driver.Exchanges.{fed-cut, footing-closed, holds-none, keeps-none, not-late, one-broke, one-went, some-mapped, moves-refused, refused-broke, refused-some}
use Rattle.cache_run.proofs.driver.Interludes.{but-exchange, but-rest}
use Rattle.cache_run.proofs.driver.feeding.feed_piece.Goals as goal

pub returns-in_default-clause-goes : goal.returns-in_default-clause-goes
returns-in_default-clause-goes g c =
    let closed = c.in_ok-given.ensures.closed (ap is_some c.in_default.is) in
    moves-refused _ _ _ _ (Fed _ c.now-moment.result false) (fed-cut _ _ _ c.args.count c.as_slice.ensures c.skip.ensures) refl refl (_, c.now-moment.ensures, refl) refl (_, refl)
    (λ r closes. g.met.H.Host.closes_behind _ _ _ r closed.1 closes) (closed.0, c.requires.known.1, refused-some (Fed _ c.now-moment.result false), refl, refl)

pub returns-in_err-given-clause-goes : goal.returns-in_err-given-clause-goes
returns-in_err-given-clause-goes g c =
    let p = err_from_is_err_and c.from_residual.result c.from_residual.ensures.1 in
    let doing = Fed _ c.now-moment.result false in
    rw (p.1, p.2) (moves-refused _ _ _ _ doing (fed-cut _ _ _ c.args.count c.as_slice.ensures c.skip.ensures) refl refl (_, c.now-moment.ensures, refl) refl (_, refl)
    (λ r closes. g.met.H.Host.closes_behind _ _ _ r c.in_err-given.ensures.rests closes) (refused-broke _ _ doing _ refl c.in_err-given.ensures.why))

pub returns-in_err-hand_out-clause-goes : goal.returns-in_err-hand_out-clause-goes
returns-in_err-hand_out-clause-goes g c =
    let p = err_from_is_err_and c.from_residual-in_err-hand_out.result c.from_residual-in_err-hand_out.ensures.1 in
    let came = rw c.in-Some.is at c.in_ok-given.ensures.came in
    let handed = c.hand_out.ensures in
    let sent = c.in_err-hand_out.ensures.sent in
    rw (p.1, p.2) (one-broke g.H.Host.LENT _ _ _ _ (exchange_of (Fed _ c.now-moment.result c.in-Some.given.held) c.in-Some.given) came.0 (record { rest = c.args.session.now.taken.items; leaves = refl; keeps = handed.keeps })
    (fed-cut _ _ _ c.args.count c.as_slice.ensures (handed.same.1 ∙ c.skip.ensures)) (_, c.now-moment.ensures, refl) refl _ (not-late _ _ c.in_err-hand_out.ensures.why) sent.0 sent.1)

pub returns-then-held-clause-goes : goal.returns-then-held-clause-goes
returns-then-held-clause-goes g c =
    let came = rw c.in-Some.is at c.in_ok-given.ensures.came in
    let handed = c.hand_out.ensures in
    one-broke g.H.Host.LENT _ _ _ _ (exchange_of (Fed _ c.now-moment.result c.in-Some.given.held) c.in-Some.given) came.0 (record { rest = c.args.session.now.taken.items; leaves = refl; keeps = handed.keeps })
    (fed-cut _ _ _ c.args.count c.as_slice.ensures (handed.same.1 ∙ c.skip.ensures)) (_, c.now-moment.ensures, refl) refl OutOfMemory (λ is. let h : OutOfMemory ≡ Moment = is in cc) _ c.in_ok-hand_out.ensures.sent.1

pub returns-clause-goes : goal.returns-clause-goes
returns-clause-goes g c =
    let came = rw c.in-Some.is at c.in_ok-given.ensures.came in
    let handed = c.hand_out.ensures in
    let given = c.in-Some.given in
    one-went g.H.Host.LENT _ _ _ _ (exchange_of (Fed _ c.now-moment.result given.held) given) came.0 (record { rest = c.args.session.now.taken.items; leaves = refl; keeps = handed.keeps })
    (fed-cut _ _ _ c.args.count c.as_slice.ensures (handed.same.1 ∙ c.skip.ensures)) (_, c.now-moment.ensures, refl) refl IsAnyFooting (λ is. footing-closed given.owed.closing given.owed.waits (sym handed.footing ∙ is))
    (λ is empty settled. record {
      none = keeps-none (option_map (λ loads. loads.items) given.owed.loads) c.args.session.now.taken.items _ handed.keeps (some-mapped (λ loads. loads.items) given.owed.loads (came.1.wanted is refl)) empty;
      all = holds-none (take c.args.count c.as_slice.result.now) c.now-moment.result given.held given.owed.closing c.if-held.false;
    }) c.in_ok-hand_out.ensures.sent

pub returns-in_default-clause-among : goal.returns-in_default-clause-among
returns-in_default-clause-among g c =
    let closed = c.in_ok-given.ensures.closed (ap is_some c.in_default.is) in
    but-rest g.H.Host g.K.Clock.reads asks_nobody _ (c.now-moment.result ∷ []) [] _ _ closed.1 (_, c.now-moment.ensures, refl) refl

pub returns-in_err-given-clause-among : goal.returns-in_err-given-clause-among
returns-in_err-given-clause-among g c = but-rest g.H.Host g.K.Clock.reads asks_nobody _ (c.now-moment.result ∷ []) [] _ _ c.in_err-given.ensures.rests (_, c.now-moment.ensures, refl) refl

pub returns-in_err-hand_out-clause-among : goal.returns-in_err-hand_out-clause-among
returns-in_err-hand_out-clause-among g c =
    let came = rw c.in-Some.is at c.in_ok-given.ensures.came in
    but-exchange g.H.Host g.K.Clock.reads asks_nobody _ (exchange_of (Fed _ c.now-moment.result c.in-Some.given.held) c.in-Some.given) (c.now-moment.result ∷ []) [] _ _ came.0 (_, c.now-moment.ensures, refl) refl

pub returns-then-held-clause-among : goal.returns-then-held-clause-among
returns-then-held-clause-among g c =
    let came = rw c.in-Some.is at c.in_ok-given.ensures.came in
    but-exchange g.H.Host g.K.Clock.reads asks_nobody _ (exchange_of (Fed _ c.now-moment.result c.in-Some.given.held) c.in-Some.given) (c.now-moment.result ∷ []) [] _ _ came.0 (_, c.now-moment.ensures, refl) refl

pub returns-clause-among : goal.returns-clause-among
returns-clause-among g c =
    let came = rw c.in-Some.is at c.in_ok-given.ensures.came in
    but-exchange g.H.Host g.K.Clock.reads asks_nobody _ (exchange_of (Fed _ c.now-moment.result c.in-Some.given.held) c.in-Some.given) (c.now-moment.result ∷ []) [] _ _ came.0 (_, c.now-moment.ensures, refl) refl
