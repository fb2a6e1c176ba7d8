use Rattle.std.proofs.Common.{[], ◌∷◌, length, vec_len, refl, sym, ap, arith, ◌∙◌}
use Rattle.std.proofs.lemmas.Result.{err_from_is_err_and}
use Rattle.std.specs.Option.{option_copied, option_map}
use Rattle.cache_run.specs.Driver.Exchanges.{GivenUp, Looked, Settled}
use Rattle.cache_run.specs.Driver.Hosting.{exchange_of}
use Rattle.cache_run.proofs.driver.Exchanges.{footing-closed, keeps-none, moves-refused, one-settles, refused-broke, some-mapped, asked-once, hand-last, none-last, settle-goes, wanted-by, why-map}
use Rattle.cache_run.proofs.driver.Interludes.{but-exchange, but-rest}
use Rattle.cache_run.proofs.driver.settling.settle_one.Goals as goal

pub returns-in_default-clause-goes : goal.returns-in_default-clause-goes
returns-in_default-clause-goes g c =
    let handed = c.hand_out.ensures in
    let given = c.await_owed-given.result in
    one-settles g.H.Host.LENT _ _ _ _ (exchange_of Looked given) c.await_owed-given.ensures.came (record { rest = c.args.session.now.taken.items; leaves = refl; keeps = handed.keeps }) (sym handed.same.1) refl refl
    (λ is. footing-closed given.owed.closing given.owed.waits (sym handed.footing ∙ is))
    (λ is none. keeps-none (option_map (λ loads. loads.items) given.owed.loads) c.args.session.now.taken.items _ handed.keeps (some-mapped (λ loads. loads.items) given.owed.loads (c.await_owed-given.ensures.suits.wanted is refl)) none) _ c.hand_out.result handed.sent handed.why

pub returns-in_default-clause-why : goal.returns-in_default-clause-why
returns-in_default-clause-why g c = why-map c.hand_out.result (λ no. no) (λ failed. failed) (λ no. absurd no) (λ no. absurd no) c.hand_out.ensures.why

pub returns-in_default-clause-asked : goal.returns-in_default-clause-asked
returns-in_default-clause-asked g c =
    let none = none-last c.args.session.now.taken.items _ _ c.deref.ensures.value c.last.ensures.value (ap option_copied c.in_default.is) in λ lent. absurd (c.requires.known.0.ready lent (c.requires.known.1 none))

pub returns-in_err-given-clause-goes : goal.returns-in_err-given-clause-goes
returns-in_err-given-clause-goes g c =
    let doing = Settled (GivenUp _ (record { key = c.as_slice.result.now; answer = _ })) c.now-moment.result in
    let p = err_from_is_err_and c.from_residual.result c.from_residual.ensures.1 in
    rw (p.1, p.2) (moves-refused _ _ _ _ doing refl refl refl (_, c.now-moment.ensures, refl) (_, c.load-said.ensures, refl)
    (_, hand-last c.args.session.now.taken.items _ _ c.in-Some.field-0.now _ _ c.as_slice.result.now c.deref.ensures.value c.last.ensures.value (ap option_copied c.in-Some.is) c.as_slice.ensures refl refl)
    (λ r closes. g.met.H.Host.closes_behind _ _ _ r c.in_err-given.ensures.rests closes) (refused-broke _ _ doing _ refl c.in_err-given.ensures.why))

pub returns-in_err-given-clause-asked : goal.returns-in_err-given-clause-asked
returns-in_err-given-clause-asked g c = λ lent. asked-once g.D.Loader.loads _ _ _ _ c.load-said.ensures

pub returns-clause-goes : goal.returns-clause-goes
returns-clause-goes g c =
    let came = c.in_ok-given.ensures.came c.as_slice.result.now in
    let count = c.args.session.now.taken.ok in
    settle-goes g.H.Host.LENT _ _ _ _ _ c.now-moment.result _ _ _
    (hand-last c.args.session.now.taken.items _ _ c.in-Some.field-0.now _ (vec_len c.args.session.now.taken) c.as_slice.result.now c.deref.ensures.value c.last.ensures.value (ap option_copied c.in-Some.is) c.as_slice.ensures (omega (arith, count)) c.pop.ensures.rest) c.now-moment.ensures
    c.load-said.ensures c.hand_out-2.ensures.same.1 _ c.in_ok-given.given came.0 came.1 came.2 c.hand_out-2.ensures.keeps c.hand_out-2.ensures.footing c.in_ok-given.ensures.suits
    (wanted-by (length c.args.session.now.taken.items) c.len-wants_loads.result (let n = c.len-wants_loads.ensures in omega (arith, n, count))) _ c.hand_out-2.result c.hand_out-2.ensures.sent c.hand_out-2.ensures.why

pub returns-clause-asked : goal.returns-clause-asked
returns-clause-asked g c = λ lent. asked-once g.D.Loader.loads _ _ _ _ c.load-said.ensures

pub returns-in_default-clause-among : goal.returns-in_default-clause-among
returns-in_default-clause-among g c = but-exchange g.H.Host g.K.Clock.reads g.D.Loader.loads _ (exchange_of Looked c.await_owed-given.result) [] [] _ _ c.await_owed-given.ensures.came refl refl

pub returns-in_err-given-clause-among : goal.returns-in_err-given-clause-among
returns-in_err-given-clause-among g c =
    but-rest g.H.Host g.K.Clock.reads g.D.Loader.loads _ (c.now-moment.result ∷ []) (record { key = c.as_slice.result.now; answer = _ } ∷ []) _ _ c.in_err-given.ensures.rests (_, c.now-moment.ensures, refl) (_, c.load-said.ensures, refl)

pub returns-clause-among : goal.returns-clause-among
returns-clause-among g c =
    let came = c.in_ok-given.ensures.came c.as_slice.result.now in
    but-exchange g.H.Host g.K.Clock.reads g.D.Loader.loads _ (exchange_of came.0 c.in_ok-given.given) (c.now-moment.result ∷ []) (record { key = c.as_slice.result.now; answer = _ } ∷ []) _ _ came.2 (_, c.now-moment.ensures, refl) (_, c.load-said.ensures, refl)
