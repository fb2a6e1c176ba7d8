use Rattle.std.proofs.Common.{refl, sym, subst}
use Rattle.std.proofs.lemmas.Result.{err_from_is_err_and}
use Rattle.cache_run.proofs.driver.Interludes.{but-more, but-still}
use Rattle.cache_link.specs.Served.{IsServed}
use Rattle.cache_link.proofs.Dialogues.{same-together}
use Rattle.cache_link.proofs.Hearing.{hears-same, hears-then}
use Rattle.cache_link.proofs.Serving.{served-broken, served-fetched}
use Rattle.cache_link.proofs.link.Link.serve.Goals as goal

pub returns-in_err-read-clause-goes : goal.returns-in_err-read-clause-goes
returns-in_err-read-clause-goes g c =
    let p = err_from_is_err_and c.from_residual.result c.from_residual.ensures.1 in
    λ start a contents x.
    rw p.1 (served-broken g.H.Host g.K.Clock.reads g.D.Loader.loads c.requires.shared start a _ _ _ (served-fetched g.H.Host g.K.Clock.reads g.D.Loader.loads c.requires.shared g.I.Read.remaining c.args.reader.now c.read.new.reader start a c.args.self.now c.read.new.self _ contents c.requires.going.0 c.read.ensures.fetched x))

pub returns-then-not-has_work-clause-goes : goal.returns-then-not-has_work-clause-goes
returns-then-not-has_work-clause-goes g c = λ start a contents x.
    subst (λ z. IsServed g.H.Host g.K.Clock.reads g.D.Loader.loads start a c.read.new.self z (record { remaining = g.I.Read.remaining c.read.new.reader.inner; contents = contents }))
    (sym (same-together c.args.place.now c.args.place.now c.args.tools.now.clock c.read.new.tools.clock c.args.tools.now.loader c.read.new.tools.loader refl c.read.ensures.same.0 c.read.ensures.same.1))
    (served-fetched g.H.Host g.K.Clock.reads g.D.Loader.loads c.requires.shared g.I.Read.remaining c.args.reader.now c.read.new.reader start a c.args.self.now c.read.new.self _ contents c.requires.going.0 c.read.ensures.fetched x)

pub returns-clause-goes : goal.returns-clause-goes
returns-clause-goes g c = λ start a contents x.
    c.answer-2.ensures.goes start a _
    (subst (λ z. IsServed g.H.Host g.K.Clock.reads g.D.Loader.loads start a c.read.new.self z (record { remaining = g.I.Read.remaining c.read.new.reader.inner; contents = contents }))
    (sym (same-together c.args.place.now c.args.place.now c.args.tools.now.clock c.read.new.tools.clock c.args.tools.now.loader c.read.new.tools.loader refl c.read.ensures.same.0 c.read.ensures.same.1))
    (served-fetched g.H.Host g.K.Clock.reads g.D.Loader.loads c.requires.shared g.I.Read.remaining c.args.reader.now c.read.new.reader start a c.args.self.now c.read.new.self _ contents c.requires.going.0 c.read.ensures.fetched x))

pub returns-then-eq-clause-hears : goal.returns-then-eq-clause-hears
returns-then-eq-clause-hears g c = hears-same _ _ _ _ _ c.answer.ensures.report

pub returns-clause-hears : goal.returns-clause-hears
returns-clause-hears g c = hears-then _ _ _ _ _ _ c.answer-2.ensures.report c.read.ensures.hears

pub returns-in_err-read-clause-among : goal.returns-in_err-read-clause-among
returns-in_err-read-clause-among g c = but-still g.H.Host g.K.Clock.reads g.D.Loader.loads _ _ _ _ _ _ c.read.ensures.same.0 c.read.ensures.same.1

pub returns-then-not-has_work-clause-among : goal.returns-then-not-has_work-clause-among
returns-then-not-has_work-clause-among g c = but-still g.H.Host g.K.Clock.reads g.D.Loader.loads _ _ _ _ _ _ c.read.ensures.same.0 c.read.ensures.same.1

pub returns-then-eq-clause-among : goal.returns-then-eq-clause-among
returns-then-eq-clause-among g c = c.answer.ensures.among

pub returns-clause-among : goal.returns-clause-among
returns-clause-among g c = but-more g.H.Host g.K.Clock.reads g.D.Loader.loads _ _ _ _ _ c.read.ensures.fetched.conn (but-still g.H.Host g.K.Clock.reads g.D.Loader.loads _ _ _ _ _ _ c.read.ensures.same.0 c.read.ensures.same.1) c.answer-2.ensures.among
