use Rattle.std.proofs.Common.{◌≡◌, ◌∙◌, refl, sym, subst, rules}
use Rattle.std.proofs.lemmas.Result.{err_from_is_err_and}
use Rattle.cache_run.proofs.driver.Interludes.{but-more, but-still}
use Rattle.cache_link.specs.Served.{IsServed, wire}
use Rattle.cache_link.specs.declared.link.Next.TheVariants.{Input, Room, Over}
use Rattle.cache_link.proofs.Dialogues.{same-together}
use Rattle.cache_link.proofs.Hearing.{hears-then}
use Rattle.cache_link.proofs.Patience.{writes-sent}
use Rattle.cache_link.proofs.Serving.{broken-sent, not-ok, served-alike, served-broken, served-sent}
use Rattle.cache_link.proofs.link.Link.work.Goals as goal

pub returns-in_err-served-clause-goes : goal.returns-in_err-served-clause-goes
returns-in_err-served-clause-goes g c =
    let p = err_from_is_err_and c.from_residual.result c.from_residual.ensures.1 in
    λ start a x.
    rw p.1 (broken-sent g.H.Host g.K.Clock.reads g.D.Loader.loads c.requires.shared start a c.serve-served.new.self _ c.write_to-written.new.self _ c.write_to-written.ensures.sent (c.in_err-served.ensures.goes start a _ x), λ done. absurd (not-ok _ _ done))

pub returns-in_err-written-clause-goes : goal.returns-in_err-written-clause-goes
returns-in_err-written-clause-goes g c =
    let p = err_from_is_err_and c.from_residual-in_err-written.result c.from_residual-in_err-written.ensures.1 in
    λ start a x.
    rw p.1 (served-broken g.H.Host g.K.Clock.reads g.D.Loader.loads c.requires.shared start a _ _ _ (served-sent g.H.Host g.K.Clock.reads g.D.Loader.loads c.requires.shared start a c.serve-served.new.self _ _ c.write_to-written.new.self _ c.write_to-written.ensures.sent (c.in_ok-served.ensures.goes start a _ x)), λ done. absurd (not-ok _ _ done))

pub returns-then-not-branch-clause-goes : goal.returns-then-not-branch-clause-goes
returns-then-not-branch-clause-goes g c = λ start a x. (
  served-sent g.H.Host g.K.Clock.reads g.D.Loader.loads c.requires.shared start a c.serve-served.new.self _ _ c.write_to-written.new.self _ c.write_to-written.ensures.sent (c.in_ok-served.ensures.goes start a _ x),
  λ done. let no : Room ≡ Over = search rules in cc,
)

pub returns-clause-goes : goal.returns-clause-goes
returns-clause-goes g c = λ start a x.
    let served = served-alike g.H.Host g.K.Clock.reads g.D.Loader.loads c.requires.shared start a _ c.put_away.new.self _ _ c.put_away.ensures.link (served-sent g.H.Host g.K.Clock.reads g.D.Loader.loads c.requires.shared start a c.serve-served.new.self _ _ c.write_to-written.new.self _ c.write_to-written.ensures.sent (c.in_ok-served.ensures.goes start a _ x)) in
    let there = subst (λ z. IsServed g.H.Host g.K.Clock.reads g.D.Loader.loads start a c.put_away.new.self z (wire g.I.Read.remaining g.O.Write.contents c.serve-served.new.reader c.write_to-written.new.writer))
    (sym (same-together c.serve-served.new.place c.serve-served.new.place c.serve-served.new.tools.clock c.put_away.new.tools.clock c.serve-served.new.tools.loader c.put_away.new.tools.loader refl c.put_away.ensures.same.0 c.put_away.ensures.same.1)) served in
    (there, λ done. record { served = there; over = c.next.ensures.over (search rules); written = c.put_away.ensures.link.backlog ∙ c.in_ok-written.ensures.all c.if-not-branch.false })

pub returns-in_err-served-clause-beside : goal.returns-in_err-served-clause-beside
returns-in_err-served-clause-beside g c = (writes-sent _ _ _ _ _ c.write_to-written.ensures.later c.write_to-written.ensures.sent, c.serve-served.ensures.among)

pub returns-in_err-written-clause-beside : goal.returns-in_err-written-clause-beside
returns-in_err-written-clause-beside g c = (writes-sent _ _ _ _ _ c.write_to-written.ensures.later c.write_to-written.ensures.sent, c.serve-served.ensures.among)

pub returns-then-not-branch-clause-beside : goal.returns-then-not-branch-clause-beside
returns-then-not-branch-clause-beside g c = (writes-sent _ _ _ _ _ c.write_to-written.ensures.later c.write_to-written.ensures.sent, c.serve-served.ensures.among)

pub returns-clause-beside : goal.returns-clause-beside
returns-clause-beside g c = (writes-sent _ _ _ _ _ c.write_to-written.ensures.later c.write_to-written.ensures.sent, but-more g.H.Host g.K.Clock.reads g.D.Loader.loads _ _ _ _ _ refl c.serve-served.ensures.among (but-still g.H.Host g.K.Clock.reads g.D.Loader.loads _ _ _ _ _ _ c.put_away.ensures.same.0 c.put_away.ensures.same.1))

pub returns-in_err-served-clause-hears : goal.returns-in_err-served-clause-hears
returns-in_err-served-clause-hears g c =
    let p = err_from_is_err_and c.from_residual.result c.from_residual.ensures.1 in
    (c.serve-served.ensures.hears, rw p.1 (λ is. absurd (not-ok _ _ is)))

pub returns-in_err-written-clause-hears : goal.returns-in_err-written-clause-hears
returns-in_err-written-clause-hears g c =
    let p = err_from_is_err_and c.from_residual-in_err-written.result c.from_residual-in_err-written.ensures.1 in
    (c.serve-served.ensures.hears, rw p.1 (λ is. absurd (not-ok _ _ is)))

pub returns-then-not-branch-clause-hears : goal.returns-then-not-branch-clause-hears
returns-then-not-branch-clause-hears g c = (c.serve-served.ensures.hears, λ is. let no : Room ≡ Input = search rules in cc)

pub returns-clause-hears : goal.returns-clause-hears
returns-clause-hears g c = (hears-then _ _ _ _ _ _ c.put_away.ensures.link.report c.serve-served.ensures.hears, λ is. c.next.ensures.idle (search rules))
