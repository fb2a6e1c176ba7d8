use Rattle.std.proofs.Common.{◌≡◌, inl, inr, refl, rules}
use Rattle.std.proofs.lemmas.Result.{err_from_is_err_and}
use Rattle.cache_run.proofs.devices.Sending.{failed_after}
use Rattle.cache_run.proofs.driver.Exchanges.{why-map}
use Rattle.cache_run.proofs.driver.Interludes.{but-still}
use Rattle.cache_link.specs.declared.link.Next.TheVariants.{Input, Room, Over}
use Rattle.cache_link.proofs.Hearing.{hears-same}
use Rattle.cache_link.proofs.Patience.{appends-first}
use Rattle.cache_link.proofs.Serving.{not-ok, served-broken, served-later, served-sent}
use Rattle.cache_link.proofs.link.Link.turn.Goals as goal

pub returns-in_err-write_to-clause-goes : goal.returns-in_err-write_to-clause-goes
returns-in_err-write_to-clause-goes g c =
    let p = err_from_is_err_and c.from_residual.result c.from_residual.ensures.1 in
    λ start before a x others.
    rw p.1 (served-broken g.H.Host g.K.Clock.reads g.D.Loader.loads c.requires.shared start a _ _ _ (served-sent g.H.Host g.K.Clock.reads g.D.Loader.loads c.requires.shared start a c.args.self.now _ _ c.write_to.new.self _ c.write_to.ensures.sent (served-later g.H.Host g.K.Clock.reads g.D.Loader.loads c.requires.shared start a c.args.self.now before _ _ others x)), λ done. absurd (not-ok _ _ done))

pub returns-then-not-branch-clause-goes : goal.returns-then-not-branch-clause-goes
returns-then-not-branch-clause-goes g c = λ start before a x others. (
  served-sent g.H.Host g.K.Clock.reads g.D.Loader.loads c.requires.shared start a c.args.self.now _ _ c.write_to.new.self _ c.write_to.ensures.sent (served-later g.H.Host g.K.Clock.reads g.D.Loader.loads c.requires.shared start a c.args.self.now before _ _ others x),
  λ done. let no : Room ≡ Over = search rules in cc,
)

pub returns-then-self-clause-goes : goal.returns-then-self-clause-goes
returns-then-self-clause-goes g c = λ start before a x others.
    let served = served-sent g.H.Host g.K.Clock.reads g.D.Loader.loads c.requires.shared start a c.args.self.now _ _ c.write_to.new.self _ c.write_to.ensures.sent (served-later g.H.Host g.K.Clock.reads g.D.Loader.loads c.requires.shared start a c.args.self.now before _ _ others x) in
    (served, λ done. record { served = served; over = search rules; written = c.in_ok-write_to.ensures.all c.if-not-branch.false })

pub returns-clause-goes : goal.returns-clause-goes
returns-clause-goes g c = λ start before a x others. c.work.ensures.goes start a (served-sent g.H.Host g.K.Clock.reads g.D.Loader.loads c.requires.shared start a c.args.self.now _ _ c.write_to.new.self _ c.write_to.ensures.sent (served-later g.H.Host g.K.Clock.reads g.D.Loader.loads c.requires.shared start a c.args.self.now before _ _ others x))

pub returns-clause-why : goal.returns-clause-why
returns-clause-why g c = why-map c.work.result (λ broke. broke) (failed_after _ _ _ c.write_to.ensures.later c.work.ensures.beside.0.later) (λ used. used) (λ late. late) c.work.ensures.why

pub returns-clause-first : goal.returns-clause-first
returns-clause-first g c = inl (appends-first g.O.Write.contents c.args.writer.now c.write_to.new.writer c.work.new.writer c.write_to.new.self _ c.write_to.ensures.sent (c.in_ok-write_to.ensures.all c.if-not-branch.false) c.work.ensures.beside.0)

pub returns-in_err-write_to-clause-first : goal.returns-in_err-write_to-clause-first
returns-in_err-write_to-clause-first g c = inr (refl, refl)

pub returns-then-not-branch-clause-first : goal.returns-then-not-branch-clause-first
returns-then-not-branch-clause-first g c = inr (refl, refl)

pub returns-then-self-clause-first : goal.returns-then-self-clause-first
returns-then-self-clause-first g c = inr (refl, refl)

pub returns-in_err-write_to-clause-among : goal.returns-in_err-write_to-clause-among
returns-in_err-write_to-clause-among g c = but-still g.H.Host g.K.Clock.reads g.D.Loader.loads _ _ _ _ _ _ refl refl

pub returns-then-not-branch-clause-among : goal.returns-then-not-branch-clause-among
returns-then-not-branch-clause-among g c = but-still g.H.Host g.K.Clock.reads g.D.Loader.loads _ _ _ _ _ _ refl refl

pub returns-then-self-clause-among : goal.returns-then-self-clause-among
returns-then-self-clause-among g c = but-still g.H.Host g.K.Clock.reads g.D.Loader.loads _ _ _ _ _ _ refl refl

pub returns-clause-among : goal.returns-clause-among
returns-clause-among g c = c.work.ensures.beside.1

pub returns-in_err-write_to-clause-hears : goal.returns-in_err-write_to-clause-hears
returns-in_err-write_to-clause-hears g c =
    let p = err_from_is_err_and c.from_residual.result c.from_residual.ensures.1 in
    (hears-same _ _ _ _ _ refl, rw p.1 (λ is. absurd (not-ok _ _ is)))

pub returns-then-not-branch-clause-hears : goal.returns-then-not-branch-clause-hears
returns-then-not-branch-clause-hears g c = (hears-same _ _ _ _ _ refl, λ is. let no : Room ≡ Input = search rules in cc)

pub returns-then-self-clause-hears : goal.returns-then-self-clause-hears
returns-then-self-clause-hears g c = (hears-same _ _ _ _ _ refl, λ is. let no : Over ≡ Input = search rules in cc)

pub returns-clause-hears : goal.returns-clause-hears
returns-clause-hears g c = c.work.ensures.hears
