use Rattle.std.proofs.Common.{inr, refl, sym, [], rules}
use Rattle.cache_run.proofs.devices.Sending.{same_consumes}
use Rattle.cache_link.proofs.Hearing.{hears-same}
use Rattle.memcache_cache.proofs.Serving.{not-ended, sent-none, served-fed, served-on}
use Rattle.memcache_cache.proofs.link.MemcacheLink.serve.Goals as goal

pub returns-then-eq-clause-goes : goal.returns-then-eq-clause-goes
returns-then-eq-clause-goes g c =
    let s = c.args.self.now in (
      λ contents start a x.
          served-fed g.T.Shelf start a s c.exchange.new.self c.exchange.ensures.answers.conn s [] c.args.service.now c.exchange.new.service _ _ refl c.requires.going.0 (not-ended s.phase c.requires.going.1)
          (same_consumes _) refl c.exchange.ensures.answers x,
      c.exchange.ensures.answers.conn,
    )

pub returns-then-self-clause-goes : goal.returns-then-self-clause-goes
returns-then-self-clause-goes g c =
    let s = c.args.self.now in (
      λ contents start a x.
          served-on g.T.Shelf start a s _ refl c.args.service.now _ _ (sent-none s.backlog contents) (same_consumes _) (sym (not-ended s.phase c.requires.going.1)) (λ over was. inr (search rules)) x,
      refl,
    )

pub returns-then-eq-2-clause-goes : goal.returns-then-eq-2-clause-goes
returns-then-eq-2-clause-goes g c = (λ contents start a x. x, refl)

pub returns-then-eq-clause-hears : goal.returns-then-eq-clause-hears
returns-then-eq-clause-hears g c = hears-same _ _ _ _ _ c.exchange.ensures.answers.report

pub returns-then-self-clause-hears : goal.returns-then-self-clause-hears
returns-then-self-clause-hears g c = hears-same _ _ _ _ _ refl

pub returns-then-eq-2-clause-hears : goal.returns-then-eq-2-clause-hears
returns-then-eq-2-clause-hears g c = hears-same _ _ _ _ _ refl
