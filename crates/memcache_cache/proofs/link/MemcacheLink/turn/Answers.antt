use Rattle.std.proofs.Common.{◌≡◌, ◌∙◌, inl, inr, refl, sym, rules}
use Rattle.std.proofs.lemmas.Result.{err_from_is_err_and}
use Rattle.cache_run.proofs.devices.Sending.{failed_after, same_consumes}
use Rattle.cache_run.proofs.driver.Exchanges.{why-map}
use Rattle.cache_link.proofs.Hearing.{hears-same}
use Rattle.cache_link.proofs.Patience.{appends-first}
use Rattle.cache_link.proofs.Serving.{not-ok}
use Rattle.cache_link.specs.declared.link.Next.TheVariants.{Input, Room, Over}
use Rattle.memcache_cache.proofs.Serving.{served-later, served-on}
use Rattle.memcache_cache.proofs.link.MemcacheLink.turn.Goals as goal

pub returns-in_err-write_to-clause-goes : goal.returns-in_err-write_to-clause-goes
returns-in_err-write_to-clause-goes g c =
    let p = err_from_is_err_and c.from_residual.result c.from_residual.ensures.1 in
    let s = c.args.self.now in
    λ before others. (
      λ start a x. served-on g.T.Shelf start a s _ refl c.args.service.now _ _ c.write_to.ensures.sent (same_consumes _) refl (λ over was. was over) (served-later g.T.Shelf start a s s refl before c.args.service.now _ refl others x),
      refl,
      rw p.1 (λ done. absurd (not-ok _ _ done)),
    )

pub returns-then-not-branch-clause-goes : goal.returns-then-not-branch-clause-goes
returns-then-not-branch-clause-goes g c =
    let s = c.args.self.now in
    λ before others. (
      λ start a x. served-on g.T.Shelf start a s _ refl c.args.service.now _ _ c.write_to.ensures.sent (same_consumes _) refl (λ over was. was over) (served-later g.T.Shelf start a s s refl before c.args.service.now _ refl others x),
      refl,
      λ done. let no : Room ≡ Over = search rules in cc,
    )

pub returns-then-is_over-clause-goes : goal.returns-then-is_over-clause-goes
returns-then-is_over-clause-goes g c =
    let s = c.args.self.now in
    λ before others. (
      λ start a x. served-on g.T.Shelf start a s _ refl c.args.service.now _ _ c.write_to.ensures.sent (same_consumes _) refl (λ over was. was over) (served-later g.T.Shelf start a s s refl before c.args.service.now _ refl others x),
      refl,
      λ done. (c.in_ok-write_to.ensures.all c.if-not-branch.false, sym c.is_over.ensures ∙ c.if-is_over.true),
    )

pub returns-clause-goes : goal.returns-clause-goes
returns-clause-goes g c =
    let s = c.args.self.now in
    λ before others. (
      λ start a x. c.work.ensures.goes.0 start a (served-on g.T.Shelf start a s _ refl c.args.service.now _ _ c.write_to.ensures.sent (same_consumes _) refl (λ over was. was over) (served-later g.T.Shelf start a s s refl before c.args.service.now _ refl others x)),
      c.work.ensures.goes.1,
      c.work.ensures.goes.2,
    )

pub returns-clause-why : goal.returns-clause-why
returns-clause-why g c = why-map c.work.result (λ broke. broke) (failed_after _ _ _ c.write_to.ensures.later c.work.ensures.writes.later) (λ used. used) (λ late. late) c.work.ensures.why

pub returns-clause-first : goal.returns-clause-first
returns-clause-first g c = inl (appends-first g.O.Write.contents c.args.writer.now c.write_to.new.writer c.work.new.writer c.write_to.new.self _ c.write_to.ensures.sent (c.in_ok-write_to.ensures.all c.if-not-branch.false) c.work.ensures.writes)

pub returns-in_err-write_to-clause-first : goal.returns-in_err-write_to-clause-first
returns-in_err-write_to-clause-first g c = inr (refl, refl)

pub returns-then-not-branch-clause-first : goal.returns-then-not-branch-clause-first
returns-then-not-branch-clause-first g c = inr (refl, refl)

pub returns-then-is_over-clause-first : goal.returns-then-is_over-clause-first
returns-then-is_over-clause-first g c = inr (refl, refl)

pub returns-in_err-write_to-clause-hears : goal.returns-in_err-write_to-clause-hears
returns-in_err-write_to-clause-hears g c = hears-same _ _ _ _ _ refl

pub returns-then-not-branch-clause-hears : goal.returns-then-not-branch-clause-hears
returns-then-not-branch-clause-hears g c = hears-same _ _ _ _ _ refl

pub returns-then-is_over-clause-hears : goal.returns-then-is_over-clause-hears
returns-then-is_over-clause-hears g c = hears-same _ _ _ _ _ refl

pub returns-clause-hears : goal.returns-clause-hears
returns-clause-hears g c = c.work.ensures.hears.0

pub returns-in_err-write_to-clause-idle : goal.returns-in_err-write_to-clause-idle
returns-in_err-write_to-clause-idle g c =
    let p = err_from_is_err_and c.from_residual.result c.from_residual.ensures.1 in
    rw p.1 (λ is. absurd (not-ok _ _ is))

pub returns-then-not-branch-clause-idle : goal.returns-then-not-branch-clause-idle
returns-then-not-branch-clause-idle g c = λ is. let no : Room ≡ Input = search rules in cc

pub returns-then-is_over-clause-idle : goal.returns-then-is_over-clause-idle
returns-then-is_over-clause-idle g c = λ is. let no : Over ≡ Input = search rules in cc

pub returns-clause-idle : goal.returns-clause-idle
returns-clause-idle g c = c.work.ensures.hears.1
