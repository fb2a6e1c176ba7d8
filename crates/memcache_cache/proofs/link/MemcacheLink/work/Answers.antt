use Rattle.std.proofs.Common.{◌≡◌, ◌∙◌, [], ap, arith, refl, sym, subst, rules}
use Rattle.std.proofs.lemmas.Result.{err_from_is_err_and}
use Rattle.cache_run.proofs.devices.Sending.{same_appends, same_consumes}
use Rattle.cache_link.proofs.Hearing.{hears-then}
use Rattle.cache_link.proofs.Patience.{writes-sent}
use Rattle.cache_link.proofs.Serving.{not-ok}
use Rattle.cache_link.specs.Served.{wire}
use Rattle.cache_link.specs.declared.link.Next.TheVariants.{Input, Room, Over}
use Rattle.memcache_cache.proofs.Serving.{served-on}
use Rattle.memcache_cache.specs.Served.{IsServedByTalk}
use Rattle.memcache_cache.proofs.link.MemcacheLink.work.Goals as goal

pub returns-in_err-serve-clause-goes : goal.returns-in_err-serve-clause-goes
returns-in_err-serve-clause-goes g c =
    let p = err_from_is_err_and c.from_residual.result c.from_residual.ensures.1 in
    (λ start a x. c.serve.ensures.goes.0 _ start a x, c.serve.ensures.goes.1, rw p.1 (λ done. absurd (not-ok _ _ done)))

pub returns-in_err-write_to-clause-goes : goal.returns-in_err-write_to-clause-goes
returns-in_err-write_to-clause-goes g c =
    let p = err_from_is_err_and c.from_residual-in_err-write_to.result c.from_residual-in_err-write_to.ensures.1 in
    (λ start a x. served-on g.T.Shelf start a c.serve.new.self _ refl c.serve.new.service _ _ c.write_to.ensures.sent (same_consumes _) refl (λ over was. was over) (c.serve.ensures.goes.0 _ start a x), c.serve.ensures.goes.1, rw p.1 (λ done. absurd (not-ok _ _ done)))

pub returns-then-not-branch-clause-goes : goal.returns-then-not-branch-clause-goes
returns-then-not-branch-clause-goes g c =
    (λ start a x. served-on g.T.Shelf start a c.serve.new.self _ refl c.serve.new.service _ _ c.write_to.ensures.sent (same_consumes _) refl (λ over was. was over) (c.serve.ensures.goes.0 _ start a x), c.serve.ensures.goes.1, λ done. let no : Room ≡ Over = search rules in cc)

pub returns-clause-goes : goal.returns-clause-goes
returns-clause-goes g c = (
  λ start a x. subst (λ l. IsServedByTalk g.T.Shelf start a l c.serve.new.service (wire g.I.Read.remaining g.O.Write.contents c.serve.new.reader c.write_to.new.writer)) (sym c.put_away.ensures)
      (served-on g.T.Shelf start a c.serve.new.self _ refl c.serve.new.service _ _ c.write_to.ensures.sent (same_consumes _) refl (λ over was. was over) (c.serve.ensures.goes.0 _ start a x)),
  ap (λ l. l.conn) c.put_away.ensures ∙ c.serve.ensures.goes.1,
  λ done. (ap (λ l. l.backlog) c.put_away.ensures ∙ c.in_ok-write_to.ensures.all c.if-not-branch.false, c.next.ensures.over (search rules)),
)

pub returns-in_err-serve-clause-hears : goal.returns-in_err-serve-clause-hears
returns-in_err-serve-clause-hears g c =
    let p = err_from_is_err_and c.from_residual.result c.from_residual.ensures.1 in
    (c.serve.ensures.hears, rw p.1 (λ is. absurd (not-ok _ _ is)))

pub returns-in_err-write_to-clause-hears : goal.returns-in_err-write_to-clause-hears
returns-in_err-write_to-clause-hears g c =
    let p = err_from_is_err_and c.from_residual-in_err-write_to.result c.from_residual-in_err-write_to.ensures.1 in
    (c.serve.ensures.hears, rw p.1 (λ is. absurd (not-ok _ _ is)))

pub returns-then-not-branch-clause-hears : goal.returns-then-not-branch-clause-hears
returns-then-not-branch-clause-hears g c = (c.serve.ensures.hears, λ is. let no : Room ≡ Input = search rules in cc)

pub returns-clause-hears : goal.returns-clause-hears
returns-clause-hears g c = (hears-then _ _ _ _ _ _ (ap (λ l. l.report) c.put_away.ensures) c.serve.ensures.hears, λ is. c.next.ensures.idle (search rules))

pub returns-in_err-serve-clause-writes : goal.returns-in_err-serve-clause-writes
returns-in_err-serve-clause-writes g c = record { later = omega arith; more = []; wrote = same_appends _ }

pub returns-in_err-write_to-clause-writes : goal.returns-in_err-write_to-clause-writes
returns-in_err-write_to-clause-writes g c = writes-sent _ _ _ _ _ c.write_to.ensures.later c.write_to.ensures.sent

pub returns-then-not-branch-clause-writes : goal.returns-then-not-branch-clause-writes
returns-then-not-branch-clause-writes g c = writes-sent _ _ _ _ _ c.write_to.ensures.later c.write_to.ensures.sent

pub returns-clause-writes : goal.returns-clause-writes
returns-clause-writes g c = writes-sent _ _ _ _ _ c.write_to.ensures.later c.write_to.ensures.sent
