use Rattle.std.proofs.Common.{◌≡◌, ◌∙◌, inl, ap, refl, sym, subst, ⊎_elim}
use Rattle.std.specs.Io.KnownBytes.{Consumes}
use Rattle.cache_run.specs.Devices.Sent.{SentBut}
use Rattle.cache_link.proofs.Hearing.{hears-read, hears-same, hears-then}
use Rattle.cache_link.proofs.Patience.{obtains-consumes, obtains-end}
use Rattle.memcache_cache.specs.Served.{has_ended}
use Rattle.memcache_cache.proofs.Serving.{no-bytes, not-ended, not-over, sent-none, served-fed, served-on}
use Rattle.memcache_cache.proofs.link.MemcacheLink.read.Goals as goal

pub returns-in_default-clause-goes : goal.returns-in_default-clause-goes
returns-in_default-clause-goes g c = (λ contents start a x. x, refl)

pub returns-then-is_empty-clause-goes : goal.returns-then-is_empty-clause-goes
returns-then-is_empty-clause-goes g c =
    let s = c.args.self.now in
    let t = c.take_in-noted.new.self in
    let same = c.take_in-noted.ensures.same in
    let conn : t.conn ≡ s.conn = ap (λ z. z.conn) same in
    let none = no-bytes c.fill-filled.new.inbox (sym c.is_empty.ensures ∙ c.if-is_empty.true) in (
      λ contents start a x.
          served-on g.T.Shelf start a s t conn c.args.service.now _ _
          (subst (λ z. SentBut z s.backlog contents contents) (sym (ap (λ z. z.backlog) same)) (sent-none s.backlog contents))
          (subst (λ z. Consumes (g.I.Read.remaining c.args.reader.now.inner) (g.I.Read.remaining c.fill-filled.new.self.inner) z) none (obtains-consumes _ _ _ c.fill-filled.result c.fill-filled.ensures.bytes))
          (⊎_elim (λ k. ap has_ended k) (λ k. ap has_ended k.0 ∙ sym (not-ended s.phase c.requires.going.1)) c.take_in-noted.ensures.phase)
          (λ over was. ⊎_elim (λ k. absurd (not-over s.phase c.requires.going.1 (sym k ∙ over))) (λ k. inl (obtains-end _ _ _ c.fill-filled.result c.fill-filled.ensures.bytes k.1).1) c.take_in-noted.ensures.phase)
          x,
      conn,
    )

pub returns-clause-goes : goal.returns-clause-goes
returns-clause-goes g c =
    let s = c.args.self.now in
    let m = c.take_in-noted.new.self in
    let mid : m.conn ≡ s.conn = ap (λ z. z.conn) c.take_in-noted.ensures.same in
    let conn = c.exchange.ensures.answers.conn ∙ mid in (
      λ contents start a x.
          served-fed g.T.Shelf start a s c.exchange.new.self conn m c.as_slice.result.now c.args.service.now c.exchange.new.service _ _ mid c.requires.going.0 (not-ended s.phase c.requires.going.1)
          (subst (λ z. Consumes (g.I.Read.remaining c.args.reader.now.inner) (g.I.Read.remaining c.fill-filled.new.self.inner) z) (sym c.as_slice.ensures) (obtains-consumes _ _ _ c.fill-filled.result c.fill-filled.ensures.bytes)) refl c.exchange.ensures.answers x,
      conn,
    )

pub returns-in_default-clause-hears : goal.returns-in_default-clause-hears
returns-in_default-clause-hears g c = hears-same _ _ _ _ _ refl

pub returns-then-is_empty-clause-hears : goal.returns-then-is_empty-clause-hears
returns-then-is_empty-clause-hears g c = hears-read _ _ _ _ _ c.fill-filled.result c.fill-filled.new.inbox c.take_in-noted.ensures.hears c.fill-filled.ensures.waits c.fill-filled.ensures.bytes

pub returns-clause-hears : goal.returns-clause-hears
returns-clause-hears g c = hears-then _ _ _ _ _ _ c.exchange.ensures.answers.report (hears-read _ _ _ _ _ c.fill-filled.result c.fill-filled.new.inbox c.take_in-noted.ensures.hears c.fill-filled.ensures.waits c.fill-filled.ensures.bytes)
