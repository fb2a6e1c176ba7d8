use Rattle.std.proofs.Common.{◌∙◌, refl}
use Rattle.memcache_cache.proofs.Serving.{served-first}
use Rattle.memcache_cache.proofs.link.MemcacheLink.«open».Goals as goal

pub returns-clause-served : goal.returns-clause-served
returns-clause-served g c = λ a. served-first g.T.Shelf _ c.args.service.now c.«open».new.self (record { opens = c.in_ok-conn.ensures.opens; backlog = c.new-2.ensures ∙ c.new.ensures.items; report = refl; phase = refl; reads = refl }) a
