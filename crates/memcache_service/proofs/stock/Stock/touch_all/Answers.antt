use Rattle.std.proofs.Common.{rules, ◌≡◌, ◌∙◌, []}
use Rattle.memcache_model.specs.Bytes.{tokens}
use Rattle.memcache_service.specs.Lines.{reply_text}
use Rattle.memcache_service.proofs.Touching.{reached_all, reached_more}
use Rattle.memcache_service.proofs.stock.Stock.touch_all.Goals as goal

pub loop-key-preserved : goal.loop-key-preserved
loop-key-preserved g c =
    let key = c.in-Some.key.now in
    let reached = reached_more g.T.Shelf.view c.args.moment c.args.deadline (tokens c.args.keys.now) c.args.self.now key (tokens c.in-Some.behind.now) c.loop-key.self c.retime.new.self (reply_text c.in_ok-retime.field-0) key
    (rw c.in-Some.ensures.word at c.loop-key.invariant.reached) (rw c.in_ok-fill.ensures at c.in_ok-retime.ensures.ok) in
    record { reached = reached; counters = c.retime.ensures.counters ∙ c.loop-key.invariant.counters }

pub returns-clause-ok : goal.returns-clause-ok
returns-clause-ok g c =
    let none : tokens c.loop-key.rest.now ≡ [] = search rules in
    reached_all g.T.Shelf.view c.args.moment c.args.deadline (tokens c.args.keys.now) c.args.self.now c.loop-key.self (rw none at c.loop-key.invariant.reached)
