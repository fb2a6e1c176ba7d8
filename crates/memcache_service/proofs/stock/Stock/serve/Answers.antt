use Rattle.std.proofs.Common.{◌≡◌, ◌-◌, ℕ, List, ◌++◌, [], ◌∙◌, ap, subst, refl, length, take}
use Rattle.std.specs.Prelude.{if◌then◌else◌}
use Rattle.memcache_lines.specs.Said.{asks}
use Rattle.memcache_model.specs.Commands.{Request}
use Rattle.memcache_model.specs.Counts.{added}
use Rattle.memcache_model.specs.Items.{live_stock}
use Rattle.memcache_service.proofs.Answering.{served}
use Rattle.memcache_service.specs.Lines.{said_from}
use Rattle.memcache_service.specs.Stocks.{CountsStored, WritesReply, kept_until}
use Rattle.memcache_service.specs.declared.stock.Stock.{Stock}
use Rattle.memcache_service.proofs.stock.Stock.serve.Goals as goal

pub returns-clause-served : goal.returns-clause-served
returns-clause-served g c =
    let shelf = g.T.Shelf in
    let all = live_stock c.args.moment (kept_until shelf.view c.args.moment c.args.self.now) in
    let request : Request = record { command = asks c.args.request.now.command; quiet = c.args.request.now.quiet } in
    let after = c.answer-reply.new.output.items in
    let final : Stock g.row.T.Denot = record c.answer-reply.new.self { shelf = c.count_removals.new.self; counters = c.count_removals.new.counters } in
    let start_is : c.len-start.result ≡ length c.reserve.new.self.items = c.len-start.ensures ∙ c.reserve.new.self.ok.0 in
    let before_it = c.answer-reply.new.self.counters in
    let given : c.saturating_sub-stored.result ≡ final.uniques - c.args.self.now.uniques = c.saturating_sub-stored.ensures ∙ ap (λ (s : Stock g.row.T.Denot). final.uniques - s.uniques) c.flush_if_due.ensures.same in
    let stored : CountsStored (final.uniques - c.args.self.now.uniques) before_it final.counters =
    subst (λ (n : ℕ). final.counters ≡ record before_it { total_items = n; expired = final.counters.expired; evictions = final.counters.evictions }) (c.add.ensures ∙ ap (added before_it.total_items) given) c.count_removals.ensures.only in
    let wrote = subst (λ (n : ℕ). c.end_reply.new.output.items ≡ take n after ++ (if request.quiet then [] else said_from n after c.answer-reply.result)) start_is c.end_reply.ensures in
    subst (λ (before : List ℕ). WritesReply shelf c.args.moment all request c.args.self.now final before c.end_reply.new.output.items) c.reserve.ensures.items
    (served shelf c.args.moment request all c.args.self.now c.flush_if_due.new.self c.answer-reply.new.self final c.reserve.new.self.items after c.end_reply.new.output.items c.answer-reply.result c.flush_if_due.ensures.same c.flush_if_due.ensures.capacity (λ early. ap (λ (s : Stock g.row.T.Denot). s.shelf) (c.flush_if_due.ensures.not_due early))
    c.in_ok-flush_if_due.ensures.ok c.answer-reply.ensures.answered c.answer-reply.ensures.counted stored c.count_removals.ensures.counted c.count_removals.ensures.shows refl refl (c.answer-reply.ensures.most ∙ ap (λ (s : Stock g.row.T.Denot). s.most) c.flush_if_due.ensures.same) wrote)
