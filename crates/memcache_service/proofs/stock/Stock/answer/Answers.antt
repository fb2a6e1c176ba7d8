use Rattle.std.proofs.Common.{rules, ◌≡◌, true, length}
use Rattle.memcache_lines.specs.Said.{asks}
use Rattle.memcache_model.specs.Bytes.{tokens}
use Rattle.memcache_model.specs.Commands.{stats}
use Rattle.memcache_service.proofs.Keeping.{short_counts}
use Rattle.memcache_service.proofs.Shortly.{short_answers, stats_answers}
use Rattle.memcache_service.specs.Stocks.{is_short, stock_at}
use Rattle.memcache_service.proofs.stock.Stock.answer.Goals as goal

pub returns-in_default : goal.returns-in_default
returns-in_default g c =
    let short : is_short (asks c.args.command.now) ≡ true = search rules in
    record {
      answered = short_answers g.T.Shelf c.args.moment (asks c.args.command.now) c.args.self.now c.answer_shortly.new.self c.args.output.now.items c.answer_shortly.result c.unwrap_or-in_default.result short c.unwrap_or-in_default.ensures
          c.answer_shortly.ensures.ok c.answer_shortly.ensures.err c.answer_shortly.ensures.wants;
      counted = short_counts (asks c.args.command.now) (stock_at g.T.Shelf.view c.args.moment c.args.self.now).items c.args.self.now c.answer_shortly.new.self (length c.args.output.now.items) c.args.output.now.items c.answer_shortly.result
          c.unwrap_or-in_default.result short c.unwrap_or-in_default.ensures c.answer_shortly.ensures.counts c.answer_shortly.ensures.err;
      may_follow = search rules;
      most = search rules;
      capacity = search rules;
    }

pub returns-in-Stats-clause-answered : goal.returns-in-Stats-clause-answered
returns-in-Stats-clause-answered g c =
    let is : asks c.args.command.now ≡ stats (tokens c.in-Stats.words.now) = search rules in
    rw is (stats_answers g.T.Shelf c.args.moment (tokens c.in-Stats.words.now) c.args.self.now c.stats.new.self c.args.output.now.items c.stats.new.output.items c.stats.result c.unwrap_or-in-Stats.result c.unwrap_or-in-Stats.ensures
    c.stats.ensures.keeps c.stats.ensures.tells c.stats.ensures.begun)
