use Rattle.std.proofs.Common.{List, ℕ, refl, subst, sym}
use Rattle.memcache_service.specs.Talks.{Takes}
use Rattle.memcache_cache.proofs.Exchanging.{fed, lent, taken}
use Rattle.memcache_cache.proofs.Turning.{feed-beside, take-beside, turn-exchanged}
use Rattle.memcache_cache.specs.Served.{has_ended}
use Rattle.memcache_cache.proofs.link.MemcacheLink.exchange.Goals as goal

pub returns-clause-turn : goal.returns-clause-turn
returns-clause-turn g c =
    let conn = c.args.self.now.conn in
    turn-exchanged conn c.args.moment c.args.service.now c.take_output.new.self c.feed-fed.new.self c.take_output-2.new.self
    (take-beside conn _ c.args.service.now c.take_output.new.self c.take_output.ensures.takes c.take_output.ensures.absent)
    (feed-beside conn c.args.piece.now c.take_output.new.self c.feed-fed.new.self c.feed-fed.result c.feed-fed.ensures.feeds c.feed-fed.ensures.lacks c.feed-fed.ensures.absent)
    (take-beside conn _ c.feed-fed.new.self c.take_output-2.new.self c.take_output-2.ensures.takes c.take_output-2.ensures.absent)
    c.take_output.ensures.same c.feed-fed.ensures.later c.feed-fed.ensures.moment c.take_output-2.ensures.same

pub returns-clause-answers : goal.returns-clause-answers
returns-clause-answers g c =
    let conn = c.args.self.now.conn in
    let ended = has_ended c.phase_after-self.result in
    record {
      conn = refl;
      report = refl;
      stopped = refl;
      going = c.phase_after-self.ensures.going;
      known = λ known.
          let first = lent conn _ _ c.args.service.now c.take_output.new.self known c.take_output.ensures.takes in
          let second = fed conn c.args.piece.now ended c.take_output.new.self c.feed-fed.new.self first.1.has c.feed-fed.result c.feed-fed.ensures.feeds c.feed-fed.ensures.lacks c.phase_after-self.ensures.ended in
          (taken conn ended _ c.feed-fed.new.self c.take_output-2.new.self second.1 c.take_output-2.ensures.takes).1;
      exchanges = λ known.
          let first = lent conn _ _ c.args.service.now c.take_output.new.self known c.take_output.ensures.takes in
          let second = fed conn c.args.piece.now ended c.take_output.new.self c.feed-fed.new.self first.1.has c.feed-fed.result c.feed-fed.ensures.feeds c.feed-fed.ensures.lacks c.phase_after-self.ensures.ended in
          let third = taken conn ended _ c.feed-fed.new.self c.take_output-2.new.self second.1 c.take_output-2.ensures.takes in
          record { lent = c.take_output.new.self; fed = c.feed-fed.new.self; lends = first.0; feeds = second.0; takes = subst (λ (told : List ℕ). Takes conn told c.feed-fed.new.self c.take_output-2.new.self) (sym c.new.ensures) third.0 };
    }
