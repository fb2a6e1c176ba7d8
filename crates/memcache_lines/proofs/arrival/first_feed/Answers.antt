use Rattle.std.proofs.Common.{◌+◌, arith}
use Rattle.memcache_lines.proofs.Searches.{position-within, found-within}
use Rattle.std.proofs.Common.{sym}
use Rattle.memcache_lines.proofs.arrival.first_feed.Goals as goal

pub returns : goal.returns
returns c =
    let bytes = c.args.bytes.now in
    let is = c.min-end.ensures in
    record {
      place = sym (position-within bytes (c.args.longest + 1) c.min-end.result c.memchr.result (omega (arith, is)) c.memchr.ensures);
      inside = found-within bytes c.args.longest c.min-end.result c.memchr.result (omega (arith, is)) c.memchr.ensures;
    }
