use Rattle.std.proofs.Common.{sym, ap}
use Rattle.memcache_model.specs.Bytes.{is_filled}
use Rattle.memcache_lines.proofs.tokens.has_token.Goals as goal

pub returns-in-Some : goal.returns-in-Some
returns-in-Some c = sym (ap is_filled c.in-Some.ensures.word)

pub returns-in-None : goal.returns-in-None
returns-in-None c = sym (ap is_filled c.in-None.ensures.word)
