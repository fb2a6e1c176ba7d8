use Rattle.std.proofs.Common.{sym}
use Rattle.cache_core.proofs.connections.Streaks.{last-word}
use Rattle.cache_core.proofs.connections.words.word_in.Goals as goal

pub returns : goal.returns
returns c = sym (last-word c.args.streaks.now c.args.place c.next_back.new.self c.range.result c.in-Some.field-0-0.now c.in-Some.word.now (c.range.ensures.in_range tt) c.in-Some.ensures.steps)
