use Rattle.std.proofs.Common.{sym, ap, ◌∙◌, length}
use Rattle.cache_core.specs.Connections.Words.{streak_at}
use Rattle.cache_core.proofs.connections.Streaks.{words-length}
use Rattle.cache_core.proofs.connections.words.Words.len.Goals as goal

pub returns : goal.returns
returns c = sym (words-length (streak_at c.self.inside.streaks) c.self.inside.len) ∙ ap length c.self.view_is
