use Rattle.std.proofs.Common.{refl, sym, ◌∙◌, ◌-◌}
use Rattle.cache_core.specs.Connections.Words.{streak_at}
use Rattle.cache_core.proofs.connections.Streaks.{joined-before}
use Rattle.cache_core.proofs.connections.words.set_streak.Goals as goal

pub returns-then-word_in-word-clause-here : goal.returns-then-word_in-word-clause-here
returns-then-word_in-word-clause-here c = joined-before (streak_at c.args.streaks.now) (streak_at c.end_streak.new.streaks) c.args.place (c.args.place - 1) c.args.word c.if-place-gt0.true refl c.end_streak.ensures (sym c.word_in.ensures ∙ c.if-word_in-word.true)
