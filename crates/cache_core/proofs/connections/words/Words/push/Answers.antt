use Rattle.std.proofs.Common.{ap, ◌∙◌, [], ◌∷◌, ◌++◌}
use Rattle.cache_core.specs.Connections.Words.{streak_at, words_to}
use Rattle.cache_core.proofs.connections.Streaks.{pushed}
use Rattle.cache_core.proofs.connections.words.Words.push.Goals as goal

pub returns-clause-pushed : goal.returns-clause-pushed
returns-clause-pushed c =
    let g = streak_at c.begin_streak.new.streaks in
    ap (words_to g) c.in-Some.ensures.1
    ∙ pushed (streak_at c.self.inside.streaks) g c.self.inside.len c.args.word c.in_ok-begin_streak.ensures.begins
    ∙ ap (λ ws. ws ++ c.args.word ∷ []) c.self.view_is
