use Rattle.std.proofs.Common.{sym, ap, ◌∙◌, arith, Some, length}
use Rattle.std.specs.List.{slice_get}
use Rattle.cache_core.specs.Connections.Words.{streak_at}
use Rattle.cache_core.proofs.connections.Streaks.{words-at, words-length}
use Rattle.cache_core.proofs.connections.words.Words.get.Goals as goal

pub returns : goal.returns
returns c =
    let f = streak_at c.self.inside.streaks in
    let few = ap length (sym c.self.view_is) ∙ words-length f c.self.inside.len in
    ap (λ ws. slice_get ws c.args.place) (sym c.self.view_is)
    ∙ words-at f c.self.inside.len c.args.place (omega (arith, few, c.requires))
    ∙ ap Some (sym c.word_in.ensures)
