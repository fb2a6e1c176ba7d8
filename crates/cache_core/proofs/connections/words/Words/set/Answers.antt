use Rattle.std.proofs.Common.{rules, sym, ap, ◌∙◌, arith, Fits, w64, length, is_some, slice_set, subst}
use Rattle.cache_core.specs.Connections.Words.{StandsApart, streak_at}
use Rattle.cache_core.proofs.connections.Streaks.{all-set, begins-apart, set-streaks, words-length}
use Rattle.cache_core.proofs.connections.words.Words.set.Goals as goal

pub overflow_add-place : goal.overflow_add-place
overflow_add-place c =
    let few = ap length (sym c.self.view_is) ∙ words-length (streak_at c.self.inside.streaks) c.self.inside.len in
    let fits : Fits w64 c.self.inside.len = search rules in
    omega (arith, few, fits, c.requires.within)

pub set_streak-requires-clause-begins : goal.set_streak-requires-clause-begins
set_streak-requires-clause-begins c =
    let f = streak_at c.self.inside.streaks in
    let apart = subst (λ ws. StandsApart ws c.args.place) (sym c.self.view_is) c.requires.apart in
    let few = ap length (sym c.self.view_is) ∙ words-length f c.self.inside.len in
    ap is_some (c.join_streak.ensures.others c.args.place (λ same. absurd (omega (arith, same)))) ∙ begins-apart f c.self.inside.len c.args.place (omega (arith, few, c.requires.within)) c.self.invariant.first apart.before

pub invariant_of-self : goal.invariant_of-self
invariant_of-self c =
    let f = streak_at c.self.inside.streaks in
    let apart = subst (λ ws. StandsApart ws c.args.place) (sym c.self.view_is) c.requires.apart in
    let few = ap length (sym c.self.view_is) ∙ words-length f c.self.inside.len in
    set-streaks f (streak_at c.join_streak.new.streaks) (streak_at c.set_streak.new.streaks) c.self.inside.len c.args.place c.args.word (omega (arith, few, c.requires.within)) c.self.invariant apart c.join_streak.ensures c.set_streak.ensures.here c.set_streak.ensures.others
    c.set_streak.ensures.first

pub returns : goal.returns
returns c =
    let f = streak_at c.self.inside.streaks in
    let apart = subst (λ ws. StandsApart ws c.args.place) (sym c.self.view_is) c.requires.apart in
    let few = ap length (sym c.self.view_is) ∙ words-length f c.self.inside.len in
    all-set f (streak_at c.join_streak.new.streaks) (streak_at c.set_streak.new.streaks) c.self.inside.len c.args.place c.args.word (omega (arith, few, c.requires.within)) c.self.invariant apart c.join_streak.ensures c.set_streak.ensures.here c.set_streak.ensures.others
    ∙ ap (λ ws. slice_set ws c.args.place c.args.word) c.self.view_is
