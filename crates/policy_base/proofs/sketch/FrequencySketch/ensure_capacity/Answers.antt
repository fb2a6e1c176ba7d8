use Rattle.std.proofs.Common.{◌*◌, ap, ◌∙◌, max, arith}
use Rattle.policy_base.proofs.Steps.{made}
use Rattle.policy_base.proofs.sketch.FrequencySketch.ensure_capacity.Goals as goal

pub returns-clause-grown : goal.returns-clause-grown
returns-clause-grown c =
    let larger = c.if-words-len.false in
    rw (← c.self.view_is) (c.wanted_words-words.result, c.wanted_words-words.ensures, made _ c.wanted_words-words.result c.args.capacity _ _ _ (omega (arith, c.len.ensures)) c.in_ok-make_table.ensures.len c.in_ok-make_table.ensures.zeros (c.max-self-inside.ensures ∙ ap (λ n. max (10 * n) 10) c.min.ensures))
