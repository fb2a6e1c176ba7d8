use Rattle.std.proofs.Common.{◌+◌, ◌∷◌, length, take, sym, ap, ◌∙◌, arith}
use Rattle.std.proofs.lemmas.List.{take_rest}
use Rattle.memcache_model.specs.Bytes.{tokens}
use Rattle.memcache_lines.proofs.Splits.{tokens-first, tokens-alone, behind-shorter, behind-all}
use Rattle.memcache_lines.proofs.tokens.cut_token.Goals as goal

pub returns-in-Some : goal.returns-in-Some
returns-in-Some c =
    let line = c.args.line.now in
    let at = c.in-Some.at in
    let rest = take_rest line (at + 1) in
    record {
      word = tokens-first line at c.requires.some c.requires.begins (sym c.in-Some.ensures) ∙ ap (λ behind. take at line ∷ tokens behind) (sym rest);
      shorter = omega (arith, ap length rest, behind-shorter line at c.requires.some);
    }

pub returns-in-None : goal.returns-in-None
returns-in-None c =
    let line = c.args.line.now in
    let rest = take_rest line (length line) ∙ behind-all line in
    record {
      word = tokens-alone line c.requires.some (sym c.in-None.ensures) ∙ ap (λ behind. line ∷ tokens behind) (sym rest);
      shorter = omega (arith, ap length rest, c.requires.some);
    }
