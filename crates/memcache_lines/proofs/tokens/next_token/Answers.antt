use Rattle.std.proofs.Common.{length, sym, ap, ◌∙◌, arith, length-drop}
use Rattle.std.proofs.lemmas.List.{take_rest}
use Rattle.memcache_model.specs.Bytes.{is_space, tokens}
use Rattle.std.specs.Prelude.{slice_index}
use Rattle.memcache_lines.proofs.Splits.{tokens-trimmed, tokens-none, other-inside, other-begins}
use Rattle.memcache_lines.proofs.tokens.next_token.Goals as goal

pub cut_token-requires : goal.cut_token-requires
cut_token-requires c =
    let line = c.args.line.now in
    let at = c.in-Some.at in
    let is = sym c.in-Some.ensures in
    let rest = take_rest line at in
    record {
      some = omega (arith, ap length rest, length-drop at line, other-inside line at is);
      begins = ap (λ l. is_space (slice_index l 0)) rest ∙ other-begins line at is;
    }

pub returns-in-Some : goal.returns-in-Some
returns-in-Some c =
    let line = c.args.line.now in
    let at = c.in-Some.at in
    let is = sym c.in-Some.ensures in
    let rest = take_rest line at in
    record {
      word = sym (tokens-trimmed line at is) ∙ ap tokens (sym rest) ∙ c.cut_token.ensures.word;
      shorter = omega (arith, ap length rest, length-drop at line, c.cut_token.ensures.shorter);
    }

pub returns-in-None : goal.returns-in-None
returns-in-None c = record { word = tokens-none c.args.line.now (sym c.in-None.ensures); shorter = tt }
