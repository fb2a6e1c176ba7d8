use Rattle.std.proofs.Common.{[], ◌∷◌, ◌++◌, Some, None, sym, ap, ◌∙◌}
use Rattle.std.specs.Str.{bytes_eq}
use Rattle.std.proofs.lemmas.Bool.Decides.{Decides-eqb}
use Rattle.std.proofs.lemmas.Slice.Eq.{strip_suffix_is}
use Rattle.audit_text.proofs.reader.Wording.{bytes_eq-append, bytes_eq-differ}
use Rattle.audit_text.proofs.reader.item.is_line.Goals as goal

pub returns-in-Some : goal.returns-in-Some
returns-in-Some c =
    let line = c.args.line.now in
    let text = strip_suffix_is Decides-eqb c.args.text.now (10 ∷ []) (Some c.in-Some.front) c.in-Some.ensures.cases in
    c.eq.ensures ∙ sym (ap (λ t. bytes_eq t (line ++ 10 ∷ [])) text ∙ bytes_eq-append c.in-Some.front.now line (10 ∷ []))

pub returns-in-None : goal.returns-in-None
returns-in-None c =
    let line = c.args.line.now in
    let other = strip_suffix_is Decides-eqb c.args.text.now (10 ∷ []) None c.in-None.ensures.cases in
    sym (bytes_eq-differ c.args.text.now (line ++ 10 ∷ []) (other line))
