use Rattle.std.proofs.Common.{◌∙◌, sym, subst}
use Rattle.front_reference.specs.Parts.{Acts, op_of_made}
use Rattle.front_parts.proofs.Looked.{found-coalesces, made-coalesces}
use Rattle.front_parts.proofs.Options.{where-none, where-some}
use Rattle.front_parts.proofs.coalesced.coalesce.Goals as goal

pub returns-in-Some-clause-answer : goal.returns-in-Some-clause-answer
returns-in-Some-clause-answer g c =
    found-coalesces _ _ _ _ _ _ _ _ _ _ c.in_ok-ignored.ignored c.in_ok-ignored.ensures.asked _ (sym c.in-Some.is ∙ c.in_ok-ignored.ensures.found) (where-some _ _ _ _ c.in-Some.is c.in_ok-ignored.ensures.used)

pub returns-in_ok-answer-in-None-clause-answer : goal.returns-in_ok-answer-in-None-clause-answer
returns-in_ok-answer-in-None-clause-answer g c =
    let same = where-none _ _ _ c.in-None.is c.in_ok-ignored.ensures.used in
    made-coalesces _ _ _ _ _ _ _ _ _ _ c.in_ok-ignored.ignored c.in_ok-ignored.ensures.asked _ _ c.in_ok-answer-in-None.ensures.same (sym c.in-None.is ∙ c.in_ok-ignored.ensures.found) c.in_ok-made-in-None.ensures
    (subst (λ s. Acts g.R.Rules.answers g.K.PartialEq.eq (g.Q.Names.named_key c.args.name) c.args.hash c.args.at.now c.args.at.step c.in_ok-ignored.ignored (op_of_made c.in_ok-made-in-None.made) s c.settle.new.part) same c.in_ok-answer-in-None.ensures.acts)
