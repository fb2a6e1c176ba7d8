use Rattle.std.proofs.Common.{◌++◌, sym, ap, ◌∙◌, map, reverse}
use Rattle.std.proofs.lemmas.List.{append-nil, reverse-reverse}
use Rattle.indexmap.proofs.ReorderLemmas.{map-reverse}
use Rattle.audit_situation.specs.Held.Seeing.{held_of}
use Rattle.audit_situation.proofs.held.holding.newest_first.Goals as goal

pub returns : goal.returns
returns c =
    let all = c.loop-seen.all.items in
    ap (λ (xs : _). reverse (map held_of xs)) c.reverse.ensures.items ∙ ap reverse (map-reverse held_of all) ∙ reverse-reverse (map held_of all)
    ∙ sym (append-nil (map held_of all)) ∙ ap (λ (xs : _). map held_of all ++ map (λ e. held_of e.1) xs) (sym c.in-None.ensures.steps.0) ∙ c.loop-seen.invariant
