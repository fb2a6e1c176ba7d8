use Rattle.std.proofs.Common.{sym, ap, ◌∙◌, subst, arith, ◌<◌, ◌≤◌, [], ◌∷◌, ◌++◌, IfSome, length, slice_set}
use Rattle.std.proofs.lemmas.List.{length-set}
use Rattle.cache_core.specs.Connections.Presence.{Gone}
use Rattle.cache_core.specs.Connections.Residents.{AreSettled, first_reason, places_of, presences_of}
use Rattle.cache_core.specs.Connections.Words.{StandsApart}
use Rattle.cache_core.proofs.connections.Saying.{apart-after, apart-at, away, is-reason, last-within, last-word-at, moved, moved-settled, resident-there, shorter, shorter-settled, small-end}
use Rattle.cache_core.proofs.connections.residents.remove_at.Goals as goal

pub unreachable-requires : goal.unreachable-requires
unreachable-requires c =
    let w = c.get-gap.result in
    let at = c.get-gap.ensures in
    let small : w < first_reason = subst (λ o. IfSome o (λ word. word < first_reason)) at c.requires.here in
    let inside = resident-there c.args.residents.now.items c.args.words.now c.args.index w c.requires.settled at small in
    omega (arith, inside, c.args.residents.now.ok.0, c.in_default.ensures.cases.0)

pub set-requires-clause-apart : goal.set-requires-clause-apart
set-requires-clause-apart c =
    let at = c.get-gap.ensures in
    let small : c.get-gap.result < first_reason = subst (λ o. IfSome o (λ word. word < first_reason)) at c.requires.here in
    apart-at (places_of c.args.residents.now.items) c.args.words.now c.args.index c.get-gap.result c.requires.settled at small

pub set-requires-then-gap-len : goal.set-requires-then-gap-len
set-requires-then-gap-len c =
    let rs = c.pop.new.self.items in
    let ws = c.args.words.now in
    let i = c.args.index in
    let w = c.get-gap.result in
    let at = c.get-gap.ensures in
    let small : w < first_reason = subst (λ o. IfSome o (λ word. word < first_reason)) at c.requires.here in
    let m = subst (λ rs. AreSettled rs ws) c.in-Some.ensures.items c.requires.settled in
    let inside : w < length rs = omega (arith, c.pop.new.self.ok.0, c.if-gap-len.true) in
    let code = c.word_of.result in
    let reason : first_reason ≤ code = subst (λ k. first_reason ≤ k) (sym c.word_of.ensures) (is-reason c.args.why) in
    let e = length-set ws i code in
    let same = ap length c.set.ensures in
    let there = last-within rs c.in-Some.last ws i w c.args.why m at small in
    record {
      within = omega (arith, e, same, there);
      apart = subst (λ xs. StandsApart xs c.in-Some.last.place) (sym c.set.ensures)
          (apart-after (places_of (rs ++ c.in-Some.last ∷ [])) ws i c.in-Some.last.place (length rs) code m (last-word-at rs c.in-Some.last ws i w c.args.why m at small) (small-end rs c.in-Some.last ws i w c.args.why m at small) reason
          (away rs c.in-Some.last ws i w c.args.why m at small inside) c.requires.within);
    }

pub returns-then-gap-len : goal.returns-then-gap-len
returns-then-gap-len c =
    let rs = c.pop.new.self.items in
    let last = c.in-Some.last in
    let ws = c.args.words.now in
    let i = c.args.index in
    let w = c.get-gap.result in
    let at = c.get-gap.ensures in
    let small : w < first_reason = subst (λ o. IfSome o (λ word. word < first_reason)) at c.requires.here in
    let m = subst (λ rs. AreSettled rs ws) c.in-Some.ensures.items c.requires.settled in
    let inside : w < length rs = omega (arith, c.pop.new.self.ok.0, c.if-gap-len.true) in
    let words_are = c.set-then-gap-len.ensures ∙ ap (λ xs. slice_set xs last.place w) (c.set.ensures ∙ ap (slice_set ws i) c.word_of.ensures) in
    record {
      settled = subst (λ xs. AreSettled (slice_set rs w last) xs) (sym words_are) (moved-settled rs last ws i w c.args.why m at small inside);
      gone =
          ap (presences_of (slice_set rs w last)) words_are
          ∙ moved rs last ws i w c.args.why m at small inside
          ∙ ap (λ xs. slice_set (presences_of xs ws) i (Gone c.args.why)) (sym c.in-Some.ensures.items);
    }

pub returns-else-gap-len : goal.returns-else-gap-len
returns-else-gap-len c =
    let rs = c.pop.new.self.items in
    let ws = c.args.words.now in
    let i = c.args.index in
    let w = c.get-gap.result in
    let at = c.get-gap.ensures in
    let small : w < first_reason = subst (λ o. IfSome o (λ word. word < first_reason)) at c.requires.here in
    let m = subst (λ rs. AreSettled rs ws) c.in-Some.ensures.items c.requires.settled in
    let outside : length rs ≤ w = omega (arith, c.pop.new.self.ok.0, c.if-gap-len.false) in
    let words_are = c.set.ensures ∙ ap (slice_set ws i) c.word_of.ensures in
    record {
      settled = subst (λ xs. AreSettled rs xs) (sym words_are) (shorter-settled rs c.in-Some.last ws i w c.args.why m at small outside);
      gone =
          ap (presences_of rs) words_are
          ∙ shorter rs c.in-Some.last ws i w c.args.why m at small outside
          ∙ ap (λ xs. slice_set (presences_of xs ws) i (Gone c.args.why)) (sym c.in-Some.ensures.items);
    }
