-- Places and words are matched, after one comes or goes.
use Rattle.std.proofs.Common.{sym, ap, ◌∙◌, arith, inl, inr, ◌≡◌, ℕ, ◌<◌, ◌≤◌, List, [], ◌∷◌, ◌++◌, length, Some, slice_set}
use Rattle.std.proofs.lemmas.Bool.{cases_eq}
use Rattle.std.proofs.lemmas.List.{length-append, length-set}
use Rattle.std.proofs.lemmas.Option.{same_Some, slice_get_within}
use Rattle.std.specs.List.{slice_get}
use Rattle.cache_core.specs.Connections.Residents.{AreMatched, first_reason}
use Rattle.cache_core.proofs.connections.Getting.{at-end, at-front, at-other, at-replaced, front-or-end}

-- a place and a word more
pub matched-more : (ps ws : List ℕ) → AreMatched ps ws → length ps < first_reason → AreMatched (ps ++ length ws ∷ []) (ws ++ length ps ∷ [])
matched-more ps ws m lt = record {
  few = let e = length-append ps (length ws ∷ []) in omega arith;
  owned = owned;
  placed = placed;
}
  where
    owned : (place word : ℕ) → slice_get (ws ++ length ps ∷ []) place ≡ Some word → word < first_reason → slice_get (ps ++ length ws ∷ []) word ≡ Some place
    owned place word e index = elim (front-or-end ws (length ps) place word e) [
      | inl h ↦ let o = m.owned place word h index in at-front ps (length ws) word (slice_get_within ps word place o) ∙ o
      | inr h ↦ ap (λ k. slice_get (ps ++ length ws ∷ []) k) h.1 ∙ at-end ps (length ws) ∙ ap Some (sym h.0)
    ]

    placed : (index place : ℕ) → slice_get (ps ++ length ws ∷ []) index ≡ Some place → slice_get (ws ++ length ps ∷ []) place ≡ Some index
    placed index place e = elim (front-or-end ps (length ws) index place e) [
      | inl h ↦ let o = m.placed index place h in at-front ws (length ps) place (slice_get_within ws place index o) ∙ o
      | inr h ↦ ap (λ k. slice_get (ws ++ length ps ∷ []) k) h.1 ∙ at-end ws (length ps) ∙ ap Some (sym h.0)
    ]

-- the last place goes, with its word
pub matched-shorter : (ps : List ℕ) (q : ℕ) (ws : List ℕ) (i w code : ℕ) → AreMatched (ps ++ q ∷ []) ws → slice_get ws i ≡ Some w → w < first_reason → length ps ≤ w → first_reason ≤ code
    → AreMatched ps (slice_set ws i code)
matched-shorter ps q ws i w code m at index last reason = record {
  few = let e = length-append ps (q ∷ []) in let f = m.few in omega arith;
  owned = owned;
  placed = placed;
}
  where
    mine : slice_get (ps ++ q ∷ []) w ≡ Some i
    mine = m.owned i w at index

    is_last : w ≡ length ps
    is_last = let l = slice_get_within (ps ++ q ∷ []) w i mine in let e = length-append ps (q ∷ []) in omega arith

    owned : (place word : ℕ) → slice_get (slice_set ws i code) place ≡ Some word → word < first_reason → slice_get ps word ≡ Some place
    owned place word e small = elim (cases_eq place i) [
      | inl same ↦
          let is : code ≡ word = same_Some code word (sym (at-replaced ws i code (slice_get_within ws i w at)) ∙ ap (λ k. slice_get (slice_set ws i code) k) (sym same) ∙ e) in
          absurd (omega arith)
      | inr other ↦
          let o = m.owned place word (sym (at-other ws place i code other) ∙ e) small in
          elim (front-or-end ps q word place o) [
            | inl h ↦ h
            | inr h ↦ absurd (other (same_Some place i (sym o ∙ ap (λ k. slice_get (ps ++ q ∷ []) k) (h.0 ∙ sym is_last) ∙ mine)))
          ]
    ]

    placed : (index place : ℕ) → slice_get ps index ≡ Some place → slice_get (slice_set ws i code) place ≡ Some index
    placed k place e =
        let lt = slice_get_within ps k place e in
        let o = m.placed k place (at-front ps q k lt ∙ e) in
        at-other ws place i code (λ same. let is : k ≡ w = same_Some k w (sym o ∙ ap (slice_get ws) same ∙ at) in absurd (omega arith)) ∙ o

-- the last place moves into the gap that one leaves
pub matched-moved : (ps : List ℕ) (q : ℕ) (ws : List ℕ) (i w code : ℕ) → AreMatched (ps ++ q ∷ []) ws → slice_get ws i ≡ Some w → w < first_reason → w < length ps → first_reason ≤ code
    → AreMatched (slice_set ps w q) (slice_set (slice_set ws i code) q w)
matched-moved ps q ws i w code m at index inside reason = record {
  few = let e = length-append ps (q ∷ []) in let f = m.few in let s = length-set ps w q in omega arith;
  owned = owned;
  placed = placed;
}
  where
    mine : slice_get (ps ++ q ∷ []) w ≡ Some i
    mine = m.owned i w at index

    last : slice_get ws q ≡ Some (length ps)
    last = m.placed (length ps) q (at-end ps q)

    within : q < length (slice_set ws i code)
    within = let l = slice_get_within ws q (length ps) last in let e = length-set ws i code in omega arith

    owned : (place word : ℕ) → slice_get (slice_set (slice_set ws i code) q w) place ≡ Some word → word < first_reason → slice_get (slice_set ps w q) word ≡ Some place
    owned place word e small = elim (cases_eq place q) [
      | inl same ↦
          let is : w ≡ word = same_Some w word (sym (at-replaced (slice_set ws i code) q w within) ∙ ap (λ k. slice_get (slice_set (slice_set ws i code) q w) k) (sym same) ∙ e) in
          ap (λ k. slice_get (slice_set ps w q) k) (sym is) ∙ at-replaced ps w q inside ∙ ap Some (sym same)
      | inr other ↦
          let e2 = sym (at-other (slice_set ws i code) place q w other) ∙ e in
          elim (cases_eq place i) [
            | inl same ↦
                let is : code ≡ word = same_Some code word (sym (at-replaced ws i code (slice_get_within ws i w at)) ∙ ap (λ k. slice_get (slice_set ws i code) k) (sym same) ∙ e2) in
                absurd (omega arith)
            | inr apart ↦
                let o = m.owned place word (sym (at-other ws place i code apart) ∙ e2) small in
                elim (front-or-end ps q word place o) [
                  | inl h ↦ at-other ps word w q (λ same. apart (same_Some place i (sym o ∙ ap (λ k. slice_get (ps ++ q ∷ []) k) same ∙ mine))) ∙ h
                  | inr h ↦ absurd (other h.1)
                ]
          ]
    ]

    placed : (index place : ℕ) → slice_get (slice_set ps w q) index ≡ Some place → slice_get (slice_set (slice_set ws i code) q w) place ≡ Some index
    placed k place e = elim (cases_eq k w) [
      | inl same ↦
          let is : q ≡ place = same_Some q place (sym (at-replaced ps w q inside) ∙ ap (λ j. slice_get (slice_set ps w q) j) (sym same) ∙ e) in
          ap (λ j. slice_get (slice_set (slice_set ws i code) q w) j) (sym is) ∙ at-replaced (slice_set ws i code) q w within ∙ ap Some (sym same)
      | inr other ↦
          let there = sym (at-other ps k w q other) ∙ e in
          let lt = slice_get_within ps k place there in
          let o = m.placed k place (at-front ps q k lt ∙ there) in
          at-other (slice_set ws i code) place q w (λ same. let is : k ≡ length ps = same_Some k (length ps) (sym o ∙ ap (slice_get ws) same ∙ last) in absurd (omega arith))
          ∙ at-other ws place i code (λ same. other (same_Some k w (sym o ∙ ap (slice_get ws) same ∙ at)))
          ∙ o
    ]
