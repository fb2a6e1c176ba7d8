use Rattle.std.proofs.Common.{◌≡◌, ap, sym, ◌∙◌, List, ℕ, Some, is_some}
use Rattle.std.specs.Prelude.{slice_get}
use Rattle.policy_queue.specs.Indices.{from_index, has_index}
use Rattle.policy_queue.specs.Queue.{tail}
use Rattle.engine_cells.specs.Cells.{cell_at, has_counts, numbers_in}
use Rattle.engine_cells.specs.Kept.{kept_at}
use Rattle.engine_cells.specs.Looking.{behind}
use Rattle.engine_cells.proofs.Pointing.{fronts-of, no-front}
use Rattle.engine_cells.proofs.Settling.{has_further, has_tail}
use Rattle.engine_cells.proofs.Standing.{list-behind}
use Rattle.engine_cells.proofs.Views.{kept-in}
use Rattle.engine_cells.proofs.Walking.{found-map, none-map}
use Rattle.engine_tables.proofs.tables.Tables.next_used.Goals as goal

pub index_of-index-requires : goal.index_of-index-requires
index_of-index-requires g c =
    let seen = ap (λ t. kept_at t c.args.place) (sym c.self.view_is) ∙ kept-in c.self.inside.cells.slots c.args.place c.self.invariant.kept.apart in
    ap (λ o. is_some o) (sym seen ∙ c.requires.1)

pub behind-requires : goal.behind-requires
behind-requires g c =
    let i = c.args.place in
    let seen = ap (λ t. kept_at t i) (sym c.self.view_is) ∙ kept-in c.self.inside.cells.slots i c.self.invariant.kept.apart in
    ap (λ k. has_index k c.self.inside.access.indices) c.index_of-index.ensures.is ∙ c.self.invariant.used.listed i ∙ ap (λ o. has_counts o) (sym seen ∙ c.requires.1) ∙ c.requires.2

pub returns-clause-next : goal.returns-clause-next
returns-clause-next g c = λ r at.
    let cells = c.self.inside.cells.slots in
    let i = c.args.place in
    let places = c.self.inside.access.indices in
    let apart = c.self.invariant.kept.apart in
    let there : cell_at cells i ≡ Some r = sym (ap (λ t. kept_at t i) (sym c.self.view_is) ∙ kept-in cells i apart) ∙ at in
    let rest : List ℕ = tail (from_index c.index_of-index.result places) in
    let same : rest ≡ tail (from_index i places) = ap (λ k. tail (from_index k places)) c.index_of-index.ensures.is in
    found-map _ _ (λ j f. (
      f.cell,
      ap (λ t. kept_at t j) (sym c.self.view_is) ∙ kept-in cells j apart ∙ f.there,
      ap (λ t. slice_get (behind r.number t.state.access) 0) (sym c.self.view_is)
          ∙ ap (λ ns. slice_get ns 0) (sym (list-behind cells places i r apart c.self.invariant.used there) ∙ ap (numbers_in cells) (sym same))
          ∙ f.first,
      f.counts,
    )) c.place_at.result (fronts-of cells places rest c.place_at.result c.self.invariant.used (λ j has. has_further j c.index_of-index.result places (has_tail j (from_index c.index_of-index.result places) has)) (c.place_at.ensures ∙ c.behind.ensures))

pub returns-clause-last : goal.returns-clause-last
returns-clause-last g c = λ r at.
    let cells = c.self.inside.cells.slots in
    let i = c.args.place in
    let places = c.self.inside.access.indices in
    let apart = c.self.invariant.kept.apart in
    let there : cell_at cells i ≡ Some r = sym (ap (λ t. kept_at t i) (sym c.self.view_is) ∙ kept-in cells i apart) ∙ at in
    let rest : List ℕ = tail (from_index c.index_of-index.result places) in
    let same : rest ≡ tail (from_index i places) = ap (λ k. tail (from_index k places)) c.index_of-index.ensures.is in
    none-map _ _ (λ none.
    ap (λ t. behind r.number t.state.access) (sym c.self.view_is)
    ∙ sym (list-behind cells places i r apart c.self.invariant.used there)
    ∙ ap (numbers_in cells) (sym same ∙ none)) c.place_at.result (no-front rest c.place_at.result (c.place_at.ensures ∙ c.behind.ensures))
