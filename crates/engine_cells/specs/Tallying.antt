-- Running totals, and the cells whose records they count.
use Rattle.std.specs.Prelude.{◌≡◌, ℕ, ◌+◌, ◌<◌, ◌^◌, if◌then◌else◌, List, [], ◌∷◌, Option, Some, None, is_some}
use Rattle.engine_reference.specs.declared.data.Record.{Record}
use Rattle.engine_reference.specs.Records.{weight_at}
use Rattle.engine_cells.specs.declared.tally.Tally.{Tally}
use Rattle.engine_cells.specs.Cells.{cell_at}

module _ {K V : Type 0} where
  -- what a record weighs among those that are held, and what it counts for among those that are admitted
  abbrev pub held_part : Record K V → ℕ
  held_part r = if r.is_held then r.entry.weight else 0

  abbrev pub admitted_part : Record K V → ℕ
  admitted_part r = if is_some r.counts then 1 else 0

  -- a sum over cells
  abbrev pub sum_over : (Record K V → ℕ) → List (Option (Record K V)) → ℕ
  sum_over f [] = 0
  sum_over f (None ∷ cells) = sum_over f cells
  sum_over f (Some c ∷ cells) = f c + sum_over f cells

  -- a record's weights have 32 bits
  pub record IsLightly (r : Record K V) : Type 0 where
    pub entry : r.entry.weight < 2 ^ 32
    pub counted : weight_at r < 2 ^ 32

  abbrev pub AreLightly : List (Option (Record K V)) → Type 0
  AreLightly cells = (i : ℕ) (c : Record K V) → cell_at cells i ≡ Some c → IsLightly c

  -- these are the totals of the cells
  pub record IsTallied (cells : List (Option (Record K V))) (t : Tally) : Type 0 where
    pub held : sum_over held_part cells ≡ t.held
    pub weight : sum_over weight_at cells ≡ t.weight
    pub number : sum_over admitted_part cells ≡ t.number
    pub light : AreLightly cells
