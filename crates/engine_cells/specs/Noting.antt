-- Reads and writes with the places of their records.
use Rattle.std.specs.Prelude.{◌≡◌, ℕ, ◌<◌, List, [], ◌∷◌, Option, Some}
use Rattle.engine_reference.specs.declared.data.Read.{Read}
use Rattle.engine_reference.specs.declared.data.Read.TheVariants as read
use Rattle.engine_reference.specs.declared.data.Write.{Write}
use Rattle.engine_reference.specs.declared.data.Write.TheVariants.{Put, Removed}
use Rattle.engine_pending.specs.declared.tickets.Ticketed.{Ticketed}
use Rattle.engine_reference.specs.declared.data.Record.{Record}
use Rattle.engine_cells.specs.declared.noting.PlacedWrite.{PlacedWrite}
use Rattle.engine_cells.specs.declared.noting.Noted.{Noted}
use Rattle.engine_cells.specs.declared.noting.Noted.TheVariants.{Hit, Miss}
use Rattle.engine_cells.specs.Cells.{cell_at}
use Rattle.engine_cells.specs.Kept.{numbered_at}

-- the read, without the place
abbrev pub read_of : Noted → Read
read_of (Hit hash place number) = read.Hit number hash
read_of (Miss hash) = read.Miss hash

-- the write, without the place
abbrev pub write_of : PlacedWrite → Write
write_of w = w.write

-- the number of the record that was written or removed
abbrev pub number_written : Write → ℕ
number_written (Put u) = u.number
number_written (Removed number) = number

-- whatever cell has the number is in the place
abbrev pub AimsAt : {K V : Type 0} → List (Option (Record K V)) → ℕ → ℕ → ℕ → Type 0
AimsAt {K} {V} cells next place number =
    (number < next)
    × ((i : ℕ) (c : Record K V) → cell_at cells i ≡ Some c → c.number ≡ number → i ≡ place)

abbrev pub IsAimed : {K V : Type 0} → List (Option (Record K V)) → ℕ → Noted → Type 0
IsAimed cells next (Hit hash place number) = AimsAt cells next place number
IsAimed cells next (Miss hash) = Unit {0}

abbrev pub AreAimed : {K V : Type 0} → List (Option (Record K V)) → ℕ → List Noted → Type 0
AreAimed cells next [] = Unit {0}
AreAimed cells next (n ∷ ns) = IsAimed cells next n × AreAimed cells next ns

abbrev pub AreWritesAimed : {K V : Type 0} → List (Option (Record K V)) → ℕ → List PlacedWrite
    → Type 0
AreWritesAimed cells next [] = Unit {0}
AreWritesAimed cells next (w ∷ ws) =
    AimsAt cells next w.place (number_written w.write) × AreWritesAimed cells next ws

abbrev pub AreUnsentAimed : {K V : Type 0} → List (Option (Record K V)) → ℕ
    → List (Ticketed PlacedWrite) → Type 0
AreUnsentAimed cells next [] = Unit {0}
AreUnsentAimed cells next (u ∷ us) =
    AimsAt cells next u.write.place (number_written u.write.write) × AreUnsentAimed cells next us

-- all that waits has the places of its records
pub record AreAllAimed {K V : Type 0} (cells : List (Option (Record K V))) (next : ℕ)
    (reads : List Noted) (writes : List PlacedWrite) (unsent : List (Ticketed PlacedWrite)) :
    Type 0 where
  pub reads_are : AreAimed cells next reads
  pub writes_are : AreWritesAimed cells next writes
  pub unsent_are : AreUnsentAimed cells next unsent

-- the same, as a contract sees it: by the number in each place
abbrev pub AimsOnlyAt : List (Option ℕ) → ℕ → ℕ → Type 0
AimsOnlyAt numbers place number = (i : ℕ) → numbered_at numbers i ≡ Some number → i ≡ place

abbrev pub AimsRight : List (Option ℕ) → Noted → Type 0
AimsRight numbers (Hit hash place number) = AimsOnlyAt numbers place number
AimsRight numbers (Miss hash) = Unit {0}
