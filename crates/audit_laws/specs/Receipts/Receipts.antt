-- Which receipts stand in a journal.
use Rattle.std.specs.Prelude.{◌≡◌, ℕ, ◌-◌, ◌<◌, List, [], ◌∷◌, MatchOption}
use Rattle.std.specs.List.{slice_get}
use Rattle.audit_model.specs.declared.transcript.Record.{Record}
use Rattle.audit_laws.specs.Receipts.Answers.{input_of, output_of}
use Rattle.audit_laws.specs.declared.receipts.receipt.Receipt.{Receipt}

-- the receipt is of this record: its input asks for that event, and its output is that of the record
abbrev pub IsOfRecord : Receipt → Record → Type 0
IsOfRecord receipt entry =
    (receipt.input ≡ input_of receipt.namespace entry.event)
    × (receipt.output ≡ output_of receipt.namespace entry)

-- the receipt is of the record with its number, counted from 1
abbrev pub StandsInJournal : List Record → Receipt → Type 0
StandsInJournal records receipt =
    (0 < receipt.number)
    × MatchOption (slice_get records (receipt.number - 1)) ⊥ (IsOfRecord receipt)

-- the receipts stand, and their numbers rise strictly, from above this one
abbrev pub StandFrom : ℕ → List Record → List Receipt → Type 0
StandFrom last records [] = Unit {0}
StandFrom last records (receipt ∷ receipts) =
    (last < receipt.number) × StandsInJournal records receipt
    × StandFrom receipt.number records receipts

-- the receipts are of this namespace
abbrev pub AreOf : ℕ → List Receipt → Type 0
AreOf namespace [] = Unit {0}
AreOf namespace (receipt ∷ receipts) = (receipt.namespace ≡ namespace) × AreOf namespace receipts
