-- How receipts that stand in a journal relate to it.
use Rattle.std.specs.Prelude.{◌≡◌, ◌⊎◌, List, [], ◌∷◌}
use Rattle.audit_model.specs.declared.transcript.Record.{Record}
use Rattle.audit_laws.specs.Receipts.Receipts.{IsOfRecord, StandFrom}
use Rattle.audit_laws.specs.declared.receipts.receipt.Receipt.{Receipt}

-- the first list is the second one without some elements
abbrev pub IsPart : {X : Type 0} → List X → List X → Type 0
IsPart [] ys = Unit {0}
IsPart (x ∷ xs) [] = ⊥
IsPart (x ∷ xs) (y ∷ ys) = ((x ≡ y) × IsPart xs ys) ⊎ IsPart (x ∷ xs) ys

-- one by one, the receipts are of these records
abbrev pub AreOfRecords : List Receipt → List Record → Type 0
AreOfRecords [] [] = Unit {0}
AreOfRecords [] (entry ∷ entries) = ⊥
AreOfRecords (receipt ∷ receipts) [] = ⊥
AreOfRecords (receipt ∷ receipts) (entry ∷ entries) =
    IsOfRecord receipt entry × AreOfRecords receipts entries

-- the receipts are of some of the records, in their order
pub record AreReceiptsInOrder (records : List Record) (receipts : List Receipt) : Type 0 where
  pub entries : List Record
  pub part : IsPart entries records
  pub each : AreOfRecords receipts entries

-- this is so for receipts that stand
abbrev pub ReceiptsInOrder : Type 0
ReceiptsInOrder =
    (records : List Record) (receipts : List Receipt) → StandFrom 0 records receipts
    → AreReceiptsInOrder records receipts
