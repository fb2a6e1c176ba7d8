-- Parts of a list.
use Rattle.std.proofs.Common.{◌≡◌, ℕ, zero, suc, ◌-◌, ◌<◌, ◌≤◌, List, [], ◌∷◌, drop, Option, Some, None, refl, sym, subst, inl, inr, arith}
use Rattle.std.specs.Prelude.{MatchOption}
use Rattle.std.specs.List.{slice_get}
use Rattle.std.proofs.lemmas.Option.{none-some, same_Some}
use Rattle.audit_model.specs.declared.transcript.Record.{Record}
use Rattle.audit_laws.specs.Receipts.Receipts.{IsOfRecord, StandsInJournal, StandFrom}
use Rattle.audit_laws.specs.declared.receipts.receipt.Receipt.{Receipt}
use Rattle.audit_laws.specs.Receipts.Laws.{IsPart, AreOfRecords, AreReceiptsInOrder}

module _ {X : Type 0} where
  -- a part, behind an element that stands at a place or after it
  pub part-with : (xs ys : List X) (x : X) (i k : ℕ) → i ≤ k → slice_get xs k ≡ Some x → IsPart ys (drop (suc k) xs) → IsPart (x ∷ ys) (drop i xs)
  part-with [] ys x i k le at part = absurd (none-some x at)
  part-with (z ∷ zs) ys x zero zero le at part = inl (sym (same_Some z x at), part)
  part-with (z ∷ zs) ys x zero (suc k) le at part = inr (part-with zs ys x zero k (omega arith) at part)
  part-with (z ∷ zs) ys x (suc i) zero le at part = absurd (omega arith)
  part-with (z ∷ zs) ys x (suc i) (suc k) le at part = part-with zs ys x i k (omega arith) at part

-- the record that a receipt is of
record-of : (records : List Record) (receipt : Receipt) → StandsInJournal records receipt → (entry : Record) × (slice_get records (receipt.number - 1) ≡ Some entry) × IsOfRecord receipt entry
record-of records receipt s = go (slice_get records (receipt.number - 1)) refl s.1
  where
    go : (found : Option Record) → slice_get records (receipt.number - 1) ≡ found → MatchOption found ⊥ (IsOfRecord receipt) → (entry : Record) × (slice_get records (receipt.number - 1) ≡ Some entry) × IsOfRecord receipt entry
    go None e m = absurd m
    go (Some entry) e m = (entry, e, m)

-- what receipts with numbers above one are of
record Behind (last : ℕ) (records : List Record) (receipts : List Receipt) : Type 0 where
  entries : List Record
  part : IsPart entries (drop last records)
  each : AreOfRecords receipts entries

behind : (last : ℕ) (records : List Record) (receipts : List Receipt) → StandFrom last records receipts → Behind last records receipts
behind last records [] s = record { entries = []; part = tt; each = tt }
behind last records (receipt ∷ receipts) s =
    let above : last < receipt.number = s.0 in
    let r = record-of records receipt s.1 in
    let rest = behind receipt.number records receipts s.2 in
    let next : suc (receipt.number - 1) ≡ receipt.number = omega arith in
    record {
      entries = r.0 ∷ rest.entries;
      part = part-with records rest.entries r.0 last (receipt.number - 1) (omega arith) r.1 (subst (λ n. IsPart rest.entries (drop n records)) (sym next) rest.part);
      each = (r.2, rest.each);
    }

pub in-order : (records : List Record) (receipts : List Receipt) → StandFrom 0 records receipts → AreReceiptsInOrder records receipts
in-order records receipts s = let b = behind 0 records receipts s in record { entries = b.entries; part = b.part; each = b.each }
