-- The receipts of seats.
use Rattle.std.specs.Prelude.{◌≡◌, ◌≢◌, ℕ, ◌+◌, ◌<◌, ◌==◌, ◌++◌, Bool, true, false, IsTrue, List, [], ◌∷◌, length, Some, map, get_or, sum_by, count_by, Vec}
use Rattle.std.specs.List.{slice_get}
use Rattle.std.specs.declared.alloc.Global.{Global}
use Rattle.audit_model.specs.declared.input.Input.{Input}
use Rattle.audit_model.specs.declared.transcript.Record.{Record}
use Rattle.audit_model.specs.declared.transcript.Transcript.{Transcript}
use Rattle.audit_laws.specs.Receipts.Receipts.{AreOf, StandFrom}
use Rattle.audit_laws.specs.declared.receipts.output.Output.{Output}
use Rattle.audit_laws.specs.declared.receipts.receipt.Receipt.{Receipt}
use Rattle.cache_shared.specs.Events.{IsLastNumber, is_output_for}
use Rattle.cache_spaces.specs.Calls.{namespace_of}

-- the receipts of a namespace: a seat keeps a list for each of the first namespaces, and the others have none
abbrev pub receipts_at : List (Vec Receipt Global) → ℕ → List Receipt
receipts_at lists namespace = get_or (map (λ list. list.items) lists) namespace []

-- the same receipts
abbrev pub SameReceipts : List (Vec Receipt Global) → List (Vec Receipt Global) → Type 0
SameReceipts before after =
    (namespace : ℕ) → receipts_at after namespace ≡ receipts_at before namespace

-- one more receipt of this namespace, and the same ones of the others
pub record Gains (before after : List (Vec Receipt Global)) (namespace : ℕ) (receipt : Receipt) :
    Type 0 where
  pub own : receipts_at after namespace ≡ receipts_at before namespace ++ receipt ∷ []
  pub others : (other : ℕ) → other ≢ namespace → receipts_at after other ≡ receipts_at before other

-- the receipt of an input that was taken
abbrev pub receipt_for : Input → Output → ℕ → Receipt
receipt_for i output number =
    record { namespace = namespace_of i; number = number; input = i; output = output }

-- the receipt of an input that was taken, with the number of the last record of its journal
abbrev pub GainsReceipt : List Transcript → List (Vec Receipt Global) → List (Vec Receipt Global)
    → Input → Output → Type 0
GainsReceipt journals before after i output =
    (number : ℕ) × IsLastNumber journals (namespace_of i) number
    × Gains before after (namespace_of i) (receipt_for i output number)

-- A seat counts an input that was taken, and has a receipt of it if the service keeps journals.
pub record Counts (keeps : Bool) (i : Input) (output : Output) (count later : ℕ)
    (before after : List (Vec Receipt Global)) : Type 0 where
  pub one : later ≡ count + 1
  pub receipt : keeps ≡ true → (number : ℕ)
      × Gains before after (namespace_of i) (receipt_for i output number)
  pub bare : keeps ≡ false → SameReceipts before after
  pub fits : IsTrue (is_output_for i output)

-- how many receipts have this number
abbrev pub numbered : ℕ → List Receipt → ℕ
numbered number receipts = count_by (λ receipt. receipt.number == number) receipts

module _ {X : Type 0} where
  -- the receipts of each are of the namespace, and in their order a part of its journal
  abbrev pub ArePartsOf : ℕ → List Record → (X → List Receipt) → List X → Type 0
  ArePartsOf namespace records own [] = Unit {0}
  ArePartsOf namespace records own (seat ∷ seats) =
      AreOf namespace (own seat) × StandFrom 0 records (own seat)
      × ArePartsOf namespace records own seats

  -- how many receipts of all of them have this number
  abbrev pub holders : (X → List Receipt) → ℕ → List X → ℕ
  holders own number seats = sum_by (λ seat. numbered number (own seat)) seats

  -- each number from 1 to this count is that of one receipt
  pub record EachOnce (own : X → List Receipt) (count : ℕ) (seats : List X) : Type 0 where
    pub at : (k : ℕ) → k < count → holders own (k + 1) seats ≡ 1

  -- the receipts of each are a part of the namespace's journal, and in total each record has one
  pub record Agree (namespace : ℕ) (records : List Record) (own : X → List Receipt) (seats : List X)
      : Type 0 where
    pub parts : ArePartsOf namespace records own seats
    pub once : EachOnce own (length records) seats

  -- this is so for each namespace below this one
  abbrev pub AgreeBelow : ℕ → List Transcript → (X → List (Vec Receipt Global)) → List X → Type 0
  AgreeBelow n journals lists seats =
      (namespace : ℕ) (journal : Transcript) → namespace < n
      → slice_get journals namespace ≡ Some journal
      → Agree namespace journal.records (λ seat. receipts_at (lists seat) namespace) seats

  -- and for each namespace
  pub record AgreeAll (journals : List Transcript) (lists : X → List (Vec Receipt Global))
      (seats : List X) : Type 0 where
    pub each : (namespace : ℕ) (journal : Transcript) → slice_get journals namespace ≡ Some journal
        → Agree namespace journal.records (λ seat. receipts_at (lists seat) namespace) seats
