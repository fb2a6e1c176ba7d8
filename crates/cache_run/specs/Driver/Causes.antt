-- Why a driver stops, and the result of a read.
use Rattle.std.specs.Prelude.{◌≤◌, ◌+◌, ◌^◌, ◌-◌, ℕ, List, length, min, Option, Result, Ok, Err, ◌≡◌, ◌<◌, ◌⊎◌, ◌++◌, Bool, true, false, [], MatchResult}
use Rattle.std.specs.Io.KnownBytes.{Consumes, IsAtEnd, Keeps}
use Rattle.audit_model.specs.declared.event.Outcome.{Outcome}
use Rattle.cache_run.specs.Devices.Failures.{HasFailed}
use Rattle.cache_run.specs.Devices.Sources.{Asking, Askings}
use Rattle.cache_run.specs.Devices.Watched.{device, failures}
use Rattle.cache_run.specs.declared.devices.errors.RunError.{RunError}
use Rattle.cache_run.specs.declared.devices.errors.RunError.TheVariants.{Read, Write, OutOfMemory, UsedUp, Moment}
use Rattle.cache_run.specs.declared.devices.watched.Watched.{Watched}
use Rattle.cache_run.specs.declared.driver.driving.Progress.{Progress}
use Rattle.cache_run.specs.declared.driver.driving.Progress.TheVariants.{More, Over}

-- each error has its cause: the cause of a failed read, of a failed write, of something used up, and of a moment that is too late
abbrev pub Because : Type 0 → Type 0 → Type 0 → Type 0 → RunError → Type 0
Because read write used_up late Read = read
Because read write used_up late Write = write
Because read write used_up late OutOfMemory = Unit {0}
Because read write used_up late UsedUp = used_up
Because read write used_up late Moment = late

-- a device failed in between, unless its count was full
abbrev pub Fails : {T : Type 0} → (was is : Watched T) → Type 0
Fails was is = HasFailed (failures was) (failures is)

-- the loader was asked at least this often
abbrev pub HasAsked : {L : Type 0} → (L → List ℕ → Option Outcome → L → Type 0) → L → ℕ → L → Type 0
HasAsked loads before count after =
    (askings : List Asking) × Askings loads before askings after × (count ≤ length askings)

-- bytes that were read, loads that were requested, and calls of the reader that failed (of which at most 2 ^ 64 - 1 are counted) are at
-- least this many in total
abbrev pub RunsFor : {R L : Type 0} → ℕ → (R → Option (List ℕ))
    → (L → List ℕ → Option Outcome → L → Type 0) → Watched R → Watched R → L → L → Type 0
RunsFor turns remaining loads reader reader' loader loader' =
    (bytes : List ℕ) × (askings : List Asking) × (failed : ℕ) × Consumes (remaining (device reader))
    (remaining (device reader')) bytes × Askings loads loader askings loader'
    × (min (failures reader + failed) (2 ^ 64 - 1) ≤ failures reader')
    × (turns ≤ length bytes + length askings + failed)

-- the bytes that were read, the loads that were requested, and the reader's failures, as its count says at the end, together reach 2 ^ 64 -
-- 1
abbrev pub RunsOut : {R L : Type 0} → (R → Option (List ℕ))
    → (L → List ℕ → Option Outcome → L → Type 0) → Watched R → Watched R → L → L → Type 0
RunsOut remaining loads reader reader' loader loader' =
    (bytes : List ℕ) × (askings : List Asking) × Consumes (remaining (device reader))
    (remaining (device reader')) bytes × Askings loads loader askings loader'
    × (2 ^ 64 - 1 ≤ length bytes + length askings + failures reader')

-- how a connection ends that is not continued: turns that were used up are an error
abbrev pub outcome_by : Result Progress RunError → Result (Unit {0}) RunError
outcome_by (Ok More) = Err UsedUp
outcome_by (Ok Over) = Ok tt
outcome_by (Err e) = Err e

-- The result of a read.

module _ {R : Type 0} (remaining : R → Option (List ℕ)) (old new : List ℕ) (was is : Watched R) where
  -- what was read was appended to what was there
  pub record Reads : Type 0 where
    pub piece : List ℕ
    pub whole : new ≡ old ++ piece
    pub bytes : Consumes (remaining (device was)) (remaining (device is)) piece
    pub later : failures was ≤ failures is

  -- there is a byte, or the reader failed; at the end there is none
  abbrev pub GoesOn : Bool → Type 0
  GoesOn true = Fails was is ⊎ (0 < length new)
  GoesOn false = (new ≡ []) × IsAtEnd (remaining (device is))

  -- an error comes from the reader
  abbrev pub Fills : Result Bool RunError → Type 0
  Fills result = Reads × MatchResult result GoesOn (λ e. (e ≡ Read) × Fails was is)

-- Bytes were read, none only at the end; after an error none.
abbrev pub Obtains : {E : Type 0} → Option (List ℕ) → Option (List ℕ) → List ℕ → Result ℕ E → Type 0
Obtains before after bytes result =
    MatchResult result (λ n. Consumes before after bytes × (length bytes ≡ n)
    × (n ≡ 0 → IsAtEnd after)) (λ e. (bytes ≡ []) × Keeps before after)
