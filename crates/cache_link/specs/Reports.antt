-- What a connection's socket reported, and what is left of it after a read.
use Rattle.std.specs.Prelude.{◌≡◌, ◌<◌, ◌⊎◌, ℕ, Bool, true, false, if◌then◌else◌, List, length, Option, Result, MatchResult}
use Rattle.std.specs.Io.KnownBytes.{Consumes}
use Rattle.std.specs.declared.io.Error.{Error}
use Rattle.cache_link.specs.Patience.{device_of, would_wait_by}
use Rattle.cache_run.specs.Devices.Failures.{HasFailed}
use Rattle.cache_link.specs.declared.link.Report.{Report}
use Rattle.cache_link.specs.declared.link.Report.TheVariants.{Nothing, Bytes, End}
use Rattle.cache_link.specs.declared.patient.Patient.{Patient}

-- what was reported, and that there are bytes to read
abbrev pub report_with_bytes : Report → Report
report_with_bytes End = End
report_with_bytes _ = Bytes

-- what was reported, and then that there are bytes to read, or that the input ends
abbrev pub report_with : Report → Bool → Bool → Report
report_with report is_readable is_ending =
    if is_ending then End else (if is_readable then report_with_bytes report else report)

-- what is left of it after a read that filled its room, or did not
abbrev pub report_after : Report → Bool → Report
report_after Bytes false = Nothing
report_after report is_full = report

-- After a read with this result an end that was reported is still there, unless the read would have had to wait; and bytes are, unless it
-- would have had to wait, or took few.
pub record HearsOf (filled : Result ℕ Error) (before after : Report) : Type 0 where
  pub ending : before ≡ End → (after ≡ End) ⊎ (would_wait_by filled ≡ true)
  pub bytes : before ≡ Bytes → after ≡ Nothing → (would_wait_by filled ≡ true)
      ⊎ MatchResult filled (λ n. (0 < n) × (n < 8192)) (λ e. ⊥)

-- some bytes were read, fewer than there was room for
abbrev pub TakesFew : Option (List ℕ) → Option (List ℕ) → Type 0
TakesFew before after =
    (piece : List ℕ) × Consumes before after piece × (0 < length piece) × (length piece < 8192)

-- An end that was reported is still there, unless a read would have had to wait; and bytes are, unless a read would have had to wait, or
-- took fewer than there was room for.
pub record Hears {R : Type 0} (remaining : R → Option (List ℕ)) (before after : Report)
    (was is : Patient R) : Type 0 where
  pub ending : before ≡ End → (after ≡ End) ⊎ HasFailed was.waited is.waited
  pub bytes : before ≡ Bytes → after ≡ Nothing → HasFailed was.waited is.waited
      ⊎ TakesFew (remaining (device_of was)) (remaining (device_of is))
