-- Calls of a device that does not wait.
use Rattle.std.specs.Prelude.{ℕ, ◌≤◌, Bool, true, false, not, ◌&&◌, ◌==◌, List, length, Option, Result, Ok, Err}
use Rattle.std.specs.Io.KnownBytes.{Appends}
use Rattle.std.specs.IoError.{error_kind}
use Rattle.std.specs.declared.io.Error.{Error}
use Rattle.std.specs.declared.io.ErrorKind.{ErrorKind}
use Rattle.std.specs.declared.io.ErrorKind.TheVariants.{Interrupted, WouldBlock}
use Rattle.cache_run.specs.Devices.Failures.{HasFailed}
use Rattle.cache_link.specs.declared.patient.Patient.{Patient}

-- a call failed only for now: it was interrupted, or would have had to wait
abbrev pub is_for_now : ErrorKind → Bool
is_for_now Interrupted = true
is_for_now WouldBlock = true
is_for_now _ = false

-- a call would have had to wait
abbrev pub would_wait : ErrorKind → Bool
would_wait WouldBlock = true
would_wait _ = false

abbrev pub would_wait_by : {X : Type 0} → Result X Error → Bool
would_wait_by (Ok x) = false
would_wait_by (Err e) = would_wait (error_kind e)

-- a call failed, and not only for now
abbrev pub is_broken_by : {X : Type 0} → Result X Error → Bool
is_broken_by (Ok x) = false
is_broken_by (Err e) = not (is_for_now (error_kind e))

-- or a write took none of some bytes
abbrev pub is_broken_at : List ℕ → Result ℕ Error → Bool
is_broken_at piece (Ok n) = n == 0 && not (length piece == 0)
is_broken_at piece (Err e) = not (is_for_now (error_kind e))

-- the device itself
abbrev pub device_of : {T : Type 0} → Patient T → T
device_of patient = patient.inner

-- it broke down in between, unless its count was full
abbrev pub BreaksDown : {T : Type 0} → (was is : Patient T) → Type 0
BreaksDown was is = HasFailed was.broken is.broken

-- bytes may have been written to it in between
pub record WritesOn {T : Type 0} (contents : T → Option (List ℕ)) (was is : Patient T) : Type 0 where
  pub later : was.broken ≤ is.broken
  pub more : List ℕ
  pub wrote : Appends (contents (device_of was)) (contents (device_of is)) more
