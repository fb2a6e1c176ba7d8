-- Devices that do not wait.
use Rattle.std.proofs.Common.{◌≡◌, ℕ, ◌≤◌, List, [], ◌∷◌, ◌++◌, Option, None, Some, Bool, true, false, arith, sym, subst, Result, Ok, Err, length, refl}
use Rattle.std.specs.Io.KnownBytes.{Appends, Consumes, IsAtEnd, Keeps}
use Rattle.cache_run.specs.Devices.Failures.{HasFailed, failures_after}
use Rattle.cache_run.proofs.devices.Sending.{appends_more, sent_all}
use Rattle.cache_run.specs.Devices.Sent.{SentBut}
use Rattle.cache_run.specs.Driver.Causes.{Obtains}
use Rattle.cache_link.specs.Patience.{WritesOn, device_of}
use Rattle.cache_link.specs.declared.patient.Patient.{Patient}

pub counted-fails : (failed : Bool) (before after : ℕ) → after ≡ failures_after failed before → failed ≡ true → HasFailed before after
counted-fails true before after count broke = λ room. omega (arith, count, room)
counted-fails false before after count broke = let no : false ≡ true = broke in cc

-- what keeps the bytes consumes none
consumes-none : (a b : Option (List ℕ)) → Keeps a b → Consumes a b []
consumes-none None b keeps = tt
consumes-none (Some a) None keeps = absurd keeps
consumes-none (Some a) (Some b) keeps = sym keeps

pub obtains-consumes : {E : Type 0} (a b : Option (List ℕ)) (bytes : List ℕ) (r : Result ℕ E) → Obtains a b bytes r → Consumes a b bytes
obtains-consumes a b bytes (Ok n) got = got.0
obtains-consumes a b bytes (Err e) got = subst (Consumes a b) (sym got.0) (consumes-none a b got.1)

no-bytes : (bytes : List ℕ) → length bytes ≡ 0 → bytes ≡ []
no-bytes [] none = refl
no-bytes (byte ∷ bytes) none = absurd (omega (arith, none))

pub obtains-end : {E : Type 0} (a b : Option (List ℕ)) (bytes : List ℕ) (r : Result ℕ E) → Obtains a b bytes r → r ≡ Ok 0 → (bytes ≡ []) × IsAtEnd b
obtains-end a b bytes r got end = let none = rw end at got in (no-bytes bytes none.1, none.2 refl)

-- what was written of some bytes
pub writes-sent : {W : Type 0} (contents : W → Option (List ℕ)) (was is : Patient W) (rest output : List ℕ) → was.broken ≤ is.broken → SentBut rest output (contents (device_of was)) (contents (device_of is)) → WritesOn contents was is
writes-sent contents was is rest output later sent = record { later = later; more = sent.sent; wrote = sent.wrote }

-- all of some bytes, and then more
pub appends-first : {W : Type 0} (contents : W → Option (List ℕ)) (was mid is : Patient W) (rest output : List ℕ) → SentBut rest output (contents (device_of was)) (contents (device_of mid)) → rest ≡ [] → WritesOn contents mid is
    → (more : List ℕ) × Appends (contents (device_of was)) (contents (device_of is)) (output ++ more)
appends-first contents was mid is rest output sent none writes = (writes.more, appends_more (contents (device_of was)) (contents (device_of mid)) (contents (device_of is)) output writes.more (sent_all output rest (contents (device_of was)) (contents (device_of mid)) sent none) writes.wrote)
