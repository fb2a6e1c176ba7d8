-- What can be seen of a watched device.
use Rattle.std.specs.Prelude.{ℕ}
use Rattle.cache_run.specs.declared.devices.watched.Watched.{Watched}

-- the device itself
abbrev pub device : {T : Type 0} → Watched T → T
device watched = watched.inner

-- how many of its calls failed, at most 2 ^ 64 - 1
abbrev pub failures : {T : Type 0} → Watched T → ℕ
failures watched = watched.failed
