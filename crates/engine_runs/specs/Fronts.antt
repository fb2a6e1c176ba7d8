-- What a run sees at the fronts of its lists.
use Rattle.std.specs.Prelude.{◌≡◌, ℕ, nat_lt, true, not, ◌&&◌, if◌then◌else◌, [], Option, Some, None}
use Rattle.engine_reference.specs.declared.rules.causes.RemovalCause.{RemovalCause}
use Rattle.engine_reference.specs.declared.rules.causes.RemovalCause.TheVariants as cause
use Rattle.engine_reference.specs.declared.data.Record.{Record}
use Rattle.engine_reference.specs.Admission.{is_above}
use Rattle.engine_reference.specs.Records.{admitted_weight, settled_in}
use Rattle.engine_reference.specs.Runs.{next_to_evict, FrontsAreClean}
use Rattle.engine_reference.specs.State.{State}
use Rattle.engine_reference.specs.Times.{end_of, is_reached, has_come}
use Rattle.engine_cells.specs.Swept.{NoneIsCleared}

module _ {K V : Type 0} where
  -- why a record has to leave by its last write: it is past its live time, or of a step before the clear
  abbrev pub why_written : Option ℕ → ℕ → ℕ → Record K V → Option RemovalCause
  why_written live cleared now r =
      if not r.is_held then None
      else (if is_reached (end_of r.entry.written live) now then Some cause.Expired
      else (if nat_lt r.entry.step cleared then Some cause.Explicit else None))

  -- why by its last use: it is past its idle time
  abbrev pub why_used : Option ℕ → ℕ → Record K V → Option RemovalCause
  why_used idle now r =
      if r.is_held && is_reached (end_of r.entry.used idle) now then Some cause.Expired else None

module _ {K V P S R : Type 0} where
  -- a record may leave for this cause: it is held and its deadline has come, or it is of a step before the clear, or it is the next to go for the weight, where nothing else has to leave
  pub data MayLeave (s : State K V P S R) (now : ℕ) (r : Record K V) (why : RemovalCause) : Type 0
    where
      dies : r.is_held ≡ true → has_come s.settings now r.entry ≡ true → why ≡ cause.Expired
          → MayLeave s now r why
      cleared : r.is_held ≡ true → nat_lt r.entry.step s.cleared ≡ true → why ≡ cause.Explicit
          → MayLeave s now r why
      excess : FrontsAreClean now s → is_above s.settings.capacity (admitted_weight s.records) ≡ true
          → next_to_evict s ≡ Some r → why ≡ cause.Size → MayLeave s now r why

  -- where the weight is above the capacity nothing is settled
  abbrev pub IsLight : State K V P S R → Type 0
  IsLight s =
      is_above s.settings.capacity (admitted_weight s.records) ≡ true
      → settled_in s.records s.access ≡ []

  -- nothing has to leave
  pub record IsClean (now : ℕ) (s : State K V P S R) : Type 0 where
    pub fronts : FrontsAreClean now s
    pub light : IsLight s

  -- where no live time is set, so that no write list shows what is old, no held record is of a step before the clear
  abbrev pub HidesNone : State K V P S R → Type 0
  HidesNone s = s.settings.live ≡ None → NoneIsCleared s
