-- One connection from its opening to its closing.
use Rattle.std.specs.Prelude.{◌≡◌, ℕ, ◌+◌, Bool, true, false, List, [], length, Option, Some, None, ◌⊎◌}
use Rattle.std.specs.Io.KnownBytes.{IsAtEnd}
use Rattle.audit_model.specs.Follows.{Follows}
use Rattle.audit_model.specs.Situation.{Situation}
use Rattle.audit_model.specs.declared.command.Closing.{Closing}
use Rattle.audit_model.specs.declared.command.Closing.TheVariants as by
use Rattle.audit_model.specs.declared.config.Config.{Config}
use Rattle.audit_model.specs.declared.event.Event.{Event}
use Rattle.audit_model.specs.declared.event.Event.TheVariants as event
use Rattle.audit_model.specs.declared.transcript.Note.{Note}
use Rattle.audit_model.specs.declared.transcript.Record.{Record}
use Rattle.cache_run.specs.Devices.Watched.{device}
use Rattle.cache_run.specs.declared.devices.watched.Watched.{Watched}
use Rattle.cache_spaces.specs.Calls.{At}
use Rattle.cache_spaces.specs.Spaces.{closing_of, config_of, untaken_notes}
use Rattle.audit_model.specs.declared.event.Outcome.{Outcome}
use Rattle.audit_laws.specs.Waiting.Alone.{WaitsAlone}
use Rattle.cache_run.specs.Loading.{AddsNoLoads, loads_under_way_in}
use Rattle.cache_spaces.specs.Services.{BareSpace}
use Rattle.cache_run.specs.Worlds.{Broken, Carried, nothing_left, outside, world, LeadsOnAlone}
use Rattle.cache_run.specs.Connected.{IsEnded}
use Rattle.cache_run.specs.Happened.{record_of}
use Rattle.cache_run.specs.Driver.Drives.{Outside}
use Rattle.cache_run.specs.declared.devices.errors.RunError.{RunError}
use Rattle.cache_run.specs.declared.devices.errors.RunError.TheVariants.{OutOfMemory}

-- the number that the next connection gets
abbrev pub next_number : BareSpace → ℕ
next_number space = length space.closings + 1

-- the event's record follows without steps, and nothing was reported
pub record Quiet (config : Config) (happened : Event) (s t : Situation) (before after : List Note) :
    Type 0 where
  pub follows : Follows config s (record_of happened []) t
  pub notices : after ≡ before

-- no record follows, and nothing was reported
pub record Unfed (s t : Situation) (before after : List Note) : Type 0 where
  pub same : t ≡ s
  pub notices : after ≡ before

-- an open connection is closed as requested, and one that was closed by what it was fed stays so
abbrev pub Closes : ℕ → BareSpace → BareSpace → Type 0
Closes number was is =
    ((closing_of was number ≡ None) × (closing_of is number ≡ Some by.Asked) × LeadsOnAlone number was is
    (λ s t. Quiet (config_of was) (event.Close number) s t (untaken_notes was) (untaken_notes is)))
    ⊎ (IsEnded (closing_of was number) × (closing_of is number ≡ closing_of was number)
    × LeadsOnAlone number was is (λ s t. Unfed s t (untaken_notes was) (untaken_notes is)))

-- it was closed as requested at the end of the input, or by what it was fed: a line that is too long, a `QUIT`, or too many bytes after a
-- `LOAD` that waits
abbrev pub EndsConnection : Bool → Option Closing → Option (List ℕ) → Type 0
EndsConnection true closing remaining = (closing ≡ Some by.Asked) × IsAtEnd remaining
EndsConnection false closing remaining = IsEnded closing

-- One connection was opened, fed with all that was read, and closed; the bytes written are its replies.
pub record ServesWhole {C L : Type 0} (reads : C → ℕ → C → Type 0)
    (loads : L → List ℕ → Option Outcome → L → Type 0) (was is : BareSpace)
    (before after : Outside C L) : Type 0 where
  pub number : ℕ
  pub next : number ≡ next_number was
  pub closes : Bool
  pub goes : LeadsOnAlone number was is (λ s t. Carried (config_of was) number reads loads
      (world was s before) (world is t after) true closes [] nothing_left)
  pub ends : EndsConnection closes (closing_of is number) after.remaining
  -- each load under way afterwards was under way before
  pub settled : AddsNoLoads was is

-- One connection was opened, fed, and closed after an error, and then loads were given up; the bytes written are a prefix of its replies.
pub record ServesPartly {C L : Type 0} (reads : C → ℕ → C → Type 0)
    (loads : L → List ℕ → Option Outcome → L → Type 0) (was is : BareSpace)
    (before after : Outside C L) (e : RunError) : Type 0 where
  pub number : ℕ
  pub next : number ≡ next_number was
  pub closes : Bool
  pub goes : LeadsOnAlone number was is (λ s t. (drops : List Record) × Broken (config_of was) number reads
      loads (world was s before) (world is t after) true closes drops e)
  pub why : Closing
  pub closed : closing_of is number ≡ Some why
  -- if no other connection waits for a load, each load under way afterwards was under way before
  pub settled : WaitsAlone number (loads_under_way_in was) → AddsNoLoads was is

-- ---- over devices

-- this happened to a namespace, a reader, a writer, a clock and a loader
abbrev pub RunsWhole : {R W C L : Type 0} → (R → Option (List ℕ)) → (W → Option (List ℕ))
    → (C → ℕ → C → Type 0) → (L → List ℕ → Option Outcome → L → Type 0) → ℕ → List BareSpace
    → List BareSpace
    → Watched R → Watched R → Watched W → Watched W → C → C → L → L → Type 0
RunsWhole remaining contents reads loads namespace old new reader reader' writer writer' clock clock' loader loader' =
    At old new namespace (λ was is. ServesWhole reads loads was is
    (outside (remaining (device reader)) (contents (device writer)) clock loader)
    (outside (remaining (device reader')) (contents (device writer')) clock' loader'))

-- no connection was opened for lack of memory, and nothing was called; or one was served, except for what the error left
abbrev pub RunsPartly : {R W C L : Type 0} → (R → Option (List ℕ)) → (W → Option (List ℕ))
    → (C → ℕ → C → Type 0) → (L → List ℕ → Option Outcome → L → Type 0) → ℕ → List BareSpace
    → List BareSpace
    → Watched R → Watched R → Watched W → Watched W → C → C → L → L → RunError → Type 0
RunsPartly remaining contents reads loads namespace old new reader reader' writer writer' clock clock' loader loader' e =
    ((e ≡ OutOfMemory) × (new ≡ old) × (reader' ≡ reader) × (writer' ≡ writer) × (clock' ≡ clock)
    × (loader' ≡ loader))
    ⊎ At old new namespace (λ was is. ServesPartly reads loads was is
    (outside (remaining (device reader)) (contents (device writer)) clock loader)
    (outside (remaining (device reader')) (contents (device writer')) clock' loader') e)
