-- What is inside and outside of a namespace at one moment, and how it changes by what one connection does.
use Rattle.std.specs.Prelude.{◌≡◌, ◌≢◌, ℕ, List, Option, ◌≤◌, ◌^◌, Bool, [], ◌∷◌, ◌++◌, map, Some, if◌then◌else◌}
use Rattle.std.specs.Io.KnownBytes.{Consumes, Appends}
use Rattle.std.specs.List.{flat_map}
use Rattle.audit_model.specs.Follows.{after_records}
use Rattle.audit_model.specs.Situation.{Situation}
use Rattle.audit_model.specs.declared.config.Config.{Config}
use Rattle.audit_model.specs.declared.event.Outcome.{Outcome}
use Rattle.audit_model.specs.declared.input.LoadId.{LoadId}
use Rattle.audit_model.specs.declared.transcript.Note.{Note}
use Rattle.audit_model.specs.declared.transcript.Record.{Record}
use Rattle.audit_laws.specs.Waiting.Alone.{WaitsAlone}
use Rattle.cache_core.specs.Turned.{notes_in}
use Rattle.cache_spaces.specs.Services.{BareSpace}
use Rattle.cache_spaces.specs.Spaces.{StandsFor, config_of, untaken_output, closing_of, untaken_notes, outgoing_of}
use Rattle.cache_run.specs.Devices.Sources.{Asking, Askings, Readings}
use Rattle.cache_run.specs.Driver.Drives.{Outside}
use Rattle.cache_run.specs.Happened.{HostTurn, AreDrops, AreInPlace, AreRight, AskForSent, asked_in, moment_in, turn_notes, record_of, piece_in, records_of_turn, replies_in}
use Rattle.cache_run.specs.declared.devices.errors.RunError.{RunError}
use Rattle.cache_run.specs.declared.devices.errors.RunError.TheVariants.{Moment}
use Rattle.audit_model.specs.declared.event.Event.TheVariants as event

-- the namespace stands for a situation of which this is true, no other connection waits for a load, and others are as they were
pub record GoesOn (number : ℕ) (was is : BareSpace) (Fact : Situation → Type 0) : Type 0 where
  pub next : Situation
  pub stands : StandsFor is next
  pub alone : WaitsAlone number next.pending
  pub fact : Fact next
  pub others : (other : ℕ) → other ≢ number → (untaken_output is other ≡ untaken_output was other)
      × (closing_of is other ≡ closing_of was other)

-- each situation that the namespace stood for, and in which no other connection waits for a load, leads to one that it stands for
pub record LeadsOnAlone (number : ℕ) (was is : BareSpace) (Fact : Situation → Situation → Type 0) :
    Type 0 where
  pub each : (s : Situation) → StandsFor was s → WaitsAlone number s.pending
      → GoesOn number was is (Fact s)
  pub config : config_of is ≡ config_of was

-- What is inside and outside of a namespace at one moment.

-- a situation, the loads that were sent and not taken, the notes reported and not taken, and what is outside
pub record World (C L : Type 0) : Type 0 where
  pub situation : Situation
  pub outgoing : List (LoadId × List ℕ)
  pub notices : List Note
  pub outside : Outside C L

abbrev pub outside : {C L : Type 0} → Option (List ℕ) → Option (List ℕ) → C → L → Outside C L
outside remaining contents clock loader =
    record { remaining = remaining; contents = contents; clock = clock; loader = loader }

abbrev pub world : {C L : Type 0} → BareSpace → Situation → Outside C L → World C L
world space s around =
    record {
      situation = s;
      outgoing = outgoing_of space;
      notices = untaken_notes space;
      outside = around;
    }

-- What passes between a reader, a connection, a loader and a writer.

abbrev pub open_records : ℕ → Bool → List Record
open_records number opens = if opens then record_of (event.Open number) [] ∷ [] else []

abbrev pub close_records : ℕ → Bool → List Record
close_records number closes = if closes then record_of (event.Close number) [] ∷ [] else []

-- the records of a connection: it opens or not, has these turns, closes or not, and then loads are given up
abbrev pub records_of : ℕ → Bool → List HostTurn → Bool → List Record → List Record
records_of number opens turns closes drops =
    (open_records number opens ++ flat_map (records_of_turn number) turns)
    ++ (close_records number closes ++ drops)

-- what an error leaves after the last turn: the clock read `late`, `lost` was read, the loader was asked, and `unsent` was not written
pub record Left : Type 0 where
  pub late : List ℕ
  pub lost : List ℕ
  pub asked : List Asking
  pub unsent : List ℕ

abbrev pub nothing_left : Left
nothing_left = record { late = []; lost = []; asked = []; unsent = [] }

-- From one world to another the records of a connection followed: its pieces, and then what was lost, were read, its replies except for
-- those unsent were written, the clock read its moments, and the loader returned its results. It is asked only for loads that were outgoing
-- in the first world or were sent since then, by their keys, and for each once, also behind the last turn; what it returned is dropped only
-- for one that is not under way.
pub record Carried {C L : Type 0} (config : Config) (number : ℕ) (reads : C → ℕ → C → Type 0)
    (loads : L → List ℕ → Option Outcome → L → Type 0) (a b : World C L) (opens closes : Bool)
    (drops : List Record) (left : Left) : Type 0 where
  pub turns : List HostTurn
  pub right : AreRight config turns
  pub placed : (s : Situation) → after_records config a.situation (open_records number opens)
      ≡ Some s → AreInPlace config number (AskForSent left.asked) a.outgoing s turns
  pub follows : after_records config a.situation (records_of number opens turns closes drops)
      ≡ Some b.situation
  pub notices : b.notices ≡ (a.notices ++ flat_map (turn_notes number) turns)
      ++ flat_map notes_in drops
  pub read : Consumes a.outside.remaining b.outside.remaining (flat_map piece_in turns ++ left.lost)
  pub sent : List ℕ
  pub wrote : Appends a.outside.contents b.outside.contents sent
  pub replies : sent ++ left.unsent ≡ flat_map (replies_in number) turns
  pub clock : Readings reads a.outside.clock (map moment_in turns ++ left.late) b.outside.clock
  pub loader : Askings loads a.outside.loader (flat_map asked_in turns ++ left.asked)
      b.outside.loader

-- what an error leaves
pub record Broken {C L : Type 0} (config : Config) (number : ℕ) (reads : C → ℕ → C → Type 0)
    (loads : L → List ℕ → Option Outcome → L → Type 0) (a b : World C L) (opens closes : Bool)
    (drops : List Record) (e : RunError) : Type 0 where
  pub left : Left
  pub carried : Carried config number reads loads a b opens closes drops left
  pub dropped : AreDrops drops
  pub moment : e ≡ Moment → (t : ℕ) × (2 ^ 63 ≤ t) × (left.late ≡ t ∷ [])
