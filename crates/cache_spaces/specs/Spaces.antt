-- What can be seen of one namespace of a service, and of its store.
use Rattle.std.specs.Prelude.{ℕ, ◌%◌, ◌^◌, List, ◌<◌, Bool, [], Option}
use Rattle.std.specs.declared.hash.DefaultHasher.{DefaultHasher}
use Rattle.rand_core.specs.Steps.{stream_of, steps_u64_high}
use Rattle.rand_xoshiro.specs.Xoshiro256.{plus_plus}
use Rattle.audit_model.specs.Belongs.{Known}
use Rattle.audit_model.specs.History.{part_count}
use Rattle.audit_model.specs.Situation.{Situation}
use Rattle.audit_model.specs.declared.command.Closing.{Closing}
use Rattle.audit_model.specs.declared.config.Config.{Config}
use Rattle.audit_model.specs.declared.input.LoadId.{LoadId}
use Rattle.audit_model.specs.declared.transcript.Note.{Note}
use Rattle.cache_commands.specs.Values.{Values}
use Rattle.cache_lines.specs.Drawing.{Identifiers, identifiers_in}
use Rattle.cache_lines.specs.Tape.Taped.{Taped}
use Rattle.cache_core.specs.State.{NamespaceState}
use Rattle.cache_front.specs.Data.{StoreData, data_of, parted_by}
use Rattle.cache_front.specs.State.{hash_by}
use Rattle.cache_front.specs.View.{view}
use Rattle.cache_front.specs.declared.entries.hasher.KeyedHasher.{KeyedHasher}
use Rattle.cache_front.specs.declared.entries.hasher.WordBuilder.{WordBuilder}
use Rattle.cache_front.specs.declared.entries.hasher.WordHasher.{WordHasher}
use Rattle.std.specs.Hash.DefaultHasher as sip
use Rattle.cache_core.specs.State as state
use Rattle.cache_core.specs.Turned as turned

-- the hash of the bytes of a key, by a hasher with a secret
abbrev pub secret_hash : WordBuilder KeyedHasher → List ℕ → ℕ
secret_hash hasher =
    hash_by (λ (x : WordHasher DefaultHasher). sip.finish x.inner % 2 ^ 64) (λ (x : WordHasher DefaultHasher) bytes. record { inner = sip.write x.inner bytes }) (λ (x : WordBuilder KeyedHasher). record { inner = x.inner.start }) hasher

-- what a store shows, over a front whose keys are hashed like this
abbrev pub shown_of : StoreData (List ℕ) (WordBuilder KeyedHasher) → Values
shown_of d = view (parted_by secret_hash (data_of (stream_of (steps_u64_high plus_plus)) d))

-- What can be seen of one namespace of a service.

-- a namespace of a service, over such a tape
abbrev pub Space : Type 0 → Type 0
Space T = NamespaceState (StoreData (List ℕ) (WordBuilder KeyedHasher)) T

module _ {T : Type 0} where
  abbrev pub config_of : Space T → Config
  config_of space = (shown_of space.store).frame.config

  -- the state of its generator
  abbrev pub generator_of : Space T → List ℕ
  generator_of space = space.store.generator

  -- the identifiers that its generator will draw, and those that are registered in each part: every event draws by these
  abbrev pub identifiers_of : Space T → Identifiers
  identifiers_of space = identifiers_in (shown_of space.store)

  -- the moment of its creation
  abbrev pub made_of : Space T → ℕ
  made_of space = (shown_of space.store).frame.made

  -- the part of each of its keys; no call changes it, nor the moment of creation
  abbrev pub part_in : Space T → List ℕ → ℕ
  part_in space = (shown_of space.store).frame.part_of

  -- the loads that were sent and not taken, with their keys, in the order in which they were sent
  abbrev pub outgoing_of : Space T → List (LoadId × List ℕ)
  outgoing_of space = space.outgoing

  -- how many loads were taken
  abbrev pub taken_of : Space T → ℕ
  taken_of space = state.loads_taken_of space

  -- the number of the namespace whose loads they are
  abbrev pub place_of : Space T → ℕ
  place_of space = space.namespace

  -- the notes that were reported and not taken
  abbrev pub untaken_notes : Space T → List Note
  untaken_notes space = (shown_of space.store).untaken

  -- the reply bytes of a connection that were not taken
  abbrev pub untaken_output : Space T → ℕ → List ℕ
  untaken_output space number = state.output_in space number

  -- why a connection is closed, if it is
  abbrev pub closing_of : Space T → ℕ → Option Closing
  closing_of space number = state.closing_in space number

  -- a connection of it was opened
  abbrev pub has_opened : Space T → ℕ → Bool
  has_opened space number = state.was_opened_in space number

  -- a `LOAD` of a connection waits
  abbrev pub is_waiting_for : Space T → ℕ → Bool
  is_waiting_for space number = turned.is_waiting_in (state.situation_with shown_of space []) number

  -- the keys that it holds, the most recently used first: after a `SYNC`, or at most one call later
  abbrev pub recency_of : Space T → Bool → List (List ℕ) → Type 0
  recency_of space = (shown_of space.store).Used

  -- the namespace stands for this situation
  abbrev pub StandsFor : Space T → Situation → Type 0
  StandsFor space s = state.StateStandsFor shown_of space s

  -- what is known of its connections and loads
  abbrev pub known_of : Space T → Known
  known_of space = state.known_of_state shown_of space

-- the same namespace, with what its tape keeps in place of the tape, so that it looks the same whatever its tape is
abbrev pub shown_space : {T : Type 0} → (T → Option Taped) → Space T → Space (Option Taped)
shown_space tape space = record {
  store = space.store;
  tape = tape space.tape;
  latest = space.latest;
  connections = space.connections;
  closings = space.closings;
  outputs = space.outputs;
  sent = space.sent;
  pending = space.pending;
  outgoing = space.outgoing;
  namespace = space.namespace;
}

abbrev pub Shown : Type 0
Shown = Space (Option Taped)

-- what is kept in place of a tape
abbrev pub shown_tape : Option Taped → Option Taped
shown_tape t = t

-- the part of each key is one that exists
abbrev pub HasItsParts : Config → (List ℕ → ℕ) → Type 0
HasItsParts config part_of = (key : List ℕ) → part_of key < part_count config
