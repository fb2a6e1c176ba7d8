-- What can be seen of a service, and of which configurations it has namespaces.
use Rattle.std.specs.Prelude.{Bool, ◌≡◌, ℕ, zero, suc, ◌&&◌, nat_le, true, false, List, [], length, Option, None, Some, IsTrue}
use Rattle.std.specs.List.{list_all, slice_get}
use Rattle.rand_core.specs.Steps.{stream_of, steps_u64_high}
use Rattle.rand_core.specs.Stream.{Stream, fill_bytes}
use Rattle.rand_xoshiro.specs.Xoshiro256.{of_seed, plus_plus}
use Rattle.audit_model.specs.Configs.{is_valid}
use Rattle.audit_model.specs.Situation.{empty_situation, Situation}
use Rattle.audit_model.specs.declared.config.Config.{Config}
use Rattle.audit_model.specs.declared.event.Instant.{Instant}
use Rattle.cache_lines.specs.Tape.Taped.{Taped}
use Rattle.cache_lines.specs.declared.tape.bare.Bare.{Bare}
use Rattle.cache_core.specs.State.{IsBetweenEvents, SuitsItself}
use Rattle.cache_spaces.specs.Spaces.{HasItsParts, Space, StandsFor, config_of, generator_of, identifiers_of, made_of, untaken_notes, part_in, recency_of, shown_of}
use Rattle.cache_spaces.specs.declared.service.Fed.{Fed}
use Rattle.cache_spaces.specs.declared.service.Fed.TheVariants.{All, Held}

-- a configuration in range
abbrev pub is_served : Config → Bool
is_served config = is_valid config

-- What can be seen of a service.

-- the configurations with which a service is created: 1 to 16, each of them in range
abbrev pub are_taken : List Config → Bool
are_taken configs =
    nat_le 1 (length configs) && nat_le (length configs) 16 && list_all is_served configs

-- a tape that keeps records, and has none
abbrev pub blank_tape : Instant → Taped
blank_tape made =
    record {
      journal = record { made = made; records = [] };
      begun = false;
      steps = [];
      spare = 0;
      drafted = None;
    }

module _ {T : Type 0} (tape : T → Option Taped) (blank : Option Taped) where
  -- a new namespace, at this place, with a blank tape
  pub record IsNewNamespace (space : Space T) (namespace : ℕ) (config : Config) (generator : List ℕ)
      (made : ℕ) : Type 0 where
    pub stands : StandsFor space (empty_situation made)
    pub configured : config_of space ≡ config
    pub made_is : made_of space ≡ made
    pub within : HasItsParts config (part_in space)
    pub recency : recency_of space true []
    pub served : IsTrue (is_served config)
    pub forked : generator_of space ≡ generator
    pub unregistered : (part : ℕ) (id : List ℕ) → (identifiers_of space).registered part id ≡ false
    pub notices : untaken_notes space ≡ []
    pub state_is : space ≡ record {
      store = space.store;
      tape = space.tape;
      latest = made;
      connections = [];
      closings = [];
      outputs = [];
      sent = 0;
      pending = [];
      outgoing = [];
      namespace = namespace;
    }
    pub taped : tape space.tape ≡ blank

-- the rest of a generator's stream after this many forks
abbrev pub stream_after_forks : ℕ → Stream → Stream
stream_after_forks zero stream = stream
stream_after_forks (suc n) stream = (fill_bytes 32 (stream_after_forks n stream)).1

-- the fork that a generator yields after this many
abbrev pub fork_after : ℕ → List ℕ → List ℕ
fork_after n generator =
    of_seed
    (fill_bytes 32 (stream_after_forks n (stream_of (steps_u64_high plus_plus) generator))).0

module _ {T : Type 0} (tape : T → Option Taped) (blank : Option Taped) where
  -- each namespace is new, with its configuration and the next fork of the generator
  pub record AreNewSpaces (spaces : List (Space T)) (configs : List Config) (generator : List ℕ)
      (made : ℕ) : Type 0 where
    pub count : length spaces ≡ length configs
    pub each : (namespace : ℕ) (config : Config) (space : Space T)
        → slice_get configs namespace ≡ Some config → slice_get spaces namespace ≡ Some space
        → IsNewNamespace tape blank space namespace config (fork_after namespace generator) made

-- a feed that held a command back
abbrev pub feed_is_held : Fed → Bool
feed_is_held All = false
feed_is_held Held = true

-- A service that keeps no journal.

-- what such a tape keeps
abbrev pub bare_tape : Bare → Option Taped
bare_tape t = None

-- a namespace of such a service
abbrev pub BareSpace : Type 0
BareSpace = Space Bare

-- What is true of every namespace of a service.

-- it stands for a situation, it is in order, and its parts agree with each other
pub record IsSoundSpace {T : Type 0} (tape : T → Option Taped) (space : Space T) : Type 0 where
  pub some : Situation
  pub stands : StandsFor space some
  pub order : IsBetweenEvents shown_of tape space
  pub suits : SuitsItself shown_of space
