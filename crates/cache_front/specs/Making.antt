-- The settings of the front of a store, and a store that was just created.
use Rattle.std.specs.Prelude.{◌≡◌, ℕ, ◌^◌, true, false, List, []}
use Rattle.rand_core.specs.Stream.{Stream}
use Rattle.audit_model.specs.History.{part_count}
use Rattle.audit_model.specs.declared.config.Config.{Config}
use Rattle.cache_front.specs.Parts.{part_settings}
use Rattle.cache_commands.specs.Values.{Values}
use Rattle.engine_reference.specs.declared.data.Settings.{Settings}
use Rattle.front_reference.specs.Fronts.{part_of}

-- the settings of all parts together: the capacity is not divided yet
abbrev pub whole_settings : Config → (made : ℕ) → Settings
whole_settings config made = record (part_settings config made) { capacity = config.capacity }

-- it holds nothing and has reported nothing, and no identifier is registered; a key's part is the upper bits of its hash
pub record IsJustMade (config : Config) (hash : List ℕ → ℕ) (made : ℕ) (stream : Stream)
    (v : Values) : Type 0 where
  pub bits : ℕ
  pub counts : 2 ^ bits ≡ part_count config
  pub frame : v.frame ≡ record {
    config = config;
    part_of = λ key. part_of bits (hash key);
    made = made;
    dropped = false;
    latest = made;
  }
  pub empty : v.Stands []
  pub untaken : v.untaken ≡ []
  pub used : v.Used true []
  pub stream_is : v.stream ≡ stream
  pub unregistered : (part : ℕ) (id : List ℕ) → v.registered part id ≡ false
