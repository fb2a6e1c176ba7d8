-- How a store was created.
use Rattle.std.specs.Prelude.{ℕ, List}
use Rattle.audit_model.specs.declared.config.Config.{Config}
use Rattle.cache_commands.specs.Promises.{Frame}

-- the configuration, the part of each key, and the moment of creation
pub record Making : Type 0 where
  pub config : Config
  pub part_of : List ℕ → ℕ
  pub made : ℕ

abbrev pub making_of : Frame → Making
making_of frame = record { config = frame.config; part_of = frame.part_of; made = frame.made }
