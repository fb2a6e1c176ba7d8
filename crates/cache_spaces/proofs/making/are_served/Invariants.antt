use Rattle.std.proofs.Common.{◌≡◌, true, take}
use Rattle.std.specs.List.{list_all}
use Rattle.cache_spaces.specs.Services.{is_served}
use Rattle.cache_spaces.proofs.making.are_served.Given as goal

abbrev pub invariant-loop-config : goal.invariant-loop-config
invariant-loop-config l = record { served : list_all is_served (take l.config-index l.configs) ≡ true }
