use Rattle.std.proofs.Common.{take}
use Rattle.cache_spaces.specs.Played.{HavePlayed}
use Rattle.cache_spaces.proofs.playing.play.Given as goal

abbrev pub invariant-loop-input : goal.invariant-loop-input
invariant-loop-input l = record { played : HavePlayed l.configs l.fn.moment (take l.input-index l.inputs) l.recorded.spaces }
