use Rattle.std.proofs.Common.{◌≡◌, length, take}
use Rattle.cache_spaces.specs.Services.{AreNewSpaces, stream_after_forks}
use Rattle.cache_spaces.proofs.Journaling.{stream_from}
use Rattle.cache_spaces.proofs.making.new_spaces.Given as goal

abbrev pub invariant-loop-config : goal.invariant-loop-config
invariant-loop-config g l = record {
  new : AreNewSpaces g.T.Tape.view (g.T.NewTape.blank l.made) l.spaces.items (take l.config-index l.configs) l.fn.generator l.made.nanos;
  number : length l.spaces.items ≡ l.config-index;
  forked : stream_from l.generator ≡ stream_after_forks l.config-index (stream_from l.fn.generator);
}
