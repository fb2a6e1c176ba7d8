-- The words of a storage command.
use Rattle.std.specs.Prelude.{◌^◌, Bool, Option}
use Rattle.memcache_model.specs.Bytes.{number_below}
use Rattle.memcache_model.specs.Grammar.{RequestLine, block_head, exptime_in, size_in}
use Rattle.memcache_model.specs.declared.command.Storage.{Storage}
use Rattle.memcache_lines.specs.declared.storing.Words.{Words}

-- what four words say
abbrev pub head_in : Option Storage → Words → Option Bool → RequestLine
head_in storage words quiet =
    block_head storage words.key.now (number_below (2 ^ 32) words.flags.now)
    (exptime_in words.exptime.now) (size_in words.size.now) quiet
