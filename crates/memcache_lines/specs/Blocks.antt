-- Commands with their data blocks.
use Rattle.std.specs.Prelude.{ℕ, false}
use Rattle.memcache_model.specs.Bytes.{tokens}
use Rattle.memcache_model.specs.Commands.{store, oversize, meta_set, meta_oversize}
use Rattle.memcache_model.specs.Grammar as model
use Rattle.memcache_lines.specs.declared.arrival.Block.{Block}
use Rattle.memcache_lines.specs.declared.arrival.Block.TheVariants.{TooLarge, Unfinished, Broken, Filled}
use Rattle.memcache_lines.specs.declared.storing.Head.{Head}
use Rattle.memcache_lines.specs.declared.storing.MetaHead.{MetaHead}

-- what a block is
abbrev pub blocks : Block → model.Block
blocks TooLarge = model.too_large
blocks Unfinished = model.unfinished
blocks Broken = model.broken
blocks (Filled block) = model.filled block.now

-- a storage command of `used` bytes with its block
abbrev pub store_with : Head → (used : ℕ) → model.Block → model.Arrived
store_with h used block = model.with_block (store h.storage h.key.now h.flags h.exptime)
    (oversize h.storage h.key.now) h.quiet used block

-- a `ms`
abbrev pub meta_set_with : MetaHead → (used : ℕ) → model.Block → model.Arrived
meta_set_with h used block = model.with_block (meta_set h.key.now (tokens h.flags.now))
    (meta_oversize h.key.now (tokens h.flags.now)) false used block
