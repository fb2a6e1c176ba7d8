-- What requests and lines say.
use Rattle.std.specs.Prelude.{[], ◌∷◌}
use Rattle.memcache_model.specs.Bytes.{tokens}
use Rattle.memcache_model.specs.Commands as model
use Rattle.memcache_model.specs.Grammar.{RequestLine, whole, head, meta_head}
use Rattle.memcache_model.specs.Grammar as model-of
use Rattle.memcache_lines.specs.declared.arrival.Arrived as arrival
use Rattle.memcache_lines.specs.declared.arrival.Arrived.TheVariants.{Part, Request}
use Rattle.memcache_lines.specs.declared.line.Command.{Command}
use Rattle.memcache_lines.specs.declared.line.Command.TheVariants.{Get, GetOne, Gat, Store, Oversize, Delete, Arithmetic, Touch, FlushAll, Stats, Version, Verbosity, Quit, Meta, MetaSet, MetaOversize, MetaNoOp, Malformed}
use Rattle.memcache_lines.specs.declared.line.Line.{Line}
use Rattle.memcache_lines.specs.declared.line.Line.TheVariants.{Whole, Head, MetaHead}

-- what a command asks for
abbrev pub asks : Command → model.Command
asks (Get uniques keys) = model.get uniques (tokens keys.now)
asks (GetOne uniques key) = model.get uniques (key.now ∷ [])
asks (Gat uniques exptime keys) = model.gat uniques exptime (tokens keys.now)
asks (Store storage key flags exptime block) = model.store storage key.now flags exptime block.now
asks (Oversize storage key) = model.oversize storage key.now
asks (Delete key) = model.delete key.now
asks (Arithmetic direction key delta) = model.arithmetic direction key.now delta
asks (Touch key exptime) = model.touch key.now exptime
asks (FlushAll exptime) = model.flush_all exptime
asks (Stats words) = model.stats (tokens words.now)
asks Version = model.version
asks Verbosity = model.verbosity
asks Quit = model.quit
asks (Meta kind key flags) = model.meta kind key.now (tokens flags.now)
asks (MetaSet key flags block) = model.meta_set key.now (tokens flags.now) block.now
asks (MetaOversize key flags) = model.meta_oversize key.now (tokens flags.now)
asks MetaNoOp = model.meta_no_op
asks (Malformed error) = model.malformed error

-- what a line says
abbrev pub said_by : Line → RequestLine
said_by (Whole command quiet) = whole (asks command) quiet
said_by (Head h) = head h.storage h.key.now h.flags h.exptime h.size h.quiet
said_by (MetaHead h) = meta_head h.key.now (tokens h.flags.now) h.size

-- what stands at the front of a stream
abbrev pub comes : arrival.Arrived → model-of.Arrived
comes Part = model-of.part
comes (Request request used) = model-of.arrives (asks request.command) request.quiet used
