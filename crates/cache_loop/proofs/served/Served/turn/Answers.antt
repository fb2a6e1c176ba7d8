use Rattle.std.proofs.Common.{sym}
use Rattle.cache_loop.proofs.served.Served.turn.Goals as goal

pub returns-in-Tcp : goal.returns-in-Tcp
returns-in-Tcp g c = record { socket = sym c.in-Tcp.is; before = _; after = c.turn_over.ensures.0; turned = c.turn_over.ensures.1 }

pub returns-in-Unix : goal.returns-in-Unix
returns-in-Unix g c = record { socket = sym c.in-Unix.is; before = _; after = c.turn_over-in-Unix.ensures.0; turned = c.turn_over-in-Unix.ensures.1 }
