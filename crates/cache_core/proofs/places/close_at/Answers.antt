use Rattle.cache_core.proofs.Spots.{here-open, is-here, out-at, replaced}
use Rattle.cache_core.proofs.places.close_at.Goals as goal

pub take-connection-requires : goal.take-connection-requires
take-connection-requires c =
    let o = here-open c.args.connections.now c.args.index c.requires.inside c.requires.open in
    is-here _ o.0 o.1

pub put-requires : goal.put-requires
put-requires c = out-at c.args.connections.now c.take-connection.new.self c.args.index c.take-connection.result c.take-connection.ensures.taken c.take-connection.ensures.rest

pub returns : goal.returns
returns c = (replaced c.drop_closed.new.self c.take-connection.ensures.taken c.take-connection.ensures.rest c.put.ensures, c.drop_closed.ensures.closing, c.drop_closed.ensures.text)
