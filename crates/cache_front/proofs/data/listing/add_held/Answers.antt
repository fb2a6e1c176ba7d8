use Rattle.cache_front.proofs.data.Live.{none_past}
use Rattle.cache_front.proofs.data.listing.add_held.Goals as goal

pub returns-in-None : goal.returns-in-None
returns-in-None g c = none_past c.args.front.now.parts c.args.place c.args.keys.now.items (rw c.in-None.is at c.in_ok-held.ensures)
