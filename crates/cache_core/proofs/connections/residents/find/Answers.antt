use Rattle.std.proofs.Common.{ap, ◌∙◌, Some}
use Rattle.cache_core.proofs.connections.Getting.{at-place}
use Rattle.cache_core.proofs.connections.Saying.{place-there}
use Rattle.cache_core.proofs.connections.residents.find.Goals as goal

pub returns-in-Some : goal.returns-in-Some
returns-in-Some c =
    let lookup = rw c.deref.ensures.value at c.in-Some.ensures.lookup in
    let rs = c.args.residents.now.items in
    let guess = c.get-guess.result in
    let r = c.in-Some.resident.now in
    c.requires.settled.placed guess c.args.place (place-there rs guess r (at-place rs guess r lookup.3.0 lookup.1) ∙ ap Some c.if-resident-place.true)
