use Rattle.std.proofs.Common.{subst, arith}
use Rattle.engine_cells.specs.Keys.Spots.{Spots, IsUnder, tag_of}
use Rattle.engine_cells.specs.Keys.Slots.{Has, Adds}
use Rattle.engine_cells.proofs.keys.Tables.{has-among}
use Rattle.engine_cells.proofs.keys.Putting.{added-length, put-comes}
use Rattle.engine_cells.proofs.keys.Keys.put.Goals as goal

pub put_in-requires-clause-absent : goal.put_in-requires-clause-absent
put_in-requires-clause-absent c u = c.requires.absent (subst (λ (v : Spots). IsUnder v c.args.hash c.args.place) c.self.view_is (has-among _ _ _ (subst (λ t. Has c.self.inside.slots.items t c.args.place) c.tag_of.ensures u)))

pub returns : goal.returns
returns c =
    let old = c.self.inside.slots.items in
    let new = c.put_in.new.slots.items in
    let adds : Adds old new (tag_of c.args.hash) c.args.place = subst (λ t. Adds old new t c.args.place) c.tag_of.ensures c.put_in.ensures.added in
    let long = added-length old new (tag_of c.args.hash) c.args.place c.requires.place adds in
    rw (← c.self.view_is) (put-comes old new c.args.hash c.args.place c.requires.place adds _ _ (omega (arith, long)))
