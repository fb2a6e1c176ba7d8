use Rattle.std.proofs.Common.{ap, subst}
use Rattle.front_parts.specs.Places.Calls.{ways_by}
use Rattle.sync_desk.proofs.Removing.{taken_out}
use Rattle.sync_desk.specs.Drawing.{GivesUp}
use Rattle.sync_desk.proofs.desk.Desk.take_out.Goals as goal

pub returns-clause-takes_out : goal.returns-clause-takes_out
returns-clause-takes_out g c =
    let ways = (ways_by g.R.Rules g.K.PartialEq.eq g.K.Hash.hash_input g.S.BuildHasher g.S.Hasher.Hasher) in
    let same = ap (λ desk. desk.moment) c.remove-removed.ensures.rest in
    let gives = subst (λ m. GivesUp m c.args.number c.remove-removed.new.self.state c.abandon.new.self.state) same c.abandon.ensures.gives_up in
    taken_out ways c.args.self.now.moment c.args.number c.args.key.now _ c.remove-removed.new.self.state _ c.remove-removed.result c.remove-removed.ensures.value c.remove-removed.ensures.removes gives
