use Rattle.std.proofs.Common.{subst}
use Rattle.std.proofs.lemmas.Result.{IfErr-weaker, IfOk-weaker, on_err_weaker}
use Rattle.cache_commands.specs.Loads.Standings.{holds_line}
use Rattle.cache_core.specs.Fed.{FedTurn, WantsMemory}
use Rattle.cache_core.specs.declared.connection.connection.Connection.{Connection}
use Rattle.cache_core.proofs.Amid.{moved-there}
use Rattle.cache_core.proofs.Spots.{here-open, is-here, out-at, replaced, same-here}
use Rattle.cache_core.proofs.interior.Interior.feed_at.Goals as goal

pub take-connection-requires : goal.take-connection-requires
take-connection-requires g c =
    let o = here-open c.args.self.now.connections c.args.index c.requires.inside c.requires.open in
    is-here _ o.0 o.1

pub put-requires : goal.put-requires
put-requires g c = out-at c.args.self.now.connections c.take-connection.new.self c.args.index c.take-connection.result c.take-connection.ensures.taken c.take-connection.ensures.rest

pub returns : goal.returns
returns g c =
    let fed = c.feed_recorded-fed in
    let taken = c.take-connection.ensures.taken in
    let p = replaced fed.new.connection taken c.take-connection.ensures.rest c.put.ensures in
    record {
      turned = IfOk-weaker fed.result _ _
          (λ is_held x. (p, moved-there g.S.Store.view g.T.Tape.view (λ k x y. FedTurn c.args.now k c.args.moment.nanos p.was c.args.piece.now p.is is_held x y) c.args.self.now.base fed.new.base c.args.self.now.connections c.put.new.self c.number_at-number.result c.args.index p c.number_at-number.ensures x))
          fed.ensures.turned;
      refused = IfErr-weaker fed.result _ _ (λ e wants k found. subst (λ (x : Connection). WantsMemory (holds_line x.standing) e) (same-here _ c.take-connection.result k taken found) wants) fed.ensures.refused;
      unchanged = on_err_weaker fed.result (λ same. (same.0, p, same.1)) fed.ensures.unchanged;
      goes = fed.ensures.goes;
    }
