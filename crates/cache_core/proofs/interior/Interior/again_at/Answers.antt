use Rattle.audit_model.specs.Steps.{RunAgain}
use Rattle.cache_core.proofs.Amid.{can-run-of, stepped, waits-here, waits-is}
use Rattle.cache_core.proofs.Spots.{out-at, replaced}
use Rattle.cache_core.proofs.interior.Interior.again_at.Goals as goal

pub take-connection-requires : goal.take-connection-requires
take-connection-requires g c = waits-here _ c.args.self.now.connections c.args.index c.requires.waits

pub put-requires : goal.put-requires
put-requires g c = out-at c.args.self.now.connections c.take-connection.new.self c.args.index c.take-connection.result c.take-connection.ensures.taken c.take-connection.ensures.rest

pub run_again-requires : goal.run_again-requires
run_again-requires g c =
    let old = c.args.self.now in
    let taken = c.take-connection.ensures.taken in
    let w = waits-is _ old.connections c.args.index c.take-connection.result c.requires.waits taken in
    record {
      can_run = can-run-of g.S.Store.view g.T.Tape.view c.args.now old.base old.connections c.args.index c.take-connection.result taken c.requires.inside c.requires.amid;
      waits = w.waits;
      «open» = w.is_open;
      load = w.load;
    }

pub returns : goal.returns
returns g c =
    let old = c.args.self.now in
    let taken = c.take-connection.ensures.taken in
    let p = replaced c.run_again.new.connection taken c.take-connection.ensures.rest c.put.ensures in
    let w = waits-is _ old.connections c.args.index c.take-connection.result c.requires.waits taken in
    let x = stepped g.S.Store.view g.T.Tape.view c.args.now old.base c.run_again.new.base old.connections c.put.new.self c.number_at-number.result c.args.index p (λ k. RunAgain k) _ c.number_at-number.ensures w c.sound.ensures c.run_again.ensures.ran c.run_again.ensures.spare in
    record { ran = x.ran; amid = x.amid; others = x.others; goes = c.run_again.ensures.goes }
