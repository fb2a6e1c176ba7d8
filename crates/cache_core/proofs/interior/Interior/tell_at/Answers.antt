use Rattle.std.proofs.Common.{ap, arith, ℕ, suc}
use Rattle.audit_model.specs.Steps.{Deliver}
use Rattle.cache_core.specs.Settled.{IsAmid}
use Rattle.cache_core.proofs.Amid.{amid-least, can-run-of, room-some, stepped, taken-stays, waits-here, waits-is}
use Rattle.cache_core.proofs.Spots.{out-at, replaced}
use Rattle.cache_core.proofs.Touched.{leaves-others}
use Rattle.cache_core.proofs.interior.Interior.tell_at.Goals as goal

pub take-connection-requires : goal.take-connection-requires
take-connection-requires g c = waits-here _ c.args.self.now.connections c.args.index c.requires.can_be_told.waits

pub put-requires : goal.put-requires
put-requires g c = out-at c.args.self.now.connections c.take-connection.new.self c.args.index c.take-connection.result c.take-connection.ensures.taken c.take-connection.ensures.rest

pub deliver-requires : goal.deliver-requires
deliver-requires g c =
    let old = c.args.self.now in
    let taken = c.take-connection.ensures.taken in
    record {
      spare = room-some (g.T.Tape.view old.base.tape) c.requires.spare;
      waits = waits-is _ old.connections c.args.index c.take-connection.result c.requires.can_be_told.waits taken;
      room = c.requires.can_be_told.room c.take-connection.result taken;
    }

pub returns : goal.returns
returns g c =
    let old = c.args.self.now in
    let taken = c.take-connection.ensures.taken in
    let p = replaced c.deliver.new.connection taken c.take-connection.ensures.rest c.put.ensures in
    let w = waits-is _ old.connections c.args.index c.take-connection.result c.requires.can_be_told.waits taken in
    let step = λ (now : ℕ) (amid : IsAmid g.S.Store.view g.T.Tape.view now old.base old.connections 1).
    stepped g.S.Store.view g.T.Tape.view now old.base c.deliver.new.base old.connections c.put.new.self c.number_at-number.result c.args.index p (λ k. Deliver k c.args.outcome.now) _ c.number_at-number.ensures w c.sound.ensures
    (c.deliver.ensures.ran now (can-run-of g.S.Store.view g.T.Tape.view now old.base old.connections c.args.index c.take-connection.result taken c.requires.inside amid)) c.deliver.ensures.spare in
    record {
      ran = λ now amid. (step now amid).ran;
      amid = λ now lines amid. (step now (amid-least g.S.Store.view g.T.Tape.view now old.base old.connections (suc lines) 1 (omega arith) amid)).amid lines amid;
      spare = c.deliver.ensures.further;
      rest = record {
        store = ap (λ b. b.store) c.deliver.ensures.rest;
        others = leaves-others old.connections c.put.new.self c.args.index p;
        goes = taken-stays _ _ (ap (λ b. b.loads) c.deliver.ensures.rest);
      };
    }
