use Rattle.std.proofs.Common.{refl}
use Rattle.cache_shared.proofs.Performing.{cause-shown, look-shown, unknown-shown}
use Rattle.cache_spaces.specs.Services.{bare_tape}
use Rattle.cache_spaces.specs.Spaces.{closing_of}
use Rattle.cache_shared.proofs.bare.ServiceShareable.closed.Goals as goal

pub returns : goal.returns
returns c = record {
  closing = look-shown bare_tape (λ space. closing_of space c.args.conn.number) (λ space. closing_of space c.args.conn.number) c.args.conn.namespace c.args.conn.number c.args.self.now c.closed.result (λ x. refl) c.closed.ensures.closing;
  refused = cause-shown bare_tape _ _ c.args.conn.namespace c.args.self.now c.closed.result (unknown-shown bare_tape c.args.conn.number) c.closed.ensures.refused;
}
