use Rattle.std.proofs.Common.{refl}
use Rattle.cache_shared.proofs.Performing.{cause-shown, look-shown, unknown-shown}
use Rattle.cache_spaces.specs.Services.{bare_tape}
use Rattle.cache_spaces.specs.Spaces.{is_waiting_for}
use Rattle.cache_shared.proofs.bare.ServiceShareable.waiting.Goals as goal

pub returns : goal.returns
returns c = record {
  waits = look-shown bare_tape (λ space. is_waiting_for space c.args.conn.number) (λ space. is_waiting_for space c.args.conn.number) c.args.conn.namespace c.args.conn.number c.args.self.now c.waiting.result (λ x. refl) c.waiting.ensures.waits;
  refused = cause-shown bare_tape _ _ c.args.conn.namespace c.args.self.now c.waiting.result (unknown-shown bare_tape c.args.conn.number) c.waiting.ensures.refused;
}
