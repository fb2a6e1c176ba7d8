use Rattle.std.proofs.Common.{ap, inl, refl}
use Rattle.cache_shared.proofs.Configured.{configs-stay, stay-shown}
use Rattle.cache_shared.proofs.Moving.{bare-replies}
use Rattle.cache_shared.proofs.Performing.{cause-shown, unknown-shown}
use Rattle.cache_spaces.proofs.Reaching.{where-shown}
use Rattle.cache_spaces.specs.Calls.{TakesOutput}
use Rattle.cache_spaces.specs.Services.{bare_tape}
use Rattle.cache_spaces.specs.Spaces.{config_of}
use Rattle.cache_shared.proofs.bare.ServiceShareable.take_output.Goals as goal

pub returns : goal.returns
returns c = record {
  taken = bare-replies c.args.conn c.args.self.now c.take_output.new.self c.take_output.result c.take_output.ensures.taken;
  refused = cause-shown bare_tape _ _ c.args.conn.namespace c.args.self.now c.take_output.result (λ e x u. inl (unknown-shown bare_tape c.args.conn.number e x u)) c.take_output.ensures.refused;
  unchanged = c.take_output.ensures.unchanged;
  standing = (
    refl,
    where-shown bare_tape c.args.self.now c.take_output.new.self c.take_output.ensures.reached,
    stay-shown bare_tape c.args.self.now c.take_output.new.self (configs-stay (λ text was is. TakesOutput was is c.args.conn.number text.items) c.args.conn.namespace _ _ c.take_output.result (λ text was is t. ap config_of t.rest) c.take_output.ensures.taken c.take_output.ensures.unchanged),
  );
}
