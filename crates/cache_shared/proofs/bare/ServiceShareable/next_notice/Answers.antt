use Rattle.std.proofs.Common.{ap, refl}
use Rattle.cache_shared.proofs.Configured.{configs-stay, stay-shown}
use Rattle.cache_shared.proofs.Moving.{bare-note}
use Rattle.cache_shared.proofs.Performing.{untold-refused}
use Rattle.cache_spaces.proofs.Reaching.{where-shown}
use Rattle.cache_spaces.specs.Calls.{TakesNotice}
use Rattle.cache_spaces.specs.Services.{bare_tape}
use Rattle.cache_shared.proofs.bare.ServiceShareable.next_notice.Goals as goal

pub returns : goal.returns
returns c = record {
  note = bare-note c.args.namespace c.args.self.now c.next_notice.new.self c.next_notice.result c.next_notice.ensures.taken;
  refused = untold-refused c.args.namespace c.args.self.now c.next_notice.result c.next_notice.ensures.refused;
  unchanged = c.next_notice.ensures.unchanged;
  standing = (
    refl,
    where-shown bare_tape c.args.self.now c.next_notice.new.self c.next_notice.ensures.reached,
    stay-shown bare_tape c.args.self.now c.next_notice.new.self (configs-stay (λ note was is. TakesNotice was is note) c.args.namespace _ _ c.next_notice.result (λ note was is t. ap (λ f. f.config) t.gives.frame) c.next_notice.ensures.taken c.next_notice.ensures.unchanged),
  );
}
