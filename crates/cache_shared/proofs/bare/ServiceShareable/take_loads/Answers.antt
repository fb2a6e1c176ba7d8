use Rattle.std.proofs.Common.{ap, refl}
use Rattle.cache_shared.proofs.Configured.{configs-stay, stay-shown}
use Rattle.cache_shared.proofs.Moving.{bare-loads}
use Rattle.cache_shared.proofs.Performing.{loads-shown, none-shown}
use Rattle.cache_spaces.proofs.Reaching.{where-shown}
use Rattle.cache_spaces.specs.Calls.{TakesLoads}
use Rattle.cache_spaces.specs.Services.{bare_tape}
use Rattle.cache_spaces.specs.Spaces.{config_of}
use Rattle.cache_shared.proofs.bare.ServiceShareable.take_loads.Goals as goal

pub returns : goal.returns
returns c =
    let old = c.args.self.now in
    let new = c.take_loads.new.self in
    let taken = c.take_loads.ensures.taken in record {
      loads = bare-loads c.args.namespace old new c.take_loads.result taken (loads-shown bare_tape c.args.namespace old new c.take_loads.result taken);
      refused = none-shown bare_tape c.args.namespace old c.take_loads.result c.take_loads.ensures.refused;
      unchanged = c.take_loads.ensures.unchanged;
      standing = (
        refl,
        where-shown bare_tape old new c.take_loads.ensures.reached,
        stay-shown bare_tape old new (configs-stay (λ loads was is. TakesLoads was is loads.items) c.args.namespace old new c.take_loads.result (λ loads was is t. ap config_of t.rest) taken c.take_loads.ensures.unchanged),
      );
    }
