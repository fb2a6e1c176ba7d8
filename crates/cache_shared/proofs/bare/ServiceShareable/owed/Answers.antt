use Rattle.std.proofs.Common.{refl}
use Rattle.cache_shared.proofs.Configured.{configs-stay, stay-shown}
use Rattle.cache_shared.proofs.Moving.{bare-configs, bare-notes, bare-owed, bare-told}
use Rattle.cache_shared.proofs.Performing.{cause-shown, unknown-shown}
use Rattle.cache_spaces.proofs.Reaching.{where-shown}
use Rattle.cache_spaces.specs.Calls.{GivesConnectionOwed}
use Rattle.cache_spaces.specs.Services.{bare_tape}
use Rattle.cache_shared.proofs.bare.ServiceShareable.owed.Goals as goal

pub returns : goal.returns
returns c =
    let old = c.args.self.now in
    let new = c.owed.new.self in
    let given = c.owed.ensures.given in record {
      moved = bare-owed c.args.conn c.args.wants_loads old new c.owed.result given;
      notes = bare-notes c.args.conn c.args.wants_loads old new c.owed.result given c.owed.ensures.unchanged;
      told = bare-told c.args.conn c.args.wants_loads old new c.owed.result given;
      refused = cause-shown bare_tape _ _ c.args.conn.namespace old c.owed.result (unknown-shown bare_tape c.args.conn.number) c.owed.ensures.refused;
      unchanged = c.owed.ensures.unchanged;
      standing = (
        refl,
        where-shown bare_tape old new c.owed.ensures.reached,
        stay-shown bare_tape old new (configs-stay (λ owed was is. GivesConnectionOwed was is c.args.conn.number c.args.wants_loads owed) c.args.conn.namespace old new c.owed.result (bare-configs c.args.conn c.args.wants_loads old new) given c.owed.ensures.unchanged),
      );
    }
