use Rattle.std.proofs.Common.{ap}
use Rattle.std.proofs.lemmas.Result.{on_err_weaker}
use Rattle.cache_shared.proofs.Configured.{configs-stay, stay-shown}
use Rattle.cache_shared.proofs.Moving.{kept-loads}
use Rattle.cache_shared.proofs.Performing.{loads-leave, loads-shown, none-shown}
use Rattle.cache_spaces.proofs.Reaching.{reached-loads, where-shown}
use Rattle.cache_spaces.specs.Calls.{TakesLoads}
use Rattle.cache_spaces.specs.Journals.{kept_by}
use Rattle.cache_spaces.specs.Recorded.{Recorded}
use Rattle.cache_spaces.specs.Spaces.{config_of}
use Rattle.cache_shared.proofs.recorded.RecordedServiceShareable.take_loads.Goals as goal

pub returns : goal.returns
returns c =
    let n = c.args.namespace in
    let old = c.args.self.now in
    let new = c.take_loads.new.self in
    let taken = c.take_loads.ensures.taken in
    let same = on_err_weaker c.take_loads.result (ap (λ (recorded : Recorded). recorded.spaces)) c.take_loads.ensures.unchanged in record {
      loads = kept-loads old new n c.take_loads.result taken (loads-shown kept_by n old.spaces new.spaces c.take_loads.result taken) same c.take_loads.ensures.cursors;
      refused = none-shown kept_by n old.spaces c.take_loads.result c.take_loads.ensures.refused;
      unchanged = c.take_loads.ensures.unchanged;
      standing = (
        loads-leave n old.spaces new.spaces c.take_loads.result taken same,
        where-shown kept_by old.spaces new.spaces (reached-loads n old.spaces new.spaces c.take_loads.result taken same),
        stay-shown kept_by old.spaces new.spaces (configs-stay (λ loads was is. TakesLoads was is loads.items) n old.spaces new.spaces c.take_loads.result (λ loads was is t. ap config_of t.rest) taken same),
      );
    }
