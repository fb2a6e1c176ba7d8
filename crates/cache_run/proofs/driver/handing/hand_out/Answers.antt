use Rattle.std.proofs.Common.{ℕ, ap, Vec}
use Rattle.std.specs.Option.{option_map}
use Rattle.std.specs.declared.alloc.Global.{Global}
use Rattle.cache_run.proofs.driver.Exchanges.{hands-out}
use Rattle.cache_run.proofs.driver.handing.hand_out.Goals as goal

pub returns-in-Some-replies-clause-sent : goal.returns-in-Some-replies-clause-sent
returns-in-Some-replies-clause-sent g c =
    hands-out c.send_whole.result _ _ _ _ _ (ap (option_map (λ (t : Vec ℕ Global). t.items)) c.in-Some-replies.is) c.as_slice.ensures.value c.send_whole.ensures.ok c.send_whole.ensures.err
