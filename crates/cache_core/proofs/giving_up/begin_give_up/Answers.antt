use Rattle.std.proofs.Common.{ap, subst, arith, OnOk, ◌≡◌, ◌+◌, ℕ, length}
use Rattle.std.specs.Option.{option_map}
use Rattle.cache_core.specs.Settling.{waiting_on}
use Rattle.cache_lines.specs.Tape.Taped.{started}
use Rattle.cache_lines.specs.Waiting.{under_way}
use Rattle.cache_core.proofs.Admitted.{waiting-is}
use Rattle.cache_core.proofs.giving_up.begin_give_up.Goals as goal

pub returns-clause-begun : goal.returns-clause-begun
returns-clause-begun g c =
    let is = waiting-is c.args.load (under_way c.args.base.now.loads) _ c.in-Some.ensures in
    let same = ap length is in
    let count : c.len-count.result ≡ length (waiting_on c.args.load (under_way c.args.base.now.loads)) = omega (arith, c.in-Some.found.now.waiting.ok.0, c.len-count.ensures, same) in
    subst (λ (k : ℕ). OnOk c.start.result (g.T.Tape.view c.start.new.self ≡ option_map (started (k + k)) (g.T.Tape.view c.args.base.now.tape))) count c.start.ensures.started
