use Rattle.std.proofs.Common.{rules, Bor, ◌≡◌, ◌++◌, List, ℕ, true, is_some}
use Rattle.std.specs.Option.{option_map}
use Rattle.cache_commands.specs.Found.{found_text}
use Rattle.cache_commands.proofs.Answered.{answered-get, answered-load}
use Rattle.cache_commands.proofs.loading.load.Goals as goal

pub returns-in-Ok-clause-found : goal.returns-in-Ok-clause-found
returns-in-Ok-clause-found g c = λ is.
    let r = c.in-Ok.ensures.reads in
    let w : c.look_up.new.output.items ≡ c.args.output.now.items ++ found_text (option_map (λ (b : Bor (List ℕ)). b.now) r.found) = search rules in
    let some : is_some (option_map (λ (b : Bor (List ℕ)). b.now) r.found) ≡ true = search rules in
    answered-load _ _ _ _ _ _ _ some r.live (answered-get _ _ _ _ _ _ _ c.sound.ensures r.live w c.in-Ok.ensures.does)
