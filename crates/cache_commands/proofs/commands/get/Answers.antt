use Rattle.std.proofs.Common.{rules, Bor, OnOk, ◌≡◌, ◌++◌, List, ℕ}
use Rattle.std.specs.Option.{option_map}
use Rattle.cache_commands.specs.Found.{found_text}
use Rattle.cache_commands.proofs.Adding.{on-both}
use Rattle.cache_commands.proofs.Answered.{answered-get}
use Rattle.cache_commands.proofs.commands.get.Goals as goal

pub returns-clause-ok : goal.returns-clause-ok
returns-clause-ok g c =
    let r = c.look_up.ensures.reads in
    let w : OnOk c.look_up.result (c.look_up.new.output.items ≡ c.args.output.now.items ++ found_text (option_map (λ (b : Bor (List ℕ)). b.now) r.found)) = search rules in
    on-both c.look_up.result _ _ _ w c.look_up.ensures.does (λ a d. answered-get _ _ _ _ _ _ _ c.sound.ensures r.live a d)
