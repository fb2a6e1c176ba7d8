use Rattle.std.proofs.Common.{rules, Bor, sym, ap, ◌∙◌, subst, ◌≡◌, ◌++◌, List, ℕ, Some, None, true, codes, decimal}
use Rattle.std.specs.Option.{option_map}
use Rattle.audit_model.specs.History.{accepts_values}
use Rattle.audit_model.specs.declared.config.Config.{Config}
use Rattle.cache_commands.specs.Sums.{sum_of_bytes}
use Rattle.cache_commands.specs.Values.{AcceptsValue}
use Rattle.cache_commands.proofs.Answered.{answered-add-off, answered-added, answered-unsummed}
use Rattle.cache_commands.proofs.sums.add.Goals as goal

pub returns-then-not-accepts-clause-ok : goal.returns-then-not-accepts-clause-ok
returns-then-not-accepts-clause-ok g c =
    let w : c.look_up.new.output.items ≡ c.args.output.now.items ++ codes "OFF\n" = search rules in
    answered-add-off _ _ _ _ _ _ _ _ c.sound.ensures (ap (λ (f : Config). accepts_values f.capacity) (sym c.config.ensures) ∙ sym c.accepts.ensures ∙ c.if-not-accepts.true) w c.in_ok-look_up.ensures.does

pub returns-in-Ok-clause-ok : goal.returns-in-Ok-clause-ok
returns-in-Ok-clause-ok g c =
    let r = c.in-Ok.ensures.reads in
    let w : c.look_up-2.new.output.items ≡ c.args.output.now.items ++ codes "ERR number\n" = search rules in
    let e : sum_of_bytes (option_map (λ (b : Bor (List ℕ)). b.now) r.found) c.args.added ≡ None = search rules in
    answered-unsummed _ _ _ _ _ _ _ _ _ c.sound.ensures (ap (λ (f : Config). accepts_values f.capacity) (sym c.config.ensures) ∙ sym c.accepts.ensures ∙ c.if-not-accepts.false) r.live (sym e) w c.in-Ok.ensures.does

pub returns-in_ok-part-in-Err-Sum-clause-ok : goal.returns-in_ok-part-in-Err-Sum-clause-ok
returns-in_ok-part-in-Err-Sum-clause-ok g c =
    let r = c.in-Err-Sum.ensures.reads in
    let same : c.look_up-2.new.output.items ≡ c.args.output.now.items = search rules in
    let e : sum_of_bytes (option_map (λ (b : Bor (List ℕ)). b.now) r.found) c.args.added ≡ Some c.in-Err-Sum.sum = search rules in
    let takes = ap (λ (f : Config). accepts_values f.capacity) (sym c.config.ensures) ∙ sym c.accepts.ensures ∙ c.if-not-accepts.false in
    let written = c.in_ok-part-in-Err-Sum.ensures.written ∙ ap (λ xs. xs ++ (codes "VAL " ++ decimal c.in-Err-Sum.sum ++ codes "\n")) same in
    let accepted = subst (λ (x : g.row.S.Denot). AcceptsValue c.args.now c.args.key.now (decimal c.in-Err-Sum.sum) c.args.milliseconds true c.in_ok-part-in-Err-Sum.part (g.S.Store.view x)
    (g.S.Store.view c.accept_sum.new.store)) c.in-Err-Sum.ensures.unchanged c.in_ok-part-in-Err-Sum.ensures.accepted in
    answered-added _ _ _ _ _ _ _ _ _ _ _ c.sound.ensures takes r.live (sym e) written accepted
