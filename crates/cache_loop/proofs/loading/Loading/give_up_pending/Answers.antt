use Rattle.std.proofs.Common.{List, ℕ, ap, sym, subst, ◌∙◌}
use Rattle.cache_loop.specs.Loads.{GivesUpEach, numbers_pending}
use Rattle.cache_loop.specs.declared.loading.Pending.{Pending}
use Rattle.cache_loop.proofs.LoadsSettled.{numbers-last}
use Rattle.cache_loop.proofs.loading.Loading.give_up_pending.Goals as goal

pub loop-load-preserved : goal.loop-load-preserved
loop-load-preserved g c =
    let l = c.loop-load in
    let load = c.in-Some.load in
    let told = c.give_up in
    let last = ap (λ (xs : List Pending). numbers_pending xs) c.in-Some.ensures.items ∙ numbers-last c.pop.new.self.items load in
    record {
      each = λ q rest. l.invariant.each q (subst (λ (xs : List ℕ). GivesUpEach g.H.Host.came g.H.Host.rests c.args.self.now.conn l.place xs q) (sym last) (told.new.place, told.ensures.told, rest));
      conn = l.invariant.conn;
      loads = told.ensures.loads ∙ l.invariant.loads;
    }
