use Rattle.std.proofs.Common.{◌≡◌, ◌+◌, List, None, slice_index_or, ap, sym, ◌∙◌}
use Rattle.cache_loop.specs.Loads.{once, times_pending}
use Rattle.cache_loop.specs.declared.loading.Pending.{Pending}
use Rattle.cache_loop.proofs.loading.Loading.forget.Goals as goal

pub returns-in-Some-clause-one : goal.returns-in-Some-clause-one
returns-in-Some-clause-one g c =
    let d : Pending = record { number = 0; due = None } in
    let gone = c.forget_at-number in
    let same : gone.result ≡ c.args.number = gone.ensures.which d ∙ ap (λ (xs : List Pending). (slice_index_or xs c.in-Some.index d).number) (sym c.deref.ensures.value) ∙ c.in-Some.ensures.there.1 d in
    λ is load. gone.ensures.one load ∙ ap (λ n. times_pending gone.new.self.pending.items load + once n load) same
