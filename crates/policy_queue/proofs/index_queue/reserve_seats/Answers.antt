use Rattle.std.proofs.Common.{◌-◌, ◌++◌, is_ok, get_or, replicate, vec_len, ap, ◌∙◌, inl, inr, arith}
use Rattle.std.proofs.lemmas.Bool.{cases_Bool, cond-true, cond-false}
use Rattle.std.proofs.lemmas.List.{take_all}
use Rattle.policy_queue.specs.Indices.{vacant}
use Rattle.policy_queue.proofs.Arranged.{seats_more}
use Rattle.policy_queue.proofs.index_queue.reserve_seats.Goals as goal

pub returns-clause-same : goal.returns-clause-same
returns-clause-same c = λ k.
    let ok = c.args.seats.now.ok.0 in
    elim (cases_Bool (is_ok c.resize.result)) [
      | inl good ↦ ap (λ xs. get_or xs k vacant) (c.resize.ensures.items ∙ cond-true _ _ _ good ∙ ap (λ xs. xs ++ replicate (c.args.bound - vec_len c.args.seats.now) vacant) (take_all c.args.bound c.args.seats.now.items (omega arith))) ∙ seats_more c.args.seats.now.items (c.args.bound - vec_len c.args.seats.now) k
      | inr bad ↦ ap (λ xs. get_or xs k vacant) (c.resize.ensures.items ∙ cond-false _ _ _ bad)
    ]
