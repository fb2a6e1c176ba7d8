use Rattle.std.proofs.Common.{◌≡◌, rules, length, arith}
use Rattle.std.proofs.lemmas.List.{get_or-replicate}
use Rattle.std.proofs.lemmas.Grind.{common_steps}
use Rattle.cache_shared.proofs.Stepping.{once_count}
use Rattle.cache_shared.proofs.judging.agree.Goals as goal

pub judge-requires : goal.judge-requires
judge-requires g c = λ k lt. grind (arith, common_steps, get_or-replicate)

pub returns-in-Ok : goal.returns-in-Ok
returns-in-Ok g c = λ yes.
    let e : length c.deref_mut.result.now ≡ length c.args.journal.now.records = search rules in
    record { parts = c.are_parts.ensures c.if-not-are_parts.false; once = once_count _ _ _ _ e (c.judge.ensures yes) }
