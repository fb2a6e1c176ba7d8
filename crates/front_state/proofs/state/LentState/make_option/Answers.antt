use Rattle.std.proofs.Common.{rules}
use Rattle.front_parts.specs.Places.Calls.{ways_by}
use Rattle.front_state.proofs.Accessed.{gets-option}
use Rattle.front_state.proofs.state.LentState.make_option.Goals as goal

pub returns-clause-value : goal.returns-clause-value
returns-clause-value g c =
    let key = g.Q.Names.named_key c.args.name in
    gets-option (ways_by g.R.Rules g.K.PartialEq.eq g.K.Hash.hash_input g.S.BuildHasher g.S.Hasher.Hasher) key c.args.at _ _ (λ answer. goal.M-post g c.args.make answer) c.args.self.now c.coalesce.new.self c.in_ok-made.made c.in_ok-made._is_fresh c.option_made.result c.option_made.ensures c.in_ok-made.ensures.answer (λ v i says. search rules) (λ says. search rules)
