use Rattle.std.proofs.Common.{refl, sym, ◌∙◌, arith}
use Rattle.policy_base.proofs.Sound.{full, before_end, next_not_taken, next_vacant, pushed, pushed_slots, filled, filled_len, updated}
use Rattle.policy_base.proofs.cells.Cells.insert_reserved.Goals as goal

pub push_reserved-requires : goal.push_reserved-requires
push_reserved-requires g c =
    let room = rw (← c.self.view_is) at c.requires in
    let all = full _ _ _ c.self.invariant (omega arith) in
    let counted = c.self.invariant.sound.counted in
    omega arith

pub invariant_of-self : goal.invariant_of-self
invariant_of-self g c =
    let room = rw (← c.self.view_is) at c.requires in
    let all = full _ _ _ c.self.invariant (omega arith) in
    let counted = c.self.invariant.sound.counted in
    rw c.push_reserved.ensures.items (pushed _ _ _ c.self.invariant c.args.first c.args.second (omega arith) (omega arith))

pub returns-then-key-len-clause-key_in_range : goal.returns-then-key-len-clause-key_in_range
returns-then-key-len-clause-key_in_range g c =
    let room = rw (← c.self.view_is) at c.requires in
    let all = full _ _ _ c.self.invariant (omega arith) in
    let counted = c.self.invariant.sound.counted in
    omega arith

pub invariant_of-self-in-Vacant : goal.invariant_of-self-in-Vacant
invariant_of-self-in-Vacant g c = rw c.replace.ensures.after (filled _ _ _ c.self.invariant c.index_mut.result.now _ c.args.first c.args.second (λ e. omega arith) c.index_mut.ensures.value (sym c.replace.ensures.value ∙ c.in-Vacant.is))

pub unreachable-requires : goal.unreachable-requires
unreachable-requires g c = next_not_taken _ _ _ c.self.invariant c.index_mut.result.now _ _ (λ e. omega arith) c.index_mut.ensures.value (sym c.replace.ensures.value ∙ c.in-Taken.is)

pub returns-clause-was_vacant : goal.returns-clause-was_vacant
returns-clause-was_vacant g c = rw (← c.self.view_is) (next_vacant _ _ _ c.self.invariant)

pub returns-clause-updates : goal.returns-clause-updates
returns-clause-updates g c = rw (← c.self.view_is, c.replace.ensures.after) (updated _ _ _ c.self.invariant _ _ c.self.inside.next _ (before_end _ _ _ c.self.invariant (λ e. omega arith)) refl refl)

pub returns-clause-len : goal.returns-clause-len
returns-clause-len g c = rw (← c.self.view_is, c.replace.ensures.after) (filled_len _ _ _ c.self.invariant c.index_mut.result.now _ c.args.first c.args.second (λ e. omega arith) c.index_mut.ensures.value (sym c.replace.ensures.value ∙ c.in-Vacant.is))

pub returns-clause-key_in_range : goal.returns-clause-key_in_range
returns-clause-key_in_range g c = let fits = c.self.invariant.fits in omega (arith, before_end _ _ _ c.self.invariant (λ e. omega arith))

pub returns-then-key-len-clause-slots : goal.returns-then-key-len-clause-slots
returns-then-key-len-clause-slots g c =
    let room = rw (← c.self.view_is) at c.requires in
    let all = full _ _ _ c.self.invariant (omega arith) in
    let counted = c.self.invariant.sound.counted in
    rw c.push_reserved.ensures.items (pushed_slots _ _ _ c.self.invariant c.args.first c.args.second _ (omega arith) (omega arith))
