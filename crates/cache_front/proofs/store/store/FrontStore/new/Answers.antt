use Rattle.std.proofs.Common.{arith}
use Rattle.std.specs.VecDeque.{deque_capacity}
use Rattle.cache_front.specs.Data.{word_of}
use Rattle.cache_front.proofs.data.Calls.{new_over}
use Rattle.cache_front.proofs.store.store.FrontStore.new.Goals as goal

pub invariant_of-result : goal.invariant_of-result
invariant_of-result g c =
    let m = new_over (word_of g.S.BuildHasher g.S.Hasher.Hasher) c.args.config c.args.made c.bits_of-bits.result (record { inner = c.args.hasher }) (g.R.Rng.stream c.args.generator) c.in_ok-front.front (deque_capacity c.new.result)
    (rw (c.settings_of-settings.ensures, c.new-hasher.ensures) at c.in_ok-front.ensures) c.bits_of-bits.ensures.parts c.bits_of-bits.ensures.few (λ s key. omega arith) c.requires.brief c.requires.moment in
    rw c.new.ensures.items m.0

pub returns-clause-made : goal.returns-clause-made
returns-clause-made g c =
    let m = new_over (word_of g.S.BuildHasher g.S.Hasher.Hasher) c.args.config c.args.made c.bits_of-bits.result (record { inner = c.args.hasher }) (g.R.Rng.stream c.args.generator) c.in_ok-front.front (deque_capacity c.new.result)
    (rw (c.settings_of-settings.ensures, c.new-hasher.ensures) at c.in_ok-front.ensures) c.bits_of-bits.ensures.parts c.bits_of-bits.ensures.few (λ s key. omega arith) c.requires.brief c.requires.moment in
    rw c.new.ensures.items m.1
