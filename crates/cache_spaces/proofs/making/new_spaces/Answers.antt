use Rattle.std.proofs.Common.{rules, ◌≡◌, ◌∙◌, ◌+◌, ap, length, length-append, refl, subst, vec_len}
use Rattle.std.proofs.lemmas.List.{take_all}
use Rattle.std.specs.declared.alloc.Global.{Global}
use Rattle.std.specs.declared.vec.Vec.{Vec}
use Rattle.rand_core.specs.Stream.{fill_bytes}
use Rattle.rand_xoshiro.specs.Xoshiro256.{of_seed}
use Rattle.cache_spaces.specs.Services.{is_served, AreNewSpaces}
use Rattle.cache_spaces.proofs.Journaling.{all-at, forked-more, new-more, new-none, new-so}
use Rattle.cache_spaces.proofs.making.new_spaces.Goals as goal

many : {X : Type 0} (v : Vec X Global) → vec_len v ≡ length v.items
many v = search rules

pub loop-config-preserved : goal.loop-config-preserved
loop-config-preserved g c =
    let n = c.in_ok-new_space.ensures in
    let i = c.len-namespace.ensures ∙ many c.loop-config.spaces ∙ c.loop-config.invariant.number in
    let forked = c.fork.ensures.seeded ∙ ap (λ s. of_seed (fill_bytes 32 s).0) c.loop-config.invariant.forked in
    record {
      new = new-more g.T.Tape.view (g.T.NewTape.blank c.args.made) c.loop-config.spaces.items _ c.args.configs.now c.args.generator c.args.made.nanos c.loop-config.config-index c.in_ok-new_space.field-0 _ c.loop-config-test.true c.loop-config.invariant.number c.loop-config.invariant.new
          (new-so g.T.Tape.view (g.T.NewTape.blank c.args.made) _ _ _ _ _ _ _ i forked n)
          c.in_ok-push.ensures.items;
      number = ap length c.in_ok-push.ensures.items ∙ length-append c.loop-config.spaces.items _ ∙ ap (λ n. n + 1) c.loop-config.invariant.number;
      forked = forked-more c.args.generator c.loop-config.generator c.fork.new.self c.loop-config.config-index c.loop-config.invariant.forked c.fork.ensures.rest;
    }

pub loop-config-init : goal.loop-config-init
loop-config-init g c = record {
  new = new-none g.T.Tape.view (g.T.NewTape.blank c.args.made) c.in_ok-spaces.spaces.items c.args.generator c.args.made.nanos c.in_ok-spaces.ensures.items;
  number = ap length c.in_ok-spaces.ensures.items;
  forked = refl;
}

pub new_space-requires-clause-config : goal.new_space-requires-clause-config
new_space-requires-clause-config g c = all-at is_served c.args.configs.now c.loop-config.config-index _ c.loop-config-test.true c.requires.configs

pub returns : goal.returns
returns g c = subst (λ l. AreNewSpaces g.T.Tape.view (g.T.NewTape.blank c.args.made) c.loop-config.spaces.items l c.args.generator c.args.made.nanos) (take_all c.loop-config.config-index c.args.configs.now c.loop-config-test.false) c.loop-config.invariant.new
