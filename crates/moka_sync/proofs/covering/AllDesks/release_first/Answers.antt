use Rattle.std.proofs.Common.{◌≡◌, ◌∙◌, ap, arith, length, sym}
use Rattle.std.specs.Prelude.{slice_get}
use Rattle.front_parts.proofs.wholes.Firsts.{first-length}
use Rattle.front_parts.specs.Wholes.Firsts.{changed_first}
use Rattle.moka_sync.proofs.Shards.{behind, item, one_further}
use Rattle.moka_sync.specs.Covering.{released}
use Rattle.moka_sync.proofs.covering.AllDesks.release_first.Goals as goal

pub release_at-requires-clause-within : goal.release_at-requires-clause-within
release_at-requires-clause-within g c =
    let low = c.loop-number-test.true in
    let within = c.requires.within in
    let long = ap length c.loop-number.invariant ∙ first-length (λ k. released) c.loop-number.number c.args.self.now in
    omega arith

pub release_at-requires-clause-room : goal.release_at-requires-clause-room
release_at-requires-clause-room g c = λ d at.
    let low = c.loop-number-test.true in
    let n = c.loop-number.number in
    c.requires.room n d (omega arith) (sym (behind released n n c.args.self.now (omega arith)) ∙ ap (λ ds. slice_get ds n) (sym c.loop-number.invariant) ∙ at)

pub loop-number-preserved : goal.loop-number-preserved
loop-number-preserved g c =
    let low = c.loop-number-test.true in
    let within = c.requires.within in
    let long = ap length c.loop-number.invariant ∙ first-length (λ k. released) c.loop-number.number c.args.self.now in
    let one = item c.loop-number.self c.loop-number.number (omega arith) in
    one_further released c.loop-number.number c.args.self.now c.loop-number.self c.release_at.new.self one.0 c.loop-number.invariant one.1 (c.release_at.ensures one.0 one.1)

pub returns : goal.returns
returns g c =
    let past = c.loop-number-test.false in
    let end = c.loop-number.auto.number-end in
    let done : c.loop-number.number ≡ c.args.count = omega arith in
    c.loop-number.invariant ∙ ap (λ n. changed_first (λ k. released) n c.args.self.now) done
