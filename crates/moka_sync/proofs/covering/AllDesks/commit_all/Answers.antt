use Rattle.std.proofs.Common.{rules, ◌≡◌, ◌∙◌, refl, ap, sym, subst, arith, get_or, length}
use Rattle.std.proofs.lemmas.Option.{slice_get-get_or}
use Rattle.std.specs.Prelude.{slice_get}
use Rattle.front_parts.proofs.wholes.Drawn.{all-last}
use Rattle.front_parts.proofs.wholes.Firsts.{set-length}
use Rattle.moka_sync.proofs.Shards.{commits_more, commits_none, item, others}
use Rattle.moka_sync.specs.Covering.{Commits, CommitsFirst}
use Rattle.moka_sync.proofs.covering.AllDesks.commit_all.Goals as goal

pub loop-number-init : goal.loop-number-init
loop-number-init g c =
    let e = c.requires.predicates in
    record {
      far = λ p h. (h, commits_none p c.args.ids.now c.args.self.now);
      rest = λ k low. refl;
      same = refl;
      left = omega arith;
      count = search rules;
    }

pub unreachable-requires : goal.unreachable-requires
unreachable-requires g c =
    let low = c.loop-number-test.true in
    let left = c.loop-number.invariant.left in
    let count = c.loop-number.invariant.count in
    let none = c.in-None.ensures.cases.0 in
    absurd (omega arith)

pub commit_at-requires-clause-within : goal.commit_at-requires-clause-within
commit_at-requires-clause-within g c =
    let low = c.loop-number-test.true in
    let count = c.loop-number.invariant.count in
    let same = c.loop-number.invariant.same in
    omega arith

pub commit_at-requires-clause-prepared : goal.commit_at-requires-clause-prepared
commit_at-requires-clause-prepared g c = λ d at.
    c.requires.prepared c.loop-number.number d (sym (c.loop-number.invariant.rest c.loop-number.number (omega arith)) ∙ at)

pub loop-number-preserved : goal.loop-number-preserved
loop-number-preserved g c =
    let low = c.loop-number-test.true in
    let n = c.loop-number.number in
    let count = c.loop-number.invariant.count in
    let same = c.loop-number.invariant.same in
    let left = c.loop-number.invariant.left in
    let long = c.requires.ids in
    let shorter = c.in-Some.ensures.cases in
    let one = item c.loop-number.self n (omega arith) in
    let made = c.commit_at.ensures one.0 one.1 in
    let given = slice_get-get_or c.args.ids.now n 0 (omega arith) in
    record {
      far = λ p h.
          let k = c.loop-number.invariant.far p h in
          let l = all-last p c.in-Some.predicate c.loop-number.predicates.items c.pop.new.self.items c.in-Some.ensures.items k.0 in
          (l.0, commits_more p c.args.ids.now n (get_or c.args.ids.now n 0) c.args.self.now c.loop-number.self c.commit_at.new.self one.0 made.0 k.1 given one.1 (omega arith) (subst (λ q. Commits q (get_or c.args.ids.now n 0) one.0 made.0) l.1 made.1) made.2);
      rest = λ k less. ap (λ ds. slice_get ds k) made.2 ∙ others c.loop-number.self n k made.0 (λ e. omega (arith, e)) ∙ c.loop-number.invariant.rest k (omega arith);
      same = ap length made.2 ∙ set-length c.loop-number.self n made.0 ∙ same;
      left = omega arith;
      count = count;
    }

pub returns : goal.returns
returns g c =
    let past = c.loop-number-test.false in
    let end = c.loop-number.auto.number-end in
    let count = c.loop-number.invariant.count in
    let done : c.loop-number.number ≡ length c.args.self.now = omega arith in
    λ p h. subst (λ n. CommitsFirst p c.args.ids.now n c.args.self.now c.loop-number.self) done (c.loop-number.invariant.far p h).1
