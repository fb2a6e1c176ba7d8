use Rattle.std.proofs.Common.{◌≡◌, ◌∙◌, ap, arith, length, refl, rules, subst, sym}
use Rattle.std.specs.Prelude.{slice_get}
use Rattle.front_parts.proofs.wholes.Firsts.{set-length, undone}
use Rattle.front_parts.specs.Wholes.Firsts.{changed_first}
use Rattle.moka_sync.proofs.Shards.{behind, item, may_more, may_none, one_further, prepared_first, released_back, shards_caused}
use Rattle.moka_sync.specs.Covering.{MayCoverEach, prepared, released}
use Rattle.moka_sync.proofs.covering.AllDesks.prepare_all.Goals as goal

pub loop-number-init : goal.loop-number-init
loop-number-init g c = record {
  far = refl;
  same = refl;
  drawn = ap length c.requires.empty;
  may = may_none c.args.ids.now.items c.args.self.now c.requires.empty;
  room = c.requires.room;
  count = search rules;
}

pub push_reserved-requires : goal.push_reserved-requires
push_reserved-requires g c =
    let low = c.loop-number-test.true in
    let count = c.loop-number.invariant.count in
    let drawn = c.loop-number.invariant.drawn in
    let room = c.loop-number.invariant.room in
    omega arith

pub loop-number-preserved : goal.loop-number-preserved
loop-number-preserved g c =
    let low = c.loop-number-test.true in
    let n = c.loop-number.number in
    let count = c.loop-number.invariant.count in
    let drawn = c.loop-number.invariant.drawn in
    let room = c.loop-number.invariant.room in
    let same = c.loop-number.invariant.same in
    let one = item c.loop-number.self n (omega arith) in
    let here = sym (behind prepared n n c.args.self.now (omega arith)) ∙ ap (λ ds. slice_get ds n) (sym c.loop-number.invariant.far) ∙ one.1 in
    record {
      far = one_further prepared n c.args.self.now c.loop-number.self c.prepare_at.new.self one.0 c.loop-number.invariant.far one.1 (c.in-Ok.ensures.ok one.0 one.1);
      same = ap length (c.in-Ok.ensures.ok one.0 one.1) ∙ set-length c.loop-number.self n (prepared one.0) ∙ same;
      drawn = search rules;
      may = subst (λ ids. MayCoverEach ids c.args.self.now) (sym c.push_reserved.ensures.items) (may_more c.loop-number.ids.items c.args.self.now c.in-Ok.id one.0 c.loop-number.invariant.may (ap (λ k. slice_get c.args.self.now k) drawn ∙ here) (c.in-Ok.ensures.may one.0 one.1));
      room = search rules;
      count = count;
    }

pub release_first-requires-clause-within : goal.release_first-requires-clause-within
release_first-requires-clause-within g c =
    let low = c.loop-number-test.true in
    let count = c.loop-number.invariant.count in
    let same = ap length c.in-Err.ensures.err ∙ c.loop-number.invariant.same in
    omega arith

pub release_first-requires-clause-room : goal.release_first-requires-clause-room
release_first-requires-clause-room g c = prepared_first c.loop-number.number c.args.self.now c.prepare_at.new.self (c.in-Err.ensures.err ∙ c.loop-number.invariant.far)

pub returns-in-Err-clause-err : goal.returns-in-Err-clause-err
returns-in-Err-clause-err g c =
    c.release_first.ensures
    ∙ ap (λ ds. changed_first (λ k. released) c.loop-number.number ds) (c.in-Err.ensures.err ∙ c.loop-number.invariant.far)
    ∙ undone prepared released released_back c.loop-number.number c.args.self.now

pub returns-in-Err-clause-cause : goal.returns-in-Err-clause-cause
returns-in-Err-clause-cause g c =
    let low = c.loop-number-test.true in
    let n = c.loop-number.number in
    let count = c.loop-number.invariant.count in
    let same = c.loop-number.invariant.same in
    let one = item c.loop-number.self n (omega arith) in
    let here = sym (behind prepared n n c.args.self.now (omega arith)) ∙ ap (λ ds. slice_get ds n) (sym c.loop-number.invariant.far) ∙ one.1 in
    shards_caused c.args.self.now c.in-Err.refused n one.0 here (c.in-Err.ensures.cause one.0 one.1)

pub returns : goal.returns
returns g c =
    let past = c.loop-number-test.false in
    let end = c.loop-number.auto.number-end in
    let count = c.loop-number.invariant.count in
    let done : c.loop-number.number ≡ length c.args.self.now = omega arith in
    record {
      ok = c.loop-number.invariant.far ∙ ap (λ n. changed_first (λ k. prepared) n c.args.self.now) done;
      count = c.loop-number.invariant.drawn ∙ done;
      may = c.loop-number.invariant.may;
      err = search rules;
      cause = search rules;
    }
