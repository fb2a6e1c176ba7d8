use Rattle.std.proofs.Common.{◌≡◌, ◌∙◌, [], refl, arith}
use Rattle.cache_run.proofs.devices.Sending.{failed_after}
use Rattle.cache_run.specs.declared.driver.driving.Progress.TheVariants.{More, Over}
use Rattle.cache_run.proofs.driver.Exchanges.{asked-runs, runs-all, runs-more, because-map}
use Rattle.cache_run.proofs.driver.driving.converse.Goals as goal

pub loop-turn-init : goal.loop-turn-init
loop-turn-init g c = record {
  known = c.requires.known;
  same = refl;
  goes = λ start a goes. goes;
  more = λ lent empty. (empty, asked-runs g.I.Read.remaining g.D.Loader.loads _ _ _ 0 ([], refl, omega arith));
  reads = omega arith;
  writes = omega arith;
  counts = omega arith;
}

pub take_turn-requires : goal.take_turn-requires
take_turn-requires g c = record { known = c.loop-turn.invariant.known }

pub loop-turn-preserved : goal.loop-turn-preserved
loop-turn-preserved g c =
    let before = c.loop-turn.invariant in
    let after = c.in-Ok-More.ensures in record {
      known = after.known.0;
      same = after.known.1 ∙ before.same;
      goes = λ start a goes. (rw c.in-Ok-More.field-0-is at after.goes) start a (before.goes start a goes);
      more = λ lent empty.
          let turns = before.more lent empty in
          let turn = after.more c.in-Ok-More.field-0-is lent turns.0 in (turn.0, runs-more g.I.Read.remaining g.D.Loader.loads _ _ _ _ _ _ c.loop-turn._turn turns.1 turn.1);
      reads = omega (arith, before.reads, after.forward.0);
      writes = omega (arith, before.writes, after.forward.1);
      counts = omega (arith, before.counts, after.forward.2);
    }

pub returns-in-Ok-Over : goal.returns-in-Ok-Over
returns-in-Ok-Over g c =
    let before = c.loop-turn.invariant in
    let after = c.in-Ok-Over.ensures in record {
      known = (after.known.0, after.known.1 ∙ before.same);
      goes = λ start a goes. (rw c.in-Ok-Over.field-0-is at after.goes) start a (before.goes start a goes);
      why = tt;
      more = λ is. let no : Over ≡ More = is in cc;
      forward = (omega (arith, before.reads, after.forward.0), omega (arith, before.writes, after.forward.1), omega (arith, before.counts, after.forward.2));
    }

pub returns-in-Err : goal.returns-in-Err
returns-in-Err g c =
    let before = c.loop-turn.invariant in
    let after = c.in-Err.ensures in record {
      known = (after.known.0, after.known.1 ∙ before.same);
      goes = λ start a goes. after.goes start a (before.goes start a goes);
      why = because-map c.in-Err.error (failed_after _ _ _ before.reads after.forward.0) (failed_after _ _ _ before.writes after.forward.1) (g.met.H.Host.exhausts_within _ _ _ _ before.counts (omega arith)) (λ late. late) after.why;
      more = tt;
      forward = (omega (arith, before.reads, after.forward.0), omega (arith, before.writes, after.forward.1), omega (arith, before.counts, after.forward.2));
    }

pub returns : goal.returns
returns g c =
    let before = c.loop-turn.invariant in record {
      known = (before.known, before.same);
      goes = before.goes;
      why = tt;
      more = λ is lent empty. runs-all g.I.Read.remaining g.D.Loader.loads _ _ _ _ c.loop-turn._turn (omega (arith, c.loop-turn-test.false)) (before.more lent empty).1;
      forward = (before.reads, before.writes, before.counts);
    }
