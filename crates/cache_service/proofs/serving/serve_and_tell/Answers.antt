use Rattle.std.proofs.Common.{◌≡◌, ◌≢◌, ◌≤◌, ◌∙◌, true, false, [], Ok, refl, sym, inl, inr, arith}
use Rattle.std.proofs.lemmas.Result.{err_from_is_err_and}
use Rattle.cache_run.proofs.devices.Sending.{failed_after}
use Rattle.cache_run.specs.Driver.Driven.{around}
use Rattle.cache_run.specs.declared.driver.driving.Progress.TheVariants.{More}
use Rattle.cache_run.proofs.driver.Exchanges.{fresh-underway}
use Rattle.cache_run.specs.declared.devices.errors.RunError.TheVariants.{Read, Write, Moment, UsedUp}
use Rattle.cache_service.specs.Sitting.{Closes, Comes, tally, used-later}
use Rattle.cache_service.proofs.Promised.{attended, ended-because, rested, rested-wrote}
use Rattle.cache_service.proofs.serving.serve_and_tell.Goals as goal

pub returns-in_default-clause-wrote : goal.returns-in_default-clause-wrote
returns-in_default-clause-wrote g c = let seat = c.args.seat.now in ([], [], refl, rested-wrote g.C.Shareable.KEEPS _ _ _ _ (tally seat) (tally seat) _ (rested seat seat (inl refl)))

pub returns-in_default-clause-asked : goal.returns-in_default-clause-asked
returns-in_default-clause-asked g c = λ kept. (record { namespace = c.args.namespace; number = 0 }, inr (record { same = λ n. refl; unread = refl; untold = refl; unasked = refl }))

pub returns-in_err-session-clause-wrote : goal.returns-in_err-session-clause-wrote
returns-in_err-session-clause-wrote g c =
    let p = err_from_is_err_and c.from_residual.result c.from_residual.ensures.1 in
    rw p.1 ([], [], refl, rested-wrote g.C.Shareable.KEEPS _ _ _ _ (tally c.args.seat.now) (tally c.open.new.place) _ (rested c.args.seat.now c.open.new.place c.in_err-session.ensures.rests))

pub returns-in_err-session-clause-asked : goal.returns-in_err-session-clause-asked
returns-in_err-session-clause-asked g c = λ kept.
    let p = err_from_is_err_and c.from_residual.result c.from_residual.ensures.1 in
    rw p.1 (
      record { namespace = c.args.namespace; number = 0 },
      inr (record { same = (rested c.args.seat.now c.open.new.place c.in_err-session.ensures.rests).same; unread = refl; untold = refl; unasked = refl }),
    )

pub returns-in_default-clause-served : goal.returns-in_default-clause-served
returns-in_default-clause-served g c = inr (refl, refl)

pub returns-in_err-session-clause-served : goal.returns-in_err-session-clause-served
returns-in_err-session-clause-served g c = let p = err_from_is_err_and c.from_residual.result c.from_residual.ensures.1 in rw p.1 (inr (refl, refl))

pub loop-turn-init : goal.loop-turn-init
loop-turn-init g c = record {
  goes = fresh-underway false (Comes g.L.Seating.configs g.C.Shareable.spaces g.C.Shareable.untaken g.C.Shareable.KEEPS g.C.Shareable.untold) (Closes g.L.Seating.configs g.C.Shareable.spaces g.C.Shareable.untaken g.C.Shareable.KEEPS) g.K.Clock.reads g.D.Loader.loads _ _ c.in_ok-session.session c.in_ok-session.ensures.opens.1;
  same = refl;
  reads = omega arith;
  writes = omega arith;
  counts = omega arith;
}

pub loop-turn-preserved : goal.loop-turn-preserved
loop-turn-preserved g c =
    let i = c.loop-turn.invariant in
    let more = c.is_more.ensures.0 c.if-is_more.true in record {
      goes = rw more at (c.converse-ended.ensures.goes c.open.new.place (around g.I.Read.remaining g.O.Write.contents c.args.reader.now c.args.writer.now c.args.clock.now c.args.loader.now) i.goes);
      same = c.converse-ended.ensures.known.1 ∙ i.same;
      reads = omega arith;
      writes = omega arith;
      counts = omega arith;
    }

pub returns-in-loop-turn : goal.returns-in-loop-turn
returns-in-loop-turn g c =
    let i = c.loop-turn.invariant in
    let all = attended g.L.Seating.configs g.C.Shareable.spaces g.C.Shareable.untaken g.C.Shareable.untold g.C.Shareable.KEEPS g.I.Read.remaining g.O.Write.contents g.K.Clock.reads g.D.Loader.loads c.args.namespace c.args.seat.now c.close.new.place c.args.reader.now c.converse-ended.new.reader c.args.writer.now
    c.converse-ended.new.writer c.args.clock.now c.converse-ended.new.clock c.args.loader.now c.close.new.loader c.in_ok-session.session c.converse-ended.new.session c.open.new.place c.converse-ended.new.place c.converse-ended.new.loader c.converse-ended.result c.outcome_of.result
    c.close.result c.in_ok-session.ensures.opens.0 (c.converse-ended.ensures.known.1 ∙ i.same) (c.converse-ended.ensures.goes c.open.new.place (around g.I.Read.remaining g.O.Write.contents c.args.reader.now c.args.writer.now c.args.clock.now c.args.loader.now) i.goes) c.outcome_of.ensures c.close.ensures.closes c.close.ensures.same in
    let counts : c.args.seat.now.count ≤ c.close.new.place.count = omega arith in
    let over : c.converse-ended.result ≢ Ok More = λ is. let no : true ≡ false = sym (c.is_more.ensures.1 is) ∙ c.if-is_more.false in cc in
    let why = ended-because c.converse-ended.result c.close.result (c.close.ensures.same ∙ c.outcome_of.ensures) over (failed_after _ _ _ i.reads c.converse-ended.ensures.forward.0) (failed_after _ _ _ i.writes c.converse-ended.ensures.forward.1)
    (λ used. used-later c.converse-ended.new.place.count c.close.new.place.count c.close.ensures.counts used) (λ late. late) c.converse-ended.ensures.why in
    record {
      wrote = all.wrote;
      asked = all.asked;
      count = (counts, why UsedUp);
      devices = (why Read, why Write);
      moment = why Moment;
      loader = all.loaded;
      served = all.served;
    }
