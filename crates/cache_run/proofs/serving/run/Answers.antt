use Rattle.std.proofs.Common.{◌≡◌, [], true, refl, sym, ◌∙◌, subst, inl, ⊎_elim, Err, IfErr}
use Rattle.std.proofs.lemmas.Result.{err_from_is_err_and}
use Rattle.cache_run.specs.Devices.Sources.{HasToldLate}
use Rattle.cache_run.specs.declared.devices.errors.RunError.TheVariants.{Moment, Read, UsedUp, Write}
use Rattle.cache_run.specs.Driver.Causes.{Because, Fails, RunsOut}
use Rattle.cache_run.specs.Driver.Driven.{ClosesAfter, around}
use Rattle.cache_run.proofs.driver.Exchanges.{fresh-underway}
use Rattle.cache_run.specs.Loading.{loads_under_way_in}
use Rattle.cache_run.specs.Lent.{ClosesAt, ComesAt, DropsAt, OpensAt}
use Rattle.cache_run.proofs.Driving.{Served, lent-none, lent-served, cause-of, memory-only, runs-partly, runs-whole, stops-for, unasked}
use Rattle.cache_core.proofs.connections.Getting.{found-at}
use Rattle.cache_spaces.proofs.Placing.{at-same, at-unmoved}
use Rattle.cache_run.proofs.serving.run.Goals as goal

pub returns-in_err-session : goal.returns-in_err-session
returns-in_err-session g c =
    let p = err_from_is_err_and c.from_residual.result c.from_residual.ensures.1 in
    let why = c.in_err-session.ensures.why in
    let same = ⊎_elim (λ p. p) (λ p. p) c.in_err-session.ensures.rests in
    let found = found-at c.args.service.now c.args.namespace c.requires.known in rw (p.1, p.2) (record {
      ok = tt;
      err = inl (memory-only _ why, same, refl, refl, refl, refl);
      none = at-unmoved _ _ same (at-same (λ was is. loads_under_way_in was ≡ [] → loads_under_way_in is ≡ []) c.args.service.now c.args.namespace found.0 found.1 (λ none. none));
      read = λ is. absurd (cause-of ⊥ ⊥ ⊥ ⊥ (Err _) Read why is);
      write = λ is. absurd (cause-of ⊥ ⊥ ⊥ ⊥ (Err _) Write why is);
      moment = λ is. absurd (cause-of ⊥ ⊥ ⊥ ⊥ (Err _) Moment why is);
      used_up = λ is. absurd (cause-of ⊥ ⊥ ⊥ ⊥ (Err _) UsedUp why is);
    })

pub returns : goal.returns
returns g c =
    let remaining = g.R.Read.remaining in
    let contents = g.W.Write.contents in
    let reads = g.C.Clock.reads in
    let loads = g.L.Loader.loads in
    let ran = c.converse in
    let result = c.close.result in
    let is = c.close.ensures.same ∙ c.outcome_of-outcome.ensures in
    let fresh = c.in_ok-session.ensures.opens.1 in
    let closes = subst (λ o. ClosesAfter ClosesAt DropsAt loads o ran.new.session ran.new.place c.close.new.place ran.new.loader c.close.new.loader) c.outcome_of-outcome.ensures c.close.ensures.closes in
    let a = around remaining contents c.args.reader.now c.args.writer.now c.args.clock.now c.args.loader.now in
    let b = around remaining contents ran.new.reader ran.new.writer ran.new.clock c.close.new.loader in
    let served = lent-served reads loads c.args.namespace c.args.service.now c.close.new.place a b ran.new.session c.open.new.place ran.new.place ran.new.loader ran.result (subst (λ conn. OpensAt c.args.namespace conn c.args.service.now c.open.new.place) (sym ran.ensures.known.1) c.in_ok-session.ensures.opens.0)
    (ran.ensures.goes c.open.new.place a (fresh-underway true ComesAt ClosesAt reads loads c.open.new.place a c.in_ok-session.session fresh)) closes in
    let came = subst (Served reads loads c.args.namespace c.args.service.now c.close.new.place a b) (sym is) served in
    let Reads = Fails c.args.reader.now ran.new.reader in
    let Writes = Fails c.args.writer.now ran.new.writer in
    let Turns = RunsOut remaining loads c.args.reader.now ran.new.reader c.args.loader.now c.close.new.loader in
    let Late = HasToldLate reads ran.new.clock in
    let turns = subst (λ loader. RunsOut remaining loads c.args.reader.now ran.new.reader c.args.loader.now loader) (sym (unasked loads _ ran.new.session ran.new.place c.close.new.place ran.new.loader c.close.new.loader closes)) in
    let why = subst (λ o. IfErr o (Because Reads Writes Turns Late)) (sym is) (stops-for Reads Writes Turns Late (true ≡ true) (c.in_ok-session.session.inbox ≡ []) (RunsOut remaining loads c.args.reader.now ran.new.reader c.args.loader.now ran.new.loader) ran.result refl fresh.inbox turns ran.ensures.why ran.ensures.more) in record {
      ok = runs-whole remaining contents reads loads c.args.namespace c.args.service.now c.close.new.place c.args.reader.now ran.new.reader c.args.writer.now ran.new.writer c.args.clock.now ran.new.clock c.args.loader.now c.close.new.loader result came;
      err = runs-partly remaining contents reads loads c.args.namespace c.args.service.now c.close.new.place c.args.reader.now ran.new.reader c.args.writer.now ran.new.writer c.args.clock.now ran.new.clock c.args.loader.now c.close.new.loader result came;
      none = lent-none reads loads c.args.namespace c.args.service.now c.close.new.place a b result came;
      read = cause-of Reads Writes Turns Late result Read why;
      write = cause-of Reads Writes Turns Late result Write why;
      moment = cause-of Reads Writes Turns Late result Moment why;
      used_up = cause-of Reads Writes Turns Late result UsedUp why;
    }
