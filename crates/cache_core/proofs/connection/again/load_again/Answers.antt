use Rattle.std.proofs.Common.{ap, refl, subst, arith, ◌∙◌, ◌≡◌, ◌+◌, false, suc, true}
use Rattle.std.specs.Option.{option_map}
use Rattle.cache_lines.specs.Bases.{Seen, seen_on}
use Rattle.cache_lines.specs.Gathered.{gathered, stage}
use Rattle.cache_lines.specs.Ran.{RunsAs, begins_to_wait}
use Rattle.cache_lines.specs.Tape.Taped.{spends, step_held}
use Rattle.cache_lines.specs.Waiting.{under_way}
use Rattle.cache_lines.specs.Whole.{held_line}
use Rattle.cache_lines.specs.declared.running.LineOutcome.TheVariants.{Stays, Quits, Waits}
use Rattle.cache_core.proofs.connection.Reruns.{answered-ran, fits-behind, held-ran, load-key, not-last, waits-ran}
use Rattle.cache_lines.proofs.Gathering.{held-gathered, same-under}
use Rattle.cache_core.proofs.connection.again.load_again.Goals as goal

pub invariant_of-connection-clause-fits : goal.invariant_of-connection-clause-fits
invariant_of-connection-clause-fits g c =
    let old = c.args.connection.now in
    fits-behind old.closing old.standing old.waited old.unread.bytes c.pass_line.new.unread.bytes c.requires.open c.requires.waits old.fits c.pass_line.ensures.bytes

pub invariant_of-connection-in-Ok-Quits-clause-fits : goal.invariant_of-connection-in-Ok-Quits-clause-fits
invariant_of-connection-in-Ok-Quits-clause-fits g c =
    let old = c.args.connection.now in
    fits-behind old.closing old.standing old.waited old.unread.bytes c.pass_line-in-Ok-Quits.new.unread.bytes c.requires.open c.requires.waits old.fits c.pass_line-in-Ok-Quits.ensures.bytes

pub returns-in-Ok-Stays-clause-ran : goal.returns-in-Ok-Stays-clause-ran
returns-in-Ok-Stays-clause-ran g c =
    let old = c.args.connection.now in
    let was = seen_on g.S.Store.view g.T.Tape.view c.args.base.now old.output in
    let is = seen_on g.S.Store.view g.T.Tape.view c.run_line.new.base c.run_line.new.output in
    let k = load-key _ c.requires.load in
    let one = subst (λ l. RunsAs c.args.now c.args.number l Stays was is) c.first_line-line.ensures.line (subst (λ d. RunsAs c.args.now c.args.number c.first_line-line.result.now d was is) c.in-Ok-Stays.field-0-is c.in-Ok-Stays.ensures.runs) in
    answered-ran c.args.now c.args.number old _ was is c.requires.waits c.sound.ensures c.requires.can_run.in_time.0 c.requires.can_run.clear k.0 false k.1 (not-last old.waited c.requires.few) c.requires.open refl c.pass_line.ensures.bytes one.1 one.0

pub returns-in-Ok-Quits-clause-ran : goal.returns-in-Ok-Quits-clause-ran
returns-in-Ok-Quits-clause-ran g c =
    let old = c.args.connection.now in
    let was = seen_on g.S.Store.view g.T.Tape.view c.args.base.now old.output in
    let is = seen_on g.S.Store.view g.T.Tape.view c.run_line.new.base c.run_line.new.output in
    let k = load-key _ c.requires.load in
    let one = subst (λ l. RunsAs c.args.now c.args.number l Quits was is) c.first_line-line.ensures.line (subst (λ d. RunsAs c.args.now c.args.number c.first_line-line.result.now d was is) c.in-Ok-Quits.field-0-is c.in-Ok-Quits.ensures.runs) in
    answered-ran c.args.now c.args.number old _ was is c.requires.waits c.sound.ensures c.requires.can_run.in_time.0 c.requires.can_run.clear k.0 true k.1 (not-last old.waited c.requires.few) c.requires.open refl c.pass_line-in-Ok-Quits.ensures.bytes one.1 one.0

pub returns-in-Ok-Waits-clause-ran : goal.returns-in-Ok-Waits-clause-ran
returns-in-Ok-Waits-clause-ran g c =
    let old = c.args.connection.now in
    let was = seen_on g.S.Store.view g.T.Tape.view c.args.base.now old.output in
    let is = seen_on g.S.Store.view g.T.Tape.view c.run_line.new.base c.run_line.new.output in
    let w = subst (λ l. RunsAs c.args.now c.args.number l Waits was is) c.first_line-line.ensures.line (subst (λ d. RunsAs c.args.now c.args.number c.first_line-line.result.now d was is) c.in-Ok-Waits.field-0-is c.in-Ok-Waits.ensures.runs) in
    let stays = (c.in-Ok-Waits.ensures.waits (ap begins_to_wait c.in-Ok-Waits.field-0-is)).0 in
    let times : old.waited + 1 ≡ suc old.waited = omega arith in
    waits-ran c.args.now c.args.number old _ was is c.requires.waits c.sound.ensures c.requires.can_run.in_time.0 c.requires.can_run.clear w.is_miss (not-last old.waited c.requires.few) c.requires.open c.requires.waits refl times w.gathered_is w.loads_are (ap g.S.Store.view stays)

pub returns-in-Err-clause-ran : goal.returns-in-Err-clause-ran
returns-in-Err-clause-ran g c =
    let old = c.args.connection.now in
    let view = g.S.Store.view in
    let tape = g.T.Tape.view in
    let was = seen_on view tape c.args.base.now old.output in
    let line = held_line old.unread.bytes in
    let base = c.run_line.new.base in
    let text = c.run_line.new.output.text.items in
    let same = c.in-Err.ensures.refused in
    let held = c.hold.ensures ∙ ap (λ l. option_map (spends (step_held c.args.number l)) (tape base.tape)) c.first_line-line.ensures.line in
    let is : Seen = record { stage = stage (view base.store) text (tape c.hold.new.self); loads = under_way base.loads } in
    let gathers = ap (λ t. gathered (stage (view base.store) text t)) held ∙ held-gathered (gathered was.stage) (view base.store) text line c.args.number (tape base.tape) same.gathered_is in
    held-ran c.args.now c.args.number old _ was is c.requires.waits c.sound.ensures c.requires.can_run.in_time.0 c.requires.can_run.clear (not-last old.waited c.requires.few) c.requires.open refl refl refl gathers
    (same-under c.args.base.now.loads base.loads same.loads_are) (ap view same.store_is)
