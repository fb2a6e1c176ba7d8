use Rattle.std.proofs.Common.{◌∙◌, refl, codes}
use Rattle.std.proofs.lemmas.Bool.{le-leb}
use Rattle.cache_core.specs.Connection.Fed.{seen_by}
use Rattle.cache_lines.specs.Bases.{Seen}
use Rattle.cache_lines.specs.Gathered.{stage}
use Rattle.cache_lines.specs.Whole.{held_line}
use Rattle.cache_core.proofs.connection.Reruns.{abandoned-ran, load-key, said-gathered}
use Rattle.cache_core.proofs.connection.again.run_again.Goals as goal

pub returns-else-connection-lt-MAX_WAITS-clause-ran : goal.returns-else-connection-lt-MAX_WAITS-clause-ran
returns-else-connection-lt-MAX_WAITS-clause-ran g c =
    let old = c.args.connection.now in
    let new = c.abandon_load.new.connection in
    let view = g.S.Store.view in
    let tape = g.T.Tape.view in
    let base = c.args.base.now in
    let was = seen_by view tape base old in
    let is : Seen = record { stage = stage (view base.store) new.output.text.items (tape c.abandon_load.new.tape); loads = was.loads } in
    let a = c.abandon_load.ensures in
    let k = load-key _ c.requires.load in
    abandoned-ran c.args.now c.args.number old new was is c.requires.waits c.sound.ensures c.requires.can_run.in_time.0 c.requires.can_run.clear k.0 k.1 (le-leb 200 old.waited c.if-connection-lt-MAX_WAITS.false) (a.closing ∙ c.requires.open) a.standing a.bytes
    (said-gathered (view base.store) old.output.text.items new.output.text.items (codes "ERR abandoned\n") (held_line old.unread.bytes) c.args.number (tape base.tape) (tape c.abandon_load.new.tape) c.requires.can_run.clear a.said a.text) refl refl
