use Rattle.std.proofs.Common.{◌∙◌, refl}
use Rattle.audit_model.specs.Replies.{outcome_text}
use Rattle.cache_core.specs.Connection.Fed.{seen_by}
use Rattle.cache_lines.specs.Bases.{Seen}
use Rattle.cache_lines.specs.Gathered.{stage}
use Rattle.cache_lines.specs.Whole.{held_line}
use Rattle.cache_core.proofs.Amid.{spares-on}
use Rattle.cache_core.proofs.connection.Reruns.{delivered-ran, load-key, said-gathered}
use Rattle.cache_core.proofs.connection.telling.deliver.Goals as goal

pub returns-clause-ran : goal.returns-clause-ran
returns-clause-ran g c = λ now can_run.
    let old = c.args.connection.now in
    let new = c.reply_with.new.connection in
    let view = g.S.Store.view in
    let tape = g.T.Tape.view in
    let base = c.args.base.now in
    let was = seen_by view tape base old in
    let is : Seen = record { stage = stage (view base.store) new.output.text.items (tape c.reply_with.new.tape); loads = was.loads } in
    let a = c.reply_with.ensures in
    let k = load-key _ c.requires.waits.load in
    delivered-ran now c.args.number old new was is c.requires.waits.waits c.sound.ensures can_run.in_time.0 can_run.clear c.args.outcome.now k.0 k.1 (a.closing ∙ c.requires.waits.is_open) a.standing a.bytes
    (said-gathered (view base.store) old.output.text.items new.output.text.items (outcome_text c.args.outcome.now) (held_line old.unread.bytes) c.args.number (tape base.tape) (tape c.reply_with.new.tape) can_run.clear a.said a.text) refl refl

pub returns-clause-further : goal.returns-clause-further
returns-clause-further g c = λ lines room. spares-on lines (g.T.Tape.view c.args.base.now.tape) (g.T.Tape.view c.reply_with.new.tape) _ c.reply_with.ensures.said room
