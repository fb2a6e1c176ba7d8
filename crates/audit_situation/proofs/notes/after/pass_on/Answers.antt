use Rattle.audit_situation.specs.Notes.Deeds.{deed_with}
use Rattle.audit_situation.proofs.notes.Passing.{all-passed-on}
use Rattle.audit_situation.proofs.notes.after.pass_on.Goals as goal

pub returns : goal.returns
returns c value =
    all-passed-on c.args.config.now c.args.now (deed_with c.args.deed.now value) c.args.sized.now c.args.held.now c.use_live.new.held c.cover.new.held c.mark_all.new.held
    c.use_live.ensures c.in_ok-cover.ensures c.mark_all.ensures
