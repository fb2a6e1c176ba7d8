use Rattle.std.proofs.Common.{ap, ◌∙◌, false, cond}
use Rattle.audit_model.specs.Bytewise.{same}
use Rattle.audit_situation.specs.Held.Holds.{is_open_key}
use Rattle.audit_situation.proofs.held.Opening.{closed, one-fewer}
use Rattle.audit_situation.proofs.held.open.close_key.Goals as goal

pub returns-clause-closed : goal.returns-clause-closed
returns-clause-closed c q =
    closed c.as_slice.result.now q c.args.keys.now c.remove-was.new.self c.remove-was.ensures.keys c.remove-was.ensures.updates.1
    ∙ ap (λ k. cond (same k q) false (is_open_key q c.args.keys.now)) c.as_slice.ensures.value

pub returns-clause-fewer : goal.returns-clause-fewer
returns-clause-fewer c has =
    one-fewer _ _ c.remove-was.result (is_open_key c.as_slice.result.now c.args.keys.now) c.remove-was.ensures.test (ap (λ k. is_open_key k c.args.keys.now) c.as_slice.ensures.value ∙ has) c.remove-was.ensures.len
