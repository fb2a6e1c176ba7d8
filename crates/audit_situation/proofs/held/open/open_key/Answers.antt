use Rattle.std.proofs.Common.{ap, ◌∙◌, true, cond}
use Rattle.audit_model.specs.Bytewise.{same}
use Rattle.audit_situation.specs.Held.Holds.{is_open_key}
use Rattle.audit_situation.proofs.held.Opening.{opened}
use Rattle.audit_situation.proofs.held.open.open_key.Goals as goal

pub returns : goal.returns
returns c q =
    opened c.in_ok-owned.owned q c.args.keys.now c.insert.new.self c.in_ok-insert.ensures.keys c.in_ok-insert.ensures.updates.1
    ∙ ap (λ k. cond (same k q) true (is_open_key q c.args.keys.now)) c.in_ok-owned.ensures.items
