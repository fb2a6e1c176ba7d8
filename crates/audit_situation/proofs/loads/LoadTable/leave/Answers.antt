use Rattle.std.proofs.Common.{sym, ap, ◌∙◌, map}
use Rattle.audit_model.specs.Situation.{without_waiting}
use Rattle.audit_model.proofs.Waiting.{left_is, unleft_is, left-keeps}
use Rattle.audit_situation.proofs.loads.LoadTable.leave.Goals as goal

pub invariant_of-self-inside : goal.invariant_of-self-inside
invariant_of-self-inside c =
    let inside = c.self.inside in
    rw (c.leave.ensures ∙ left_is c.args.conn c.in-Some.number inside.joined inside.table inside.keeps.awaited (sym c.take_waiting.ensures.found ∙ c.in-Some.is))
    (left-keeps inside.last c.args.conn inside.keys inside.joined c.take_waiting.new.joined inside.table c.take_waiting.ensures.rest inside.keeps, tt)

pub returns-in-Some : goal.returns-in-Some
returns-in-Some c =
    let inside = c.self.inside in
    c.leave.ensures ∙ left_is c.args.conn c.in-Some.number inside.joined inside.table inside.keeps.awaited (sym c.take_waiting.ensures.found ∙ c.in-Some.is) ∙ ap (map (without_waiting c.args.conn)) c.self.view_is

pub returns-in_default : goal.returns-in_default
returns-in_default c =
    let inside = c.self.inside in
    unleft_is c.args.conn inside.joined inside.table inside.keeps.awaited (sym c.take_waiting.ensures.found ∙ c.in_default.is) ∙ ap (map (without_waiting c.args.conn)) c.self.view_is
