use Rattle.std.proofs.Common.{sym, ap, ◌∙◌}
use Rattle.std.specs.List.{find}
use Rattle.audit_model.specs.Bytewise.{same}
use Rattle.audit_model.specs.Situation.{PendingLoad}
use Rattle.audit_model.proofs.Waiting.{of-number, of-none}
use Rattle.audit_situation.proofs.loads.LoadTable.of_key.Goals as goal

pub returns-in-Some : goal.returns-in-Some
returns-in-Some c =
    let inside = c.self.inside in
    c.get.ensures ∙ of-number inside.keys c.args.key.now c.in-Some.number inside.table inside.keeps.keyed (sym c.number_at.ensures ∙ c.in-Some.is)
    ∙ ap (find (λ (p : PendingLoad). same p.key c.args.key.now)) c.self.view_is

pub returns-in-None : goal.returns-in-None
returns-in-None c =
    let inside = c.self.inside in
    of-none inside.keys c.args.key.now inside.table inside.keeps.keyed (sym c.number_at.ensures ∙ c.in-None.is)
    ∙ ap (find (λ (p : PendingLoad). same p.key c.args.key.now)) c.self.view_is
