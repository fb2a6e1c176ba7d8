use Rattle.std.proofs.Common.{ap, ◌∙◌, sym}
use Rattle.audit_lines.specs.Request.{said}
use Rattle.audit_model.specs.Replies.{reply_of}
use Rattle.audit_model.specs.Situation.{view_in}
use Rattle.audit_model.specs.Steps.{action_by}
use Rattle.audit_situation.specs.States.{shown_situation}
use Rattle.moka_audit.proofs.steps.Judged.{if-ok}
use Rattle.moka_audit.proofs.steps.owing.owed_by_line.Goals as goal

pub returns-in-Load : goal.returns-in-Load
returns-in-Load c =
    if-ok c.load_reply.result
    (λ r f values e. f values ∙ ap (λ request. reply_of c.args.config.now (view_in c.args.config.now (shown_situation c.args.s.now)) values (action_by (said request))) (sym c.in-Load.is))
    c.load_reply.ensures

pub returns-in_ok-add_reply-in-Add : goal.returns-in_ok-add_reply-in-Add
returns-in_ok-add_reply-in-Add c values e =
    c.in_ok-add_reply-in-Add.ensures c.in-Add.deadline values
    ∙ ap (λ request. reply_of c.args.config.now (view_in c.args.config.now (shown_situation c.args.s.now)) values (action_by (said request))) (sym c.in-Add.is)
