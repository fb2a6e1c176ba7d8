use Rattle.std.proofs.Common.{subst, sym}
use Rattle.std.specs.Prelude.{IfOk}
use Rattle.audit_situation.specs.States.{shown_situation}
use Rattle.moka_audit.specs.Records.Auditing.{Reaches, audited_event}
use Rattle.moka_audit.proofs.records.records.judge_event.Goals as goal

pub returns-in-Answer-clause-reaches : goal.returns-in-Answer-clause-reaches
returns-in-Answer-clause-reaches c =
    subst (λ e. IfOk c.judge_answer.result (λ b. Reaches b (shown_situation c.judge_answer.new.s) c.judge_answer.new.parts (audited_event c.args.config.now c.args.parts.now (shown_situation c.args.s.now) (record c.args.entry.now { event = e }))))
    (sym c.in-Answer.is) c.judge_answer.ensures.reaches
