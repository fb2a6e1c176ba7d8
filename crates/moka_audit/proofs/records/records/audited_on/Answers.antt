use Rattle.std.proofs.Common.{◌∙◌}
use Rattle.audit_situation.specs.States.{shown_situation}
use Rattle.moka_audit.proofs.records.Onward.{audited-next}
use Rattle.moka_audit.proofs.records.records.audited_on.Goals as goal

pub loop-i-preserved : goal.loop-i-preserved
loop-i-preserved c = record {
  same =
      c.loop-i.invariant.same
      ∙ audited-next c.args.config.now c.loop-i.parts c.judge_record.new.parts (shown_situation c.loop-i.s) (shown_situation c.judge_record.new.s) c.loop-i.i c.args.records.now
      c.index-records-i.result c.loop-i-test.true c.index-records-i.is (rw c.if-not-branch.false at c.in_ok-judge_record.ensures.reaches);
  tidy = c.in_ok-judge_record.ensures.tidy c.if-not-branch.false;
}
