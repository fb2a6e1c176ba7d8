use Rattle.std.proofs.Common.{◌∙◌}
use Rattle.std.specs.Option.{option_map}
use Rattle.audit_situation.specs.States.{shown_situation}
use Rattle.audit_situation.specs.Actions.Doings.{action_of}
use Rattle.moka_audit.specs.Steps.Judging.{placed_by}
use Rattle.moka_audit.specs.Steps.Showing.{shown_step, task_of}
use Rattle.moka_audit.proofs.steps.Judged.{all-same}
use Rattle.moka_audit.proofs.steps.judging.is_fit.Goals as goal

pub returns : goal.returns
returns c =
    let placed = placed_by c.args.config.now (shown_situation c.args.s.now) (option_map task_of c.args.duty) (action_of c.args.doing) (shown_step c.args.shown) in
    c.are_all.ensures
    ∙ all-same _ _ _ _ _ _ _ _ _ _ _ _ c.is_duty_of-turn.ensures c.is_held_rightly-held.ensures c.has_right_line-line.ensures (c.in_ok-reply.ensures placed.held) c.loads_rightly-load.ensures c.is_quiet-quiet.ensures
