use Rattle.std.proofs.Common.{◌∙◌, ap, refl, subst, sym, ◌≡◌, true, false}
use Rattle.audit_model.specs.Grammar.{reading}
use Rattle.audit_model.specs.declared.config.Config.{Config}
use Rattle.cache_commands.specs.Answered.{IsAnswered}
use Rattle.cache_commands.specs.Ran.{MissesLive, RunsRequest, rests}
use Rattle.cache_lines.specs.Lines.{says_quit}
use Rattle.cache_lines.specs.Waiting.{under_way}
use Rattle.audit_lines.specs.Request.{said}
use Rattle.cache_commands.specs.declared.running.Ran.TheVariants.{Answered}
use Rattle.cache_lines.proofs.AnsweredLine.{ran-drafted, waits-drafted}
use Rattle.cache_lines.proofs.running.run_line.Goals as goal

pub returns-then-quits-clause-runs : goal.returns-then-quits-clause-runs
returns-then-quits-clause-runs g c =
    let view = g.S.Store.view in
    let tape = g.T.Tape.view in
    let was = view c.args.base.now.store in
    let read : reading was.frame.config c.args.line.now ≡ said c.read_line-request.result = ap (λ (k : Config). reading k c.args.line.now) (sym (c.config.ensures ∙ ap (λ st. (view st).frame.config) c.store.ensures)) ∙ sym c.read_line-request.ensures.said in
    let runs : RunsRequest c.args.now (said c.read_line-request.result) (Answered c.in-Ok-Answered.accepted) was (view c.run.new.self) c.args.output.now.text.items c.run.new.reply.items =
    subst (λ k. RunsRequest c.args.now (said c.read_line-request.result) k was (view c.run.new.self) c.args.output.now.text.items c.run.new.reply.items) c.in-Ok-Answered.field-0-is c.in-Ok-Answered.ensures.runs in (
      ran-drafted c.args.now c.args.number c.args.line.now true was (view c.run.new.self) (view c.end_step.new.store) c.args.output.now.text.items c.run.new.reply.items c.end_step.new.text.items c.in-Ok-Answered.accepted
          (tape c.args.base.now.tape) (tape c.begin.new.self) (tape c.end_step.new.tape)
          c.in_ok-notes.ensures.drafted
          (ap says_quit read ∙ sym c.is_quit-quits.ensures ∙ c.if-quits.true)
          (subst (λ r. IsAnswered c.args.now r c.in-Ok-Answered.accepted was (view c.run.new.self) c.args.output.now.text.items c.run.new.reply.items) (sym read) runs)
          c.end_step.ensures.gives c.sound.ensures c.requires.fresh c.end_step.ensures.untaken c.end_step.ensures.step c.end_step.ensures.text,
      refl {a = under_way c.args.base.now.loads},
    )

pub returns-else-quits-clause-runs : goal.returns-else-quits-clause-runs
returns-else-quits-clause-runs g c =
    let view = g.S.Store.view in
    let tape = g.T.Tape.view in
    let was = view c.args.base.now.store in
    let read : reading was.frame.config c.args.line.now ≡ said c.read_line-request.result = ap (λ (k : Config). reading k c.args.line.now) (sym (c.config.ensures ∙ ap (λ st. (view st).frame.config) c.store.ensures)) ∙ sym c.read_line-request.ensures.said in
    let runs : RunsRequest c.args.now (said c.read_line-request.result) (Answered c.in-Ok-Answered.accepted) was (view c.run.new.self) c.args.output.now.text.items c.run.new.reply.items =
    subst (λ k. RunsRequest c.args.now (said c.read_line-request.result) k was (view c.run.new.self) c.args.output.now.text.items c.run.new.reply.items) c.in-Ok-Answered.field-0-is c.in-Ok-Answered.ensures.runs in (
      ran-drafted c.args.now c.args.number c.args.line.now false was (view c.run.new.self) (view c.end_step.new.store) c.args.output.now.text.items c.run.new.reply.items c.end_step.new.text.items c.in-Ok-Answered.accepted
          (tape c.args.base.now.tape) (tape c.begin.new.self) (tape c.end_step.new.tape)
          c.in_ok-notes.ensures.drafted
          (ap says_quit read ∙ sym c.is_quit-quits.ensures ∙ c.if-quits.false)
          (subst (λ r. IsAnswered c.args.now r c.in-Ok-Answered.accepted was (view c.run.new.self) c.args.output.now.text.items c.run.new.reply.items) (sym read) runs)
          c.end_step.ensures.gives c.sound.ensures c.requires.fresh c.end_step.ensures.untaken c.end_step.ensures.step c.end_step.ensures.text,
      refl {a = under_way c.args.base.now.loads},
    )

pub returns-in_ok-join_load-in-Ok-Misses-clause-runs : goal.returns-in_ok-join_load-in-Ok-Misses-clause-runs
returns-in_ok-join_load-in-Ok-Misses-clause-runs g c =
    let view = g.S.Store.view in
    let tape = g.T.Tape.view in
    let was = view c.args.base.now.store in
    let text = c.args.output.now.text.items in
    let read : reading was.frame.config c.args.line.now ≡ said c.read_line-request.result = ap (λ (k : Config). reading k c.args.line.now) (sym (c.config.ensures ∙ ap (λ st. (view st).frame.config) c.store.ensures)) ∙ sym c.read_line-request.ensures.said in
    let runs : MissesLive c.args.now (said c.read_line-request.result) was (view c.run.new.self) text c.run.new.reply.items =
    subst (λ k. RunsRequest c.args.now (said c.read_line-request.result) k was (view c.run.new.self) text c.run.new.reply.items) c.in-Ok-Misses.field-0-is c.in-Ok-Misses.ensures.runs in
    let joins = c.in_ok-join_load-in-Ok-Misses.ensures in
    waits-drafted c.args.now c.args.number c.args.line.now c.key_of.result.now was (view c.run.new.self) text c.run.new.reply.items c.join_load.new.output.text.items
    (tape c.args.base.now.tape) (tape c.begin.new.self) (tape c.join_load.new.tape) (under_way c.args.base.now.loads) (under_way c.join_load.new.loads)
    (read ∙ c.key_of.ensures)
    (subst (λ r. MissesLive c.args.now r was (view c.run.new.self) text c.run.new.reply.items) (sym read) runs)
    (ap view (c.in-Ok-Misses.ensures.rests (ap rests c.in-Ok-Misses.field-0-is)))
    c.in_ok-notes.ensures.drafted joins.step joins.text joins.joined
