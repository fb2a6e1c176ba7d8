use Rattle.std.proofs.Common.{◌≡◌, ◌++◌, ◌∷◌, ap, ◌∙◌, sym, subst, refl, map, Some, None, Option, ℕ, List, Vec, Global, Bor}
use Rattle.std.specs.Prelude.{IfOk}
use Rattle.std.specs.Option.{option_map, option_copied}
use Rattle.audit_model.specs.Follows.{without_load}
use Rattle.audit_model.specs.Situation.{Situation, waiting_in}
use Rattle.audit_model.specs.Steps.{Task, Store, Deliver, RunLines}
use Rattle.audit_situation.specs.States.{shown_situation}
use Rattle.moka_audit.specs.Steps.Showing.{task_of}
use Rattle.moka_audit.specs.Records.Auditing.{Reaches, audited_steps, step_of_answer}
use Rattle.moka_audit.proofs.records.records.judge_answer.Goals as goal

copied : (r : Option (Bor (Vec ℕ Global))) → option_map (λ k. k.now.items) r ≡ option_map (λ k. k.items) (option_copied r)
copied None = refl
copied (Some x) = refl

pub returns-clause-reaches : goal.returns-clause-reaches
returns-clause-reaches c =
    let config = c.args.config.now in
    let parts = c.args.parts.now in
    let s = shown_situation c.args.s.now in
    let s1 : Situation = without_load c.args.load c.args.moment.nanos s in
    let outcome = c.args.outcome.now in
    let steps = step_of_answer c.args.entry.now ∷ c.args.entry.now.steps in
    let conns = waiting_in c.args.load s in
    let tasks : List Task = map task_of c.as_slice-2.result.now in
    subst (λ o. IfOk c.judge_stored.result (λ b. Reaches b (shown_situation c.judge_stored.new.s) c.judge_stored.new.parts o))
    (ap (λ u. audited_steps config parts u (Store (option_map (λ k. k.now.items) c.as_ref.result) outcome ∷ tasks) steps) c.settle.ensures
    ∙ ap (λ k. audited_steps config parts s1 (Store k outcome ∷ tasks) steps) (copied c.as_ref.result ∙ ap (option_map (λ k. k.items)) c.as_ref.ensures.value ∙ c.in_ok-key.ensures)
    ∙ ap (λ ts. audited_steps config parts s1 (Store (Rattle.audit_model.specs.Situation.pending_key c.args.load s) outcome ∷ ts) steps)
    (ap (map task_of) c.as_slice-2.ensures.value ∙ c.in_ok-duties.ensures ∙ ap (λ cs. map (λ conn. Deliver conn outcome) cs ++ map RunLines cs) (c.as_slice.ensures.value ∙ c.in_ok-conns.ensures)))
    c.judge_stored.ensures.reaches
