use Rattle.std.proofs.Common.{◌≡◌, ◌∷◌, sym, ap, ◌∙◌, get_or, subst, ℕ, Some}
use Rattle.policy_queue.specs.Timers.Events.{EventIs}
use Rattle.std.proofs.lemmas.Bool.{OnTrue_from}
use Rattle.policy_queue.specs.declared.timers.array.Timer.{Timer}
use Rattle.policy_queue.proofs.timers.Advance.{Advancing-gone, AdvanceStep-from, advanced_times, advancing_times, pending_fewer}
use Rattle.policy_queue.proofs.timers.events.TimerEventsIter.next.Goals as goal

pub loop-timer-preserved : goal.loop-timer-preserved
loop-timer-preserved g c =
    let h = c.loop-timer.invariant in
    let t = c.in-Some.timer in
    let first = c.pop_first.ensures.first in
    let same : t ≡ first.0 = c.in-Some.ensures.first.1 ∙ ap (λ ts. get_or ts 0 t) first.1 in
    (h.0, h.1, h.2, h.3, Advancing-gone _ c.loop-timer.self.entries.now _ c.loop-timer.self.wheel.now h.4 _ c.pop_first.new.self t c.pop_first.ensures.keeps (first.1 ∙ ap (λ (u : Timer). u ∷ c.pop_first.new.self.timers) (sym same)) (sym c.due_of.ensures ∙ c.in-None.is) c.forget_timer.ensures)

pub returns-in-Some-due_of-clause-times : goal.returns-in-Some-due_of-clause-times
returns-in-Some-due_of-clause-times g c = advanced_times _ c.loop-timer.self.entries.now _ c.loop-timer.self.wheel.now c.loop-timer.invariant.4 c.settle-event.new.entries (Some c.settle-event.result) c.settle-event.ensures.entries

pub returns-in-Some-due_of-clause-steps : goal.returns-in-Some-due_of-clause-steps
returns-in-Some-due_of-clause-steps g c =
    let event = subst (λ (now : ℕ). EventIs c.loop-timer.self.entries.now now c.loop-timer.self.wheel.now.timers c.settle-event.new.wheel.timers (Some c.settle-event.result)) c.loop-timer.invariant.2 c.settle-event.ensures.event in
    OnTrue_from _ _ (λ _. AdvanceStep-from _ c.loop-timer.self.entries.now _ c.loop-timer.self.wheel.now c.loop-timer.invariant.4 c.settle-event.new.entries c.args.self.now.now c.settle-event.new.wheel.timers _ event c.settle-event.ensures.entries)

pub returns-in-Some-due_of-clause-fewer : goal.returns-in-Some-due_of-clause-fewer
returns-in-Some-due_of-clause-fewer g c =
    let event = subst (λ (now : ℕ). EventIs c.loop-timer.self.entries.now now c.loop-timer.self.wheel.now.timers c.settle-event.new.wheel.timers (Some c.settle-event.result)) c.loop-timer.invariant.2 c.settle-event.ensures.event in
    let step = AdvanceStep-from c.args.self.now.entries.now c.loop-timer.self.entries.now c.args.self.now.wheel.now c.loop-timer.self.wheel.now c.loop-timer.invariant.4 c.settle-event.new.entries c.args.self.now.now c.settle-event.new.wheel.timers _ event c.settle-event.ensures.entries in
    OnTrue_from _ _ (λ _. pending_fewer _ _ c.args.self.now.now _ _ c.settle-event.result step)

pub returns-clause-times : goal.returns-clause-times
returns-clause-times g c = advancing_times _ _ _ _ c.loop-timer.invariant.4
