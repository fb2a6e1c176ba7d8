use Rattle.std.proofs.Common.{sym, subst}
use Rattle.policy_queue.specs.Timers.Array.{IsArranged, LacksSerial}
use Rattle.policy_queue.proofs.timers.Arrays.{IsArranged-taken, contains}
use Rattle.policy_queue.proofs.timers.array.take.Goals as goal

pub remove-requires : goal.remove-requires
remove-requires c =
    let h = c.take-timer.ensures.goes in
    contains h.before h.after c.args.slots.now c.take-timer.result (subst (λ ts. IsArranged ts c.args.slots.now) h.was c.requires.arranged)

pub returns-clause-arranged : goal.returns-clause-arranged
returns-clause-arranged c =
    let h = c.take-timer.ensures.goes in
    let s = c.args.slots.now in
    let both = IsArranged-taken h.before h.after s c.remove.new.self c.take-timer.result (subst (λ ts. IsArranged ts s) h.was c.requires.arranged) c.remove.ensures.updates c.remove.ensures.len in
    subst (λ ts. IsArranged ts c.remove.new.self) (sym h.is) both.0

pub returns-clause-alone : goal.returns-clause-alone
returns-clause-alone c =
    let h = c.take-timer.ensures.goes in
    let s = c.args.slots.now in
    let both = IsArranged-taken h.before h.after s c.remove.new.self c.take-timer.result (subst (λ ts. IsArranged ts s) h.was c.requires.arranged) c.remove.ensures.updates c.remove.ensures.len in
    subst (λ ts. LacksSerial c.take-timer.result.id.serial ts) (sym h.is) both.1
