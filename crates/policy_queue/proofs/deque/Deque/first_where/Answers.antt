use Rattle.std.proofs.Common.{◌<◌, refl, sym, ap, rules, true, false, length, subst}
use Rattle.std.specs.Fn.{FnReturnsAt}
use Rattle.policy_queue.specs.Places.{slots_from}
use Rattle.policy_queue.proofs.Standing.{slots_apart}
use Rattle.policy_queue.proofs.Seeking.{seeks-start, seeks_has, seeks_there, seeks-one, seeks-less, seeks-found, seeks-none}
use Rattle.policy_queue.proofs.deque.Deque.first_where.Goals as goal

pub loop-next-init : goal.loop-next-init
loop-next-init g c = seeks-start (FnReturnsAt g.F.Fn c.args.passes) c.self.inside.region c.self.inside.nodes c.self.inside.slots.indices c.first-next.result c.first-next.ensures

pub element_of-element-requires : goal.element_of-element-requires
element_of-element-requires g c =
    let h = rw c.in-Some.is at c.loop-next.invariant in
    seeks_there (FnReturnsAt g.F.Fn c.args.passes) c.self.inside.region c.self.inside.nodes c.self.inside.slots.indices c.self.invariant.taken c.in-Some.slot h

pub returns-then-passes-clause-found : goal.returns-then-passes-clause-found
returns-then-passes-clause-found g c =
    let h = rw c.in-Some.is at c.loop-next.invariant in
    let passes : FnReturnsAt g.F.Fn c.args.passes c.element_of-element.result.now true = record { shown = c.element_of-element.result; shows = refl; says = search rules } in
    rw (← c.self.view_is) (seeks-found (FnReturnsAt g.F.Fn c.args.passes) c.self.inside.region c.self.inside.nodes c.self.inside.slots.indices c.self.invariant.taken c.in-Some.slot h c.element_of-element.result.now c.element_of-element.ensures passes)

pub behind-next-requires : goal.behind-next-requires
behind-next-requires g c =
    let h = rw c.in-Some.is at c.loop-next.invariant in
    seeks_has (FnReturnsAt g.F.Fn c.args.passes) c.self.inside.region c.self.inside.nodes c.self.inside.slots.indices c.self.invariant.taken c.in-Some.slot h

pub loop-next-smaller : goal.loop-next-smaller
loop-next-smaller g c =
    let h = rw c.in-Some.is at c.loop-next.invariant in
    let apart = slots_apart c.self.inside.region c.self.inside.nodes c.self.inside.next_serial c.self.inside.slots.indices c.self.invariant.taken c.self.invariant.named in
    let size = ap (λ o. length (slots_from o c.self.inside.slots.indices)) c.in-Some.is in
    let less = seeks-less (FnReturnsAt g.F.Fn c.args.passes) c.self.inside.region c.self.inside.nodes c.self.inside.slots.indices c.self.invariant.taken c.in-Some.slot h c.element_of-element.result.now c.element_of-element.ensures c.behind-next.result apart c.behind-next.ensures in
    subst (λ n. length (slots_from c.behind-next.result c.self.inside.slots.indices) < n) (sym size) less

pub loop-next-preserved : goal.loop-next-preserved
loop-next-preserved g c =
    let h = rw c.in-Some.is at c.loop-next.invariant in
    let apart = slots_apart c.self.inside.region c.self.inside.nodes c.self.inside.next_serial c.self.inside.slots.indices c.self.invariant.taken c.self.invariant.named in
    let fails : FnReturnsAt g.F.Fn c.args.passes c.element_of-element.result.now false = record { shown = c.element_of-element.result; shows = refl; says = search rules } in
    seeks-one (FnReturnsAt g.F.Fn c.args.passes) c.self.inside.region c.self.inside.nodes c.self.inside.slots.indices c.self.invariant.taken c.in-Some.slot h c.element_of-element.result.now c.element_of-element.ensures c.behind-next.result fails apart c.behind-next.ensures

pub returns-clause-none : goal.returns-clause-none
returns-clause-none g c = rw (← c.self.view_is) (seeks-none (FnReturnsAt g.F.Fn c.args.passes) c.self.inside.region c.self.inside.nodes c.self.inside.slots.indices (rw c.in_default.is at c.loop-next.invariant))
