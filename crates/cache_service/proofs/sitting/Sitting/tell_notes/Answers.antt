use Rattle.std.proofs.Common.{refl, sym, subst, ◌∙◌}
use Rattle.cache_service.proofs.Telling.{none-taken, some-taken, told-last, told-then, were-taken}
use Rattle.cache_service.specs.Exchanged.{WereTaken}
use Rattle.cache_service.specs.Telling.{TellsAll}
use Rattle.cache_service.proofs.sitting.Sitting.tell_notes.Goals as goal

pub returns-then-is_empty-clause-told : goal.returns-then-is_empty-clause-told
returns-then-is_empty-clause-told g c =
    let teller = c.loop-turn.self.teller.now in
    c.loop-turn.invariant.told teller (subst (TellsAll g.T.Teller.tells (WereTaken g.L.Seating.configs g.C.Shareable.spaces g.C.Shareable.untaken g.C.Shareable.untold c.args.namespace) teller teller) (sym (none-taken c.loop-turn.self.notes (sym c.is_empty.ensures ∙ c.if-is_empty.true))) refl)

pub returns-then-not-is_full-clause-told : goal.returns-then-not-is_full-clause-told
returns-then-not-is_full-clause-told g c =
    let some = some-taken c.loop-turn.self.notes (sym c.is_empty.ensures ∙ c.if-is_empty.false) in
    c.loop-turn.invariant.told c.tell.new.self (told-last g.T.Teller.tells (WereTaken g.L.Seating.configs g.C.Shareable.spaces g.C.Shareable.untaken g.C.Shareable.untold c.args.namespace) c.loop-turn.self.teller.now c.tell.new.self c.loop-turn.self.notes.items some (rw c.as_slice.ensures.value at c.tell.ensures))

pub loop-turn-preserved : goal.loop-turn-preserved
loop-turn-preserved g c = record {
  same = c.loop-turn.invariant.same;
  told = λ after rest.
      let some = some-taken c.loop-turn.self.notes (sym c.is_empty.ensures ∙ c.if-is_empty.false) in
      c.loop-turn.invariant.told after
      (told-then g.T.Teller.tells (WereTaken g.L.Seating.configs g.C.Shareable.spaces g.C.Shareable.untaken g.C.Shareable.untold c.args.namespace) c.loop-turn.self.teller.now c.tell.new.self after c.loop-turn.self.notes.items c.take_notices.new.notes.items some (rw c.as_slice.ensures.value at c.tell.ensures) (were-taken g.L.Seating.configs g.C.Shareable.spaces g.C.Shareable.untaken g.C.Shareable.untold c.args.namespace _ _ _ c.clear.ensures.items c.take_notices.ensures.all) rest);
}
