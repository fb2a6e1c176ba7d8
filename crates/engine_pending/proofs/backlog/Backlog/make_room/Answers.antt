use Rattle.std.proofs.Common.{◌≡◌, ℕ, List, refl, ap, ◌∙◌, arith, ◌+◌, ◌-◌, length}
use Rattle.std.specs.VecDeque.{deque_capacity}
use Rattle.engine_reference.specs.declared.data.Notice.{Notice}
use Rattle.engine_reference.specs.declared.data.Registered.{Registered}
use Rattle.engine_pending.specs.Pending.{Pending}
use Rattle.engine_pending.specs.declared.tickets.Ticketed.{Ticketed}
use Rattle.engine_pending.proofs.backlog.Backlog.make_room.Goals as goal

-- queues in other room hold what they held
remade : {K V O W P S R : Type 0} (old was : Pending K V O W P S R) (unsent : List (Ticketed W)) (predicates : List (Registered P)) (notices : List (Notice K V)) (by room : ℕ)
    → was ≡ old → unsent ≡ was.unsent → predicates ≡ was.predicates → notices ≡ was.notices
    → record was { unsent = unsent; predicates = predicates; notices = notices; reserved = was.reserved + by; notice_room = room }
    ≡ record old { reserved = old.reserved + by; notice_room = room }
remade old was unsent predicates notices by room same u p n = rw (u, p, n, same) refl

pub returns-in_ok-grow_if-in-Some-clause-ok : goal.returns-in_ok-grow_if-in-Some-clause-ok
returns-in_ok-grow_if-in-Some-clause-ok g c = let room = deque_capacity c.grow_if.new.items - length c.grow_if.new.items.items in record {
  room = room;
  enough = λ tells.
      let wanted = ap (λ v. v.settings.tells) c.self.view_is ∙ tells in
      let free = c.in_ok-grow_if-in-Some.ensures.room wanted in
      omega (arith, c.in-Some.ensures, free, ap (λ v. v.reserved) c.self.view_is);
  made = remade _ _ _ _ _ c.args.by room c.self.view_is c.reserve.ensures.items c.reserve-in-Some.ensures.items c.grow_if.ensures.items;
}
