use Rattle.std.proofs.Common.{false, cond, sym, ap, ◌∙◌, ◌-◌, ◌<◌, map, set, get_or, subst, option_map, Some, arith}
use Rattle.std.specs.List.{find}
use Rattle.audit_model.specs.Bytewise.{same}
use Rattle.audit_model.specs.Values.{without_key}
use Rattle.audit_situation.specs.Held.Slots.{slot_of, slots_without}
use Rattle.audit_situation.specs.Held.Holds.{held_by, is_open_key, RepresentsHeld}
use Rattle.audit_situation.proofs.held.Keeping.{keeps-taken, keeps-missed, enough-weight, enough-total, part-small, find-held, without-held, view-beside, found-key}
use Rattle.audit_situation.proofs.held.holding.Holding.take.Goals as goal

pub overflow_sub-weight : goal.overflow_sub-weight
overflow_sub-weight c =
    let inside = c.self.inside in
    let s = slot_of c.in-Some.key.items c.in-Some.kept in
    let enough = enough-weight inside.next inside.open_keys inside.marks.items inside.weights.items inside.total inside.table inside.keeps c.args.key.now s (sym c.in-Some.ensures.found) in
    let from = c.from.ensures in
    let at = c.weight_at.ensures ∙ ap (λ ws. get_or ws c.in-Some.kept.part 0) c.deref.ensures.value in
    omega arith

pub put_weight-requires : goal.put_weight-requires
put_weight-requires c =
    let inside = c.self.inside in
    let s = slot_of c.in-Some.key.items c.in-Some.kept in
    let small = part-small inside.next inside.open_keys inside.marks.items inside.weights.items inside.total inside.table inside.keeps c.args.key.now s (sym c.in-Some.ensures.found) in
    let all = inside.keeps.weights_of_all in
    omega arith

pub overflow_sub-self : goal.overflow_sub-self
overflow_sub-self c =
    let inside = c.self.inside in
    let s = slot_of c.in-Some.key.items c.in-Some.kept in
    let enough = enough-total inside.next inside.open_keys inside.marks.items inside.weights.items inside.total inside.table inside.keeps c.args.key.now s (sym c.in-Some.ensures.found) in
    let from = c.from-in-Some.ensures in
    omega arith

pub invariant_of-self-inside : goal.invariant_of-self-inside
invariant_of-self-inside c =
    let inside = c.self.inside in
    let s = slot_of c.in-Some.key.items c.in-Some.kept in
    let taken = keeps-taken inside.next inside.open_keys inside.marks.items inside.weights.items inside.total inside.table inside.keeps c.args.key.now s (sym c.in-Some.ensures.found) in
    let weights =
    c.put_weight.ensures ∙ ap (λ w. set inside.weights.items c.in-Some.kept.part (c.weight_at.result - w)) c.from.ensures
    ∙ ap (λ w. set inside.weights.items c.in-Some.kept.part (w - c.in-Some.kept.weight)) (c.weight_at.ensures ∙ ap (λ ws. get_or ws c.in-Some.kept.part 0) c.deref.ensures.value) in (
      subst (λ ws. RepresentsHeld inside.next inside.marks.items ws (inside.total - c.from-in-Some.result) c.take.new.self) (sym weights)
          (subst (λ n. RepresentsHeld inside.next inside.marks.items (set inside.weights.items c.in-Some.kept.part (get_or inside.weights.items c.in-Some.kept.part 0 - c.in-Some.kept.weight)) (inside.total - n) c.take.new.self) (sym c.from-in-Some.ensures)
          (subst (RepresentsHeld inside.next inside.marks.items (set inside.weights.items c.in-Some.kept.part (get_or inside.weights.items c.in-Some.kept.part 0 - c.in-Some.kept.weight)) (inside.total - c.in-Some.kept.weight)) (sym c.in-Some.ensures.rest) taken)),
      tt,
    )

pub invariant_of-self-inside-in-None : goal.invariant_of-self-inside-in-None
invariant_of-self-inside-in-None c =
    let inside = c.self.inside in
    let same_table = c.in-None.ensures.rest ∙ keeps-missed inside.next inside.open_keys inside.marks.items inside.weights.items inside.total inside.table inside.keeps c.args.key.now (sym c.in-None.ensures.found) in
    (subst (RepresentsHeld inside.next inside.marks.items inside.weights.items inside.total) (sym same_table) inside.keeps, tt)

pub returns-in-Some-clause-found : goal.returns-in-Some-clause-found
returns-in-Some-clause-found c =
    let inside = c.self.inside in
    let s = slot_of c.in-Some.key.items c.in-Some.kept in
    ap Some (c.hand_out.ensures.value ∙ ap (λ ms. held_by inside.open_keys ms s) c.deref-in-Some.ensures.value)
    ∙ ap (option_map (held_by inside.open_keys inside.marks.items)) c.in-Some.ensures.found
    ∙ sym (find-held inside.open_keys inside.marks.items c.args.key.now inside.table) ∙ ap (find (λ h. same c.args.key.now h.value.key)) c.self.view_is

pub returns-in-Some-clause-rest : goal.returns-in-Some-clause-rest
returns-in-Some-clause-rest c =
    let inside = c.self.inside in
    let s = slot_of c.in-Some.key.items c.in-Some.kept in
    let own = found-key c.args.key.now inside.table s (sym c.in-Some.ensures.found) in
    ap (map (held_by c.hand_out.new.keys inside.marks.items)) c.in-Some.ensures.rest
    ∙ view-beside c.hand_out.new.keys inside.open_keys inside.marks.items c.args.key.now (slots_without c.args.key.now inside.table)
    (λ q e. c.hand_out.ensures.closed q ∙ ap (λ b. cond b false (is_open_key q inside.open_keys)) (ap (λ k. same k q) (sym own) ∙ e)) (c.len-number.ensures.apart c.args.key.now)
    ∙ sym (without-held inside.open_keys inside.marks.items c.args.key.now inside.table) ∙ ap (without_key (λ h. h.value.key) c.args.key.now) c.self.view_is

pub returns-in-Some-clause-small : goal.returns-in-Some-clause-small
returns-in-Some-clause-small c =
    let inside = c.self.inside in
    let s = slot_of c.in-Some.key.items c.in-Some.kept in
    subst (λ h. h.value.part < 256) (sym c.hand_out.ensures.value)
    (part-small inside.next inside.open_keys inside.marks.items inside.weights.items inside.total inside.table inside.keeps c.args.key.now s (sym c.in-Some.ensures.found))

pub returns-in-None-clause-found : goal.returns-in-None-clause-found
returns-in-None-clause-found c =
    let inside = c.self.inside in
    ap (option_map (held_by inside.open_keys inside.marks.items)) c.in-None.ensures.found
    ∙ sym (find-held inside.open_keys inside.marks.items c.args.key.now inside.table) ∙ ap (find (λ h. same c.args.key.now h.value.key)) c.self.view_is

pub returns-in-None-clause-rest : goal.returns-in-None-clause-rest
returns-in-None-clause-rest c =
    let inside = c.self.inside in
    ap (map (held_by inside.open_keys inside.marks.items)) c.in-None.ensures.rest
    ∙ sym (without-held inside.open_keys inside.marks.items c.args.key.now inside.table) ∙ ap (without_key (λ h. h.value.key) c.args.key.now) c.self.view_is
