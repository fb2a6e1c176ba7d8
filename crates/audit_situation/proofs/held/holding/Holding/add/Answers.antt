use Rattle.std.proofs.Common.{true, cond, ◌≡◌, ℕ, List, ◌++◌, ◌∷◌, [], ◌+◌, ◌&&◌, nat_lt, refl, sym, ap, ◌∙◌, map, set, get_or, subst}
use Rattle.std.specs.List.{find, list_all}
use Rattle.std.proofs.lemmas.Bool.{and_parts, and_from}
use Rattle.audit_model.specs.Bytewise.{same}
use Rattle.audit_situation.specs.Held.Slots.{HeldSlot, slot_of, slot_of_key}
use Rattle.audit_situation.specs.Held.Holds.{held_by, is_open_key, are_sound, RepresentsHeld}
use Rattle.audit_situation.proofs.held.Keeping.{keeps-more, view-more, absent-slot}
use Rattle.audit_situation.proofs.held.holding.Holding.add.Goals as goal

earlier : (next : ℕ) (slots : List HeldSlot) → are_sound next slots ≡ true → list_all (λ s. nat_lt s.stamp next) slots ≡ true
earlier next [] h = refl
earlier next (s ∷ slots) h =
    let both = and_parts (nat_lt s.stamp next && nat_lt s.value.part 256) (are_sound next slots) h in
    and_from _ _ (and_parts (nat_lt s.stamp next) (nat_lt s.value.part 256) both.0).0 (earlier next slots both.1)

pub add-requires : goal.add-requires
add-requires c =
    let inside = c.self.inside in
    record {
      absent =
          ap (λ (s : HeldSlot). slot_of_key s.value.key inside.table) c.into_kept-key.ensures
          ∙ absent-slot inside.open_keys inside.marks.items c.args.held.value.key inside.table
          (ap (find (λ h. same c.args.held.value.key h.value.key)) c.self.view_is ∙ c.requires.absent);
      newest =
          ap (λ (s : HeldSlot). list_all (λ (t : HeldSlot). nat_lt t.stamp s.stamp) inside.table) c.into_kept-key.ensures
          ∙ earlier inside.next inside.table inside.keeps.sound;
    }

pub invariant_of-self-inside-2 : goal.invariant_of-self-inside-2
invariant_of-self-inside-2 c =
    let inside = c.self.inside in
    let held = c.args.held in
    let s = slot_of c.into_kept-key.result.0.items c.into_kept-key.result.1 in
    let part : c.part-part.result ≡ held.value.part = c.part-part.ensures in
    let sum =
    c.in_ok-weight.ensures ∙ ap (λ n. n + c.weight-2.result) (c.weight_at.ensures ∙ ap (λ ws. get_or ws c.part-part.result 0) c.deref.ensures.value)
    ∙ ap (λ n. get_or inside.weights.items n 0 + c.weight-2.result) part ∙ ap (λ n. get_or inside.weights.items held.value.part 0 + n) c.weight-2.ensures in (
      subst (RepresentsHeld c.in_ok-next.next inside.marks.items c.put_weight.new.weights.items c.in_ok-total.total) (sym c.in_ok-add.ensures.added)
          (keeps-more inside.next inside.open_keys inside.marks.items inside.weights.items inside.total inside.table inside.keeps s held c.in_ok-next.next c.in_ok-total.total c.put_weight.new.weights.items c.in_ok-weight.weight
          c.into_kept-key.ensures c.requires.small c.in_ok-next.ensures sum
          (c.put_weight.ensures ∙ ap (λ n. set inside.weights.items n c.in_ok-weight.weight) part) (c.in_ok-total.ensures ∙ ap (λ n. inside.total + n) c.weight.ensures)),
      tt,
    )

pub returns : goal.returns
returns c =
    let inside = c.self.inside in
    let held = c.args.held in
    let s = slot_of c.into_kept-key.result.0.items c.into_kept-key.result.1 in
    let own = ap (λ (s : HeldSlot). s.value.key) c.into_kept-key.ensures in
    ap (map (held_by c.open_key.new.keys inside.marks.items)) c.in_ok-add.ensures.added
    ∙ view-more inside.next c.open_key.new.keys inside.open_keys inside.marks.items inside.weights.items inside.total inside.table inside.keeps s held c.into_kept-key.ensures
    (absent-slot inside.open_keys inside.marks.items held.value.key inside.table (ap (find (λ h. same held.value.key h.value.key)) c.self.view_is ∙ c.requires.absent))
    (λ q. c.in_ok-open_key.ensures q ∙ ap (λ k. cond (same k q) true (is_open_key q inside.open_keys)) (c.as_slice.ensures.value ∙ own)) c.requires.open c.requires.kept
    ∙ ap (λ hs. hs ++ held ∷ []) c.self.view_is
