use Rattle.std.proofs.Common.{◌≡◌, refl, ap, ◌∙◌, ℕ, zero, suc, ◌≤◌, arith, List, [], ◌∷◌, length, Some, None}
use Rattle.std.specs.Prelude.{slice_get, slice_set}
use Rattle.engine_reference.specs.Calls.{without_notice}
use Rattle.engine_reference.specs.State.{State}
use Rattle.front_parts.specs.Places.Told.{told_at, without_told_at}
use Rattle.front_parts.proofs.places.Lists.{there}
use Rattle.front_parts.proofs.places.places.next_notice_at.Goals as goal

module _ {K V P S R : Type 0} where
  told-here : (place : ℕ) (ss : List (State K V P S R)) (s : State K V P S R) → slice_get ss place ≡ Some s → slice_get s.notices 0 ≡ told_at place ss
  told-here place [] s at = absurd (let no : ⊥ = cc in no)
  told-here zero (x ∷ ss) s at = let same : s ≡ x = cc in ap (λ (y : State K V P S R). slice_get y.notices 0) same
  told-here (suc place) (x ∷ ss) s at = told-here place ss s at

  taken-here : (place : ℕ) (ss : List (State K V P S R)) (s t : State K V P S R) → slice_get ss place ≡ Some s → t ≡ without_notice s → slice_set ss place t ≡ without_told_at place ss
  taken-here place [] s t at is = absurd (let no : ⊥ = cc in no)
  taken-here zero (x ∷ ss) s t at is = let same : s ≡ x = cc in ap (λ y. y ∷ ss) (is ∙ ap without_notice same)
  taken-here (suc place) (x ∷ ss) s t at is = ap (λ l. x ∷ l) (taken-here place ss s t at is)

  told-past : (place : ℕ) (ss : List (State K V P S R)) → length ss ≤ place → None ≡ told_at place ss
  told-past place [] past = refl
  told-past zero (x ∷ ss) past = absurd (omega arith)
  told-past (suc place) (x ∷ ss) past = told-past place ss (omega arith)

  taken-past : (place : ℕ) (ss : List (State K V P S R)) → length ss ≤ place → ss ≡ without_told_at place ss
  taken-past place [] past = refl
  taken-past zero (x ∷ ss) past = absurd (omega arith)
  taken-past (suc place) (x ∷ ss) past = ap (λ l. x ∷ l) (taken-past place ss (omega arith))

pub returns-then-place-len : goal.returns-then-place-len
returns-then-place-len g c =
    let past = c.if-place-len.true in
    let count = c.len.ensures in
    record {
      notice = told-past c.args.place c.args.parts.now.items (omega (arith, past, count));
      taken = taken-past c.args.place c.args.parts.now.items (omega (arith, past, count));
    }

pub returns : goal.returns
returns g c =
    let low = c.if-place-len.false in
    let count = c.len.ensures in
    let at = there c.args.parts.now.items c.args.place c.index_mut-part.result.now (omega (arith, low, count)) c.index_mut-part.ensures.value in
    record {
      notice = c.next_notice.ensures.notice ∙ told-here c.args.place c.args.parts.now.items c.index_mut-part.result.now at;
      taken = taken-here c.args.place c.args.parts.now.items c.index_mut-part.result.now c.next_notice.new.self at c.next_notice.ensures.taken;
    }
