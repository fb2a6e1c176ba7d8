-- Parts that are made one after another.
use Rattle.std.proofs.Common.{◌≡◌, sym, subst, ℕ, zero, suc, ◌^◌, ◌≤◌, List, [], ◌∷◌, ◌++◌, length, Some, None}
use Rattle.std.specs.Prelude.{slice_get, option_map, ◌==◌}
use Rattle.engine_reference.specs.Calls.{IsNew}
use Rattle.engine_reference.specs.State.{State}
use Rattle.engine_reference.specs.declared.data.Settings.{Settings}
use Rattle.front_reference.specs.Keeping.{IsKept}
use Rattle.front_reference.specs.Fronts.{AreTurns, Front, share_of, part_of}
use Rattle.front_reference.proofs.laws.Kept.{calls_keep}
use Rattle.front_parts.specs.Places.Calls.{Ways, IsSteadyBy}
use Rattle.front_parts.specs.Places.Making.{AreNew}

-- what stands in a list with one more item
pub one_more : {X : Type 0} (P : X → Type 0) (xs : List X) (x : X) → ((i : ℕ) (y : X) → slice_get xs i ≡ Some y → P y) → P x → (i : ℕ) (y : X) → slice_get (xs ++ x ∷ []) i ≡ Some y → P y
one_more P [] x each p zero y at = let same : x ≡ y = cc in subst P same p
one_more P [] x each p (suc i) y at = absurd (cc)
one_more P (z ∷ xs) x each p zero y at = each zero y at
one_more P (z ∷ xs) x each p (suc i) y at = one_more P xs x (λ k. each (suc k)) p i y at

module _ {K V P S R : Type 0} where
  pub none_new : (settings : Settings) (hasher : S) (rules : R) → AreNew {K = K} {V = V} {P = P} settings hasher rules []
  none_new settings hasher rules place s at = absurd (cc)

  pub next_new : (settings : Settings) (hasher : S) (rules : R) (parts : List (State K V P S R)) (s : State K V P S R)
      → AreNew settings hasher rules parts → IsNew None settings hasher rules s → AreNew settings hasher rules (parts ++ s ∷ [])
  next_new settings hasher rules parts s each new = one_more (λ x. IsNew None settings hasher rules x) parts s each new

  -- a front of such parts is steady
  pub new_steady : (ways : Ways K V P S R) (f : Front K V P S R) → AreNew f.common.settings f.common.hasher f.common.rules f.parts → length f.parts ≡ 2 ^ f.bits → f.bits ≤ 16
      → f.common.settings.capacity ≡ option_map (share_of (length f.parts)) f.capacity → f.turns ≡ [] → f.moment ≡ f.common.settings.made → f.step ≡ 0 → IsSteadyBy ways f
  new_steady ways f new count few share none made first =
      let belongs = λ (place : ℕ) (key : K). part_of f.bits (ways.hash f.common.hasher key) == place in
      record {
        kept = λ place s at.
            subst (λ m. IsKept 63 ways.eq f.common (belongs place) m f.step s) (sym made)
            (subst (λ n. IsKept 63 ways.eq f.common (belongs place) f.common.settings.made n s) (sym first) ((calls_keep K V P S R).empty f.common ways.eq (belongs place) None s (new place s at)));
        count = count;
        few = few;
        share = share;
        turns = subst (λ ts. AreTurns ways.eq (ways.hash f.common.hasher) f.next_turn ts) (sym none) tt;
      }
