-- How a call begins, by what is known of the closure that passes values over.
use Rattle.std.proofs.Common.{◌≡◌, ℕ, Bool, Result, Ok, Err, IfOk, subst}
use Rattle.front_parts.specs.Places.Calls.{Ways}
use Rattle.front_parts.specs.Places.Turning.{BeginsIn}
use Rattle.front_reference.specs.Fronts.{Front}
use Rattle.front_reference.specs.declared.data.At.{At}
use Rattle.front_reference.specs.declared.data.TurnKind.{TurnKind}
use Rattle.front_reference.specs.declared.data.TurnKind.TheVariants as turns
use Rattle.front_reference.specs.declared.data.TurnStart.{TurnStart}
use Rattle.front_state.specs.Beginning.{BeginsBy}

module _ {K V P S R : Type 0} (ways : Ways K V P S R) (key : K) (at : At) (I J : V → Bool → Type 0) (old new : Front K V P S R) (gives : (v : V) (ignored : Bool) → I v ignored → J v ignored) where
  making-as : (kind : TurnKind) (hash : ℕ) (start : TurnStart V) → BeginsIn ways kind key hash at I old new start → BeginsIn ways kind key hash at J old new start
  making-as kind hash start b = record {
    part = b.part;
    there = b.there;
    ignored = b.ignored;
    asked = λ v e. gives v b.ignored (b.asked v e);
    mid = b.mid;
    looks = b.looks;
    ends = b.ends;
  }

  by_kind : (kind : TurnKind) (hash : ℕ) (start : TurnStart V) → BeginsBy ways kind key hash at I old new start → BeginsBy ways kind key hash at J old new start
  by_kind turns.Compute hash start b = b
  by_kind turns.With hash start b = making-as turns.With hash start b
  by_kind turns.Optionally hash start b = making-as turns.Optionally hash start b
  by_kind turns.Try hash start b = making-as turns.Try hash start b

  pub begins-as : {E : Type 0} (kind : TurnKind) (made hash : ℕ) (r : Result (TurnStart V) E) → made ≡ hash → IfOk r (BeginsBy ways kind key made at I old new) → IfOk r (BeginsBy ways kind key hash at J old new)
  begins-as kind made hash (Ok start) is b = subst (λ h. BeginsBy ways kind key h at J old new start) is (by_kind kind made start b)
  begins-as kind made hash (Err e) is b = tt
