-- Why there is no room.
use Rattle.std.proofs.Common.{◌≡◌, sym, subst, ◌≤◌, ◌+◌, ◌^◌, ◌⊎◌, inl, inr, ℕ}
use Rattle.engine_reference.specs.declared.rules.refusal.Refusal.{Refusal}
use Rattle.engine_reference.specs.declared.rules.refusal.Refusal.TheVariants as refusal
use Rattle.engine_reference.specs.State.{State}
use Rattle.engine_calls.specs.Refusing.{LacksRoom}

pub lacks-room : {K V P S R : Type 0} (rooms : ℕ) (s : State K V P S R) (e : Refusal) → (e ≡ refusal.UsedUp → 2 ^ 64 ≤ s.next_ticket + s.reserved + rooms) → (e ≡ refusal.OutOfMemory) ⊎ (e ≡ refusal.UsedUp) → LacksRoom rooms s e
lacks-room rooms s e used_up only = elim only [
  | inl none ↦ subst (LacksRoom rooms s) (sym none) tt
  | inr used ↦ subst (LacksRoom rooms s) (sym used) (used_up used)
]
