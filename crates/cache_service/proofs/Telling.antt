-- Notes that are handed on to a teller.
use Rattle.std.proofs.Common.{◌≡◌, ◌≢◌, ◌==◌, ℕ, true, false, List, [], ◌∷◌, ap, arith, length, refl, subst, Vec, Global, Result, vec_len}
use Rattle.std.proofs.lemmas.Bool.{eqb-false, eqb-true}
use Rattle.std.proofs.lemmas.List.Elements.{All-cons, All-nil}
use Rattle.audit_model.specs.declared.config.Config.{Config}
use Rattle.audit_model.specs.declared.input.Conn.{Conn}
use Rattle.audit_model.specs.declared.transcript.Note.{Note}
use Rattle.cache_service.specs.Exchanged.{WereTaken}
use Rattle.cache_service.specs.Telling.{TellsAll}
use Rattle.cache_shared.specs.Looked.{HappenedAtSomeMoment, MovesNotes}
use Rattle.cache_shared.specs.Taken.{MovesOldest}
use Rattle.cache_spaces.specs.Spaces.{Shown}

no-items : {X : Type 0} (xs : List X) → length xs ≡ 0 → xs ≡ []
no-items [] e = refl
no-items (x ∷ xs) e = absurd (omega (arith, e))

-- whether there are notes
pub none-taken : (v : Vec Note Global) → (vec_len v == 0) ≡ true → v.items ≡ []
none-taken v e = no-items v.items (let zero = eqb-true (vec_len v) 0 e in let same = v.ok.0 in omega (arith, zero, same))

pub some-taken : (v : Vec Note Global) → (vec_len v == 0) ≡ false → v.items ≢ []
some-taken v e none = let some = eqb-false (vec_len v) 0 e in let same = v.ok.0 in let zero = ap (λ (xs : List Note). length xs) none in some (omega (arith, zero, same))

module _ {T : Type 0} (tells : T → List Note → T → Type 0) (Fact : List Note → Type 0) where
  -- some were told, and then what came after them
  pub told-then : (t m u : T) (notes more : List Note) → notes ≢ [] → tells t notes m → Fact more → TellsAll tells Fact m u more → TellsAll tells Fact t u notes
  told-then t m u [] more some tell fact rest = absurd (some refl)
  told-then t m u (x ∷ xs) [] some tell fact rest = ([], All-nil Fact, (m, tell, rest))
  told-then t m u (x ∷ xs) (y ∷ ys) some tell fact rest = ((y ∷ ys) ∷ rest.0, All-cons Fact (y ∷ ys) rest.0 fact rest.1, (m, tell, rest.2))

  -- and nothing came after them
  pub told-last : (t m : T) (notes : List Note) → notes ≢ [] → tells t notes m → TellsAll tells Fact t m notes
  told-last t m [] some tell = absurd (some refl)
  told-last t m (x ∷ xs) some tell = ([], All-nil Fact, (m, tell, refl))

-- what was taken behind nothing
pub were-taken : {C A E : Type 0} (configs : List Config) (spaces : C → List Shown) (untaken : C → Conn → List ℕ) (untold : C → ℕ → List Note) (namespace : ℕ) (result : Result A E) (behind behind' : Vec Note Global) → behind.items ≡ []
    → HappenedAtSomeMoment configs spaces (λ old new. MovesOldest spaces untaken untold old new namespace result behind behind') → WereTaken configs spaces untaken untold namespace behind'.items
were-taken configs spaces untaken untold namespace result behind behind' none h = ∣ record {
  old = h.old;
  new = h.new;
  events = h.events;
  reached = h.reached;
  fact = (subst (λ notes. MovesNotes notes behind'.items (untold h.old namespace) (untold h.new namespace)) none h.fact.notes, h.fact.rest);
} ∣₁
