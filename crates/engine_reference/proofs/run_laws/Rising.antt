-- The order of what is pending, and where records come from.
use Rattle.std.proofs.Common.{◌≡◌, refl, ap, sym, ◌∙◌, subst, ℕ, ◌≤◌, arith, true, true≢false, cond, List, [], ◌∷◌, Some, inl, inr}
use Rattle.std.proofs.lemmas.Bool.{eq-eqb, ne_eqb}
use Rattle.engine_reference.specs.declared.data.Record.{Record}
use Rattle.engine_reference.specs.declared.data.Upsert.{Upsert}
use Rattle.engine_reference.specs.declared.data.Write.{Write}
use Rattle.engine_reference.specs.declared.data.Write.TheVariants.{Put, Removed}
use Rattle.engine_reference.specs.Records.{record_at}
use Rattle.engine_reference.specs.Soundness.{IsIn, Each, AreNumbered, Fits}
use Rattle.engine_reference.proofs.Accounts.{each-map, each-both, none_there}
use Rattle.engine_reference.specs.RunLaws.Points.{AreRising, NoneOf}

pub rising-own : (n a : ℕ) (u : Upsert) (ws : List Write) → AreRising n a (Put u ∷ ws) → u.number ≡ n → AreRising n u.write ws
rising-own n a u ws h same = subst (λ k. AreRising n k ws) (ap (λ b. cond b u.write a) (eq-eqb u.number n same)) h.1

pub rising-other : (n a : ℕ) (u : Upsert) (ws : List Write) → AreRising n a (Put u ∷ ws) → (u.number ≡ n → ⊥) → AreRising n a ws
rising-other n a u ws h other = subst (λ k. AreRising n k ws) (ap (λ b. cond b u.write a) (ne_eqb u.number n other)) h.1

module _ {K V : Type 0} where
  -- where every write of a held record up to its last was applied, none of its writes is pending
  pub none_later : (x : Record K V) (a : ℕ) (ws : List Write) → AreRising x.number a ws → ((w : Write) → IsIn w ws → Fits w x) → x.writes ≤ a → x.is_held ≡ true → NoneOf x.number ws
  none_later x a [] rising fits last held = tt
  none_later x a (Put u ∷ ws) rising fits last held =
      let other : (u.number ≡ x.number → ⊥) = λ same. (let newer = rising.0 same in let within = (fits (Put u) (inl refl) same).earlier in omega arith) in
      (other, none_later x a ws (rising-other x.number a u ws rising other) (λ w i. fits w (inr i)) last held)
  none_later x a (Removed n ∷ ws) rising fits last held =
      ((λ same. true≢false (sym held ∙ fits (Removed n) (inl refl) same)), none_later x a ws rising (λ w i. fits w (inr i)) last held)

  -- every record is found under its number
  pub each-own : (rs : List (Record K V)) → AreNumbered rs → Each (λ x. record_at rs x.number ≡ Some x) rs
  each-own [] numbered = tt
  each-own (r ∷ rs) numbered = (
    ap (λ b. cond b (Some r) (record_at rs r.number)) (eq-eqb r.number r.number refl),
    each-map (λ x. (record_at rs x.number ≡ Some x) × (x.number ≡ r.number → ⊥)) (λ x. record_at (r ∷ rs) x.number ≡ Some x)
        (λ x k. ap (λ b. cond b (Some r) (record_at rs x.number)) (ne_eqb r.number x.number (λ e. k.1 (sym e))) ∙ k.0) rs
        (each-both (λ x. record_at rs x.number ≡ Some x) (λ x. x.number ≡ r.number → ⊥) rs (each-own rs numbered.1) (none_there r.number rs numbered.0)),
  )
