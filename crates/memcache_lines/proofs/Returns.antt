-- A line with and without a carriage return at its end.
use Rattle.std.proofs.Common.{◌≡◌, ◌≢◌, ℕ, zero, suc, List, [], ◌∷◌, length, take, get_or, refl, ap, arith}
use Rattle.std.proofs.lemmas.Bool.{eq-eqb, ne_eqb}
use Rattle.memcache_model.specs.Bytes.{without_one_return}

-- a carriage return at the end is dropped
pub without_one_return-dropped : (n : ℕ) (line : List ℕ) → length line ≡ suc n → get_or line n 0 ≡ 13 → without_one_return line ≡ take n line
without_one_return-dropped n [] long last = absurd (omega arith)
without_one_return-dropped zero (b ∷ []) long last = rw (eq-eqb b 13 last)
without_one_return-dropped (suc n) (b ∷ []) long last = absurd (omega arith)
without_one_return-dropped zero (b ∷ c ∷ bs) long last = absurd (omega arith)
without_one_return-dropped (suc n) (b ∷ c ∷ bs) long last = ap (λ rest. b ∷ rest) (without_one_return-dropped n (c ∷ bs) (omega arith) last)

-- any other byte stays
pub without_one_return-kept : (n : ℕ) (line : List ℕ) → length line ≡ suc n → get_or line n 0 ≢ 13 → without_one_return line ≡ line
without_one_return-kept n [] long last = refl
without_one_return-kept zero (b ∷ []) long last = rw (ne_eqb b 13 last)
without_one_return-kept (suc n) (b ∷ []) long last = absurd (omega arith)
without_one_return-kept zero (b ∷ c ∷ bs) long last = absurd (omega arith)
without_one_return-kept (suc n) (b ∷ c ∷ bs) long last = ap (λ rest. b ∷ rest) (without_one_return-kept n (c ∷ bs) (omega arith) last)
