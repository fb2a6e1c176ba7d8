-- Where the first piece of a text ends.
use Rattle.std.proofs.Common.{◌≡◌, ◌≢◌, ℕ, zero, suc, ◌+◌, ◌<◌, List, [], ◌∷◌, ◌++◌, length, take, drop, get_or, Some, None, refl, sym, ap, ◌∙◌, arith, add-one}
use Rattle.std.specs.List.{flat_map}
use Rattle.std.proofs.lemmas.Bool.{eqb-true, eq-eqb, ne_eqb}
use Rattle.memchr.specs.Find.{IsFirstByte, is_byte}
use Rattle.audit_model.specs.Bytewise.{onto_first}
use Rattle.audit_text.specs.Reader.Lines.{pieces, kept, telling_line}

-- none of the first n bytes is b
abbrev pub NoneBelow : ℕ → ℕ → List ℕ → Type 0
NoneBelow b n bytes = (k : ℕ) → k < n → get_or bytes k 0 ≢ b

NoneBelow-tail : (b n x : ℕ) (xs : List ℕ) → NoneBelow b (suc n) (x ∷ xs) → NoneBelow b n xs
NoneBelow-tail b n x xs none = λ k below. none (suc k) (omega arith)

-- a piece ends here
pub pieces-here : (b x : ℕ) (xs : List ℕ) → x ≡ b → pieces b (x ∷ xs) ≡ [] ∷ pieces b xs
pieces-here b x xs same = rw (eq-eqb x b same, pieces)

-- another byte goes to the front of the first piece
pub pieces-other : (b x : ℕ) (xs : List ℕ) → x ≢ b → pieces b (x ∷ xs) ≡ onto_first x (pieces b xs)
pieces-other b x xs differs = rw (ne_eqb x b differs, pieces)

-- the first b stands at n
pieces-first : (b n : ℕ) (xs : List ℕ) → n < length xs → get_or xs n 0 ≡ b → NoneBelow b n xs → pieces b xs ≡ take n xs ∷ pieces b (drop (suc n) xs)
pieces-first b n [] inside found none = absurd (omega arith)
pieces-first b zero (x ∷ xs) inside found none = pieces-here b x xs found
pieces-first b (suc n) (x ∷ xs) inside found none =
    pieces-other b x xs (none 0 (omega arith)) ∙ ap (onto_first x) (pieces-first b n xs (omega arith) found (NoneBelow-tail b n x xs none))

-- there is no b
pieces-none : (b : ℕ) (xs : List ℕ) → NoneBelow b (length xs) xs → pieces b xs ≡ xs ∷ []
pieces-none b [] none = refl
pieces-none b (x ∷ xs) none = pieces-other b x xs (none 0 (omega arith)) ∙ ap (onto_first x) (pieces-none b xs (NoneBelow-tail b (length xs) x xs none))

-- a search that finds the end of the first piece
pub pieces-found : (b n : ℕ) (xs : List ℕ) → IsFirstByte (is_byte b) xs (Some n) → pieces b xs ≡ take n xs ∷ pieces b (drop (n + 1) xs)
pieces-found b n xs found =
    pieces-first b n xs found.0.high (eqb-true _ b found.1) (λ k under same. found.0.before k (omega arith) under (eq-eqb _ b same))
    ∙ ap (λ m. take n xs ∷ pieces b (drop m xs)) (sym (add-one n))

-- a search that finds none: there is one piece
pub pieces-missed : (b : ℕ) (xs : List ℕ) → IsFirstByte (is_byte b) xs None → pieces b xs ≡ xs ∷ []
pieces-missed b xs none = pieces-none b xs (λ k under same. none k (omega arith) under (eq-eqb _ b same))
