-- Where the first byte c stands, and what `cut_at` gives.
use Rattle.std.proofs.Common.{◌≡◌, ◌≢◌, ℕ, zero, suc, ◌+◌, ◌<◌, ◌≤◌, List, [], ◌∷◌, length, take, drop, get_or, Option, Some, None, refl, sym, ap, ◌∙◌, subst, arith, add-one, ⊎_elim}
use Rattle.std.specs.Prelude.{IfSome}
use Rattle.std.proofs.lemmas.Bool.{eqb-true, eq-eqb, ne_eqb}
use Rattle.std.proofs.lemmas.Bool.Decides.{eqb_tells}
use Rattle.std.proofs.lemmas.List.{length-take-le, get_or-take}
use Rattle.memchr.specs.Find.{IsFirstByte, is_byte}
use Rattle.audit_model.specs.Bytewise.{cut_at}

-- none of the first n bytes is c
abbrev pub NoneBelow : ℕ → ℕ → List ℕ → Type 0
NoneBelow c n bytes = (k : ℕ) → k < n → get_or bytes k 0 ≢ c

-- behind the first byte there is no c either
pub NoneBelow-tail : (c n b : ℕ) (bs : List ℕ) → NoneBelow c (suc n) (b ∷ bs) → NoneBelow c n bs
NoneBelow-tail c n b bs none = λ k below. none (suc k) (omega arith)

-- what stands before a byte, and behind it if there is one
abbrev pub Cut : Type 0
Cut = List ℕ × Option (List ℕ)

-- with one byte more in front
abbrev pub onto : ℕ → Cut → Cut
onto b rest = (b ∷ rest.0, rest.1)

-- at the byte, the cut is there
pub cut_at-here : (c b : ℕ) (bs : List ℕ) → b ≡ c → cut_at c (b ∷ bs) ≡ ([], Some bs)
cut_at-here c b bs same = rw (eq-eqb b c same, cut_at)

-- a byte that differs goes to the front of what is cut
pub cut_at-other : (c b : ℕ) (bs : List ℕ) → b ≢ c → cut_at c (b ∷ bs) ≡ onto b (cut_at c bs)
cut_at-other c b bs differs = rw (ne_eqb b c differs, cut_at)

-- the first c stands at n
cut_at-first : (c n : ℕ) (bs : List ℕ) → n < length bs → get_or bs n 0 ≡ c → NoneBelow c n bs → cut_at c bs ≡ (take n bs, Some (drop (suc n) bs))
cut_at-first c n [] inside found none = absurd (omega arith)
cut_at-first c zero (b ∷ bs) inside found none = cut_at-here c b bs found
cut_at-first c (suc n) (b ∷ bs) inside found none =
    cut_at-other c b bs (none 0 (omega arith)) ∙ ap (onto b) (cut_at-first c n bs (omega arith) found (NoneBelow-tail c n b bs none))

-- the same, as callers write it
pub cut_at-found : (c n : ℕ) (bs : List ℕ) → n < length bs → get_or bs n 0 ≡ c → NoneBelow c n bs → cut_at c bs ≡ (take n bs, Some (drop (n + 1) bs))
cut_at-found c n bs inside found none = rw (add-one n) (cut_at-first c n bs inside found none)

-- there is no c
pub cut_at-none : (c : ℕ) (bs : List ℕ) → NoneBelow c (length bs) bs → cut_at c bs ≡ (bs, None)
cut_at-none c [] none = refl
cut_at-none c (b ∷ bs) none =
    cut_at-other c b bs (none 0 (omega arith)) ∙ ap (onto b) (cut_at-none c bs (NoneBelow-tail c (length bs) b bs none))

-- what is cut off is at least as long as what has no c
pub cut_at-long : (c n : ℕ) (bs : List ℕ) → n ≤ length bs → NoneBelow c n bs → n ≤ length (cut_at c bs).0
cut_at-long c zero bs long none = omega arith
cut_at-long c (suc n) [] long none = absurd (omega arith)
cut_at-long c (suc n) (b ∷ bs) long none =
    rw (cut_at-other c b bs (none 0 (omega arith))) (omega (arith, cut_at-long c n bs (omega arith) (NoneBelow-tail c n b bs none)))

-- a search of the first `window` bytes that finds c
pub cut_at-found_in : (c window n : ℕ) (bs : List ℕ) → window ≤ length bs → IsFirstByte (is_byte c) (take window bs) (Some n) → (n < window) × (cut_at c bs ≡ (take n bs, Some (drop (n + 1) bs)))
cut_at-found_in c window n bs within found =
    let long = length-take-le window bs within in
    let below : n < window = omega (arith, found.0.high) in
    let here : get_or bs n 0 ≡ c = sym (get_or-take window bs n 0 below) ∙ eqb-true _ c found.1 in
    (below, cut_at-found c n bs (omega arith) here (λ k under same. found.0.before k (omega arith) under (eq-eqb _ c (get_or-take window bs k 0 (omega arith) ∙ same))))

-- a search of the first `window` bytes that finds none
pub NoneBelow-from_search : (c window : ℕ) (bs : List ℕ) → window ≤ length bs → IsFirstByte (is_byte c) (take window bs) None → NoneBelow c window bs
NoneBelow-from_search c window bs within none = λ k under same.
    let long = length-take-le window bs within in
    none k (omega arith) (omega arith) (eq-eqb _ c (get_or-take window bs k 0 under ∙ same))

-- a search of all bytes
pub cut_at-searched : (c n : ℕ) (bs : List ℕ) → IsFirstByte (is_byte c) bs (Some n) → cut_at c bs ≡ (take n bs, Some (drop (n + 1) bs))
cut_at-searched c n bs found =
    cut_at-found c n bs found.0.high (eqb-true _ c found.1) (λ k under same. found.0.before k (omega arith) under (eq-eqb _ c same))

-- a search of all bytes that finds none
pub cut_at-missed : (c : ℕ) (bs : List ℕ) → IsFirstByte (is_byte c) bs None → cut_at c bs ≡ (bs, None)
cut_at-missed c bs none = cut_at-none c bs (λ k under same. none k (omega arith) under (eq-eqb _ c same))

-- what stands behind a cut is shorter
behind_cut : (c : ℕ) (bs : List ℕ) → IfSome (cut_at c bs).1 (λ rest. length rest < length bs)
behind_cut c [] = tt
behind_cut c (b ∷ bs) = ⊎_elim
    (λ same. subst (λ cut. IfSome cut.1 (λ rest. length rest < suc (length bs))) (sym (cut_at-here c b bs same.1)) (omega arith))
    (λ other. subst (λ cut. IfSome cut.1 (λ rest. length rest < suc (length bs))) (sym (cut_at-other c b bs other.1)) (later (cut_at c bs).1 (behind_cut c bs)))
    (eqb_tells b c)
  where
    later : (o : Option (List ℕ)) → IfSome o (λ rest. length rest < length bs) → IfSome o (λ rest. length rest < suc (length bs))
    later None shorter = tt
    later (Some rest) shorter = omega arith

-- the same of a cut that is known
pub cut_at-shorter : (c : ℕ) (bs word rest : List ℕ) → cut_at c bs ≡ (word, Some rest) → length rest < length bs
cut_at-shorter c bs word rest cut = subst (λ cut. IfSome cut.1 (λ rest. length rest < length bs)) cut (behind_cut c bs)
