-- What the front of a stream means for its lines, and what more bytes change.
use Rattle.std.proofs.Common.{◌≡◌, ℕ, ◌+◌, ◌<◌, true, false, rules, tests, List, [], ◌∷◌, ◌++◌, length, take, drop, Some, None, refl, sym, ap, ◌∙◌, arith, ⊎_elim}
use Rattle.std.specs.Prelude.{nat_lt, unwrap_or}
use Rattle.std.proofs.lemmas.Bool.Decides.{eqb_tells}
use Rattle.std.proofs.lemmas.List.{length-take-le}
use Rattle.audit_model.specs.Bytewise.{cut_at}
use Rattle.audit_model.specs.Stream.{first_line, behind_lines, without_return}
use Rattle.audit_lines.specs.Next.{IsLine, IsPartial}
use Rattle.audit_lines.proofs.Cuts.{Cut, onto, cut_at-here, cut_at-other}

-- ---- a line

-- it is the first line
pub IsLine-first_line : (bytes : List ℕ) (n : ℕ) → IsLine bytes n → first_line bytes ≡ Some (without_return (take n bytes))
IsLine-first_line bytes n line = rw line.cut

-- what stands behind it
pub IsLine-behind_lines : (bytes : List ℕ) (n : ℕ) → IsLine bytes n → behind_lines 1 bytes ≡ drop (n + 1) bytes
IsLine-behind_lines bytes n line = ap (λ cut. unwrap_or cut.1 []) line.cut

-- it is not too long
pub IsLine-not_long : (bytes : List ℕ) (n : ℕ) → IsLine bytes n → nat_lt 8192 (length (cut_at 10 bytes).0) ≡ false
IsLine-not_long bytes n line =
    let short = line.short in
    let inside = line.inside in
    let cut : length (cut_at 10 bytes).0 ≡ n = ap (λ cut. length cut.0) line.cut ∙ length-take-le n bytes (omega arith) in
    search (rules, tests)

-- ---- less than a line

-- there is no first line yet
pub IsPartial-first_line : (bytes : List ℕ) → IsPartial bytes → first_line bytes ≡ None
IsPartial-first_line bytes partial = rw partial.none

-- what there is is not too long
pub IsPartial-not_long : (bytes : List ℕ) → IsPartial bytes → nat_lt 8192 (length (cut_at 10 bytes).0) ≡ false
IsPartial-not_long bytes partial =
    let short = partial.short in
    let cut : length (cut_at 10 bytes).0 ≡ length bytes = ap (λ cut. length cut.0) partial.none in
    search (rules, tests)

-- ---- more than a line may have

-- the test that a line is too long
pub long_from : (bytes : List ℕ) → 8192 < length (cut_at 10 bytes).0 → nat_lt 8192 (length (cut_at 10 bytes).0) ≡ true
long_from bytes long = search (rules, tests)

-- ---- more bytes

-- the cut with more bytes behind it
abbrev pub cut_with : ℕ → Cut → List ℕ → Cut
cut_with c (word, Some rest) more = (word, Some (rest ++ more))
cut_with c (word, None) more = (word ++ (cut_at c more).0, (cut_at c more).1)

-- a byte in front changes nothing of that
onto-cut_with : (c b : ℕ) (cut : Cut) (more : List ℕ) → onto b (cut_with c cut more) ≡ cut_with c (onto b cut) more
onto-cut_with c b (word, Some rest) more = refl
onto-cut_with c b (word, None) more = refl

-- the cut of the bytes with more behind them
pub cut_at-append : (c : ℕ) (bytes more : List ℕ) → cut_at c (bytes ++ more) ≡ cut_with c (cut_at c bytes) more
cut_at-append c [] more = refl
cut_at-append c (b ∷ bs) more =
    ⊎_elim
    (λ same. cut_at-here c b (bs ++ more) same.1 ∙ sym (ap (λ cut. cut_with c cut more) (cut_at-here c b bs same.1)))
    (λ other. cut_at-other c b (bs ++ more) other.1 ∙ ap (onto b) (cut_at-append c bs more) ∙ onto-cut_with c b (cut_at c bs) more
    ∙ sym (ap (λ cut. cut_with c cut more) (cut_at-other c b bs other.1)))
    (eqb_tells b c)
