-- A whole line at the front, with more bytes behind it.
use Rattle.std.proofs.Common.{refl, ap, ◌∙◌, arith, ◌≡◌, ℕ, Bool, true, false, ◌&&◌, List, [], ◌++◌, take, length, Some, None, if◌then◌else◌, nat_le, is_some, unwrap_or}
use Rattle.std.proofs.lemmas.Bool.{le-leb}
use Rattle.std.proofs.lemmas.List.{length-take-le}
use Rattle.audit_lines.proofs.Lines.{cut_at-append, cut_with}
use Rattle.audit_lines.specs.Next.{IsLine}
use Rattle.audit_model.specs.Bytewise.{cut_at}
use Rattle.audit_model.specs.Stream.{behind_lines, without_return}
use Rattle.cache_lines.specs.Whole.{has_line, held_line}
use Rattle.audit_lines.proofs.Cuts.{Cut}

pub has-line : (bytes : List ℕ) (n : ℕ) → IsLine bytes n → has_line bytes ≡ true
has-line bytes n line =
    let short = line.short in
    let inside = line.inside in
    let len = length-take-le n bytes (omega arith) in
    ap (λ (cut : Cut). is_some cut.1 && nat_le (length cut.0) 8192) line.cut ∙ le-leb (length (take n bytes)) 8192 (omega (arith, len))

pub has-line-more : (bytes more : List ℕ) → has_line bytes ≡ true → has_line (bytes ++ more) ≡ true
has-line-more bytes more whole = ap of_cut (cut_at-append 10 bytes more) ∙ kept (cut_at 10 bytes) whole
  where
    of_cut : Cut → Bool
    of_cut cut = is_some cut.1 && nat_le (length cut.0) 8192

    kept : (cut : Cut) → of_cut cut ≡ true → of_cut (cut_with 10 cut more) ≡ true
    kept (word, Some rest) h = h
    kept (word, None) h = let no : false ≡ true = h in cc

pub behind-more : (bytes more : List ℕ) → has_line bytes ≡ true → behind_lines 1 (bytes ++ more) ≡ behind_lines 1 bytes ++ more
behind-more bytes more whole = ap (λ cut. unwrap_or cut.1 []) (cut_at-append 10 bytes more) ∙ kept (cut_at 10 bytes) whole
  where
    kept : (cut : Cut) → (is_some cut.1 && nat_le (length cut.0) 8192) ≡ true → unwrap_or (cut_with 10 cut more).1 [] ≡ unwrap_or cut.1 [] ++ more
    kept (word, Some rest) h = refl
    kept (word, None) h = let no : false ≡ true = h in cc

pub held-more : (bytes more : List ℕ) → has_line bytes ≡ true → held_line (bytes ++ more) ≡ held_line bytes
held-more bytes more whole = ap of_cut (cut_at-append 10 bytes more) ∙ kept (cut_at 10 bytes) whole
  where
    of_cut : Cut → List ℕ
    of_cut cut = unwrap_or (if is_some cut.1 then Some (without_return cut.0) else None) []

    kept : (cut : Cut) → (is_some cut.1 && nat_le (length cut.0) 8192) ≡ true → of_cut (cut_with 10 cut more) ≡ of_cut cut
    kept (word, Some rest) h = refl
    kept (word, None) h = let no : false ≡ true = h in cc
