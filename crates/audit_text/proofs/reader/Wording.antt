-- The words of a line.
use Rattle.std.proofs.Common.{◌≡◌, ◌≢◌, ℕ, zero, suc, ◌+◌, ◌<◌, ◌≤◌, get_or, drop, Bool, true, false, cond, eqb, List, [], ◌∷◌, ◌++◌, length, Option, Some, None, refl, sym, ap, ◌∙◌, arith, Decides}
use Rattle.std.specs.Prelude.{◌==◌, not}
use Rattle.std.specs.Option.{is_some, option_map}
use Rattle.std.specs.Str.{bytes_eq}
use Rattle.std.specs.Borrow.{Bor}
use Rattle.std.proofs.lemmas.Bool.{cond-true, cond-false, eqb-true, eq-eqb}
use Rattle.std.proofs.lemmas.Bool.Decides.{same_from_decides}
use Rattle.std.proofs.lemmas.List.{append_cancel_right}
use Rattle.std.proofs.lemmas.Slice.Eq.{bytes_eq-Decides}
use Rattle.audit_model.specs.Bytewise.{onto_first}
use Rattle.audit_text.specs.Reader.Lines.{pieces}
use Rattle.audit_text.specs.Reader.Fields.{◌>>=◌, field, setting_in, words_of_rest, behind_prefix, byte_in, digits_in}

onto-some : (x : ℕ) (ws : List (List ℕ)) → onto_first x ws ≢ []
onto-some x [] = λ e. cc
onto-some x (w ∷ ws) = λ e. cc

cond-some : (here : Bool) (x : ℕ) (ws : List (List ℕ)) → cond here ([] ∷ ws) (onto_first x ws) ≢ []
cond-some true x ws = λ e. cc
cond-some false x ws = onto-some x ws

-- there is a piece at least
pieces-some : (b : ℕ) (xs : List ℕ) → pieces b xs ≢ []
pieces-some b [] = λ e. cc
pieces-some b (x ∷ xs) = cond-some (x == b) x (pieces b xs)

-- so what is left has a word
pub left-some : (rest : Option (Bor (List ℕ))) (none : Bool) → is_some rest ≡ not none → none ≡ false → words_of_rest rest ≢ []
left-some None none e f = λ g. cc
left-some (Some rest) none e f = pieces-some 32 rest.now

-- what stands behind a beginning
pub behind_prefix-append : (name rest : List ℕ) → behind_prefix name (name ++ rest) ≡ Some rest
behind_prefix-append [] rest = refl
behind_prefix-append (n ∷ name) rest = cond-true (n == n) _ _ (eq-eqb n n refl) ∙ behind_prefix-append name rest

-- there is no such beginning
pub behind_prefix-none : (name word : List ℕ) → ((rest : List ℕ) → word ≢ name ++ rest) → behind_prefix name word ≡ None
behind_prefix-none [] word other = absurd (other word refl)
behind_prefix-none (n ∷ name) [] other = refl
behind_prefix-none (n ∷ name) (b ∷ word) other = by_test (b == n) refl (λ o. behind_prefix-none name word o)
  where
    by_test : (t : Bool) → (b == n) ≡ t → (((rest : List ℕ) → word ≢ name ++ rest) → behind_prefix name word ≡ None) → cond t (behind_prefix name word) None ≡ None
    by_test true e more = more (λ rest same. other rest (let x = eqb-true b n e in cc))
    by_test false e more = refl

-- two digits more
pub digits_step : (front rest : List ℕ) (byte : ℕ) → 2 ≤ length rest → byte_in (get_or rest 0 0) (get_or rest 1 0) ≡ Some byte → digits_in front rest ≡ digits_in (front ++ byte ∷ []) (drop 2 rest)
digits_step front [] byte some e = absurd (omega arith)
digits_step front (high ∷ []) byte some e = absurd (omega arith)
digits_step front (high ∷ low ∷ rest) byte some e = ap (λ o. o >>= (λ b. digits_in (front ++ b ∷ []) rest)) e

-- the same end on both sides
pub bytes_eq-append : (a b end : List ℕ) → bytes_eq (a ++ end) (b ++ end) ≡ bytes_eq a b
bytes_eq-append a b end =
    let whole = bytes_eq-Decides (a ++ end) (b ++ end) in
    let front = bytes_eq-Decides a b in
    same_from_decides {P = a ≡ b} _ _ (λ e. append_cancel_right a b end (whole.0 e), λ e. whole.1 (ap (λ x. x ++ end) e)) front

-- two that are not the same
pub bytes_eq-differ : (a b : List ℕ) → a ≢ b → bytes_eq a b ≡ false
bytes_eq-differ a b differ = by_test (bytes_eq a b) refl
  where
    by_test : (t : Bool) → bytes_eq a b ≡ t → t ≡ false
    by_test true e = absurd (differ ((bytes_eq-Decides a b).0 e))
    by_test false e = refl

-- a setting is read off the next word
pub setting_field : {A : Type 0} (name : List ℕ) (says : List ℕ → Option A) (ws : List (List ℕ)) → field (setting_in name says) ws ≡ (field (behind_prefix name) ws >>= (λ b. option_map {U = A × List (List ℕ)} (λ a. (a, b.1)) (says b.0)))
setting_field {A = A} name says [] = refl
setting_field {A = A} name says (w ∷ ws) = go (behind_prefix name w)
  where
    go : (o : Option (List ℕ)) → option_map {U = A × List (List ℕ)} (λ a. (a, ws)) (o >>= says) ≡ (option_map {U = List ℕ × List (List ℕ)} (λ b. (b, ws)) o >>= (λ b. option_map {U = A × List (List ℕ)} (λ a. (a, b.1)) (says b.0)))
    go None = refl
    go (Some b) = refl
