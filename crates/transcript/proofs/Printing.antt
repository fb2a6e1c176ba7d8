-- Namespaces that are printed one after the other.
use Rattle.std.proofs.Common.{◌≡◌, ℕ, zero, suc, ◌+◌, ◌<◌, ◌≤◌, List, [], ◌∷◌, ◌++◌, length, get_or, drop, refl, sym, ap, ◌∙◌, arith, add-one}
use Rattle.audit_model.specs.declared.config.Config.{Config}
use Rattle.audit_model.specs.declared.transcript.Transcript.{Transcript}
use Rattle.transcript.specs.Printed.{namespace_text, namespaces_text}

-- one namespace more
pub namespaces_more : (n i : ℕ) (cs : List Config) (c : Config) (ts : List Transcript) (t : Transcript) → i < length cs → c ≡ get_or cs i c → 1 ≤ length ts → t ≡ get_or ts 0 t
    → namespaces_text n (drop i cs) ts ≡ namespace_text n c t ++ namespaces_text (n + 1) (drop (i + 1) cs) (drop 1 ts)
namespaces_more n i [] c ts t inside is some first = absurd (omega arith)
namespaces_more n zero (d ∷ cs) c [] t inside is some first = absurd (omega arith)
namespaces_more n zero (d ∷ cs) c (s ∷ ts) t inside is some first = ap (λ x. namespace_text n x s ++ namespaces_text (n + 1) cs ts) (sym is) ∙ ap (λ x. namespace_text n c x ++ namespaces_text (n + 1) cs ts) (sym first)
namespaces_more n (suc i) (d ∷ cs) c ts t inside is some first =
    namespaces_more n i cs c ts t (omega arith) is some first ∙ ap (λ j. namespace_text n c t ++ namespaces_text (n + 1) (drop j cs) (drop 1 ts)) (add-one i) ∙ ap (λ j. namespace_text n c t ++ namespaces_text (n + 1) (drop j (d ∷ cs)) (drop 1 ts)) (sym (add-one (suc i)))

-- past either end there is none
pub namespaces_past : (n i : ℕ) (cs : List Config) (ts : List Transcript) → length cs ≤ i → namespaces_text n (drop i cs) ts ≡ []
namespaces_past n zero [] ts past = refl
namespaces_past n (suc i) [] ts past = refl
namespaces_past n zero (c ∷ cs) ts past = absurd (omega arith)
namespaces_past n (suc i) (c ∷ cs) ts past = namespaces_past n i cs ts (omega arith)

pub namespaces_none : (n : ℕ) (cs : List Config) (ts : List Transcript) → length ts ≡ 0 → namespaces_text n cs ts ≡ []
namespaces_none n [] ts none = refl
namespaces_none n (c ∷ cs) [] none = refl
namespaces_none n (c ∷ cs) (t ∷ ts) none = absurd (omega arith)
