-- Entries as keys with parts.
use Rattle.std.proofs.Common.{arith, ◌≡◌, ℕ, Bool, List, [], ◌∷◌, ◌++◌, None, refl}
use Rattle.std.specs.Map.{lookup}
use Rattle.std.specs.declared.vec.Vec.{Vec}
use Rattle.std.specs.declared.alloc.Global.{Global}
use Rattle.audit_model.specs.Bytewise.{same}
use Rattle.indexmap.specs.IndexMap.{insert_entry}
use Rattle.audit_situation.specs.Held.Known.{parts_of, part_of_key}
use Rattle.std.proofs.lemmas.Bool.Decides.{nat_tests}

abbrev pub Entry : Type 0
Entry = Vec ℕ Global × ℕ

abbrev pub is_at : List ℕ → Vec ℕ Global → Bool
is_at key v = same key v.items

-- a look-up finds the key's part
pub lookup_is : (key : List ℕ) (es : List Entry) → lookup (is_at key) es ≡ part_of_key (parts_of es) key
lookup_is key [] = refl
lookup_is key (e ∷ es) = let next = lookup_is key es in grind (arith, nat_tests, next)

-- a map's entries after a new key
pub inserted : (es : List Entry) (key : Vec ℕ Global) (part : ℕ) → part_of_key (parts_of es) key.items ≡ None → insert_entry (λ (x y : Vec ℕ Global). same x.items y.items) es key part ≡ es ++ (key, part) ∷ []
inserted [] key part h = refl
inserted (e ∷ es) key part h = let next = inserted es key part in grind (arith, nat_tests, h, next)
