-- The live value of a key.
use Rattle.audit_model.specs.Bytewise.{same}
use Rattle.audit_model.specs.Situation.{HeldValue, is_live_at}
use Rattle.audit_model.specs.declared.config.Config.{Config}
use Rattle.cache_commands.specs.Held.{if_live, live_in, plain, Corresponds, value_at, is_absent, have_own_keys}
use Rattle.cache_commands.proofs.SameKeys.{equal_from_same}
use Rattle.std.proofs.Common.{◌≡◌, ℕ, cond, true, not, ◌&&◌, List, [], ◌∷◌, Option, option_map, Some, None, refl, ap, ◌∙◌, arith}
use Rattle.std.proofs.lemmas.Bool.{and_parts, not-true}
use Rattle.std.specs.List.{find}

-- ---- look-ups

-- the live value of a key, among the values held
find_live : (config : Config) (now : ℕ) (key : List ℕ) (held : List HeldValue) → have_own_keys held ≡ true
    → find (λ h. same key h.value.key && is_live_at config now h) held ≡ if_live config now (value_at held key)
find_live config now key [] a = refl
find_live config now key (h ∷ held) a =
    let parts = and_parts (is_absent h.value.key held) (have_own_keys held) a in
    grind (arith, parts, find_live config now key held, none_live held, equal_from_same key h.value.key)
  where
    none_live : (xs : List HeldValue) → is_absent key xs ≡ true → find (λ g. same key g.value.key && is_live_at config now g) xs ≡ None
    none_live [] absent = refl
    none_live (g ∷ xs) absent =
        let parts = and_parts (not (same key g.value.key)) (is_absent key xs) absent in
        ap (λ b. cond (b && is_live_at config now g) (Some g) (find (λ g. same key g.value.key && is_live_at config now g) xs)) (not-true _ parts.0) ∙ none_live xs parts.1

if_live-plain : (config : Config) (now : ℕ) (o : Option HeldValue) → option_map plain (if_live config now o) ≡ if_live config now (option_map plain o)
if_live-plain config now None = refl
if_live-plain config now (Some h) = grind arith

-- it is the live item
pub live_is : (config : Config) (now : ℕ) (key : List ℕ) (items held : List HeldValue) → Corresponds items held
    → option_map plain (find (λ h. same key h.value.key && is_live_at config now h) held) ≡ live_in config now items key
live_is config now key items held c = ap (option_map plain) (find_live config now key held c.apart) ∙ if_live-plain config now (value_at held key) ∙ ap (if_live config now) (c.found key)
