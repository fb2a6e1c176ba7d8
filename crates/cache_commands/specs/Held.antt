-- Lists of held values: which one is the key's, which are others, and when two lists say the same.
use Rattle.audit_model.specs.Bytewise.{same}
use Rattle.audit_model.specs.Situation.{HeldValue, is_live_at}
use Rattle.audit_model.specs.Values.{without_key}
use Rattle.audit_model.specs.declared.config.Config.{Config}
use Rattle.audit_model.specs.declared.transcript.RemovalCause.TheVariants.{Expired, Explicit, Replaced}
use Rattle.audit_model.specs.declared.transcript.RemovalCause.{RemovalCause}
use Rattle.std.specs.List.{find, list_all}
use Rattle.std.specs.Prelude.{ℕ, Bool, true, false, ◌&&◌, nat_lt, List, [], ◌∷◌, Option, Some, None, if◌then◌else◌, ◌≡◌, length, option_map, not}

-- the key's value
abbrev pub value_at : List HeldValue → List ℕ → Option HeldValue
value_at items key = find (λ h. same key h.value.key) items

-- the values except the key's
abbrev pub items_without : List ℕ → List HeldValue → List HeldValue
items_without key items = without_key (λ h. h.value.key) key items

-- none of these has the key
abbrev pub is_absent : List ℕ → List HeldValue → Bool
is_absent key items = list_all (λ h. not (same key h.value.key)) items

-- no key occurs twice
abbrev pub have_own_keys : List HeldValue → Bool
have_own_keys [] = true
have_own_keys (h ∷ items) = is_absent h.value.key items && have_own_keys items

-- a held value, apart from whether it may be evicted
abbrev pub plain : HeldValue → HeldValue
plain h = record h { evictable = false }

-- the values held are those of the items, in any order
pub record Corresponds (items held : List HeldValue) : Type 0 where
  pub found : (key : List ℕ) → option_map plain (value_at held key) ≡ value_at items key
  pub number : length held ≡ length items
  pub apart : have_own_keys held ≡ true

-- a weight is above a limit, if there is one
abbrev pub exceeds : Option ℕ → ℕ → Bool
exceeds None weight = false
exceeds (Some limit) weight = nat_lt limit weight

-- the cause of an older value that is overwritten
abbrev pub cause_of_replaced : Bool → Bool → RemovalCause
cause_of_replaced dead covered = if dead then Expired else (if covered then Explicit else Replaced)

-- the cause of a value that is deleted
abbrev pub cause_of_deleted : Bool → RemovalCause
cause_of_deleted dead = if dead then Expired else Explicit

-- the value, if it is live
abbrev pub if_live : Config → ℕ → Option HeldValue → Option HeldValue
if_live config now None = None
if_live config now (Some h) = if is_live_at config now h then Some h else None

-- the live value of a key
abbrev pub live_in : Config → ℕ → List HeldValue → List ℕ → Option HeldValue
live_in config now items key = if_live config now (value_at items key)
