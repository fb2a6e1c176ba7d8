-- Which identifiers are registered in each part: those of 16 bytes that say the number of a predicate.
use Rattle.std.specs.Prelude.{◌≡◌, ℕ, ◌==◌, ◌&&◌, nat_lt, Bool, true, false, List, length, slice_get}
use Rattle.std.specs.Int.{from_be_bytes, w128}
use Rattle.std.specs.List.{list_all}
use Rattle.std.specs.Option.{option_map_or}
use Rattle.cache_commands.specs.Identifiers.{Register}
use Rattle.engine_reference.specs.declared.data.Registered.{Registered}
use Rattle.engine_reference.specs.Identifiers.Drawing.{is_registered}
use Rattle.cache_front.specs.Parts.{Part}

-- 16 bytes
abbrev pub is_identifier : List ℕ → Bool
is_identifier id = length id == 16 && list_all (λ b. nat_lt b 256) id

abbrev pub is_registered_in : List (Registered (List ℕ)) → List ℕ → Bool
is_registered_in ps id = is_identifier id && is_registered ps (from_be_bytes w128 id)

-- which identifiers are registered in each part of a store of these parts
abbrev pub register_of : {S : Type 0} → List (Part S) → Register
register_of parts part id =
    option_map_or (λ s. is_registered_in s.predicates id) (slice_get parts part) false

-- ---- the clauses of a store on identifiers

module _ (S : Type 0) where
  -- none is registered that was not before
  abbrev pub HasNoMore : Part S → Part S → Type 0
  HasNoMore s new =
      (n : ℕ) → is_registered new.predicates n ≡ true → is_registered s.predicates n ≡ true
