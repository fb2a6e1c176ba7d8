-- The keys that a front holds, and those of them that have a visible value.
use Rattle.std.specs.Prelude.{ℕ, Bool, List, [], ◌∷◌, ◌++◌, is_some}
use Rattle.std.specs.List.{filter}
use Rattle.audit_model.specs.Bytewise.{same}
use Rattle.audit_model.specs.declared.config.Weight.{Weight}
use Rattle.cache_front.specs.Parts.{Part, Stored, service_answers}
use Rattle.engine_reference.specs.Scanning.{held_keys}
use Rattle.front_reference.specs.Fronts.{Front, part_by_hash}
use Rattle.front_state.specs.Calls.{visible_of}

-- the keys of all parts, including those of dead and covered values
abbrev pub held_by_all : {S : Type 0} → List (Part S) → List (List ℕ)
held_by_all [] = []
held_by_all (s ∷ parts) = held_keys s.records ++ held_by_all parts

module _ {S : Type 0} (hash : S → List ℕ → ℕ) (now : ℕ) (f : Front (List ℕ) Stored (List ℕ) S Weight) where
  -- a key has a visible value, if keys are hashed like this
  abbrev pub is_seen : List ℕ → Bool
  is_seen q = is_some (visible_of (record {
    answers = service_answers;
    eq = same;
    hash = hash;
  }) (part_by_hash f (hash f.common.hasher q)) now q)

  -- those that have one
  abbrev pub seen_by_all : List (List ℕ)
  seen_by_all = filter is_seen (held_by_all f.parts)
