-- A key that is held under what names it is equal to the one that is named.
use Rattle.std.proofs.Common.{refl, subst, sym, ◌≡◌, Bool, true, List, Option, Some, None, IfSome, option_map}
use Rattle.engine_reference.specs.Records.{held_at}
use Rattle.engine_reference.specs.State.{State}
use Rattle.engine_reference.specs.declared.data.Record.{Record}
use Rattle.engine_reference.proofs.run_laws.Shown.{held_at-match}
use Rattle.front_parts.specs.Places.Calls.{Ways, held_key_of}

held_named_in : {K V : Type 0} (eq : K → K → Bool) (rs : List (Record K V)) (key : K) → IfSome (option_map (λ r. r.entry.key) (held_at eq rs key)) (λ held. eq key held ≡ true)
held_named_in {K = K} {V = V} eq rs key = go (held_at eq rs key) refl
  where
    go : (o : Option (Record K V)) → held_at eq rs key ≡ o → IfSome (option_map (λ r. r.entry.key) (held_at eq rs key)) (λ held. eq key held ≡ true)
    go None h = subst (λ o. IfSome (option_map (λ r. r.entry.key) o) (λ held. eq key held ≡ true)) (sym h) tt
    go (Some r) h = subst (λ o. IfSome (option_map (λ r. r.entry.key) o) (λ held. eq key held ≡ true)) (sym h) (held_at-match eq rs key r h)

pub held_named : {K V P S R : Type 0} (ways : Ways K V P S R) (o : Option (State K V P S R)) (key : K) → IfSome (held_key_of ways o key) (λ held. ways.eq key held ≡ true)
held_named ways None key = tt
held_named ways (Some s) key = held_named_in ways.eq s.records key
