-- Loads under way and loads that went out: their numbers and keys.
use Rattle.std.specs.Prelude.{ℕ, suc, nat_le, ◌==◌, ◌&&◌, ◌||◌, not, Bool, true, List, [], ◌∷◌}
use Rattle.std.specs.List.{list_all}
use Rattle.audit_model.specs.Bytewise.{same}
use Rattle.audit_model.specs.Situation.{PendingLoad}
use Rattle.audit_model.specs.declared.input.LoadId.{LoadId}
use Rattle.cache_commands.specs.declared.loads.load.Load.{Load}

-- the load, with those that wait for it
abbrev pub pending_load : Load → PendingLoad
pending_load load = record { number = load.number; key = load.key; waiting = load.waiting.items }

-- they are the namespace's loads in order, after this many
abbrev pub are_in_turn : ℕ → ℕ → List (LoadId × List ℕ) → Bool
are_in_turn namespace before [] = true
are_in_turn namespace before (out ∷ outgoing) =
    out.0.namespace == namespace
    && (out.0.number == suc before && are_in_turn namespace (suc before) outgoing)

-- it is another load, or has its key
abbrev pub agrees_on : LoadId × List ℕ → PendingLoad → Bool
agrees_on out load = not (load.number == out.0.number) || same load.key out.1

-- what went out has the key of the load under way with its number
abbrev pub has_its_key : List PendingLoad → LoadId × List ℕ → Bool
has_its_key loads out = list_all (agrees_on out) loads

abbrev pub have_their_keys : List PendingLoad → List (LoadId × List ℕ) → Bool
have_their_keys loads outgoing = list_all (has_its_key loads) outgoing

-- no load has a number that was not sent
abbrev pub were_sent : ℕ → List PendingLoad → Bool
were_sent sent loads = list_all (λ load. nat_le load.number sent) loads
