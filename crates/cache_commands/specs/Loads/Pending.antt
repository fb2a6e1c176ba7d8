-- Loads under way, as the definitions list them.
pub use Rattle.cache_commands.specs.Loads.Numbers.{load_numbered, load_with_key}
use Rattle.std.specs.Prelude.{◌≡◌, ℕ, suc, ◌-◌, List, [], ◌∷◌, ◌++◌, length, map, Option, Some, None, if◌then◌else◌, is_some}
use Rattle.audit_model.specs.Situation.{PendingLoad, with_waiting}
use Rattle.audit_model.specs.declared.input.LoadId.{LoadId}
use Rattle.cache_commands.specs.declared.loads.loads.Loads.{Loads}

-- the loads under way, the newest first
abbrev pub loads_pending : Loads → List PendingLoad
loads_pending loads = loads.loads

-- how many were sent
abbrev pub sent_of : Loads → ℕ
sent_of loads = loads.sent

-- those that went out and were not taken, with their keys, in the order in which they were sent
abbrev pub outgoing_loads : Loads → List (LoadId × List ℕ)
outgoing_loads loads = loads.outgoing.items

-- how many were taken
abbrev pub loads_taken : Loads → ℕ
loads_taken loads = sent_of loads - length (outgoing_loads loads)

-- the namespace whose loads they are
abbrev pub namespace_of_loads : Loads → ℕ
namespace_of_loads loads = loads.namespace

-- the number of the load that a connection sends that begins to wait for a key: none if the key's load is under way
abbrev pub number_to_send : List ℕ → ℕ → List PendingLoad → Option ℕ
number_to_send key sent loads = if is_some (load_with_key key loads) then None else Some (suc sent)

-- the loads under way after this connection waits for the key's load, or for the one that it sent
abbrev pub when_joined : ℕ → List ℕ → Option ℕ → List PendingLoad → List PendingLoad
when_joined conn key None loads = map (with_waiting conn key) loads
when_joined conn key (Some number) loads =
    record { number = number; key = key; waiting = conn ∷ [] } ∷ loads

-- how many loads were sent then
abbrev pub when_sent : Option ℕ → ℕ → ℕ
when_sent None sent = sent
when_sent (Some number) sent = suc sent

-- what goes out then
abbrev pub sending : ℕ → List ℕ → Option ℕ → List (LoadId × List ℕ)
sending namespace key None = []
sending namespace key (Some number) = (record { namespace = namespace; number = number }, key) ∷ []

-- the same loads are under way, and the same went out
pub record SameLoads (old new : Loads) : Type 0 where
  pub pending : loads_pending new ≡ loads_pending old
  pub sent : sent_of new ≡ sent_of old
  pub outgoing : outgoing_loads new ≡ outgoing_loads old
  pub namespace : namespace_of_loads new ≡ namespace_of_loads old

-- the same loads were taken, of the same namespace, and those that went out before stand in front of those that did since
pub record SameTaken (old new : Loads) : Type 0 where
  pub taken : loads_taken new ≡ loads_taken old
  pub namespace : namespace_of_loads new ≡ namespace_of_loads old
  pub more : List (LoadId × List ℕ)
  pub behind : outgoing_loads new ≡ outgoing_loads old ++ more
