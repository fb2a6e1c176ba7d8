-- The keys that an LRU cache with n places holds.
use Rattle.std.specs.Prelude.{ℕ, not, List, [], ◌∷◌, take, if◌then◌else◌}
use Rattle.std.specs.List.{list_any, filter, fold}
use Rattle.audit_model.specs.Bytewise.{same}
use Rattle.audit_model.specs.declared.command.Command.{Command}
use Rattle.audit_model.specs.declared.command.Command.TheVariants as says

-- the keys without this one
abbrev pub keys_without : List ℕ → List (List ℕ) → List (List ℕ)
keys_without key keys = filter (λ k. not (same k key)) keys

-- a `SET`, and a `GET` of a key on the list, move the key to the front; `DEL` removes it; the list is cut at n
abbrev pub recency_after : ℕ → List (List ℕ) → Command → List (List ℕ)
recency_after n keys (says.Set key ms value) = take n (key ∷ keys_without key keys)
recency_after n keys (says.Get key) =
    if list_any (λ k. same k key) keys then key ∷ keys_without key keys else keys
recency_after n keys (says.Del key) = keys_without key keys
recency_after n keys command = keys

-- the keys on the list after these commands, the most recently used one first
abbrev pub recency : ℕ → List Command → List (List ℕ)
recency n commands = fold (recency_after n) [] commands
