-- The order of use of keys, line by line: which keys are held under LRU.
use Rattle.std.specs.Prelude.{◌≡◌, ℕ, suc, ◌≤◌, Bool, true, List, length, take, Ok}
use Rattle.audit_model.specs.Grammar.{Reading}
use Rattle.audit_model.specs.declared.config.Config.{Config}
use Rattle.audit_model.specs.Recency.{recency_after}
use Rattle.audit_model.specs.declared.command.Command.{Command}
use Rattle.audit_model.specs.declared.command.Command.TheVariants as says
use Rattle.cache_commands.specs.Recency.{IsPlainLru}

-- What is known of the keys held: exactly these, since the last line was a `SYNC`, or none ran yet; exactly these once a `SYNC` runs next;
-- or nothing.
pub data Order : Type 0 where
  Settled : (keys : List (List ℕ)) → Order
  Used : (keys : List (List ℕ)) → Order
  Unknown : Order

-- a command of a recency list ran, over this many places
abbrev pub used_by : ℕ → Command → Order → Order
used_by n command (Settled keys) = Used (recency_after n keys command)
used_by n command order = Unknown

-- a `SYNC` ran
abbrev pub settled : Order → Order
settled (Settled keys) = Settled keys
settled (Used keys) = Settled keys
settled Unknown = Unknown

-- A line ran, over this many places. If a `SYNC` ran last, a `SET`, `GET`, `HAS`, `DEL` or `KEYS` changes the list; a `SYNC` settles it.
-- After any other line nothing is known.
abbrev pub order_by : ℕ → Reading → Order → Order
order_by n (Ok (says.Set key ms value)) order = used_by n (says.Set key ms value) order
order_by n (Ok (says.Get key)) order = used_by n (says.Get key) order
order_by n (Ok (says.Has key)) order = used_by n (says.Has key) order
order_by n (Ok (says.Del key)) order = used_by n (says.Del key) order
order_by n (Ok says.Keys) order = used_by n says.Keys order
order_by n (Ok says.Sync) order = settled order
order_by n reading order = Unknown

-- the keys in their order of use, of which the first ones stay at a `SYNC`
pub record IsUsed (Recency : Bool → List (List ℕ) → Type 0) (number : ℕ) (keys : List (List ℕ)) :
    Type 0 where
  pub settled : Bool
  pub all : List (List ℕ)
  pub recency : Recency settled all
  pub cut : keys ≡ take (suc number) all

-- a store's order of use, over `suc number` places, agrees with what is known
abbrev pub AgreesWith : (Bool → List (List ℕ) → Type 0) → ℕ → Order → Type 0
AgreesWith Recency number (Settled keys) = Recency true keys × (length keys ≤ suc number)
AgreesWith Recency number (Used keys) = IsUsed Recency number keys
AgreesWith Recency number Unknown = Unit {0}

-- it agrees again after a line has run
pub record MovesOrder (config : Config) (Old New : Bool → List (List ℕ) → Type 0)
    (reading : Reading) : Type 0 where
  pub moves : (number : ℕ) (order : Order) → IsPlainLru config number → AgreesWith Old number order
      → AgreesWith New number (order_by (suc number) reading order)
