-- What has happened to a namespace, newest first. "Earlier" is further down the list.
use Rattle.std.specs.Prelude.{ℕ, zero, ◌+◌, ◌-◌, ◌/◌, max, Bool, true, false, nat_le, List, [], ◌∷◌, length, Option, Some, None}
use Rattle.std.specs.List.{find}
use Rattle.audit_model.specs.declared.config.Config.{Config}
use Rattle.audit_model.specs.declared.config.Weight.{Weight}
use Rattle.audit_model.specs.declared.config.Weight.TheVariants.{One, Bytes}
use Rattle.audit_model.specs.declared.command.Command.{Command}
use Rattle.audit_model.specs.declared.command.LineError.{LineError}
use Rattle.audit_model.specs.declared.event.Outcome.{Outcome}
use Rattle.audit_model.specs.declared.transcript.Note.{Note}

-- a value that was accepted; its own deadline is a moment
pub record Value : Type 0 where
  pub key : List ℕ
  pub bytes : List ℕ
  pub part : ℕ
  pub weight : ℕ
  pub accepted_at : ℕ
  pub own_deadline : Option ℕ

-- what a step does: it runs a command; replies to a line that cannot be read; holds a command back for lack of memory; delivers an outcome
-- to a waiting `LOAD`; abandons a `LOAD`; or, as the first step of an answer, stores the outcome under the load's key
pub data Action : Type 0 where
  Running : Command → Action
  Faulting : LineError → Action
  Holding : Action
  Delivering : Outcome → Action
  Abandoning : Action
  Storing : Option (List ℕ) → Outcome → Action

-- a step, with the moment at which it ran and the value that it accepted
pub record Effect : Type 0 where
  pub at : ℕ
  pub action : Action
  pub reply : Option (List ℕ)
  pub load : Option ℕ
  pub value : Option Value
  pub notes : List Note

-- a load is settled by an answer or a give-up; the step that stores an answer belongs to no connection
pub data Happening : Type 0 where
  Opened : ℕ → Happening
  Closed : ℕ → Happening
  Fed : (conn : ℕ) (piece : List ℕ) (moment : ℕ) → Happening
  Settled : (load : ℕ) (moment : ℕ) → Happening
  Stored : Effect → Happening
  Ran : (conn : ℕ) → Effect → Happening

-- all that happened, newest first
abbrev pub History : Type 0
History = List Happening

-- the latest of the moment of creation and of all moments passed in so far
abbrev pub latest_moment : ℕ → History → ℕ
latest_moment made [] = made
latest_moment made (Fed conn piece moment ∷ past) = max moment (latest_moment made past)
latest_moment made (Settled load moment ∷ past) = max moment (latest_moment made past)
latest_moment made (h ∷ past) = latest_moment made past

-- the step, if it is one
abbrev pub effect_of : Happening → Option Effect
effect_of (Stored effect) = Some effect
effect_of (Ran conn effect) = Some effect
effect_of h = None

-- the value that it accepted
abbrev pub value_of : Happening → Option Value
value_of (Stored effect) = effect.value
value_of (Ran conn effect) = effect.value
value_of h = None

-- the number of parts: the next power of two
abbrev pub part_count : Config → ℕ
part_count config = go (find (λ p. nat_le config.parts p) (1 ∷ 2 ∷ 4 ∷ 8 ∷ 16 ∷ 32 ∷ 64 ∷ 128 ∷ []))
  where
    go : Option ℕ → ℕ
    go None = 256
    go (Some p) = p

-- a part's share of the capacity, rounded up
abbrev pub share : Config → ℕ → ℕ
share config capacity = (capacity + (part_count config - 1)) / part_count config

-- what a value of those bytes weighs
abbrev pub weight_of : Weight → List ℕ → ℕ
weight_of One bytes = 1
weight_of Bytes bytes = length bytes

-- the capacity is not 0
abbrev pub accepts_values : Option ℕ → Bool
accepts_values None = true
accepts_values (Some zero) = false
accepts_values (Some n) = true
