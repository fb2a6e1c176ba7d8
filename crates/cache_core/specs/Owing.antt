-- What a connection of a namespace is owed, and what is left when it is moved out.
use Rattle.std.specs.Prelude.{◌≡◌, ℕ, ◌-◌, Bool, List, [], Option, None, Some, is_some, IsTrue, slice_set}
use Rattle.std.specs.Option.{option_map}
use Rattle.audit_model.specs.declared.input.LoadId.{LoadId}
use Rattle.cache_commands.specs.Loads.Keys.{are_in_turn, have_their_keys}
use Rattle.cache_commands.specs.Values.{Values}
use Rattle.cache_core.specs.State.{NamespaceState, closing_in, loads_taken_of, output_in, situation_with}
use Rattle.cache_core.specs.Turned.{is_waiting_in}
use Rattle.cache_core.specs.declared.connection.taking.Taken.{Taken}
use Rattle.cache_core.specs.declared.owing.Owed.{Owed}

module _ {S T : Type 0} where
  -- the namespace without the replies of this connection
  abbrev pub without_output : ℕ → NamespaceState S T → NamespaceState S T
  without_output number n = record n { outputs = slice_set n.outputs (number - 1) [] }

  -- the loads that were not taken were moved out: they are the namespace's in order, each with its key
  pub record GivesSentLoads (was is : NamespaceState S T) (loads : List (LoadId × List ℕ)) : Type 0 where
    pub taken : loads ≡ was.outgoing
    pub rest : is ≡ record was { outgoing = [] }
    pub in_turn : IsTrue (are_in_turn was.namespace (loads_taken_of was) loads)
    pub keys : IsTrue (have_their_keys was.pending loads)

  -- they were, or no loads are given and nothing has changed
  abbrev pub GivesWanted : NamespaceState S T → NamespaceState S T → Option (List (LoadId × List ℕ)) → Type 0
  GivesWanted was is None = is ≡ was
  GivesWanted was is (Some loads) = GivesSentLoads was is loads

  -- what a connection is owed itself was moved out: all its replies; and why it is closed and whether it waits is told
  pub record GivesOwn (view : S → Values) (was is : NamespaceState S T) (number : ℕ) (taken : Taken) :
      Type 0 where
    pub replies : taken.replies.items ≡ output_in was number
    pub closing : taken.closing ≡ closing_in was number
    pub waits : taken.waits ≡ is_waiting_in (situation_with view was []) number
    pub rest : is ≡ without_output number was

  -- What a connection is owed was moved out: all its replies, and then the loads that were not taken, if they are requested; and why it is
  -- closed and whether it waits is told.
  pub record GivesOwed (view : S → Values) (was is : NamespaceState S T) (number : ℕ) (wants_loads : Bool)
      (owed : Owed) : Type 0 where
    pub replies : option_map (λ text. text.items) owed.replies ≡ Some (output_in was number)
    pub wanted : is_some owed.loads ≡ wants_loads
    pub loads : GivesWanted (without_output number was) is
        (option_map (λ loads. loads.items) owed.loads)
    pub closing : owed.closing ≡ closing_in was number
    pub waits : owed.waits ≡ is_waiting_in (situation_with view was []) number
