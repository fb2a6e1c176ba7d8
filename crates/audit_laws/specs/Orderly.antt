-- What holds for the values held in each situation that records lead to.
use Rattle.std.specs.Prelude.{Bool, true, false, not, ◌||◌, List, map, None, IsTrue}
use Rattle.std.specs.List.{list_all, IsDistinct}
use Rattle.audit_model.specs.Bytewise.{same}
use Rattle.audit_model.specs.Commands.{Deed, Nothing}
use Rattle.audit_model.specs.History.{Action, Running}
use Rattle.audit_model.specs.Notes.{is_over}
use Rattle.audit_model.specs.Situation.{HeldValue}
use Rattle.audit_model.specs.declared.command.Command.TheVariants as says
use Rattle.audit_model.specs.declared.config.Config.{Config}

-- each held value of a part that exceeds its share is evictable, and no two held values have the same key
pub record IsOrderly (config : Config) (held : List HeldValue) : Type 0 where
  pub marked : IsTrue (list_all
      (λ h. not (is_over config h.value.part (map (λ k. k.value) held)) || h.evictable) held)
  pub distinct : IsDistinct same (map (λ h. h.value.key) held)

-- it does nothing to values
abbrev pub idle_deed : Deed
idle_deed = record { uses = None; value = None; deletes = None; covers = Nothing; syncs = false }

-- `HAS` and `KEYS`
abbrev pub is_asking : Action → Bool
is_asking (Running (says.Has key)) = true
is_asking (Running says.Keys) = true
is_asking action = false
