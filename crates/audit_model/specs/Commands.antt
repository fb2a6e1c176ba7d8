-- What a step's command does.
use Rattle.std.specs.Prelude.{ℕ, Bool, true, false, nat_eq, List, Option, Some, None, codes, if◌then◌else◌}
use Rattle.std.specs.List.{starts_with}
use Rattle.std.specs.Option.{option_map_or}
use Rattle.audit_model.specs.Bytewise.{same, text_line}
use Rattle.audit_model.specs.History.{Action, Running, Effect, Happening, Value, effect_of}
use Rattle.audit_model.specs.declared.command.Command.TheVariants as says

-- which keys a step covers
pub data Covering : Type 0 where
  Nothing : Covering
  Everything : Covering
  Prefixed : (prefix : List ℕ) → Covering

-- what a step does to values: it looks a key up, accepts a value, deletes the value of a key, covers some values, or runs all parts
pub record Deed : Type 0 where
  pub uses : Option (List ℕ)
  pub value : Option Value
  pub deletes : Option (List ℕ)
  pub covers : Covering
  pub syncs : Bool

-- there is a key, and it is this one
abbrev pub is_this : List ℕ → Option (List ℕ) → Bool
is_this key None = false
is_this key (Some k) = same k key

-- `GET`, `LOAD` and `ADD` look their key up
abbrev pub key_used : Action → Option (List ℕ)
key_used (Running (says.Get key)) = Some key
key_used (Running (says.Load key)) = Some key
key_used (Running (says.Add key ms number)) = Some key
key_used action = None

-- a `DEL` deletes the value of its key
abbrev pub key_deleted : Action → Option (List ℕ)
key_deleted (Running (says.Del key)) = Some key
key_deleted action = None

-- the reply is `OK`
abbrev pub replies_ok : Effect → Bool
replies_ok effect = option_map_or (λ reply. same reply (text_line (codes "OK"))) effect.reply false

-- a `CLEAR` covers every key, and a `DROPIF` that is accepted covers those with its prefix
abbrev pub covering_of : Effect → Covering
covering_of effect = go effect.action
  where
    go : Action → Covering
    go (Running says.Clear) = Everything
    go (Running (says.DropIf prefix)) = if replies_ok effect then Prefixed prefix else Nothing
    go action = Nothing

-- it is a `SYNC`
abbrev pub is_sync : Action → Bool
is_sync (Running says.Sync) = true
is_sync action = false

-- what the step does to values
abbrev pub deed_of : Effect → Deed
deed_of effect =
    record {
      uses = key_used effect.action;
      value = effect.value;
      deletes = key_deleted effect.action;
      covers = covering_of effect;
      syncs = is_sync effect.action;
    }

-- the key is covered
abbrev pub covers_key : List ℕ → Covering → Bool
covers_key key Nothing = false
covers_key key Everything = true
covers_key key (Prefixed prefix) = starts_with nat_eq key prefix

-- the step looks this key up
abbrev pub looks_up : List ℕ → Effect → Bool
looks_up key effect = is_this key (key_used effect.action)

-- the step deletes this key's value
abbrev pub deletes : List ℕ → Effect → Bool
deletes key effect = is_this key (key_deleted effect.action)

-- the step covers this key
abbrev pub covers : List ℕ → Effect → Bool
covers key effect = covers_key key (covering_of effect)

-- the step runs all parts
abbrev pub syncs : Effect → Bool
syncs effect = is_sync effect.action

-- a `DROPIF` that is accepted
abbrev pub drops : Effect → Bool
drops effect = go effect.action
  where
    go : Action → Bool
    go (Running (says.DropIf prefix)) = replies_ok effect
    go action = false

-- it is a `QUIT`
abbrev pub quits : Effect → Bool
quits effect = go effect.action
  where
    go : Action → Bool
    go (Running says.Quit) = true
    go action = false

-- it is a step of which this is true
abbrev pub is_step_that : (Effect → Bool) → Happening → Bool
is_step_that test h = option_map_or test (effect_of h) false
