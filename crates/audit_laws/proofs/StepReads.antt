-- What a step's happening is read as.
use Rattle.std.proofs.Common.{◌≡◌, refl, ℕ, List, ◌∷◌, ◌++◌, Some}
use Rattle.std.specs.Option.{option_to_list}
use Rattle.audit_model.specs.History.{History, Happening, Stored, Ran, Effect, effect_of, value_of}
use Rattle.audit_model.specs.Commands.{looks_up, covers, drops, deletes, syncs, is_step_that}
use Rattle.audit_model.specs.Values.{moment_of, held_values, untold}
use Rattle.audit_model.specs.Seen.{step_tells_size}
use Rattle.audit_model.specs.Notes.{tells_size}

pub record Reads (h : Happening) (effect : Effect) : Type 0 where
  pub effects : effect_of h ≡ Some effect
  pub value : value_of h ≡ effect.value
  pub moment : moment_of h ≡ effect.at
  pub tells : (part : ℕ) (past : History) → step_tells_size part h past ≡ tells_size part (held_values past ++ option_to_list effect.value) effect.notes
  pub held : (past : History) → held_values (h ∷ past) ≡ untold (λ v. v.key) effect.notes (held_values past ++ option_to_list effect.value)
  pub looks : (key : List ℕ) → is_step_that (looks_up key) h ≡ looks_up key effect
  pub covers : (key : List ℕ) → is_step_that (covers key) h ≡ covers key effect
  pub deleted : (key : List ℕ) → is_step_that (deletes key) h ≡ deletes key effect
  pub synced : is_step_that syncs h ≡ syncs effect
  pub dropped : is_step_that drops h ≡ drops effect

pub reads-ran : (conn : ℕ) (effect : Effect) → Reads (Ran conn effect) effect
reads-ran conn effect =
    record { effects = refl; value = refl; moment = refl; tells = λ part past. refl; held = λ past. refl; looks = λ key. refl; covers = λ key. refl; deleted = λ key. refl; synced = refl; dropped = refl }

pub reads-stored : (effect : Effect) → Reads (Stored effect) effect
reads-stored effect =
    record { effects = refl; value = refl; moment = refl; tells = λ part past. refl; held = λ past. refl; looks = λ key. refl; covers = λ key. refl; deleted = λ key. refl; synced = refl; dropped = refl }
