-- What a call of a store does to the values held, and which of them it reports.
use Rattle.std.specs.Prelude.{◌≡◌, ℕ, Bool, true, false, List, map, Option, Some, None, IsTrue}
use Rattle.audit_model.specs.Changes.{all_held_after}
use Rattle.audit_model.specs.Commands.{Deed, Covering, Nothing}
use Rattle.audit_model.specs.History.{Value, weight_of}
use Rattle.audit_model.specs.Notes.{are_true_notes, candidates_of}
use Rattle.audit_model.specs.Situation.{HeldValue, candidate_at}
use Rattle.audit_model.specs.Values.{own_deadline_from}
use Rattle.audit_model.specs.declared.config.Config.{Config}
use Rattle.audit_model.specs.declared.transcript.Note.{Note}

-- the configuration of a store and the moment of its creation, whether a `DROPIF` was accepted, and the latest moment passed in
pub record Frame : Type 0 where
  pub config : Config
  pub part_of : List ℕ → ℕ
  pub made : ℕ
  pub dropped : Bool
  pub latest : ℕ

-- ---- deeds

abbrev pub no_deed : Deed
no_deed = record { uses = None; value = None; deletes = None; covers = Nothing; syncs = false }

-- a key is looked up
abbrev pub using : List ℕ → Deed
using key = record no_deed { uses = Some key }

-- a value is accepted; the same step looked that key up before, or looked nothing up
abbrev pub accepting : Option (List ℕ) → Value → Deed
accepting used value = record no_deed { uses = used; value = Some value }

-- the value of the key is deleted
abbrev pub deleting : List ℕ → Deed
deleting key = record no_deed { deletes = Some key }

-- these keys are covered
abbrev pub covering : Covering → Deed
covering which = record no_deed { covers = which }

-- all parts run
abbrev pub syncing : Deed
syncing = record no_deed { syncs = true }

-- the value that is accepted for a key and bytes
abbrev pub value_for : Frame → ℕ → List ℕ → List ℕ → Option ℕ → Value
value_for frame now key bytes ms =
    record {
      key = key;
      bytes = bytes;
      part = frame.part_of key;
      weight = weight_of frame.config.weight bytes;
      accepted_at = now;
      own_deadline = own_deadline_from now ms;
    }

-- ---- what a call does

-- If these values were held, the call reported some with true causes, left the others as the deed leaves them, and passed its notes on.
pub record Done (config : Config) (now : ℕ) (deed : Deed) (held : List HeldValue)
    (Stands : List HeldValue → Type 0) (Handed : List Note → Type 0) : Type 0 where
  pub told : List Note
  pub right : IsTrue (are_true_notes config (map (candidate_at config now) held) deed
      (candidates_of config (map (candidate_at config now) held) deed) told)
  pub left : Stands (all_held_after config now held deed told)
  pub handed : Handed told
