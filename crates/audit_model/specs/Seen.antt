-- What a step sees of the whole history before it.
use Rattle.std.specs.Prelude.{ℕ, Bool, false, not, ◌&&◌, ◌||◌, List, [], ◌∷◌, ◌++◌, map}
use Rattle.std.specs.List.{list_any}
use Rattle.std.specs.Option.{option_to_list}
use Rattle.audit_model.specs.Commands.{drops, syncs, is_step_that}
use Rattle.audit_model.specs.History.{History, Happening, Value}
use Rattle.audit_model.specs.Values.{accepts, deadline, deadline_has_come, last_use, is_key_covered, held_values, live_value, live_keys}
use Rattle.audit_model.specs.Loads.{load_of_key, next_load}
use Rattle.audit_model.specs.View.{View, Candidate}
use Rattle.audit_model.specs.Notes.{is_over, tells_size}
use Rattle.audit_model.specs.declared.config.Config.{Config}

-- it is a step that reported a value of the part as `Size`
abbrev pub step_tells_size : ℕ → Happening → History → Bool
step_tells_size part h past =
    is_step_that
    (λ effect. tells_size part (held_values past ++ option_to_list effect.value) effect.notes) h

-- the part exceeded its share at the end of an earlier step, one that is not before the key's last acceptance, nor before the part's last
-- `SYNC` or last step that reported one of its values as `Size`
abbrev pub was_over : Config → List ℕ → ℕ → History → Bool
was_over config key part [] = false
was_over config key part (h ∷ past) =
    is_over config part (held_values (h ∷ past))
    || (not (accepts key h) && not (is_step_that syncs h) && not (step_tells_size part h past)
    && was_over config key part past)

-- a held value, with what the history says of it at this moment
abbrev pub candidate_of : Config → History → ℕ → Value → Candidate
candidate_of config past now value =
    record {
      value = value;
      dead = deadline_has_come (deadline config value (last_use config value.key past)) now;
      covered = is_key_covered value.key past;
      evictable = was_over config value.key value.part past;
      new = false;
    }

-- a `DROPIF` was accepted
abbrev pub has_dropped : History → Bool
has_dropped past = list_any (is_step_that drops) past

-- what a step at this moment sees after this history
abbrev pub view_of : Config → History → ℕ → View
view_of config past now =
    record {
      now = now;
      live = λ key. live_value config key past now;
      live_keys = live_keys config past now;
      load_of_key = λ key. load_of_key key past;
      next_load = next_load past;
      dropped = has_dropped past;
      held = map (candidate_of config past now) (held_values past);
    }
