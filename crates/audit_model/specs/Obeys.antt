-- Which transcripts obey.
use Rattle.std.specs.Prelude.{ℕ, suc, Bool, true, not, ◌&&◌, ◌||◌, ◌==◌, List, [], ◌∷◌, is_none, is_some, IsTrue}
use Rattle.std.specs.List.{list_all, filter_map}
use Rattle.audit_model.specs.Bytewise.{same, is_empty}
use Rattle.audit_model.specs.History.{Value}
use Rattle.audit_model.specs.Stream.{opened_count}
use Rattle.audit_model.specs.Steps.{PlacedStep, is_right, is_in_turn, is_held_rightly, has_right_line, has_right_reply, has_right_load, has_right_acceptance, has_right_notes, is_quiet_where_silent, keeps_shares}
use Rattle.audit_model.specs.Places.{PlacedRecord, placed_records, placed_steps}
use Rattle.audit_model.specs.declared.config.Config.{Config}
use Rattle.audit_model.specs.declared.event.Event.{Event}
use Rattle.audit_model.specs.declared.event.Event.TheVariants as event
use Rattle.audit_model.specs.declared.transcript.Record.{Record}
use Rattle.audit_model.specs.declared.transcript.Transcript.{Transcript}

-- an opened connection has the next number
abbrev pub is_numbered : ℕ → Event → Bool
is_numbered opened (event.Open conn) = conn == suc opened
is_numbered opened other = true

-- if it opens a connection, that has the next number
abbrev pub has_right_number : PlacedRecord → Bool
has_right_number placed = is_numbered (opened_count placed.before) placed.entry.event

-- a record ends when nothing more is due
abbrev pub is_finished : PlacedRecord → Bool
is_finished placed = is_empty placed.walked.left

-- only an answer has a value of its own, and it has notes of its own only together with that value
abbrev pub has_right_own_value : Record → Bool
has_right_own_value entry = go entry.event
  where
    go : Event → Bool
    go (event.Answer load outcome moment) = is_some entry.own || is_empty entry.notices
    go other = is_none entry.own && is_empty entry.notices

-- all values accepted in these steps
abbrev pub accepted_values : List PlacedStep → List Value
accepted_values steps = filter_map (λ placed. placed.effect.value) steps

-- each key has one part
abbrev pub agree_on_parts : List Value → Bool
agree_on_parts [] = true
agree_on_parts (v ∷ vs) =
    list_all (λ w. not (same v.key w.key) || (v.part == w.part)) vs && agree_on_parts vs

-- each record and each step of the transcript is right
pub record Obeys (config : Config) (transcript : Transcript) : Type 0 where
  pub numbered : IsTrue (list_all has_right_number (placed_records config transcript))
  pub finished : IsTrue (list_all is_finished (placed_records config transcript))
  pub owned : IsTrue
      (list_all (λ placed. has_right_own_value placed.entry) (placed_records config transcript))
  pub in_turn : IsTrue (list_all is_in_turn (placed_steps config transcript))
  pub held : IsTrue (list_all is_held_rightly (placed_steps config transcript))
  pub lines : IsTrue (list_all has_right_line (placed_steps config transcript))
  pub replies : IsTrue (list_all (has_right_reply config) (placed_steps config transcript))
  pub loads : IsTrue (list_all has_right_load (placed_steps config transcript))
  pub accepted : IsTrue (list_all (has_right_acceptance config) (placed_steps config transcript))
  pub told : IsTrue (list_all (has_right_notes config) (placed_steps config transcript))
  pub silent : IsTrue (list_all is_quiet_where_silent (placed_steps config transcript))
  pub within : IsTrue (list_all (keeps_shares config) (placed_steps config transcript))
  pub parts : IsTrue (agree_on_parts (accepted_values (placed_steps config transcript)))

-- the same as one test, except for the parts of keys
abbrev pub is_right_record : Config → PlacedRecord → Bool
is_right_record config placed =
    has_right_number placed && is_finished placed && has_right_own_value placed.entry
    && list_all (is_right config) placed.walked.placed_steps

-- the transcript obeys, as one test
abbrev pub is_obeying : Config → Transcript → Bool
is_obeying config transcript =
    list_all (is_right_record config) (placed_records config transcript)
    && agree_on_parts (accepted_values (placed_steps config transcript))
