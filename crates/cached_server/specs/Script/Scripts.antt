-- A script that was served to its end.
use Rattle.std.specs.Prelude.{◌≡◌, ◌==◌, ℕ, Bool, true, false, List, [], Option, None, Some, IsTrue}
use Rattle.std.specs.Io.KnownBytes.{Appends, Consumes, IsAtEnd}
use Rattle.std.specs.List.{flat_map, list_all}
use Rattle.audit_model.specs.Belongs.{IsAdmitted}
use Rattle.audit_model.specs.Follows.{after_records}
use Rattle.audit_model.specs.Obeys.{Obeys}
use Rattle.audit_model.specs.Situation.{Situation, connection_in, empty_situation}
use Rattle.audit_model.specs.declared.config.Config.{Config}
use Rattle.audit_model.specs.declared.config.EvictionPolicy.TheVariants.{Lru}
use Rattle.audit_model.specs.declared.config.Weight.TheVariants.{One}
use Rattle.audit_model.specs.declared.transcript.Transcript.{Transcript}
use Rattle.cache_run.specs.Devices.Watched.{device}
use Rattle.cache_run.specs.declared.devices.watched.Watched.{Watched}
use Rattle.cache_run.specs.Worlds.{records_of}
use Rattle.cache_run.specs.Happened.{HostTurn, moment_in, turn_notes, piece_in, replies_in}
use Rattle.cached_server.specs.Script.Notes.{notes_text}

-- the namespace of a script: without limits
abbrev pub script_config : Config
script_config =
    record {
      capacity = None;
      policy = Lru;
      parts = 1;
      weight = One;
      live_ms = None;
      idle_ms = None;
      own_deadlines = false;
    }

-- one connection that opens, has these turns, and closes or not, at moment 0
abbrev pub script_transcript : List HostTurn → Bool → Transcript
script_transcript turns closes =
    record { made = record { nanos = 0 }; records = records_of 1 true turns closes [] }

-- after these turns the connection is no longer open: what it was fed closed it
abbrev pub HasClosedBehind : List HostTurn → Type 0
HasClosedBehind turns =
    (s : Situation) → after_records script_config (empty_situation 0)
    (script_transcript turns false).records ≡ Some s → connection_in 1 s ≡ None

-- it closes at the end of the input, unless it closed before
abbrev pub EndsScript : Bool → List HostTurn → Option (List ℕ) → Type 0
EndsScript true turns rest = IsAtEnd rest
EndsScript false turns rest = HasClosedBehind turns

-- The bytes read are the pieces of a transcript that obeys, all at moment 0; its replies were written, and then its notes reported. Either
-- the input came to its end, and the connection was closed then, or a line had closed it, as a `QUIT` does.
pub record ServesScript (input rest output written errors told : Option (List ℕ)) : Type 0 where
  pub turns : List HostTurn
  pub closes : Bool
  pub obeys : Obeys script_config (script_transcript turns closes)
  pub admitted : IsAdmitted script_config (script_transcript turns closes)
  pub still : IsTrue (list_all (λ turn. moment_in turn == 0) turns)
  pub read : Consumes input rest (flat_map piece_in turns)
  pub ends : EndsScript closes turns rest
  pub wrote : Appends output written (flat_map (replies_in 1) turns)
  pub notes : Appends errors told (notes_text (flat_map (turn_notes 1) turns))

-- this happened to a reader, a writer, and a stream of notes
abbrev pub ServesStreams : {R W E : Type 0} → (R → Option (List ℕ)) → (W → Option (List ℕ))
    → (E → Option (List ℕ)) → Watched R → Watched R → Watched W → Watched W → Watched E → Watched E
    → Type 0
ServesStreams remaining contents told reader reader' writer writer' errors errors' =
    ServesScript (remaining (device reader)) (remaining (device reader')) (contents (device writer))
    (contents (device writer')) (told (device errors)) (told (device errors'))
