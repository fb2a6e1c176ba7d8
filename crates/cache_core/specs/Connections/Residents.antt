-- How the connections that are not gone are stored in an array, and what the word for a place says.
use Rattle.std.specs.Prelude.{◌≡◌, ℕ, zero, suc, ◌-◌, ◌<◌, ◌≤◌, nat_lt, List, map, length, Option, Some, None, if◌then◌else◌}
use Rattle.std.specs.List.{slice_get}
use Rattle.audit_model.specs.declared.command.Closing.{Closing}
use Rattle.audit_model.specs.declared.command.Closing.TheVariants as by
use Rattle.cache_core.specs.declared.connection.connection.Connection.{Connection}
use Rattle.cache_core.specs.Connections.Presence.{Gone, Here, Out, Presence}
use Rattle.cache_core.specs.declared.connections.residents.Resident.{Resident}

-- words from this one on say why a connection closed; those below are indices
abbrev pub first_reason : ℕ
first_reason = 4294967280

-- the reason with a number
abbrev pub reason_numbered : ℕ → Closing
reason_numbered zero = by.Asked
reason_numbered (suc zero) = by.Quit
reason_numbered (suc (suc zero)) = by.Long
reason_numbered (suc (suc (suc number))) = by.Behind

-- the word for a reason
abbrev pub reason_word : Closing → ℕ
reason_word by.Asked = 4294967280
reason_word by.Quit = 4294967281
reason_word by.Long = 4294967282
reason_word by.Behind = 4294967283

-- it is there, or out
abbrev pub held_or_out : Option Connection → Presence
held_or_out (Some c) = Here c
held_or_out None = Out

-- what is at an index of the array
abbrev pub presence_held : Option Resident → Presence
presence_held (Some r) = held_or_out r.connection
presence_held None = Out

-- what a word says
abbrev pub presence_by : List Resident → ℕ → Presence
presence_by residents word =
    if nat_lt word first_reason then presence_held (slice_get residents word)
    else Gone (reason_numbered (word - first_reason))

-- what the words say
abbrev pub presences_of : List Resident → List ℕ → List Presence
presences_of residents words = map (presence_by residents) words

-- the places of the residents
abbrev pub places_of : List Resident → List ℕ
places_of residents = map (λ r. r.place) residents

-- each index that a place has as its word is that of the resident of this place, and the place of each resident has its index as its word
pub record AreMatched (places words : List ℕ) : Type 0 where
  pub few : length places ≤ first_reason
  pub owned : (place word : ℕ) → slice_get words place ≡ Some word → word < first_reason
      → slice_get places word ≡ Some place
  pub placed : (index place : ℕ) → slice_get places index ≡ Some place
      → slice_get words place ≡ Some index

-- the residents and the words match
abbrev pub AreSettled : List Resident → List ℕ → Type 0
AreSettled residents words = AreMatched (places_of residents) words
