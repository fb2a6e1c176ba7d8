-- A recording service under the lock, and one that keeps no journal.
use Rattle.std.specs.Prelude.{ℕ, List, [], map}
use Rattle.std.specs.List.{slice_get}
use Rattle.std.specs.Option.{option_map_or}
use Rattle.audit_model.specs.declared.input.Conn.{Conn}
use Rattle.audit_model.specs.declared.transcript.Note.{Note}
use Rattle.audit_model.specs.declared.transcript.Transcript.{Transcript}
use Rattle.cache_spaces.specs.Journals.{journals_of, kept_by}
use Rattle.cache_spaces.specs.Recorded.{Recorded}
use Rattle.cache_spaces.specs.Services.{BareSpace, bare_tape}
use Rattle.cache_spaces.specs.Spaces.{Shown, untaken_notes, shown_space, untaken_output}

-- its namespaces, as they look whatever their tapes are
abbrev pub bare_spaces : List BareSpace → List Shown
bare_spaces spaces = map (shown_space bare_tape) spaces

-- it has no journals
abbrev pub no_journals : List BareSpace → List Transcript
no_journals spaces = []

-- what can be seen of the namespace with a number; nothing if there is none
abbrev pub seen_in : {X : Type 0} → (BareSpace → List X) → List BareSpace → ℕ → List X
seen_in of spaces namespace = option_map_or of (slice_get spaces namespace) []

-- the reply bytes of a connection that were not taken
abbrev pub untaken_of : List BareSpace → Conn → List ℕ
untaken_of spaces conn = seen_in (λ space. untaken_output space conn.number) spaces conn.namespace

-- the notes of a namespace that were reported and not taken
abbrev pub untold_of : List BareSpace → ℕ → List Note
untold_of spaces namespace = seen_in untaken_notes spaces namespace

-- A recording service under the lock.

-- its namespaces, as they look whatever their tapes are
abbrev pub spaces_in : Recorded → List Shown
spaces_in recorded = map (shown_space kept_by) recorded.spaces

abbrev pub journals_in : Recorded → List Transcript
journals_in recorded = journals_of recorded.spaces
