-- What is left of each connection that was opened.
use Rattle.std.specs.Prelude.{ℕ, zero, suc, Bool, true, false, List, [], ◌∷◌, Option, Some, None, if◌then◌else◌, is_none}
use Rattle.std.specs.List.{slice_get}
use Rattle.std.specs.Option.{option_map_or}
use Rattle.audit_model.specs.declared.command.Closing.{Closing}
use Rattle.audit_model.specs.Situation as model
use Rattle.audit_model.specs.declared.command.Closing.TheVariants as by
use Rattle.cache_core.specs.Connection.Shown.{shown_connection}
use Rattle.cache_core.specs.declared.connection.connection.Connection.{Connection}

-- A connection that was opened is here, open or closed with replies that were not taken; or out for a moment; or gone, closed for this
-- reason and without replies.
pub data Presence : Type 0 where
  Here : (connection : Connection) → Presence
  Out : Presence
  Gone : (why : Closing) → Presence

-- there is one at the place, and it is here
abbrev pub is_here : Option Presence → Bool
is_here (Some (Here c)) = true
is_here (Some Out) = false
is_here (Some (Gone why)) = false
is_here None = false

-- why it has closed, if it has
abbrev pub closing_of_presence : Presence → Option Closing
closing_of_presence (Here c) = c.closing
closing_of_presence Out = Some by.Asked
closing_of_presence (Gone why) = Some why

-- its replies that were not taken
abbrev pub reply_text_of : Presence → List ℕ
reply_text_of (Here c) = c.output.text.items
reply_text_of Out = []
reply_text_of (Gone why) = []

-- why the connection at a place has closed, if it has
abbrev pub closing_at : List Presence → ℕ → Option Closing
closing_at presences index = option_map_or closing_of_presence (slice_get presences index) None

-- the replies of the connection at a place that were not taken
abbrev pub text_at : List Presence → ℕ → List ℕ
text_at presences index = option_map_or reply_text_of (slice_get presences index) []

-- the connection that closed for this and has this text left; gone if it is closed and there is no text
abbrev pub gone_if : Option Closing → List ℕ → Connection → Presence
gone_if None text c = Here c
gone_if (Some why) [] c = Gone why
gone_if (Some why) (byte ∷ text) c = Here c

-- if it is closed and has no replies, it is gone
abbrev pub retired : Presence → Presence
retired (Here c) = gone_if c.closing c.output.text.items c
retired Out = Out
retired (Gone why) = Gone why

-- the connection at a place is retired
abbrev pub retired_at : List Presence → ℕ → List Presence
retired_at [] index = []
retired_at (p ∷ ps) zero = retired p ∷ ps
retired_at (p ∷ ps) (suc index) = p ∷ retired_at ps index

-- the open connections, numbered from n
abbrev pub open_from : ℕ → List Presence → List model.Connection
open_from n [] = []
open_from n (Here c ∷ ps) =
    if is_none c.closing then shown_connection n c ∷ open_from (suc n) ps else open_from (suc n) ps
open_from n (Out ∷ ps) = open_from (suc n) ps
open_from n (Gone why ∷ ps) = open_from (suc n) ps
