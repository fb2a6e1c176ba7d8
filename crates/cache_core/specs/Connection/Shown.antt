-- A connection in terms of the definitions.
use Rattle.std.specs.Prelude.{ℕ, ◌++◌, List}
use Rattle.audit_model.specs.Situation.{HeldValue, Situation}
use Rattle.audit_model.specs.Situation as model
use Rattle.cache_core.specs.Connection.Parts.{put_parts, standing_as}
use Rattle.cache_core.specs.declared.connection.connection.Connection.{Connection}

-- the connection in terms of the definitions
abbrev pub shown_connection : ℕ → Connection → model.Connection
shown_connection number c = standing_as number c.standing c.waited c.unread.bytes

-- the situation, with these values held and this connection as it is now
abbrev pub put_in : Situation → List HeldValue → ℕ → Connection → Situation
put_in base values number c =
    put_parts base values number c.closing c.standing c.waited c.unread.bytes

-- the connection with one more piece
abbrev pub with_piece : List ℕ → model.Connection → model.Connection
with_piece piece c = record c { unread = c.unread ++ piece }
