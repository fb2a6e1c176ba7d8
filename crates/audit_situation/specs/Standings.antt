-- The state of a connection, and how a step leaves it.
use Rattle.std.specs.Prelude.{ℕ, ◌+◌, ◌++◌, Bool, not, ◌&&◌, List, Option, Some, None, if◌then◌else◌}
use Rattle.audit_model.specs.Situation.{Standing, Ready, Held, Waiting, Connection}
use Rattle.audit_model.specs.Stream.{behind_lines}
use Rattle.audit_situation.specs.declared.link.LinkStanding.{LinkStanding as Stands}
use Rattle.audit_situation.specs.declared.link.LinkStanding.TheVariants as stands
use Rattle.audit_situation.specs.declared.link.Moving.{Moving}

-- the same in terms of the definitions
abbrev pub shown_standing : Stands → Standing
shown_standing stands.Ready = Ready
shown_standing (stands.Held line) = Held line
shown_standing (stands.Waiting line) = Waiting line

-- how a step leaves its connection: its line is held back, or has its reply, or waits
abbrev pub left_standing : Bool → Bool → List ℕ → Standing
left_standing holds replies line =
    if holds then Held line else (if not replies && not holds then Waiting line else Ready)

-- how often its `LOAD` without a reply began to wait
abbrev pub waits_after : Bool → Bool → ℕ → ℕ
waits_after holds replies waited =
    if replies then 0 else ((if not replies && not holds then 1 else 0) + waited)

-- the connection after a step that uses up its line or not
abbrev pub moved_on : Bool → Bool → Bool → List ℕ → Connection → Connection
moved_on reads holds replies line c =
    record {
      number = c.number;
      unread = if reads then behind_lines 1 c.unread else c.unread;
      standing = left_standing holds replies line;
      waited = waits_after holds replies c.waited;
    }

-- the same by how it is moved
abbrev pub moved_as : Moving → Connection → Connection
moved_as moving c = moved_on moving.reads moving.holds moving.replies moving.line.now c

-- the connection after a piece came for it
abbrev pub fed_with : List ℕ → Connection → Connection
fed_with piece c = record c { unread = c.unread ++ piece }

-- the line that a connection holds back or waits with
abbrev pub kept_line : Standing → Option (List ℕ)
kept_line Ready = None
kept_line (Held line) = Some line
kept_line (Waiting line) = Some line
