-- A connection, as its parts describe it.
use Rattle.std.specs.Prelude.{ℕ, List, Option, if◌then◌else◌, is_none}
use Rattle.audit_model.specs.Situation.{HeldValue, Situation, without_connection}
use Rattle.audit_model.specs.Stream.{behind_lines}
use Rattle.audit_model.specs.declared.command.Closing.{Closing}
use Rattle.cache_commands.specs.Loads.Standings.{keeps_line}
use Rattle.cache_commands.specs.declared.loads.standing.Standing.{Standing}
use Rattle.cache_lines.specs.Lines.{set_in}
use Rattle.cache_lines.specs.Waiting.{waiting_with}
use Rattle.cache_lines.specs.Whole.{held_line}
use Rattle.audit_model.specs.Situation as model
use Rattle.cache_commands.specs.declared.loads.standing.Standing.TheVariants as now

-- it runs lines, or waits before this line
abbrev pub stands_before : Standing → List ℕ → model.Standing
stands_before now.Ready line = model.Ready
stands_before now.Held line = model.Held line
stands_before now.Waiting line = model.Waiting line

-- the connection in this state, which began to wait this often
abbrev pub standing_as : ℕ → Standing → ℕ → List ℕ → model.Connection
standing_as number standing times bytes =
    record {
      number = number;
      unread = if keeps_line standing then behind_lines 1 bytes else bytes;
      standing = stands_before standing (held_line bytes);
      waited = if keeps_line standing then times else 0;
    }

-- the situation, with these values held and a connection as its parts describe it
abbrev pub put_parts : Situation → List HeldValue → ℕ → Option Closing → Standing → ℕ → List ℕ
    → Situation
put_parts base values number closing standing times bytes =
    if is_none closing then set_in base values (standing_as number standing times bytes) else without_connection number (record base { held = values })

-- the connection whose first line is a `LOAD` that waits, and began to do so this often
abbrev pub waiting_before : ℕ → List ℕ → ℕ → model.Connection
waiting_before number bytes times = waiting_with number (held_line bytes) (behind_lines 1 bytes) times
