-- What a connection does with its first unread line.
use Rattle.std.specs.Prelude.{Bool, true, false}
use Rattle.cache_commands.specs.declared.loads.standing.Standing.{Standing}
use Rattle.cache_commands.specs.declared.loads.standing.Standing.TheVariants.{Ready, Held, Waiting}

-- its first unread line is held back
abbrev pub holds_line : Standing → Bool
holds_line Ready = false
holds_line Held = true
holds_line Waiting = false

-- its first unread line is a `LOAD` that waits
abbrev pub waits_for_load : Standing → Bool
waits_for_load Ready = false
waits_for_load Held = false
waits_for_load Waiting = true

-- its first unread line is one of these
abbrev pub keeps_line : Standing → Bool
keeps_line Ready = false
keeps_line Held = true
keeps_line Waiting = true
