-- Removals that are reported.
use Rattle.std.specs.Prelude.{if◌then◌else◌, Option, Some, None}
use Rattle.engine_reference.specs.declared.data.Record.{Record}
use Rattle.engine_reference.specs.declared.data.Settings.{Settings}

-- the key and the value of a record, if removals are reported
abbrev pub reported_parts : {K V : Type 0} → Settings → Record K V → Option (K × V)
reported_parts settings r = if settings.tells then Some (r.entry.key, r.entry.value) else None
