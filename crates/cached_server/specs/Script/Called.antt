-- How the program is called.
use Rattle.std.specs.Prelude.{codes, ℕ, true, ◌==◌, List, Option, Some, None, length, if◌then◌else◌}
use Rattle.std.specs.Str.{bytes_eq}
use Rattle.clap.specs.Words.{App, Rule, fault_of, first_of, matches_of, new_app, new_rule, with_rule}
use Rattle.clap.specs.Simple.{on_top}
use Rattle.clap.specs.declared.builder.ArgAction.TheVariants.{Set, SetTrue}
use Rattle.cached_server.specs.declared.script.words.Chosen.{Chosen}
use Rattle.cached_server.specs.declared.script.words.Chosen.TheVariants.{Script, Config}

-- the two arguments
abbrev pub script_rule : Rule
script_rule =
    record (new_rule (codes "script")) { long = Some (codes "script"); action = Some SetTrue }

abbrev pub config_rule : Rule
config_rule =
    record (new_rule (codes "config")) { long = Some (codes "config"); action = Some Set }

-- what is taken: these arguments, each at most once, and no other word
abbrev pub arguments : App
arguments =
    with_rule (with_rule (on_top (λ s. record s { disable_help_flag = true })
    (new_app (codes "cached"))) script_rule) config_rule

-- a script, if that was asked for and no file was; a file, if only that was
abbrev pub chosen : (script path : Option (List ℕ)) → Option (Option (List ℕ))
chosen (Some script) None = if bytes_eq script (codes "true") then Some None else None
chosen (Some script) (Some path) =
    if bytes_eq script (codes "false") then Some (Some path) else None
chosen None path = None

-- What the words ask for: nothing, if they are bad; else a script, or the file at a path.
abbrev pub call_of : List (List ℕ) → Option (Option (List ℕ))
call_of words =
    let found = matches_of arguments words in
    if length (fault_of arguments words) == 0
    then chosen (first_of (codes "script") found) (first_of (codes "config") found)
    else None

abbrev pub path_of : Chosen → Option (List ℕ)
path_of Script = None
path_of (Config path) = Some path.now
