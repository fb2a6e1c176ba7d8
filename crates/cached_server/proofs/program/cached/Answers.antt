use Rattle.std.proofs.Common.{◌∙◌, Some, ap}
use Rattle.cached_server.specs.Script.Called.{path_of}
use Rattle.cached_server.specs.declared.script.words.Chosen.{Chosen}
use Rattle.cached_server.proofs.script.Ending.{script-ends, script-stops, server-ends, server-stops, wordless-ends, wordless-stops}
use Rattle.cached_server.proofs.program.cached.Goals as goal

pub returns-in-Ok-Script-clause-words : goal.returns-in-Ok-Script-clause-words
returns-in-Ok-Script-clause-words g c = script-ends _ _ (c.in-Ok-Script.ensures.taken ∙ ap (λ (asked : Chosen). Some (path_of asked)) c.in-Ok-Script.field-0-is) c.run_script.ensures.status

pub returns-in-Ok-Script-clause-stopped : goal.returns-in-Ok-Script-clause-stopped
returns-in-Ok-Script-clause-stopped g c = λ one. script-stops _ _ _ _ _ _ _ _ (c.in-Ok-Script.ensures.taken ∙ ap (λ (asked : Chosen). Some (path_of asked)) c.in-Ok-Script.field-0-is) (c.run_script.ensures.stopped one)

pub returns-in-Ok-Config-clause-words : goal.returns-in-Ok-Config-clause-words
returns-in-Ok-Config-clause-words g c = server-ends _ _ _ (c.in-Ok-Config.ensures.taken ∙ ap (λ (asked : Chosen). Some (path_of asked)) c.in-Ok-Config.field-0-is) c.serve_config.ensures.status

pub returns-in-Ok-Config-clause-stopped : goal.returns-in-Ok-Config-clause-stopped
returns-in-Ok-Config-clause-stopped g c = λ one. server-stops _ _ _ _ _ _ _ _ _ (c.in-Ok-Config.ensures.taken ∙ ap (λ (asked : Chosen). Some (path_of asked)) c.in-Ok-Config.field-0-is) c.serve_config.ensures.told

pub returns-in-Err-clause-words : goal.returns-in-Err-clause-words
returns-in-Err-clause-words g c = wordless-ends _ _ _ c.in-Err.ensures.refused (λ e. (c.without_words.ensures.memory e).0) (λ e. (c.without_words.ensures.other e).0)

pub returns-in-Err-clause-stopped : goal.returns-in-Err-clause-stopped
returns-in-Err-clause-stopped g c = wordless-stops _ _ _ _ _ _ _ _ _ _ _ c.without_words.ensures.memory c.without_words.ensures.other
