use Rattle.std.proofs.Common.{◌∙◌, sym}
use Rattle.cached_server.proofs.script.Calling.{asked-none, asked-ok, call-found}
use Rattle.cached_server.proofs.script.words.take_words.Goals as goal

pub returns-in-Ok-try_get_matches_from-clause-taken : goal.returns-in-Ok-try_get_matches_from-clause-taken
returns-in-Ok-try_get_matches_from-clause-taken g c =
    let found = c.in-Ok-try_get_matches_from in
    let asked = call-found _ _ found.matches c.in-Ok.ensures found.ensures.matches found.ensures.kinds ∙ sym c.chosen_in.ensures in
    asked-ok c.chosen_in.result _ c.ok_or.result _ c.ok_or.ensures.value asked

pub returns-in-Ok-try_get_matches_from-clause-refused : goal.returns-in-Ok-try_get_matches_from-clause-refused
returns-in-Ok-try_get_matches_from-clause-refused g c =
    let found = c.in-Ok-try_get_matches_from in
    let asked = call-found _ _ found.matches c.in-Ok.ensures found.ensures.matches found.ensures.kinds ∙ sym c.chosen_in.ensures in
    asked-none c.chosen_in.result _ _ c.ok_or.result _ c.ok_or.ensures.value asked
