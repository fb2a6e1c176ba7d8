-- What loads find.
use Rattle.std.specs.Prelude.{ℕ, List, [], ◌∷◌, None, if◌then◌else◌}
use Rattle.audit_model.specs.Bytewise.{same}
use Rattle.audit_model.specs.declared.event.Outcome.{Outcome}
use Rattle.audit_model.specs.declared.event.Outcome.TheVariants as outcome
use Rattle.cached_config.specs.declared.listed.Listed.{Listed}

-- the first value that is listed for a key, without a deadline; a key that is not listed has none
abbrev pub listed_outcome : List Listed → List ℕ → Outcome
listed_outcome [] key = outcome.None
listed_outcome (listed ∷ rest) key =
    if same listed.key key then outcome.Value listed.value None else listed_outcome rest key
