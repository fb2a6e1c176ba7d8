use Rattle.std.proofs.Common.{arith}
use Rattle.toml.specs.View.{view}
use Rattle.cached_config.proofs.Saying.{if-ok}
use Rattle.cached_config.proofs.reading.Reader.document.Goals as goal

pub returns-in-Some : goal.returns-in-Some
returns-in-Some c =
    if-ok _ _ c.array.result (λ spaces says none. record { namespaces = view c.in-Some.value.now; there = c.in-Some.ensures.some; each = says (omega (arith, none)) }) c.array.ensures
