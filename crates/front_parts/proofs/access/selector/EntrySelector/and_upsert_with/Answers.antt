use Rattle.std.proofs.Common.{rules}
use Rattle.front_parts.proofs.access.Computing.{computes-as}
use Rattle.front_parts.proofs.access.selector.EntrySelector.and_upsert_with.Goals as goal

pub returns-clause-puts : goal.returns-clause-puts
returns-clause-puts g c = record { done = c.in_ok-done.done; computes = computes-as (λ seen d says. search rules) c.in_ok-done.ensures.does; entry = search rules; fresh = search rules }
