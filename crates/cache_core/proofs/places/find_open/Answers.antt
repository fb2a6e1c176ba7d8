use Rattle.std.proofs.Common.{◌∙◌, refl, sym, ap, arith, ◌≡◌, Option, Some, None, true, false, is_none, is_some}
use Rattle.audit_model.specs.declared.command.Closing.{Closing}
use Rattle.cache_core.proofs.Orders.{refused-closed}
use Rattle.cache_core.proofs.places.find_open.Goals as goal

none-gone : (o : Option Closing) → is_some o ≡ true → is_none o ≡ false
none-gone (Some by) e = refl
none-gone None e = let no : false ≡ true = e in cc

pub returns-else-is_none-clause-refused : goal.returns-else-is_none-clause-refused
returns-else-is_none-clause-refused c =
    refused-closed c.args.number c.in_ok-index.index c.args.connections.now (omega (arith, c.in_ok-index.ensures.place.0)) c.in_ok-index.ensures.place.1 (ap is_none (sym c.closing.ensures) ∙ none-gone c.closing.result c.if-is_none.ensures)
