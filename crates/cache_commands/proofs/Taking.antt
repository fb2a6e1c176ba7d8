-- Which loads were taken, over several calls.
use Rattle.std.proofs.Common.{refl, sym, ap, ◌∙◌, append_assoc, [], ◌++◌}
use Rattle.std.proofs.lemmas.List.{append-nil}
use Rattle.cache_commands.specs.Loads.Pending.{SameTaken, outgoing_loads}
use Rattle.cache_commands.specs.declared.loads.loads.Loads.{Loads}

-- nothing happened
pub taken-same : (loads : Loads) → SameTaken loads loads
taken-same loads = record { taken = refl; namespace = refl; more = []; behind = sym (append-nil (outgoing_loads loads)) }

-- one call, and then another
pub taken-on : {a b c : Loads} → SameTaken a b → SameTaken b c → SameTaken a c
taken-on {a} {b} {c} x y = record {
  taken = y.taken ∙ x.taken;
  namespace = y.namespace ∙ x.namespace;
  more = x.more ++ y.more;
  behind = y.behind ∙ ap (λ l. l ++ y.more) x.behind ∙ append_assoc (outgoing_loads a) x.more y.more;
}
