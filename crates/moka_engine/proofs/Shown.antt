-- What a look-up shows, said of the record that was found.
use Rattle.std.proofs.Common.{◌≡◌, refl, ◌∙◌, Option, Some, None, option_map, Bor, MutBor}
use Rattle.std.specs.Fn.{Once}
use Rattle.engine_reference.specs.declared.data.Entry.{Entry}
use Rattle.engine_reference.specs.declared.data.Record.{Record}
use Rattle.moka_engine.specs.Showing.{IsShown}

pub value-of : {K V : Type 0} (o : Option (Record K V)) → option_map (λ (r : Record K V). r.entry.value) o ≡ option_map (λ (e : Entry K V). e.value) (option_map (λ (r : Record K V). r.entry) o)
value-of None = refl
value-of (Some r) = refl

-- the value is known by another name
pub shown-as : {F V O A : Type 0} (see : Once F (Option (Bor V) × (MutBor O × Unit {0})) (A × (MutBor O × Unit {0}))) (f : F) (v w : Option V) (old : O) (answer : A) (new : O)
    → v ≡ w → IsShown see f v old answer new → IsShown see f w old answer new
shown-as see f v w old answer new is s = record { found = s.found; is = s.is ∙ is; shown = s.shown; shows = s.shows; left = s.left; met = s.met; leaves = s.leaves }
