-- Texts gathered one after another.
use Rattle.std.proofs.Common.{◌≡◌, ℕ, List, [], ◌++◌, Option, sym, ap, ◌∙◌}
use Rattle.std.specs.Prelude.{Result, Ok, Err, OnOk}
use Rattle.std.specs.Io.KnownBytes.{Appends}
use Rattle.std.proofs.lemmas.List.{append_assoc, append-nil}
use Rattle.cache_run.proofs.devices.Sending.{appends_more}
use Rattle.cached_server.specs.Script.Gathering.{Gathers}

-- one text behind another
pub gathers-more : (a b c : Option (List ℕ)) (g h k xs ys : List ℕ) → Gathers a g xs b h → Gathers b h ys c k → Gathers a g (xs ++ ys) c k
gathers-more a b c g h k xs ys x y = record {
  sent = x.sent ++ y.sent;
  wrote = appends_more a b c x.sent y.sent x.wrote y.wrote;
  whole = append_assoc x.sent y.sent k ∙ ap (λ l. x.sent ++ l) y.whole ∙ sym (append_assoc x.sent h ys) ∙ ap (λ l. l ++ ys) x.whole ∙ append_assoc g xs ys;
}

-- what was gathered was written, and then the text
pub gathers-both : (a b c : Option (List ℕ)) (g h text : List ℕ) {T E : Type 0} (r : Result T E) → Gathers a g [] b h → h ≡ [] → OnOk r (Appends b c text) → OnOk r (Gathers a g text c h)
gathers-both a b c g h text (Ok u) x none wrote = record {
  sent = x.sent ++ text;
  wrote = appends_more a b c x.sent text x.wrote wrote;
  whole = append_assoc x.sent text h ∙ ap (λ l. x.sent ++ (text ++ l)) none ∙ ap (λ l. x.sent ++ l) (append-nil text) ∙ ap (λ l. l ++ text) (sym (append-nil x.sent) ∙ ap (λ l. x.sent ++ l) (sym none) ∙ x.whole ∙ append-nil g);
}
gathers-both a b c g h text (Err e) x none wrote = wrote
