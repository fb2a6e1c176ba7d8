-- Lines that are gathered, and written out.
use Rattle.std.proofs.Common.{◌≡◌, ℕ, ◌+◌, ◌<◌, List, [], ◌∷◌, ◌++◌, length, take, get_or, Bor, ap, ◌∙◌}
use Rattle.std.proofs.lemmas.Grind.{flat_map-append}
use Rattle.std.proofs.lemmas.List.{append-nil, take_more}
use Rattle.cached_server.specs.Lines.{joined_texts}

-- one text more
pub joined_texts-more : (texts : List (Bor (List ℕ))) (i : ℕ) (d : Bor (List ℕ)) → i < length texts → joined_texts (take (i + 1) texts) ≡ joined_texts (take i texts) ++ (get_or texts i d).now
joined_texts-more texts i d within =
    ap joined_texts (take_more texts i d within) ∙ flat_map-append (λ (text : Bor (List ℕ)). text.now) (take i texts) (get_or texts i d ∷ [])
    ∙ ap (λ l. joined_texts (take i texts) ++ l) (append-nil (get_or texts i d).now)
