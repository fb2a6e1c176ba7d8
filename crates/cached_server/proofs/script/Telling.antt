-- Notes told one after another.
use Rattle.std.proofs.Common.{◌≡◌, ℕ, ◌+◌, List, [], ◌∷◌, ◌++◌, Option, length, length-append, refl, sym, ap, ◌∙◌, subst}
use Rattle.std.specs.Io.KnownBytes.{Appends}
use Rattle.std.proofs.lemmas.Grind.{flat_map-append}
use Rattle.std.proofs.lemmas.List.{append_assoc, append-nil}
use Rattle.audit_model.specs.Notes.{note_text}
use Rattle.audit_model.specs.declared.transcript.Note.{Note}
use Rattle.cache_run.proofs.devices.Sending.{same_appends}
use Rattle.cached_server.specs.Script.Gathering.{Gathers}
use Rattle.cached_server.specs.Script.Notes.{notes_text}
use Rattle.cached_server.proofs.script.Gathered.{gathers-more}

-- so many of the notes were told, and their lines gathered
pub record HasTold (contents : Option (List ℕ)) (notes : List Note) (written : Option (List ℕ)) (gathered : List ℕ) (left : List Note) (count : ℕ) : Type 0 where
  pub told : List Note
  pub all : notes ≡ told ++ left
  pub lines : Gathers contents [] (notes_text told) written gathered
  pub number : length told ≡ count

pub told-none : (contents : Option (List ℕ)) (notes : List Note) (gathered : List ℕ) → gathered ≡ [] → HasTold contents notes contents gathered notes 0
told-none contents notes gathered none = record { told = []; all = refl; lines = record { sent = []; wrote = same_appends contents; whole = none }; number = refl }

-- one note more
pub told-more : (a b c : Option (List ℕ)) (notes left rest : List Note) (g h : List ℕ) (count : ℕ) (note : Note) → HasTold a notes b g left count → left ≡ note ∷ rest
    → Gathers b g (note_text note) c h → HasTold a notes c h rest (count + 1)
told-more a b c notes left rest g h count note x first line = record {
  told = x.told ++ note ∷ [];
  all = x.all ∙ ap (λ l. x.told ++ l) first ∙ sym (append_assoc x.told (note ∷ []) rest);
  lines = subst (λ text. Gathers a [] text c h) (sym (flat_map-append note_text x.told (note ∷ []) ∙ ap (λ l. notes_text x.told ++ l) (append-nil (note_text note))))
      (gathers-more a b c [] g h (notes_text x.told) (note_text note) x.lines line);
  number = length-append x.told (note ∷ []) ∙ ap (λ n. n + 1) x.number;
}

-- all were told and written
pub told-all : (a b c : Option (List ℕ)) (notes left : List Note) (g h : List ℕ) (count : ℕ) → HasTold a notes b g left count → left ≡ [] → Gathers b g [] c h → h ≡ []
    → Appends a c (notes_text notes)
told-all a b c notes left g h count x none out empty =
    let all = gathers-more a b c [] g h (notes_text x.told) [] x.lines out in
    let told : notes ≡ x.told = x.all ∙ ap (λ l. x.told ++ l) none ∙ append-nil x.told in
    let text : all.sent ≡ notes_text notes = sym (append-nil all.sent) ∙ ap (λ l. all.sent ++ l) (sym empty) ∙ all.whole ∙ append-nil (notes_text x.told) ∙ ap notes_text (sym told) in
    subst (Appends a c) text all.wrote
