-- What lines say one after the other.
use Rattle.std.proofs.Common.{◌≡◌, ℕ, List, [], ◌∷◌, ◌++◌, Option, Some, None, refl}
use Rattle.std.specs.Prelude.{Result, Err}
use Rattle.audit_text.specs.Reader.Entries.{begin_lines, add_entry, entry_in}
use Rattle.audit_text.specs.Reader.Fields.{◌>>=◌, at_line, IsFault}
use Rattle.audit_text.specs.Reader.Gathering.{add_lines, add_item, IsReadText}
use Rattle.audit_text.specs.Reader.Items.{item_in}
use Rattle.audit_text.specs.declared.reader.fields.LineFault.{LineFault}
use Rattle.audit_text.specs.declared.reader.fields.LineFault.TheVariants as fault
use Rattle.audit_text.specs.declared.reader.gathering.Gathered.{Gathered}
use Rattle.audit_text.specs.declared.reader.inputs.Begun.{Begun}
use Rattle.audit_text.specs.declared.reader.inputs.InputLine.{InputLine}
use Rattle.audit_text.specs.declared.reader.item.Item.{Item}

-- lines behind lines
pub add_lines_append : (g : Gathered) (a b : List (List ℕ)) → add_lines g (a ++ b) ≡ (add_lines g a >>= (λ more. add_lines more b))
add_lines_append g [] b = refl
add_lines_append g (l ∷ a) b = by_item (item_in l) (λ more. add_lines_append more a b)
  where
    by_sum : (sum : Option Gathered) → ((more : Gathered) → add_lines more (a ++ b) ≡ (add_lines more a >>= (λ m. add_lines m b))) → (sum >>= (λ more. add_lines more (a ++ b))) ≡ ((sum >>= (λ more. add_lines more a)) >>= (λ m. add_lines m b))
    by_sum None behind = refl
    by_sum (Some more) behind = behind more

    by_item : (said : Option Item) → ((more : Gathered) → add_lines more (a ++ b) ≡ (add_lines more a >>= (λ m. add_lines m b)))
        → (said >>= (λ i. add_item g i >>= (λ more. add_lines more (a ++ b)))) ≡ ((said >>= (λ i. add_item g i >>= (λ more. add_lines more a))) >>= (λ m. add_lines m b))
    by_item None behind = refl
    by_item (Some i) behind = by_sum (add_item g i) behind

-- a line's fault is the text's
pub at_line-fault : {B C : Type 0} (said : Option B) (whole : Option C) (f : LineFault) (n : ℕ) → IsFault said f → (said ≡ None → whole ≡ None) → IsReadText whole (Err (at_line f n))
at_line-fault said whole fault.Form n h none = none h
at_line-fault said whole fault.OutOfMemory n h none = tt

-- the same of lines of inputs
pub begin_lines_append : (b : Begun) (front behind : List (List ℕ)) → begin_lines b (front ++ behind) ≡ (begin_lines b front >>= (λ more. begin_lines more behind))
begin_lines_append b [] behind = refl
begin_lines_append b (l ∷ front) behind = by_entry (entry_in l) (λ more. begin_lines_append more front behind)
  where
    by_sum : (sum : Option Begun) → ((more : Begun) → begin_lines more (front ++ behind) ≡ (begin_lines more front >>= (λ m. begin_lines m behind))) → (sum >>= (λ more. begin_lines more (front ++ behind))) ≡ ((sum >>= (λ more. begin_lines more front)) >>= (λ m. begin_lines m behind))
    by_sum None rest = refl
    by_sum (Some more) rest = rest more

    by_entry : (said : Option InputLine) → ((more : Begun) → begin_lines more (front ++ behind) ≡ (begin_lines more front >>= (λ m. begin_lines m behind)))
        → (said >>= (λ e. add_entry b e >>= (λ more. begin_lines more (front ++ behind)))) ≡ ((said >>= (λ e. add_entry b e >>= (λ more. begin_lines more front))) >>= (λ m. begin_lines m behind))
    by_entry None rest = refl
    by_entry (Some e) rest = by_sum (add_entry b e) rest
