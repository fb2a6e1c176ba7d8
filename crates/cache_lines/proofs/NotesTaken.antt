-- Notes taken one after another come out in the order in which they were told.
use Rattle.std.proofs.Common.{sym, ap, ◌∙◌, arith, append_assoc, refl, ◌≡◌, ◌+◌, List, [], ◌∷◌, ◌++◌, length}
use Rattle.audit_model.specs.declared.transcript.Note.{Note}
use Rattle.cache_commands.specs.Values.{GivesNote, Values}
use Rattle.cache_lines.proofs.Drawn.{keeps-more}

-- a note taken, with those that stay
pub taken-next : (old new notes : List Note) (note : Note) (whole : List Note) → old ≡ note ∷ new → notes ++ old ≡ whole → (notes ++ note ∷ []) ++ new ≡ whole
taken-next old new notes note whole t e = append_assoc notes (note ∷ []) new ∙ ap (λ b. notes ++ b) (sym t) ∙ e

-- one fewer waits
pub fewer : (old new : List Note) (note : Note) → old ≡ note ∷ new → length old ≡ length new + 1
fewer old new note t = let a = ap length t in omega arith

-- no note is taken
pub gives-none : (v : Values) → GivesNote v v
gives-none v = record { stands = λ held h. h; frame = refl; used = λ settled keys u. u; identifiers = record { stream = refl; registered = λ part id h. h }; spent = refl }

-- and more
pub gives-more : (a b c : Values) → GivesNote a b → GivesNote b c → GivesNote a c
gives-more a b c g h = record {
  stands = λ held s. h.stands held (g.stands held s);
  frame = h.frame ∙ g.frame;
  used = λ settled keys u. h.used settled keys (g.used settled keys u);
  identifiers = keeps-more a.stream b.stream c.stream a.registered b.registered c.registered g.identifiers h.identifiers;
  spent = h.spent ∙ g.spent;
}
