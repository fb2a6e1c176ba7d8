-- The lines that a server writes.
use Rattle.std.specs.Prelude.{ℕ, List, [], ◌∷◌, ◌++◌, codes}
use Rattle.std.specs.Borrow.{Bor}
use Rattle.std.specs.Fmt.{decimal}
use Rattle.std.specs.List.{flat_map}
use Rattle.audit_model.specs.declared.transcript.Note.{Note}
use Rattle.audit_model.specs.Notes.{note_text}

-- a note, with the name of its namespace before it
abbrev pub named_note_line : List ℕ → Note → List ℕ
named_note_line name note = name ++ 32 ∷ [] ++ note_text note

-- a namespace that is served, with its port
abbrev pub listening_line : List ℕ → ℕ → List ℕ
listening_line name port =
    codes "listening " ++ name ++ codes " 127.0.0.1:" ++ decimal port ++ 10 ∷ []

-- how many notices of a program were lost
abbrev pub lost_line : List ℕ → ℕ → List ℕ
lost_line program lost = program ++ (codes ": " ++ decimal lost ++ codes " notices lost\n")

-- nothing takes the notices of a program
abbrev pub unwritten_line : List ℕ → List ℕ
unwritten_line program = program ++ codes ": notices cannot be written\n"

-- texts, one after another
abbrev pub joined_texts : List (Bor (List ℕ)) → List ℕ
joined_texts texts = flat_map (λ text. text.now) texts
