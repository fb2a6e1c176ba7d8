-- The lines of a text that say something, and the words of a line.
use Rattle.std.specs.Prelude.{ℕ, Bool, true, false, cond, ◌==◌, List, [], ◌∷◌, ◌++◌}
use Rattle.std.specs.List.{flat_map}
use Rattle.audit_model.specs.Bytewise.{onto_first}

-- the pieces between the bytes b: one more than there are such bytes
abbrev pub pieces : ℕ → List ℕ → List (List ℕ)
pieces b [] = [] ∷ []
pieces b (x ∷ xs) = cond (x == b) ([] ∷ pieces b xs) (onto_first x (pieces b xs))

-- the pieces between the line feeds
abbrev pub lines : List ℕ → List (List ℕ)
lines text = pieces 10 text

-- the pieces between the spaces
abbrev pub line_words : List ℕ → List (List ℕ)
line_words line = pieces 32 line

-- an empty line and a comment, which begins with `#`, say nothing
abbrev pub is_skipped : List ℕ → Bool
is_skipped [] = true
is_skipped (b ∷ bs) = b == 35

-- a line that says something, with its line feed
abbrev pub telling_line : List ℕ → List ℕ
telling_line l = cond (is_skipped l) [] (l ++ 10 ∷ [])

-- the lines that say something
abbrev pub kept : List ℕ → List ℕ
kept bytes = flat_map telling_line (lines bytes)

-- a line, if it says something
abbrev pub said_line : List ℕ → List (List ℕ)
said_line l = cond (is_skipped l) [] (l ∷ [])

-- the lines that say something, one by one, without their line feeds
abbrev pub said_lines : List ℕ → List (List ℕ)
said_lines text = flat_map said_line (lines text)
