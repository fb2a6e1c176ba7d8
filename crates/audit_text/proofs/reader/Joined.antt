-- Words that are joined, and lines behind one another.
use Rattle.std.proofs.Common.{◌≡◌, ◌≢◌, ℕ, ◌<◌, Bool, true, false, cond, List, [], ◌∷◌, ◌++◌, refl, sym, ap, ◌∙◌, arith}
use Rattle.std.specs.Prelude.{◌==◌}
use Rattle.std.specs.List.{flat_map, AllByRecursion}
use Rattle.std.proofs.lemmas.Bool.{eqb-true, eq-eqb, ne_eqb, cond-true}
use Rattle.std.proofs.lemmas.List.{append_assoc, append-nil}
use Rattle.audit_model.specs.Bytewise.{onto_first}
use Rattle.audit_text.specs.Words.{line}
use Rattle.audit_text.specs.Reader.Lines.{pieces, lines, line_words, is_skipped, telling_line, kept, said_line, said_lines}
use Rattle.audit_text.proofs.reader.Cutting.{pieces-here, pieces-other}

-- no byte is b
abbrev pub Lacks : ℕ → List ℕ → Type 0
Lacks b xs = AllByRecursion (λ x. x ≢ b) xs

-- a word has no space, no line feed and nothing else below
abbrev pub IsWord : List ℕ → Type 0
IsWord w = AllByRecursion (λ x. 32 < x) w

pub Lacks-word : (b : ℕ) (w : List ℕ) → b < 33 → IsWord w → Lacks b w
Lacks-word b [] low word = tt
Lacks-word b (x ∷ w) low word = (λ e. absurd (let above = word.0 in omega arith), Lacks-word b w low word.1)

pub AllByRecursion-append : {A : Type 0} (P : A → Type 0) (xs ys : List A) → AllByRecursion P xs → AllByRecursion P ys → AllByRecursion P (xs ++ ys)
AllByRecursion-append P [] ys all more = more
AllByRecursion-append P (x ∷ xs) ys all more = (all.0, AllByRecursion-append P xs ys all.1 more)

-- a piece up to its end
pub pieces-append : (b : ℕ) (w rest : List ℕ) → Lacks b w → pieces b (w ++ b ∷ rest) ≡ w ∷ pieces b rest
pieces-append b [] rest lacks = pieces-here b b rest refl
pieces-append b (x ∷ w) rest lacks = pieces-other b x (w ++ b ∷ rest) lacks.0 ∙ ap (onto_first x) (pieces-append b w rest lacks.1)

-- a piece that ends with the text
pub pieces-one : (b : ℕ) (w : List ℕ) → Lacks b w → pieces b w ≡ w ∷ []
pieces-one b [] lacks = refl
pieces-one b (x ∷ w) lacks = pieces-other b x w lacks.0 ∙ ap (onto_first x) (pieces-one b w lacks.1)

onto-lacks : (b x : ℕ) (ws : List (List ℕ)) → x ≢ b → AllByRecursion (Lacks b) ws → AllByRecursion (Lacks b) (onto_first x ws)
onto-lacks b x [] other all = ((other, tt), tt)
onto-lacks b x (w ∷ ws) other all = ((other, all.0), all.1)

-- pieces have no end in them
pub pieces-lack : (b : ℕ) (xs : List ℕ) → AllByRecursion (Lacks b) (pieces b xs)
pieces-lack b [] = (tt, tt)
pieces-lack b (x ∷ xs) = by_test (x == b) refl (pieces-lack b xs)
  where
    by_test : (t : Bool) → (x == b) ≡ t → AllByRecursion (Lacks b) (pieces b xs) → AllByRecursion (Lacks b) (cond t ([] ∷ pieces b xs) (onto_first x (pieces b xs)))
    by_test true e all = (tt, all)
    by_test false e all = onto-lacks b x (pieces b xs) (λ same. let f = eq-eqb x b same in cc) all

-- ---- line_words

-- line_words, parted by one space
abbrev pub joined : List (List ℕ) → List ℕ
joined [] = []
joined (w ∷ []) = w
joined (w ∷ v ∷ ws) = w ++ 32 ∷ joined (v ∷ ws)

pub line-joined : (ws : List (List ℕ)) → line ws ≡ joined ws ++ 10 ∷ []
line-joined [] = refl
line-joined (w ∷ []) = refl
line-joined (w ∷ v ∷ ws) = ap (λ t. w ++ 32 ∷ t) (line-joined (v ∷ ws)) ∙ sym (append_assoc w (32 ∷ joined (v ∷ ws)) (10 ∷ []))

pub words-joined : (w : List ℕ) (ws : List (List ℕ)) → AllByRecursion IsWord (w ∷ ws) → line_words (joined (w ∷ ws)) ≡ w ∷ ws
words-joined w [] all = pieces-one 32 w (Lacks-word 32 w (omega arith) all.0)
words-joined w (v ∷ ws) all = pieces-append 32 w (joined (v ∷ ws)) (Lacks-word 32 w (omega arith) all.0) ∙ ap (λ t. w ∷ t) (words-joined v ws all.1)

pub lacks-joined : (ws : List (List ℕ)) → AllByRecursion IsWord ws → Lacks 10 (joined ws)
lacks-joined [] all = tt
lacks-joined (w ∷ []) all = Lacks-word 10 w (omega arith) all.0
lacks-joined (w ∷ v ∷ ws) all = AllByRecursion-append (λ x. x ≢ 10) w (32 ∷ joined (v ∷ ws)) (Lacks-word 10 w (omega arith) all.0) ((λ e. absurd (omega arith)), lacks-joined (v ∷ ws) all.1)

-- ---- lines

-- a line that says something, in front
pub said_lines-line : (l rest : List ℕ) → Lacks 10 l → is_skipped l ≡ false → said_lines ((l ++ 10 ∷ []) ++ rest) ≡ l ∷ said_lines rest
said_lines-line l rest lacks says =
    ap (λ t. flat_map said_line (lines t)) (append_assoc l (10 ∷ []) rest)
    ∙ ap (flat_map said_line) (pieces-append 10 l rest lacks)
    ∙ ap (λ t. cond t [] (l ∷ []) ++ said_lines rest) says

-- what is skipped says nothing
said-kept : (ls : List (List ℕ)) → AllByRecursion (Lacks 10) ls → said_lines (flat_map telling_line ls) ≡ flat_map said_line ls
said-kept [] all = refl
said-kept (l ∷ ls) all = by_test (is_skipped l) refl (said-kept ls all.1)
  where
    by_test : (t : Bool) → is_skipped l ≡ t → said_lines (flat_map telling_line ls) ≡ flat_map said_line ls
        → said_lines (cond t [] (l ++ 10 ∷ []) ++ flat_map telling_line ls) ≡ cond t [] (l ∷ []) ++ flat_map said_line ls
    by_test true e rest = rest
    by_test false e rest = said_lines-line l (flat_map telling_line ls) all.0 e ∙ ap (λ t. l ∷ t) rest

pub said_lines-kept : (text : List ℕ) → said_lines (kept text) ≡ said_lines text
said_lines-kept text = said-kept (lines text) (pieces-lack 10 text)
