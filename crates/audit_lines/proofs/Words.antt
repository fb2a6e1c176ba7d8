-- The words of a line, and what the grammar reads in them.
use Rattle.std.proofs.Common.{◌≡◌, ◌≢◌, ℕ, ◌≤◌, length, arith, true, false, eqb, List, [], ◌∷◌, Option, Some, None, refl, sym, ap, ◌∙◌, inl, inr, ⊎_elim, ◌⊎◌}
use Rattle.std.specs.Prelude.{Err, is_some, if◌then◌else◌}
use Rattle.std.specs.List.{list_all}
use Rattle.std.proofs.lemmas.Bool.{eq-eqb, and_left, and_right, cond-true, cond-false}
use Rattle.std.proofs.lemmas.Bool.Decides.{eqb_tells}
use Rattle.audit_model.specs.Bytewise.{cut_at, words, onto_first}
use Rattle.audit_model.specs.Grammar.{Verb, is_key, is_key_byte, read_words, words_behind, read_add, deadline_in, number_in, get, has, load, del, add, clear, dropif, keys, sync, quit}
use Rattle.audit_model.specs.declared.config.Config.{Config}
use Rattle.audit_model.specs.declared.command.LineError.TheVariants as fault
use Rattle.audit_lines.specs.Request.{IsFit, IsUnkeyed, verb_of}
use Rattle.audit_lines.specs.declared.request.Request.{Request}
use Rattle.audit_lines.specs.declared.request.Request.TheVariants.{Set, Get, Has, Load, Del, Add, Clear, DropIf, Keys, Sync, Quit, Fault}
use Rattle.audit_lines.proofs.Cuts.{Cut, onto, cut_at-here, cut_at-other}
use Rattle.audit_lines.specs.declared.request.Word.{Word}
use Rattle.audit_lines.specs.declared.request.Word.TheVariants as command

-- two words at least, which together are no key
pub record HasMore (bytes : List ℕ) : Type 0 where
  pub first : List ℕ
  pub second : List ℕ
  pub others : List (List ℕ)
  pub are : words bytes ≡ first ∷ second ∷ others
  pub no_key : list_all is_key_byte bytes ≡ false

-- all bytes are one word, or there are more
pub one_or_more : (bytes : List ℕ) → (words bytes ≡ bytes ∷ []) ⊎ HasMore bytes
one_or_more [] = inl refl
one_or_more (b ∷ bs) = ⊎_elim (λ space. inr (behind space.1 (one_or_more bs))) (λ other. before other.0 (one_or_more bs)) (eqb_tells b 32)
  where
    behind : b ≡ 32 → (words bs ≡ bs ∷ []) ⊎ HasMore bs → HasMore (b ∷ bs)
    behind same (inl one) = record {
      first = [];
      second = bs;
      others = [];
      are = cond-true (eqb b 32) _ _ (eq-eqb b 32 same) ∙ ap (λ ws. [] ∷ ws) one;
      no_key = and_left _ _ (ap is_key_byte same);
    }
    behind same (inr more) = record {
      first = [];
      second = more.first;
      others = more.second ∷ more.others;
      are = cond-true (eqb b 32) _ _ (eq-eqb b 32 same) ∙ ap (λ ws. [] ∷ ws) more.are;
      no_key = and_left _ _ (ap is_key_byte same);
    }

    before : eqb b 32 ≡ false → (words bs ≡ bs ∷ []) ⊎ HasMore bs → (words (b ∷ bs) ≡ (b ∷ bs) ∷ []) ⊎ HasMore (b ∷ bs)
    before differs (inl one) = inl (cond-false (eqb b 32) _ _ differs ∙ ap (onto_first b) one)
    before differs (inr more) = inr (record {
      first = b ∷ more.first;
      second = more.second;
      others = more.others;
      are = cond-false (eqb b 32) _ _ differs ∙ ap (onto_first b) more.are;
      no_key = and_right _ _ more.no_key;
    })

-- ---- one key

-- by a byte that no key has, bytes are no key
is_key-other_byte : (word : List ℕ) → list_all is_key_byte word ≡ false → is_key word ≡ false
is_key-other_byte word other = and_right _ _ other

-- a key is one word
words-key : (key : List ℕ) → is_key key ≡ true → words key ≡ key ∷ []
words-key key fits = ⊎_elim (λ one. one) (λ more. let other = is_key-other_byte key more.no_key in cc) (one_or_more key)

-- behind a command's word but `SET` a key is one word
pub words_behind-key : (word : Word) (key : List ℕ) → word ≢ command.Set → is_key key ≡ true → words_behind (verb_of word) (Some key) ≡ key ∷ []
words_behind-key command.Set key no_set fits = absurd (no_set refl)
words_behind-key command.Get key no_set fits = words-key key fits
words_behind-key command.Has key no_set fits = words-key key fits
words_behind-key command.Load key no_set fits = words-key key fits
words_behind-key command.Del key no_set fits = words-key key fits
words_behind-key command.Add key no_set fits = words-key key fits
words_behind-key command.Clear key no_set fits = words-key key fits
words_behind-key command.DropIf key no_set fits = words-key key fits
words_behind-key command.Keys key no_set fits = words-key key fits
words_behind-key command.Sync key no_set fits = words-key key fits
words_behind-key command.Quit key no_set fits = words-key key fits

-- a command's word with bytes that are no key, and for `SET` and `ADD` with one word, is a fault
pub read_words-unkeyed : (config : Config) (word : Word) (bytes : List ℕ) → word ≢ command.Set → word ≢ command.Add → is_key bytes ≡ false
    → read_words config (verb_of word) (words_behind (verb_of word) (Some bytes)) ≡ Err fault.Syntax
read_words-unkeyed config word bytes no_set no_add other = go word no_set no_add
  where
    one : (verb : Verb) → (read_words config verb (bytes ∷ []) ≡ Err fault.Syntax)
        → ((first second : List ℕ) (others : List (List ℕ)) → read_words config verb (first ∷ second ∷ others) ≡ Err fault.Syntax)
        → read_words config verb (words bytes) ≡ Err fault.Syntax
    one verb alone many = ⊎_elim
        (λ single. ap (read_words config verb) single ∙ alone)
        (λ more. ap (read_words config verb) more.are ∙ many more.first more.second more.others)
        (one_or_more bytes)

    go : (w : Word) → w ≢ command.Set → w ≢ command.Add → read_words config (verb_of w) (words_behind (verb_of w) (Some bytes)) ≡ Err fault.Syntax
    go command.Set no_set no_add = absurd (no_set refl)
    go command.Add no_set no_add = absurd (no_add refl)
    go command.Get no_set no_add = one get (cond-false _ _ _ other) (λ first second others. refl)
    go command.Has no_set no_add = one has (cond-false _ _ _ other) (λ first second others. refl)
    go command.Load no_set no_add = one load (cond-false _ _ _ other) (λ first second others. refl)
    go command.Del no_set no_add = one del (cond-false _ _ _ other) (λ first second others. refl)
    go command.DropIf no_set no_add = one dropif (cond-false _ _ _ other) (λ first second others. refl)
    go command.Clear no_set no_add = one clear refl (λ first second others. refl)
    go command.Keys no_set no_add = one keys refl (λ first second others. refl)
    go command.Sync no_set no_add = one sync refl (λ first second others. refl)
    go command.Quit no_set no_add = one quit refl (λ first second others. refl)

-- ---- words by their cuts

-- the words of bytes that were cut at their first space
abbrev words_of : Cut → List (List ℕ)
words_of (word, None) = word ∷ []
words_of (word, Some rest) = word ∷ words rest

onto-words : (b : ℕ) (cut : Cut) → onto_first b (words_of cut) ≡ words_of (onto b cut)
onto-words b (word, None) = refl
onto-words b (word, Some rest) = refl

pub words-cut : (bytes : List ℕ) → words bytes ≡ words_of (cut_at 32 bytes)
words-cut [] = refl
words-cut (b ∷ bs) = ⊎_elim
    (λ space. cond-true (eqb b 32) _ _ (eq-eqb b 32 space.1) ∙ sym (ap words_of (cut_at-here 32 b bs space.1)))
    (λ other. cond-false (eqb b 32) _ _ other.0 ∙ ap (onto_first b) (words-cut bs) ∙ onto-words b (cut_at 32 bs) ∙ sym (ap words_of (cut_at-other 32 b bs other.1)))
    (eqb_tells b 32)

-- ---- the words behind an `ADD`

-- without a key
read_words-add-unkeyed : (config : Config) (key : List ℕ) (others : List (List ℕ)) → is_key key ≡ false → read_words config add (key ∷ others) ≡ Err fault.Syntax
read_words-add-unkeyed config key [] other = refl
read_words-add-unkeyed config key (deadline ∷ []) other = refl
read_words-add-unkeyed config key (deadline ∷ number ∷ []) other = cond-false (is_key key) _ _ other
read_words-add-unkeyed config key (deadline ∷ number ∷ more ∷ others) other = refl

pub read_words-add-lacking : (config : Config) (rest : List ℕ) → IsUnkeyed (cut_at 32 rest) → read_words config add (words rest) ≡ Err fault.Syntax
read_words-add-lacking config rest lacks = ap (read_words config add) (words-cut rest) ∙ go (cut_at 32 rest) lacks
  where
    go : (cut : Cut) → IsUnkeyed cut → read_words config add (words_of cut) ≡ Err fault.Syntax
    go (key, None) lacks = refl
    go (key, Some rest) (inl other) = read_words-add-unkeyed config key (words rest) other
    go (key, Some rest) (inr none) = cc

-- with a key and one word
pub read_words-add-short : (config : Config) (rest key behind deadline : List ℕ) → cut_at 32 rest ≡ (key, Some behind) → cut_at 32 behind ≡ (deadline, None) → read_words config add (words rest) ≡ Err fault.Syntax
read_words-add-short config rest key behind deadline cut last =
    ap (read_words config add) (words-cut rest ∙ ap words_of cut ∙ ap (λ ws. key ∷ ws) (words-cut behind ∙ ap words_of last))

-- with a key and more than one word: one number at the end, or too many words
pub read_words-add : (config : Config) (rest key behind deadline last number : List ℕ) (more : Option (List ℕ)) → cut_at 32 rest ≡ (key, Some behind) → cut_at 32 behind ≡ (deadline, Some last) → cut_at 32 last ≡ (number, more) → is_key key ≡ true
    → read_words config add (words rest) ≡ (if is_some more then Err fault.Syntax else read_add key (deadline_in config deadline) (number_in number))
read_words-add config rest key behind deadline last number more cut second third fits =
    ap (read_words config add)
    (words-cut rest ∙ ap words_of cut ∙ ap (λ ws. key ∷ ws) (words-cut behind ∙ ap words_of second) ∙ ap (λ ws. key ∷ deadline ∷ ws) (words-cut last ∙ ap words_of third))
    ∙ go more
  where
    many : (cut : Cut) → read_words config add (key ∷ deadline ∷ number ∷ words_of cut) ≡ Err fault.Syntax
    many (word, None) = refl
    many (word, Some others) = refl

    go : (o : Option (List ℕ)) → read_words config add (key ∷ deadline ∷ words_of (number, o)) ≡ (if is_some o then Err fault.Syntax else read_add key (deadline_in config deadline) (number_in number))
    go None = cond-true (is_key key) _ _ fits
    go (Some others) = ap (λ ws. read_words config add (key ∷ deadline ∷ number ∷ ws)) (words-cut others) ∙ many (cut_at 32 others)

-- ---- a line

-- what fits a part of the line fits the line
pub IsFit-within : (config : Config) (part line : List ℕ) (request : Request) → length part ≤ length line → IsFit config part request → IsFit config line request
IsFit-within config part line (Set key deadline value) within fits =
    let short = fits.short in
    record { key_fits = fits.key_fits; value_fits = fits.value_fits; short = omega arith; own = fits.own }
IsFit-within config part line (Get key) within fits = fits
IsFit-within config part line (Has key) within fits = fits
IsFit-within config part line (Load key) within fits = fits
IsFit-within config part line (Del key) within fits = fits
IsFit-within config part line (Add key deadline number) within fits = fits
IsFit-within config part line Clear within fits = fits
IsFit-within config part line (DropIf prefix) within fits = fits
IsFit-within config part line Keys within fits = fits
IsFit-within config part line Sync within fits = fits
IsFit-within config part line Quit within fits = fits
IsFit-within config part line (Fault error) within fits = fits
