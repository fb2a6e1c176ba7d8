-- What the text of a replay's inputs says.
use Rattle.std.proofs.Common.{◌≡◌, ◌≢◌, ℕ, ◌<◌, Bool, true, false, cond, eqb, List, [], ◌∷◌, ◌++◌, length, Option, Some, None, refl, sym, ap, ◌∙◌, arith}
use Rattle.std.specs.Prelude.{nat_eq, codes, decimal, Result, Ok, Err}
use Rattle.std.specs.List.{flat_map, AllByRecursion}
use Rattle.std.specs.Str.{bytes_eq}
use Rattle.std.proofs.lemmas.Bool.{ne_eqb, cond-true}
use Rattle.std.proofs.lemmas.List.{append_assoc, append-nil}
use Rattle.std.proofs.lemmas.Slice.Eq.{bytes_eq-Decides}
use Rattle.audit_model.specs.declared.config.Config.{Config}
use Rattle.audit_model.specs.declared.event.Instant.{Instant}
use Rattle.audit_model.specs.declared.event.Outcome.{Outcome}
use Rattle.audit_model.specs.declared.event.Outcome.TheVariants as outcome
use Rattle.audit_model.specs.declared.input.Input.{Input}
use Rattle.audit_model.specs.declared.input.Input.TheVariants as input
use Rattle.audit_model.specs.declared.input.LoadId.{LoadId}
use Rattle.audit_text.specs.Text.{config_words, made_words, outcome_words}
use Rattle.audit_text.specs.Words.{line}
use Rattle.audit_text.specs.Reader.Entries.{entry_line, entry_words_in, entry_of, entry_in, input_in, asked_of, none_begun, begin_config, begin_made, begin_input, add_entry, begin_lines, replay_of, replay_reading, IsReplay}
use Rattle.audit_text.specs.Reader.Fields.{◌>>=◌}
use Rattle.audit_text.specs.Reader.Fits.{FitsNumber, FitsConfig, FitsOutcome}
use Rattle.audit_text.specs.Reader.Gathering.{IsReadText}
use Rattle.audit_text.specs.Reader.Inputs.{input_words, replay_text, FitsInput, FitsReplay}
use Rattle.audit_text.specs.Reader.Items.{event_of, feed_in_words, answer_in_words, give_up_in_words, outcome_of, value_in_words}
use Rattle.audit_text.specs.Reader.Lines.{line_words, is_skipped, kept, said_lines}
use Rattle.audit_text.specs.declared.reader.fields.TextError.{TextError}
use Rattle.audit_text.specs.declared.reader.fields.TextError.TheVariants as error
use Rattle.audit_text.specs.declared.reader.inputs.Begun.{Begun}
use Rattle.audit_text.specs.declared.reader.inputs.InputLine.{InputLine}
use Rattle.audit_text.specs.declared.reader.inputs.InputLine.TheVariants as entry
use Rattle.audit_text.specs.declared.reader.inputs.Replay.{Replay}
use Rattle.audit_text.proofs.reader.Itemed.{config_of-words, words-config, words-outcome, bind-some, words-said}
use Rattle.audit_text.proofs.reader.Joined.{Lacks, IsWord, joined, lacks-joined, line-joined, said_lines-line, said_lines-kept}
use Rattle.audit_text.proofs.reader.Said.{number_in-decimal, word-decimal, bytes_in-word, word-bytes, number_or_none, word-tested}

-- an entry that can be written
abbrev FitsEntry : InputLine → Type 0
FitsEntry (entry.Config config) = FitsConfig config
FitsEntry (entry.Made made) = FitsNumber made.nanos
FitsEntry (entry.Input input) = FitsInput input

-- the line_words of an entry
abbrev entry_words : InputLine → List (List ℕ)
entry_words (entry.Config config) = config_words config
entry_words (entry.Made made) = made_words made.nanos
entry_words (entry.Input input) = input_words input

-- ---- one line

entry_words_in-answer : (load : LoadId) (o : Outcome) (moment : Instant) → FitsInput (input.Answer load o moment) → entry_words_in (input_words (input.Answer load o moment)) ≡ Some (entry.Input (input.Answer load o moment))
unfolding entry_words_in entry_of input_in asked_of event_of answer_in_words outcome_of value_in_words
entry_words_in-answer load (outcome.Value bytes ms) moment fits = rw (number_in-decimal load.namespace fits.0, number_in-decimal load.number fits.1, number_in-decimal moment.nanos fits.2, bytes_in-word bytes fits.3.0, number_or_none ms fits.3.1)
entry_words_in-answer load outcome.None moment fits = rw (number_in-decimal load.namespace fits.0, number_in-decimal load.number fits.1, number_in-decimal moment.nanos fits.2)
entry_words_in-answer load (outcome.Fault text) moment fits = rw (number_in-decimal load.namespace fits.0, number_in-decimal load.number fits.1, number_in-decimal moment.nanos fits.2, bytes_in-word text fits.3)

entry_words_in-input : (i : Input) → FitsInput i → entry_words_in (input_words i) ≡ Some (entry.Input i)
unfolding entry_words_in entry_of input_in asked_of event_of feed_in_words give_up_in_words
entry_words_in-input (input.Open namespace) fits = rw (number_in-decimal namespace fits)
entry_words_in-input (input.Close conn) fits = rw (number_in-decimal conn.namespace fits.0, number_in-decimal conn.number fits.1)
entry_words_in-input (input.Feed conn piece moment) fits = rw (number_in-decimal conn.namespace fits.0, number_in-decimal conn.number fits.1, number_in-decimal moment.nanos fits.2, bytes_in-word piece fits.3)
entry_words_in-input (input.Answer load outcome moment) fits = entry_words_in-answer load outcome moment fits
entry_words_in-input (input.GiveUp load moment) fits = rw (number_in-decimal load.namespace fits.0, number_in-decimal load.number fits.1, number_in-decimal moment.nanos fits.2)

entry_words_in-entry : (e : InputLine) → FitsEntry e → entry_words_in (entry_words e) ≡ Some e
unfolding entry_words_in entry_of
entry_words_in-entry (entry.Config config) fits = rw (config_of-words config fits)
entry_words_in-entry (entry.Made made) fits = rw (number_in-decimal made.nanos fits)
entry_words_in-entry (entry.Input input) fits = entry_words_in-input input fits

words-asked : (i : Input) → FitsInput i → AllByRecursion IsWord (input_words i)
words-asked (input.Open namespace) fits = (word-tested (codes "input") refl, (word-decimal namespace fits, (word-tested (codes "open") refl, tt)))
words-asked (input.Close conn) fits = (word-tested (codes "input") refl, (word-decimal conn.namespace fits.0, (word-tested (codes "close") refl, (word-decimal conn.number fits.1, tt))))
words-asked (input.Feed conn piece moment) fits =
    (word-tested (codes "input") refl, (word-decimal conn.namespace fits.0, (word-tested (codes "feed") refl, (word-decimal conn.number fits.1, (word-decimal moment.nanos fits.2, (word-bytes piece, tt))))))
words-asked (input.Answer load outcome moment) fits =
    (word-tested (codes "input") refl, (word-decimal load.namespace fits.0, (word-tested (codes "answer") refl, (word-decimal load.number fits.1, (word-decimal moment.nanos fits.2, words-outcome outcome fits.3)))))
words-asked (input.GiveUp load moment) fits =
    (word-tested (codes "input") refl, (word-decimal load.namespace fits.0, (word-tested (codes "giveup") refl, (word-decimal load.number fits.1, (word-decimal moment.nanos fits.2, tt)))))

words-entry : (e : InputLine) → FitsEntry e → AllByRecursion IsWord (entry_words e)
words-entry (entry.Config config) fits = words-config config fits
words-entry (entry.Made made) fits = (word-tested (codes "made") refl, (word-decimal made.nanos fits, tt))
words-entry (entry.Input input) fits = words-asked input fits

says-entry : (e : InputLine) → is_skipped (joined (entry_words e)) ≡ false
says-entry (entry.Config config) = refl
says-entry (entry.Made made) = refl
says-entry (entry.Input (input.Open namespace)) = refl
says-entry (entry.Input (input.Close conn)) = refl
says-entry (entry.Input (input.Feed conn piece moment)) = refl
says-entry (entry.Input (input.Answer load outcome moment)) = refl
says-entry (entry.Input (input.GiveUp load moment)) = refl

text-entry : (e : InputLine) → entry_line e ≡ joined (entry_words e) ++ 10 ∷ []
text-entry (entry.Config config) = line-joined (config_words config)
text-entry (entry.Made made) = line-joined (made_words made.nanos)
text-entry (entry.Input input) = line-joined (input_words input)

entry_in-line : (e : InputLine) (l : List ℕ) → entry_words_in (line_words l) ≡ Some e → entry_line e ≡ l ++ 10 ∷ [] → entry_in l ≡ Some e
unfolding entry_in
entry_in-line e l said text = bind-some (entry_words_in (line_words l)) e _ said ∙ cond-true (bytes_eq (entry_line e) (l ++ 10 ∷ [])) _ _ ((bytes_eq-Decides (entry_line e) (l ++ 10 ∷ [])).1 text)

entry_in-entry : (e : InputLine) → FitsEntry e → entry_in (joined (entry_words e)) ≡ Some e
entry_in-entry e fits =
    entry_in-line e (joined (entry_words e)) (ap entry_words_in (words-said (entry_words e) (says-entry e) (words-entry e fits)) ∙ entry_words_in-entry e fits) (text-entry e)

-- ---- all lines

abbrev configs_then : List Config → List InputLine → List InputLine
configs_then [] es = es
configs_then (c ∷ cs) es = entry.Config c ∷ configs_then cs es

abbrev input_entries : List Input → List InputLine
input_entries [] = []
input_entries (i ∷ is) = entry.Input i ∷ input_entries is

abbrev entries : Replay → List InputLine
entries replay = configs_then replay.configs (entry.Made replay.made ∷ input_entries replay.inputs)

fits-configs : (cs : List Config) (es : List InputLine) → AllByRecursion FitsConfig cs → AllByRecursion FitsEntry es → AllByRecursion FitsEntry (configs_then cs es)
fits-configs [] es all more = more
fits-configs (c ∷ cs) es all more = (all.0, fits-configs cs es all.1 more)

fits-inputs : (is : List Input) → AllByRecursion FitsInput is → AllByRecursion FitsEntry (input_entries is)
fits-inputs [] all = tt
fits-inputs (i ∷ is) all = (all.0, fits-inputs is all.1)

abbrev text_of : List InputLine → List ℕ
text_of es = flat_map entry_line es

text-configs : (cs : List Config) (es : List InputLine) → text_of (configs_then cs es) ≡ flat_map (λ config. line (config_words config)) cs ++ text_of es
text-configs [] es = refl
text-configs (c ∷ cs) es = ap (λ t. line (config_words c) ++ t) (text-configs cs es) ∙ sym (append_assoc (line (config_words c)) (flat_map (λ config. line (config_words config)) cs) (text_of es))

text-inputs : (is : List Input) → text_of (input_entries is) ≡ flat_map (λ input. line (input_words input)) is
text-inputs [] = refl
text-inputs (i ∷ is) = ap (λ t. line (input_words i) ++ t) (text-inputs is)

text-entries : (replay : Replay) → text_of (entries replay) ≡ replay_text replay
text-entries replay =
    let configs = flat_map (λ config. line (config_words config)) replay.configs in
    let made = line (made_words replay.made.nanos) in
    let inputs = flat_map (λ input. line (input_words input)) replay.inputs in
    text-configs replay.configs (entry.Made replay.made ∷ input_entries replay.inputs)
    ∙ ap (λ t. configs ++ (made ++ t)) (text-inputs replay.inputs)
    ∙ sym (append_assoc configs made inputs)

-- entries behind what was read
abbrev add_entries : Begun → List InputLine → Option Begun
add_entries b [] = Some b
add_entries b (e ∷ es) = add_entry b e >>= (λ more. add_entries more es)

lines-entries : (b : Begun) (es : List InputLine) → AllByRecursion FitsEntry es → begin_lines b (said_lines (text_of es)) ≡ add_entries b es
lines-entries b [] all = refl
lines-entries b (e ∷ es) all = first ∙ by_sum (add_entry b e) (λ more. lines-entries more es all.1)
  where
    first : begin_lines b (said_lines (text_of (e ∷ es))) ≡ (add_entry b e >>= (λ more. begin_lines more (said_lines (text_of es))))
    first =
        let l = joined (entry_words e) in
        ap (λ t. begin_lines b (said_lines (t ++ text_of es))) (text-entry e)
        ∙ ap (begin_lines b) (said_lines-line l (text_of es) (lacks-joined (entry_words e) (words-entry e all.0)) (says-entry e))
        ∙ ap (λ o. o >>= (λ said. add_entry b said >>= (λ more. begin_lines more (said_lines (text_of es))))) (entry_in-entry e all.0)

    by_sum : (sum : Option Begun) → ((more : Begun) → begin_lines more (said_lines (text_of es)) ≡ add_entries more es)
        → (sum >>= (λ more. begin_lines more (said_lines (text_of es)))) ≡ (sum >>= (λ more. add_entries more es))
    by_sum None behind = refl
    by_sum (Some more) behind = behind more

-- entries behind what was read, to the end
abbrev run : Begun → List InputLine → Option Replay
run b es = add_entries b es >>= replay_of

run-configs : (front cs : List Config) (es : List InputLine) → run (record { configs = front; made = None; inputs = [] }) (configs_then cs es) ≡ run (record { configs = front ++ cs; made = None; inputs = [] }) es
unfolding begin_config
run-configs front [] es = ap (λ c. run (record { configs = c; made = None; inputs = [] }) es) (sym (append-nil front))
run-configs front (c ∷ cs) es = run-configs (front ++ c ∷ []) cs es ∙ ap (λ c. run (record { configs = c; made = None; inputs = [] }) es) (append_assoc front (c ∷ []) cs)

run-made : (cs : List Config) (made : Instant) (es : List InputLine) → cs ≢ [] → run (record { configs = cs; made = None; inputs = [] }) (entry.Made made ∷ es) ≡ run (record { configs = cs; made = Some made; inputs = [] }) es
unfolding begin_made
run-made [] made es some = absurd (some refl)
run-made (c ∷ cs) made es some = rw (ne_eqb (length (c ∷ cs)) 0 (λ e. absurd (omega arith)))

run-inputs : (cs : List Config) (made : Instant) (front is : List Input) → run (record { configs = cs; made = Some made; inputs = front }) (input_entries is) ≡ Some (record { configs = cs; made = made; inputs = front ++ is })
unfolding begin_input
run-inputs cs made front [] = ap (λ i. Some (record { configs = cs; made = made; inputs = i })) (sym (append-nil front))
run-inputs cs made front (i ∷ is) = run-inputs cs made (front ++ i ∷ []) is ∙ ap (λ i. Some (record { configs = cs; made = made; inputs = i })) (append_assoc front (i ∷ []) is)

run-entries : (replay : Replay) → replay.configs ≢ [] → run none_begun (entries replay) ≡ Some replay
run-entries replay some =
    run-configs [] replay.configs (entry.Made replay.made ∷ input_entries replay.inputs)
    ∙ run-made replay.configs replay.made (input_entries replay.inputs) some
    ∙ run-inputs replay.configs replay.made [] replay.inputs

pub reading-replay : (text : List ℕ) (replay : Replay) → FitsReplay replay → replay_text replay ≡ kept text → replay_reading text ≡ Some replay
unfolding replay_reading
reading-replay text replay fits e =
    ap (λ ls. begin_lines none_begun ls >>= replay_of) (sym (said_lines-kept text) ∙ ap said_lines (sym e ∙ sym (text-entries replay)))
    ∙ ap (λ o. o >>= replay_of) (lines-entries none_begun (entries replay) (fits-configs replay.configs _ fits.configs (fits.made, fits-inputs replay.inputs fits.inputs)))
    ∙ run-entries replay fits.some

-- so that is what was read
pub given-replay : (text : List ℕ) (replay : Replay) (read : Result Replay TextError) → IsReadText (replay_reading text) read → replay_reading text ≡ Some replay → IsReplay read replay
given-replay text replay (Ok r) said law = let e = sym said ∙ law in cc
given-replay text replay (Err (error.Line number)) said law = let e : None ≡ Some replay = sym said ∙ law in cc
given-replay text replay (Err error.OutOfMemory) said law = tt
