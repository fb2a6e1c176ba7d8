-- What a line of the form says.
use Rattle.std.proofs.Common.{◌≡◌, ◌≢◌, ℕ, ◌^◌, ◌<◌, Bool, true, false, cond, List, [], ◌∷◌, ◌++◌, Option, Some, None, refl, sym, ap, ◌∙◌, arith}
use Rattle.std.specs.Prelude.{nat_lt, codes, decimal, option_map}
use Rattle.std.specs.List.{flat_map, AllByRecursion}
use Rattle.std.specs.Str.{bytes_eq}
use Rattle.std.proofs.lemmas.Bool.{lt-ltb, cond-true, cond-false}
use Rattle.std.proofs.lemmas.List.{append-nil}
use Rattle.std.proofs.lemmas.Slice.Eq.{bytes_eq-Decides}
use Rattle.audit_model.specs.declared.config.Config.{Config}
use Rattle.audit_model.specs.declared.event.Event.{Event}
use Rattle.audit_model.specs.declared.event.Event.TheVariants as event
use Rattle.audit_model.specs.declared.event.Outcome.{Outcome}
use Rattle.audit_model.specs.declared.event.Outcome.TheVariants as outcome
use Rattle.audit_model.specs.declared.transcript.Accepted.{Accepted}
use Rattle.audit_model.specs.declared.transcript.Note.{Note}
use Rattle.audit_model.specs.declared.transcript.Step.{Step}
use Rattle.audit_text.specs.Text.{config_words, deadline_words, made_words, event_words, outcome_words, own_text, part_word, note_line, step_words, step_text}
use Rattle.audit_text.specs.Words.{bytes_word, option_word, flag_word, held_word, policy_word, weight_word, line}
use Rattle.audit_model.specs.Notes.{cause_word}
use Rattle.audit_text.specs.Reader.Fields.{◌>>=◌, field, if_no_word_left}
use Rattle.audit_text.specs.Reader.Fits.{IfAny, FitsNumber, FitsBytes, FitsPart, FitsConfig, FitsOutcome, FitsEvent, FitsNote, FitsStep}
use Rattle.audit_text.specs.Reader.Gathered.{item_line}
use Rattle.audit_text.specs.Reader.Items.{config_in_words, feed_in_words, value_in_words, outcome_of, answer_in_words, give_up_in_words, event_of, note_in_words, step_in_words, item_of, words_in, item_in}
use Rattle.audit_text.specs.Reader.Lines.{line_words, is_skipped}
use Rattle.audit_text.specs.declared.reader.item.Item.{Item}
use Rattle.audit_text.specs.declared.reader.item.Item.TheVariants as item
use Rattle.audit_text.proofs.reader.Joined.{Lacks, IsWord, AllByRecursion-append, joined, words-joined, lacks-joined, line-joined}
use Rattle.audit_text.proofs.reader.Said.{number_in-decimal, word-decimal, bytes_in-word, word-bytes, number_or_none, word-number_or_none, part_in-word, part_or_none, word-part_or_none, bytes_or_none, word-bytes_or_none, flag_in-word, held_in-word, policy_in-word, weight_in-word, cause_in-word, word-tested, word-flag, word-held, word-policy, word-weight, word-cause}

-- an item that can be written
abbrev pub FitsItem : Item → Type 0
FitsItem (item.Config config) = FitsConfig config
FitsItem (item.Made made) = FitsNumber made.nanos
FitsItem (item.Event event) = FitsEvent event
FitsItem (item.Own own) = FitsPart own
FitsItem (item.OwnNote note) = FitsNote note
FitsItem (item.Step step) = FitsStep step × (step.notices ≡ [])
FitsItem (item.Note note) = FitsNote note

abbrev pub note_words : Note → List (List ℕ)
note_words note = cause_word note.cause ∷ bytes_word note.key ∷ bytes_word note.value ∷ []

-- a step of a chain
pub bind-some : {A B : Type 0} (o : Option A) (a : A) (f : A → Option B) → o ≡ Some a → (o >>= f) ≡ f a
bind-some o a f e = ap (λ o. o >>= f) e

-- ---- by kind

pub config_of-words : (c : Config) → FitsConfig c
    → config_in_words ((codes "capacity=" ++ option_word decimal c.capacity) ∷ (codes "policy=" ++ policy_word c.policy) ∷ (codes "parts=" ++ decimal c.parts) ∷ (codes "weight=" ++ weight_word c.weight) ∷ deadline_words c) ≡ Some (c, [])
unfolding config_in_words
config_of-words c fits =
    let parts : c.parts < 2 ^ 64 = (let small = fits.parts in omega arith) in
    rw (number_or_none c.capacity fits.capacity, policy_in-word c.policy, number_in-decimal c.parts parts, weight_in-word c.weight, number_or_none c.live_ms fits.live_ms, number_or_none c.idle_ms fits.idle_ms, flag_in-word c.own_deadlines, lt-ltb c.parts (2 ^ 32) fits.parts)

pub note_of-words : (note : Note) → FitsNote note → note_in_words (note_words note) ≡ Some (note, [])
unfolding note_in_words
note_of-words note fits = rw (cause_in-word note.cause, bytes_in-word note.key fits.key, bytes_in-word note.value fits.value)

pub step_of-words : (s : Step) → FitsStep s → s.notices ≡ []
    → step_in_words (decimal s.conn ∷ held_word s.held ∷ bytes_word s.line ∷ option_word bytes_word s.reply ∷ option_word decimal s.load ∷ option_word part_word s.accepted ∷ []) ≡ Some (s, [])
unfolding step_in_words
step_of-words s fits bare =
    rw (number_in-decimal s.conn fits.conn, held_in-word s.held, bytes_in-word s.line fits.line, bytes_or_none s.reply fits.reply, number_or_none s.load fits.load, part_or_none s.accepted fits.accepted)
    (ap (λ n. Some (record s { notices = n }, [])) (sym bare))

-- ---- whole lines

-- the line_words of an item
abbrev pub item_words : Item → List (List ℕ)
item_words (item.Config config) = config_words config
item_words (item.Made made) = made_words made.nanos
item_words (item.Event event) = event_words event
item_words (item.Own own) = codes "own" ∷ part_word own ∷ []
item_words (item.OwnNote note) = codes "ownnote" ∷ note_words note
item_words (item.Step step) = step_words step
item_words (item.Note note) = codes "note" ∷ note_words note

words_in-answer : (load : ℕ) (o : Outcome) (nanos : ℕ) → FitsNumber load → FitsOutcome o → FitsNumber nanos
    → words_in (codes "answer" ∷ decimal load ∷ decimal nanos ∷ outcome_words o) ≡ Some (item.Event (event.Answer load o (record { nanos = nanos })))
unfolding words_in item_of event_of answer_in_words outcome_of value_in_words
words_in-answer load (outcome.Value bytes ms) nanos l o n = rw (number_in-decimal load l, number_in-decimal nanos n, bytes_in-word bytes o.0, number_or_none ms o.1)
words_in-answer load outcome.None nanos l o n = rw (number_in-decimal load l, number_in-decimal nanos n)
words_in-answer load (outcome.Fault text) nanos l o n = rw (number_in-decimal load l, number_in-decimal nanos n, bytes_in-word text o)

words_in-event : (e : Event) → FitsEvent e → words_in (event_words e) ≡ Some (item.Event e)
unfolding words_in item_of event_of feed_in_words give_up_in_words
words_in-event (event.Open conn) fits = rw (number_in-decimal conn fits)
words_in-event (event.Close conn) fits = rw (number_in-decimal conn fits)
words_in-event (event.Feed conn piece moment) fits = rw (number_in-decimal conn fits.0, number_in-decimal moment.nanos fits.2, bytes_in-word piece fits.1)
words_in-event (event.Answer load outcome moment) fits = words_in-answer load outcome moment.nanos fits.0 fits.1 fits.2
words_in-event (event.GiveUp load moment) fits = rw (number_in-decimal load fits.0, number_in-decimal moment.nanos fits.1)

pub words_in-item : (i : Item) → FitsItem i → words_in (item_words i) ≡ Some i
unfolding words_in item_of
words_in-item (item.Config config) fits = rw (config_of-words config fits)
words_in-item (item.Made made) fits = rw (number_in-decimal made.nanos fits)
words_in-item (item.Event event) fits = words_in-event event fits
words_in-item (item.Own own) fits = rw (part_in-word own fits)
words_in-item (item.OwnNote note) fits = rw (note_of-words note fits)
words_in-item (item.Step step) fits = rw (step_of-words step fits.0 fits.1)
words_in-item (item.Note note) fits = rw (note_of-words note fits)

-- ---- line_words are line_words

word-setting : (name w : List ℕ) → IsWord name → IsWord w → IsWord (name ++ w)
word-setting name w a b = AllByRecursion-append (λ x. 32 < x) name w a b

words-note : (word : List ℕ) (note : Note) → IsWord word → AllByRecursion IsWord (word ∷ note_words note)
words-note word note is = (is, (word-cause note.cause, (word-bytes note.key, (word-bytes note.value, tt))))

pub words-outcome : (o : Outcome) → FitsOutcome o → AllByRecursion IsWord (outcome_words o)
words-outcome (outcome.Value bytes ms) fits = (word-tested (codes "value") refl, (word-bytes bytes, (word-number_or_none ms fits.1, tt)))
words-outcome outcome.None fits = (word-tested (codes "none") refl, tt)
words-outcome (outcome.Fault text) fits = (word-tested (codes "fault") refl, (word-bytes text, tt))

words-event : (e : Event) → FitsEvent e → AllByRecursion IsWord (event_words e)
words-event (event.Open conn) fits = (word-tested (codes "open") refl, (word-decimal conn fits, tt))
words-event (event.Close conn) fits = (word-tested (codes "close") refl, (word-decimal conn fits, tt))
words-event (event.Feed conn piece moment) fits = (word-tested (codes "feed") refl, (word-decimal conn fits.0, (word-decimal moment.nanos fits.2, (word-bytes piece, tt))))
words-event (event.Answer load outcome moment) fits = (word-tested (codes "answer") refl, (word-decimal load fits.0, (word-decimal moment.nanos fits.2, words-outcome outcome fits.1)))
words-event (event.GiveUp load moment) fits = (word-tested (codes "giveup") refl, (word-decimal load fits.0, (word-decimal moment.nanos fits.1, tt)))

pub words-config : (c : Config) → FitsConfig c → AllByRecursion IsWord (config_words c)
words-config c fits =
    let parts : c.parts < 2 ^ 64 = (let small = fits.parts in omega arith) in (
      word-tested (codes "config") refl,
      (
        word-setting (codes "capacity=") _ (word-tested (codes "capacity=") refl) (word-number_or_none c.capacity fits.capacity),
        (
          word-setting (codes "policy=") _ (word-tested (codes "policy=") refl) (word-policy c.policy),
          (
            word-setting (codes "parts=") _ (word-tested (codes "parts=") refl) (word-decimal c.parts parts),
            (
              word-setting (codes "weight=") _ (word-tested (codes "weight=") refl) (word-weight c.weight),
              (
                word-setting (codes "live_ms=") _ (word-tested (codes "live_ms=") refl) (word-number_or_none c.live_ms fits.live_ms),
                (
                  word-setting (codes "idle_ms=") _ (word-tested (codes "idle_ms=") refl) (word-number_or_none c.idle_ms fits.idle_ms),
                  (
                    word-setting (codes "deadlines=") _ (word-tested (codes "deadlines=") refl) (word-flag c.own_deadlines),
                    tt,
                  ),
                ),
              ),
            ),
          ),
        ),
      ),
    )

words-item : (i : Item) → FitsItem i → AllByRecursion IsWord (item_words i)
words-item (item.Config config) fits = words-config config fits
words-item (item.Made made) fits = (word-tested (codes "made") refl, (word-decimal made.nanos fits, tt))
words-item (item.Event event) fits = words-event event fits
words-item (item.Own own) fits = (word-tested (codes "own") refl, (word-decimal own.part fits, tt))
words-item (item.OwnNote note) fits = words-note (codes "ownnote") note (word-tested (codes "ownnote") refl)
words-item (item.Step step) fits = (
  word-tested (codes "step") refl,
  (
    word-decimal step.conn fits.0.conn,
    (
      word-held step.held,
      (
        word-bytes step.line,
        (
          word-bytes_or_none step.reply fits.0.reply,
          (
            word-number_or_none step.load fits.0.load,
            (
              word-part_or_none step.accepted fits.0.accepted,
              tt,
            ),
          ),
        ),
      ),
    ),
  ),
)
words-item (item.Note note) fits = words-note (codes "note") note (word-tested (codes "note") refl)

says-event : (e : Event) → is_skipped (joined (event_words e)) ≡ false
says-event (event.Open conn) = refl
says-event (event.Close conn) = refl
says-event (event.Feed conn piece moment) = refl
says-event (event.Answer load outcome moment) = refl
says-event (event.GiveUp load moment) = refl

says-item : (i : Item) → is_skipped (joined (item_words i)) ≡ false
says-item (item.Config config) = refl
says-item (item.Made made) = refl
says-item (item.Event event) = says-event event
says-item (item.Own own) = refl
says-item (item.OwnNote note) = refl
says-item (item.Step step) = refl
says-item (item.Note note) = refl

text-item : (i : Item) → FitsItem i → item_line i ≡ joined (item_words i) ++ 10 ∷ []
text-item (item.Config config) fits = line-joined (config_words config)
text-item (item.Made made) fits = line-joined (made_words made.nanos)
text-item (item.Event event) fits = line-joined (event_words event)
text-item (item.Own own) fits = line-joined (codes "own" ∷ part_word own ∷ [])
text-item (item.OwnNote note) fits = line-joined (codes "ownnote" ∷ note_words note)
text-item (item.Step step) fits =
    ap (λ n. line (step_words step) ++ flat_map (note_line (codes "note")) n) fits.1 ∙ append-nil (line (step_words step)) ∙ line-joined (step_words step)
text-item (item.Note note) fits = line-joined (codes "note" ∷ note_words note)

pub words-said : (ws : List (List ℕ)) → is_skipped (joined ws) ≡ false → AllByRecursion IsWord ws → line_words (joined ws) ≡ ws
words-said [] says all = cc
words-said (w ∷ ws) says all = words-joined w ws all

-- l is the line of the item, and says it
pub record LineOf (i : Item) (l : List ℕ) : Type 0 where
  pub lacks : Lacks 10 l
  pub says : is_skipped l ≡ false
  pub said : item_in l ≡ Some i
  pub text : item_line i ≡ l ++ 10 ∷ []

item_in-line : (i : Item) (l : List ℕ) → words_in (line_words l) ≡ Some i → item_line i ≡ l ++ 10 ∷ [] → item_in l ≡ Some i
unfolding item_in
item_in-line i l said text = bind-some (words_in (line_words l)) i _ said ∙ cond-true (bytes_eq (item_line i) (l ++ 10 ∷ [])) _ _ ((bytes_eq-Decides (item_line i) (l ++ 10 ∷ [])).1 text)

pub line-of : (i : Item) → FitsItem i → LineOf i (joined (item_words i))
line-of i fits = record {
  lacks = lacks-joined (item_words i) (words-item i fits);
  says = says-item i;
  said = item_in-line i (joined (item_words i)) (ap words_in (words-said (item_words i) (says-item i) (words-item i fits)) ∙ words_in-item i fits) (text-item i fits);
  text = text-item i fits;
}
