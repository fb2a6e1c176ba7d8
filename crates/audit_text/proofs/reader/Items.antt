-- The items of a transcript, gathered.
use Rattle.std.proofs.Common.{◌≡◌, ℕ, ◌<◌, Bool, true, false, cond, List, [], ◌∷◌, ◌++◌, Option, Some, None, refl, sym, ap, ◌∙◌}
use Rattle.std.specs.Prelude.{codes}
use Rattle.std.specs.List.{flat_map, AllByRecursion}
use Rattle.std.proofs.lemmas.List.{append_assoc, append-nil}
use Rattle.audit_model.specs.declared.config.Config.{Config}
use Rattle.audit_model.specs.declared.event.Event.{Event}
use Rattle.audit_model.specs.declared.event.Instant.{Instant}
use Rattle.audit_model.specs.declared.transcript.Accepted.{Accepted}
use Rattle.audit_model.specs.declared.transcript.Note.{Note}
use Rattle.audit_model.specs.declared.transcript.Record.{Record}
use Rattle.audit_model.specs.declared.transcript.Step.{Step}
use Rattle.audit_model.specs.declared.transcript.Transcript.{Transcript}
use Rattle.audit_text.specs.Text.{config_words, made_words, event_words, own_text, note_line, step_words, step_text, record_text, transcript_text}
use Rattle.audit_text.specs.Words.{line}
use Rattle.audit_text.specs.Reader.Fields.{◌>>=◌}
use Rattle.audit_text.specs.Reader.Fits.{IfAny, FitsPart, FitsConfig, FitsNote, FitsStep, FitsRecord, FitsTranscript}
use Rattle.audit_text.specs.Reader.Gathered.{item_line}
use Rattle.audit_text.specs.Reader.Gathering.{none_gathered, with_step, with_note, begun, add_config, add_made, add_event, add_own, add_own_note, add_step, add_note, add_item, add_lines, finished}
use Rattle.audit_text.specs.Reader.Items.{item_in}
use Rattle.audit_text.specs.Reader.Lines.{said_lines}
use Rattle.audit_text.specs.declared.reader.gathering.Gathered.{Gathered}
use Rattle.audit_text.specs.declared.reader.item.Item.{Item}
use Rattle.audit_text.specs.declared.reader.item.Item.TheVariants as item
use Rattle.audit_text.proofs.reader.Itemed.{FitsItem, LineOf, item_words, line-of}
use Rattle.audit_text.proofs.reader.Joined.{joined, said_lines-line}

-- ---- the items

-- a step without its notes
abbrev pub bare : Step → Step
bare step = record step { notices = [] }

abbrev pub own_then : Option Accepted → List Item → List Item
own_then None is = is
own_then (Some own) is = item.Own own ∷ is

abbrev pub own_notes_then : List Note → List Item → List Item
own_notes_then [] is = is
own_notes_then (n ∷ ns) is = item.OwnNote n ∷ own_notes_then ns is

abbrev pub notes_then : List Note → List Item → List Item
notes_then [] is = is
notes_then (n ∷ ns) is = item.Note n ∷ notes_then ns is

abbrev pub steps_then : List Step → List Item → List Item
steps_then [] is = is
steps_then (s ∷ ss) is = item.Step (bare s) ∷ notes_then s.notices (steps_then ss is)

abbrev pub record_items : List Record → List Item
record_items [] = []
record_items (r ∷ rs) = item.Event r.event ∷ own_then r.own (own_notes_then r.notices (steps_then r.steps (record_items rs)))

abbrev pub items : Config → Transcript → List Item
items config transcript = item.Config config ∷ item.Made transcript.made ∷ record_items transcript.records

-- ---- they fit

fits-own : (own : Option Accepted) (is : List Item) → IfAny FitsPart own → AllByRecursion FitsItem is → AllByRecursion FitsItem (own_then own is)
fits-own None is own more = more
fits-own (Some part) is own more = (own, more)

fits-own_notes : (ns : List Note) (is : List Item) → AllByRecursion FitsNote ns → AllByRecursion FitsItem is → AllByRecursion FitsItem (own_notes_then ns is)
fits-own_notes [] is all more = more
fits-own_notes (n ∷ ns) is all more = (all.0, fits-own_notes ns is all.1 more)

fits-notes : (ns : List Note) (is : List Item) → AllByRecursion FitsNote ns → AllByRecursion FitsItem is → AllByRecursion FitsItem (notes_then ns is)
fits-notes [] is all more = more
fits-notes (n ∷ ns) is all more = (all.0, fits-notes ns is all.1 more)

fits-bare : (s : Step) → FitsStep s → FitsStep (bare s)
fits-bare s fits = record { conn = fits.conn; line = fits.line; reply = fits.reply; load = fits.load; accepted = fits.accepted; notices = tt }

fits-steps : (ss : List Step) (is : List Item) → AllByRecursion FitsStep ss → AllByRecursion FitsItem is → AllByRecursion FitsItem (steps_then ss is)
fits-steps [] is all more = more
fits-steps (s ∷ ss) is all more = ((fits-bare s all.0, refl), fits-notes s.notices (steps_then ss is) all.0.notices (fits-steps ss is all.1 more))

fits-records : (rs : List Record) → AllByRecursion FitsRecord rs → AllByRecursion FitsItem (record_items rs)
fits-records [] all = tt
fits-records (r ∷ rs) all =
    let steps = fits-steps r.steps (record_items rs) all.0.steps (fits-records rs all.1) in
    (all.0.event, fits-own r.own _ all.0.own (fits-own_notes r.notices _ all.0.notices steps))

pub fits-items : (config : Config) (transcript : Transcript) → FitsConfig config → FitsTranscript transcript → AllByRecursion FitsItem (items config transcript)
fits-items config transcript c t = (c, (t.made, fits-records transcript.records t.records))

-- ---- their text

abbrev pub text_of : List Item → List ℕ
text_of is = flat_map item_line is

text-own : (own : Option Accepted) (is : List Item) → text_of (own_then own is) ≡ own_text own ++ text_of is
text-own None is = refl
text-own (Some part) is = refl

text-own_notes : (ns : List Note) (is : List Item) → text_of (own_notes_then ns is) ≡ flat_map (note_line (codes "ownnote")) ns ++ text_of is
text-own_notes [] is = refl
text-own_notes (n ∷ ns) is = ap (λ t. note_line (codes "ownnote") n ++ t) (text-own_notes ns is) ∙ sym (append_assoc (note_line (codes "ownnote") n) (flat_map (note_line (codes "ownnote")) ns) (text_of is))

text-notes : (ns : List Note) (is : List Item) → text_of (notes_then ns is) ≡ flat_map (note_line (codes "note")) ns ++ text_of is
text-notes [] is = refl
text-notes (n ∷ ns) is = ap (λ t. note_line (codes "note") n ++ t) (text-notes ns is) ∙ sym (append_assoc (note_line (codes "note") n) (flat_map (note_line (codes "note")) ns) (text_of is))

-- a step and its notes in front
text-step : (s : Step) (is : List Item) → text_of (item.Step (bare s) ∷ notes_then s.notices is) ≡ step_text s ++ text_of is
text-step s is =
    let head = line (step_words s) in
    let notes = flat_map (note_line (codes "note")) s.notices in
    ap (λ t. t ++ text_of (notes_then s.notices is)) (append-nil head) ∙ ap (λ t. head ++ t) (text-notes s.notices is) ∙ sym (append_assoc head notes (text_of is))

text-steps : (ss : List Step) (is : List Item) → text_of (steps_then ss is) ≡ flat_map step_text ss ++ text_of is
text-steps [] is = refl
text-steps (s ∷ ss) is = text-step s (steps_then ss is) ∙ ap (λ t. step_text s ++ t) (text-steps ss is) ∙ sym (append_assoc (step_text s) (flat_map step_text ss) (text_of is))

text-record : (r : Record) (is : List Item) → text_of (item.Event r.event ∷ own_then r.own (own_notes_then r.notices (steps_then r.steps is))) ≡ record_text r ++ text_of is
text-record r is =
    let head = line (event_words r.event) in
    let own = own_text r.own in
    let notes = flat_map (note_line (codes "ownnote")) r.notices in
    let steps = flat_map step_text r.steps in
    ap (λ t. head ++ t) (text-own r.own (own_notes_then r.notices (steps_then r.steps is)) ∙ ap (λ t. own ++ t) (text-own_notes r.notices (steps_then r.steps is) ∙ ap (λ t. notes ++ t) (text-steps r.steps is)))
    ∙ simp append_assoc

text-records : (rs : List Record) → text_of (record_items rs) ≡ flat_map record_text rs
text-records [] = refl
text-records (r ∷ rs) = text-record r (record_items rs) ∙ ap (λ t. record_text r ++ t) (text-records rs)

pub text-items : (config : Config) (transcript : Transcript) → text_of (items config transcript) ≡ transcript_text config transcript
text-items config transcript =
    let head = line (config_words config) in
    let made = line (made_words transcript.made.nanos) in
    ap (λ t. head ++ (made ++ t)) (text-records transcript.records) ∙ sym (append_assoc head made (flat_map record_text transcript.records))

-- ---- items by their lines

-- items behind what was gathered
abbrev pub add_items : Gathered → List Item → Option Gathered
add_items g [] = Some g
add_items g (i ∷ is) = add_item g i >>= (λ more. add_items more is)

pub lines-items : (g : Gathered) (is : List Item) → AllByRecursion FitsItem is → add_lines g (said_lines (text_of is)) ≡ add_items g is
lines-items g [] all = refl
lines-items g (i ∷ is) all = first (line-of i all.0) ∙ by_sum (add_item g i) (λ more. lines-items more is all.1)
  where
    first : LineOf i (joined (item_words i)) → add_lines g (said_lines (text_of (i ∷ is))) ≡ (add_item g i >>= (λ more. add_lines more (said_lines (text_of is))))
    first of =
        let l = joined (item_words i) in
        ap (λ t. add_lines g (said_lines (t ++ text_of is))) of.text
        ∙ ap (add_lines g) (said_lines-line l (text_of is) of.lacks of.says)
        ∙ ap (λ o. o >>= (λ said. add_item g said >>= (λ more. add_lines more (said_lines (text_of is))))) of.said

    by_sum : (sum : Option Gathered) → ((more : Gathered) → add_lines more (said_lines (text_of is)) ≡ add_items more is)
        → (sum >>= (λ more. add_lines more (said_lines (text_of is)))) ≡ (sum >>= (λ more. add_items more is))
    by_sum None behind = refl
    by_sum (Some more) behind = behind more

-- ---- gathered

-- items behind what was gathered, to the end
abbrev pub run : Gathered → List Item → Option (Config × Transcript)
run g is = add_items g is >>= finished

-- what was gathered: whole records, the open record, and the open step
abbrev pub state : Config → Instant → List Record → Option Record → Option Step → Gathered
state config made rs r s = record { config = Some config; made = Some made; records = rs; last = r; step = s }

module _ (config : Config) (made : Instant) where
  run-notes : (rs : List Record) (r : Record) (s : Step) (ns : List Note) (is : List Item)
      → run (state config made rs (Some r) (Some s)) (notes_then ns is) ≡ run (state config made rs (Some r) (Some (record s { notices = s.notices ++ ns }))) is
  unfolding add_note
  run-notes rs r s [] is = ap (λ n. run (state config made rs (Some r) (Some (record s { notices = n }))) is) (sym (append-nil s.notices))
  run-notes rs r s (n ∷ ns) is =
      run-notes rs r (with_note s n) ns is ∙ ap (λ n. run (state config made rs (Some r) (Some (record s { notices = n }))) is) (append_assoc s.notices (n ∷ []) ns)

  run-own : (rs : List Record) (e : Event) (own : Option Accepted) (is : List Item)
      → run (state config made rs (Some (begun e)) None) (own_then own is) ≡ run (state config made rs (Some (record (begun e) { own = own })) None) is
  unfolding add_own
  run-own rs e None is = refl
  run-own rs e (Some part) is = refl

  run-own_notes : (rs : List Record) (e : Event) (own : Option Accepted) (ms ns : List Note) (is : List Item)
      → run (state config made rs (Some (record (begun e) { own = own; notices = ms })) None) (own_notes_then ns is) ≡ run (state config made rs (Some (record (begun e) { own = own; notices = ms ++ ns })) None) is
  unfolding add_own_note
  run-own_notes rs e own ms [] is = ap (λ n. run (state config made rs (Some (record (begun e) { own = own; notices = n })) None) is) (sym (append-nil ms))
  run-own_notes rs e own ms (n ∷ ns) is =
      run-own_notes rs e own (ms ++ n ∷ []) ns is ∙ ap (λ n. run (state config made rs (Some (record (begun e) { own = own; notices = n })) None) is) (append_assoc ms (n ∷ []) ns)

  -- items before which an open step is put to its record
  Closes : List Item → Type 0
  Closes is = (rs : List Record) (r : Record) (s : Step) → run (state config made rs (Some r) (Some s)) is ≡ run (state config made rs (Some (with_step r s)) None) is

  closes-steps : (ss : List Step) (is : List Item) → Closes is → Closes (steps_then ss is)
  unfolding Closes add_step
  closes-steps [] is closes = closes
  closes-steps (t ∷ ss) is closes = λ rs r s. refl

  closes-records : (rs : List Record) → Closes (record_items rs)
  unfolding Closes add_event finished
  closes-records [] = λ rs r s. refl
  closes-records (q ∷ qs) = λ rs r s. refl

  run-steps : (rs : List Record) (r : Record) (ss : List Step) (is : List Item) → Closes is
      → run (state config made rs (Some r) None) (steps_then ss is) ≡ run (state config made rs (Some (record r { steps = r.steps ++ ss })) None) is
  unfolding Closes add_step
  run-steps rs r [] is closes = ap (λ n. run (state config made rs (Some (record r { steps = n })) None) is) (sym (append-nil r.steps))
  run-steps rs r (s ∷ ss) is closes =
      run-notes rs r (bare s) s.notices (steps_then ss is)
      ∙ closes-steps ss is closes rs r s
      ∙ run-steps rs (with_step r s) ss is closes
      ∙ ap (λ n. run (state config made rs (Some (record r { steps = n })) None) is) (append_assoc r.steps (s ∷ []) ss)

  run-shut : (rs : List Record) (r : Record) (qs : List Record) → run (state config made rs (Some r) None) (record_items qs) ≡ run (state config made (rs ++ r ∷ []) None None) (record_items qs)
  unfolding add_event finished
  run-shut rs r [] = refl
  run-shut rs r (q ∷ qs) = refl

  run-records : (rs qs : List Record) → run (state config made rs None None) (record_items qs) ≡ Some (config, record { made = made; records = rs ++ qs })
  unfolding add_event finished
  run-records rs [] = ap (λ n. Some (config, record { made = made; records = n })) (sym (append-nil rs))
  run-records rs (q ∷ qs) =
      run-own rs q.event q.own (own_notes_then q.notices (steps_then q.steps (record_items qs)))
      ∙ run-own_notes rs q.event q.own [] q.notices (steps_then q.steps (record_items qs))
      ∙ run-steps rs (record (begun q.event) { own = q.own; notices = q.notices }) q.steps (record_items qs) (closes-records qs)
      ∙ run-shut rs q qs
      ∙ run-records (rs ++ q ∷ []) qs
      ∙ ap (λ n. Some (config, record { made = made; records = n })) (append_assoc rs (q ∷ []) qs)

pub run-items : (config : Config) (transcript : Transcript) → run none_gathered (items config transcript) ≡ Some (config, transcript)
unfolding add_config add_made
run-items config transcript = run-records config transcript.made [] transcript.records
