-- What the lines say together: what was gathered, item by item.
use Rattle.std.specs.Prelude.{◌≡◌, ℕ, Bool, not, ◌&&◌, ◌||◌, nat_eq, if◌then◌else◌, List, [], ◌∷◌, ◌++◌, length, Option, Some, None, is_some, is_none, Result, Ok, Err, option_map}
use Rattle.audit_model.specs.declared.config.Config.{Config}
use Rattle.audit_model.specs.declared.event.Event.{Event}
use Rattle.audit_model.specs.declared.event.Instant.{Instant}
use Rattle.audit_model.specs.declared.transcript.Accepted.{Accepted}
use Rattle.audit_model.specs.declared.transcript.Note.{Note}
use Rattle.audit_model.specs.declared.transcript.Record.{Record}
use Rattle.audit_model.specs.declared.transcript.Step.{Step}
use Rattle.audit_model.specs.declared.transcript.Transcript.{Transcript}
use Rattle.audit_text.specs.Reader.Fields.{◌>>=◌, IsFault}
use Rattle.audit_text.specs.Reader.Items.{item_in}
use Rattle.audit_text.specs.Reader.Lines.{said_lines}
use Rattle.audit_text.specs.declared.reader.fields.LineFault.{LineFault}
use Rattle.audit_text.specs.declared.reader.fields.TextError.{TextError}
use Rattle.audit_text.specs.declared.reader.fields.TextError.TheVariants as error
use Rattle.audit_text.specs.declared.reader.gathering.Gathered.{Gathered}
use Rattle.audit_text.specs.declared.reader.item.Item.{Item}
use Rattle.audit_text.specs.declared.reader.item.Item.TheVariants as item

-- a value was changed as the definition says, and there is a fault of form only if the definition gives none
abbrev pub IsMade : {A B : Type 0} → Option B → Result A LineFault → B → Type 0
IsMade said (Ok done) new = said ≡ Some new
IsMade said (Err f) new = IsFault said f

-- the same for a whole text
abbrev pub IsReadText : {A : Type 0} → Option A → Result A TextError → Type 0
IsReadText said (Ok a) = said ≡ Some a
IsReadText said (Err (error.Line number)) = said ≡ None
IsReadText said (Err error.OutOfMemory) = Unit {0}

-- this transcript was read, with this configuration, or there was no memory
abbrev pub IsGiven : Result (Config × Transcript) TextError → Config → Transcript → Type 0
IsGiven (Ok r) config transcript = r ≡ (config, transcript)
IsGiven (Err (error.Line number)) config transcript = ⊥
IsGiven (Err error.OutOfMemory) config transcript = Unit {0}

-- nothing was gathered
abbrev pub none_gathered : Gathered
none_gathered = record { config = None; made = None; records = []; last = None; step = None }

-- no record has begun
abbrev pub has_no_records : Gathered → Bool
has_no_records g = nat_eq (length g.records) 0 && is_none g.last && is_none g.step

-- ---- a record with more

abbrev pub with_step : Record → Step → Record
with_step r step = record r { steps = r.steps ++ step ∷ [] }

abbrev pub with_own : Record → Accepted → Option Record
with_own r own =
    if is_some r.own || not (nat_eq (length r.notices) 0) || not (nat_eq (length r.steps) 0) then None else Some (record r {
      own = Some own;
    })

abbrev pub with_own_note : Record → Note → Option Record
with_own_note r note =
    if not (nat_eq (length r.steps) 0) then None else Some (record r {
      notices = r.notices ++ note ∷ [];
    })

abbrev pub with_note : Step → Note → Step
with_note s note = record s { notices = s.notices ++ note ∷ [] }

-- ---- what is open, added to the others

abbrev pub step_closed : Option Step → Option Record → Gathered → Option Gathered
step_closed None r g = Some g
step_closed (Some s) None g = None
step_closed (Some s) (Some r) g = Some (record g { last = Some (with_step r s); step = None })

-- the last step was added to its record
abbrev pub closed_step : Gathered → Option Gathered
closed_step g = step_closed g.step g.last g

abbrev pub record_closed : Option Record → Gathered → Gathered
record_closed None g = g
record_closed (Some r) g = record g { records = g.records ++ r ∷ []; last = None }

-- the last record was added to the others
abbrev pub closed_record : Gathered → Gathered
closed_record g = record_closed g.last g

-- ---- what was gathered with one more item, if it may come there

unfoldable pub add_config : Gathered → Config → Option Gathered
add_config g config =
    if is_some g.config || not (has_no_records g) || is_some g.made then None else Some (record g {
      config = Some config;
    })

unfoldable pub add_made : Gathered → Instant → Option Gathered
add_made g made =
    if is_none g.config || not (has_no_records g) || is_some g.made then None else Some (record g {
      made = Some made;
    })

-- a new record
abbrev pub begun : Event → Record
begun event = record { event = event; own = None; notices = []; steps = [] }

unfoldable pub add_event : Gathered → Event → Option Gathered
add_event g event =
    if is_none g.made then None else option_map {T = Gathered} (λ closed. record (closed_record closed) {
      last = Some (begun event);
    }) (closed_step g)

-- the open record was changed, if no step is open
abbrev pub on_record : (Record → Option Record) → Option Record → Gathered → Option Gathered
on_record change None g = None
on_record change (Some r) g =
    option_map (λ changed. record g { last = Some changed }) (change r)

unfoldable pub add_own : Gathered → Accepted → Option Gathered
add_own g own = if is_some g.step then None else on_record (λ r. with_own r own) g.last g

unfoldable pub add_own_note : Gathered → Note → Option Gathered
add_own_note g note =
    if is_some g.step then None else on_record (λ r. with_own_note r note) g.last g

unfoldable pub add_step : Gathered → Step → Option Gathered
add_step g step =
    if is_none g.last then None else option_map {T = Gathered} (λ closed. record closed {
      step = Some step;
    }) (closed_step g)

-- the open step was changed
abbrev pub on_step : Option Step → Note → Gathered → Option Gathered
on_step None note g = None
on_step (Some s) note g = Some (record g { step = Some (with_note s note) })

unfoldable pub add_note : Gathered → Note → Option Gathered
add_note g note = on_step g.step note g

abbrev pub add_item : Gathered → Item → Option Gathered
add_item g (item.Config config) = add_config g config
add_item g (item.Made made) = add_made g made
add_item g (item.Event event) = add_event g event
add_item g (item.Own own) = add_own g own
add_item g (item.OwnNote note) = add_own_note g note
add_item g (item.Step step) = add_step g step
add_item g (item.Note note) = add_note g note

-- ---- all lines

-- lines that say something, after what was gathered
abbrev pub add_lines : Gathered → List (List ℕ) → Option Gathered
add_lines g [] = Some g
add_lines g (l ∷ ls) = do
  said ← item_in l
  more ← add_item g said
  add_lines more ls

-- the transcript with its configuration, if both lines at the front were read
unfoldable pub finished : Gathered → Option (Config × Transcript)
finished g = do
  closed ← closed_step g
  config ← closed.config
  made ← closed.made
  Some (config, record { made = made; records = (closed_record closed).records })

-- what a text says
unfoldable pub transcript_in_words : List ℕ → Option (Config × Transcript)
transcript_in_words text = add_lines none_gathered (said_lines text) >>= finished
