-- What happens in a run: pieces are fed, and loads are settled by what the loader returns for their keys.
use Rattle.std.specs.Prelude.{◌≡◌, ℕ, ◌+◌, true, List, [], ◌∷◌, ◌++◌, length, Option, None, Some, IfSome, IsTrue, is_some, ◌⊎◌}
use Rattle.std.specs.List.{flat_map, list_all}
use Rattle.audit_laws.specs.Waiting.Sending.{IsSettlingOf}
use Rattle.audit_model.specs.Belongs.{refusal_of_outcome}
use Rattle.audit_model.specs.Follows.{after_records}
use Rattle.audit_model.specs.Situation.{Situation, pending_key}
use Rattle.audit_model.specs.declared.config.Config.{Config}
use Rattle.audit_model.specs.declared.event.Event.{Event}
use Rattle.audit_model.specs.declared.event.Event.TheVariants as event
use Rattle.audit_model.specs.declared.event.Outcome.{Outcome}
use Rattle.audit_model.specs.declared.input.LoadId.{LoadId}
use Rattle.audit_model.specs.declared.transcript.Note.{Note}
use Rattle.audit_model.specs.declared.transcript.Record.{Record}
use Rattle.audit_model.specs.declared.transcript.Step.{Step}
use Rattle.cache_run.specs.Devices.Sources.{Asking}
use Rattle.cache_core.specs.Settling.{answering, giving_up}
use Rattle.cache_core.specs.Turned.{feeding, is_sent, notes_in}
use Rattle.cache_commands.specs.Loads.Keys.{are_in_turn}
use Rattle.cache_run.specs.Driver.Exchanges.{Outs}
use Rattle.cache_lines.specs.Gathered.{reply_in}

-- the record of an event that is not an answer
abbrev pub record_of : Event → List Step → Record
record_of happened steps = record { event = happened; own = None; notices = []; steps = steps }

-- a piece was fed at a moment, and these steps ran; or the loader was asked, and at this moment the load was settled by this record; or the
-- load with this number was no longer under way, and what the loader returned was dropped
pub data HostTurn : Type 0 where
  Fed : (piece : List ℕ) → (moment : ℕ) → (steps : List Step) → HostTurn
  Settled : (asking : Asking) → (moment : ℕ) → (entry : Record) → HostTurn
  Dropped : (asking : Asking) → (moment : ℕ) → (load : ℕ) → HostTurn

-- the bytes that were read for it
abbrev pub piece_in : HostTurn → List ℕ
piece_in (Fed piece moment steps) = piece
piece_in (Settled asking moment entry) = []
piece_in (Dropped asking moment load) = []

-- the clock's reading
abbrev pub moment_in : HostTurn → ℕ
moment_in (Fed piece moment steps) = moment
moment_in (Settled asking moment entry) = moment
moment_in (Dropped asking moment load) = moment

-- the request to the loader
abbrev pub asked_in : HostTurn → List Asking
asked_in (Fed piece moment steps) = []
asked_in (Settled asking moment entry) = asking ∷ []
asked_in (Dropped asking moment load) = asking ∷ []

-- its record, if there is one
abbrev pub records_of_turn : ℕ → HostTurn → List Record
records_of_turn number (Fed piece moment steps) = record_of (feeding number piece moment) steps ∷ []
records_of_turn number (Settled asking moment entry) = entry ∷ []
records_of_turn number (Dropped asking moment load) = []

-- the replies of a record's connections
abbrev pub record_replies : Record → List ℕ
record_replies entry = flat_map reply_in entry.steps

abbrev pub replies_in : ℕ → HostTurn → List ℕ
replies_in number turn = flat_map record_replies (records_of_turn number turn)

abbrev pub turn_notes : ℕ → HostTurn → List Note
turn_notes number turn = flat_map notes_in (records_of_turn number turn)

-- a load is given up only if the loader returned nothing, or an outcome that is refused for its bytes or its time
abbrev pub IsGivenUpFor : Config → Option Outcome → Type 0
IsGivenUpFor config answer =
    IfSome answer (λ outcome. is_some (refusal_of_outcome config outcome) ≡ true)

-- a load is answered with what the loader returned, or given up
abbrev pub IsSettledBy : Config → Option Outcome → ℕ → Event → Type 0
IsSettledBy config answer moment happened =
    ((load : ℕ) × (outcome : Outcome) × (answer ≡ Some outcome)
    × (happened ≡ answering load outcome moment))
    ⊎ ((load : ℕ) × (happened ≡ giving_up load moment) × IsGivenUpFor config answer)

abbrev pub IsRight : Config → HostTurn → Type 0
IsRight config (Fed piece moment steps) = Unit {0}
IsRight config (Settled asking moment entry) = IsSettledBy config asking.answer moment entry.event
IsRight config (Dropped asking moment load) = Unit {0}

abbrev pub AreRight : Config → List HostTurn → Type 0
AreRight config [] = Unit {0}
AreRight config (turn ∷ turns) = IsRight config turn × AreRight config turns

-- this is the key of the load under way that is answered or given up
abbrev pub IsKeyOf : Situation → Event → List ℕ → Type 0
IsKeyOf s (event.Answer load outcome moment) key = pending_key load s ≡ Some key
IsKeyOf s (event.GiveUp load moment) key = pending_key load s ≡ Some key
IsKeyOf s happened key = Unit {0}

-- ---- the loads that were sent

-- between two situations these loads were sent: they have the next numbers, and are under way, each with its key
pub record AreSent (s t : Situation) (outs : Outs) : Type 0 where
  pub place : ℕ
  pub in_turn : IsTrue (are_in_turn place s.sent outs)
  pub count : t.sent ≡ s.sent + length outs
  pub keys : IsTrue (list_all (is_sent t.pending) outs)

-- of these loads one has this number and this key, and the others are left
pub record Picks (load : ℕ) (key : List ℕ) (outs left : Outs) : Type 0 where
  pub front : Outs
  pub back : Outs
  pub id : LoadId
  pub number : id.number ≡ load
  pub whole : outs ≡ front ++ (id, key) ∷ back
  pub others : left ≡ front ++ back

-- the loader was asked by keys of these loads, once for each load
abbrev pub AskForSent : List Asking → Outs → Type 0
AskForSent [] outs = Unit {0}
AskForSent (asking ∷ askings) outs =
    (load : ℕ) × (left : Outs) × Picks load asking.key outs left × AskForSent askings left

-- In the situation before it, the key that the loader is asked for is that of the load that is settled; what it returned is dropped only
-- for a load that is not under way. Either way it is one of the loads that were sent and for which the loader was not asked, with its key;
-- the others are left.
abbrev pub IsInPlace : Outs → Situation → HostTurn → Outs → Type 0
IsInPlace outs s (Fed piece moment steps) left = left ≡ outs
IsInPlace outs s (Settled asking moment entry) left =
    IsKeyOf s entry.event asking.key
    × ((load : ℕ) × IsSettlingOf load entry.event × Picks load asking.key outs left)
IsInPlace outs s (Dropped asking moment load) left =
    (pending_key load s ≡ None) × Picks load asking.key outs left

-- Each turn is like this in the situation to which the turns before it lead: the loads for which the loader may be asked are these, without
-- those for which it was, and those that were sent since. And that is true of those that are left at the end.
abbrev pub AreInPlace : Config → ℕ → (Outs → Type 0) → Outs → Situation → List HostTurn → Type 0
AreInPlace config number End outs s [] = End outs
AreInPlace config number End outs s (turn ∷ turns) =
    (left : Outs) × IsInPlace outs s turn left
    × ((t : Situation) → after_records config s (records_of_turn number turn) ≡ Some t
    → (more : Outs) × AreSent s t more × AreInPlace config number End (left ++ more) t turns)

-- loads given up at moment 0, which counts as the latest
abbrev pub AreDrops : List Record → Type 0
AreDrops [] = Unit {0}
AreDrops (entry ∷ entries) = ((load : ℕ) × (entry.event ≡ giving_up load 0)) × AreDrops entries
