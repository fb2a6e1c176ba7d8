-- Laws of the definitions.
use Rattle.std.specs.Prelude.{◌≡◌, ◌↔◌, ◌==◌, ℕ, suc, false, if◌then◌else◌, MatchOption, length, map, List, Option, [], ◌∷◌, ◌++◌, Some, None, IsTrue, is_some, Contains}
use Rattle.std.specs.List.{list_all, list_any}
use Rattle.std.specs.List.Sorted.{IsStrictlySortedBy}
use Rattle.std.specs.Option.{option_map_or, option_and_then}
use Rattle.std.specs.Ordering.{nat_cmp}
use Rattle.std.specs.Cmp.Lexicographic.{slice_cmp}
use Rattle.audit_model.specs.Belongs.{IsAdmitted, is_good, first_break, event_in, Belongs}
use Rattle.audit_model.specs.BelongsIn.{BelongsIn}
use Rattle.audit_model.specs.Follows.{AgreesWithHistory, Follows, after_event, placed_step_in, after_steps, after_records, followed}
use Rattle.audit_model.specs.History.{Value, Running, accepts_values, part_count}
use Rattle.audit_model.specs.Replies.{keys_listed}
use Rattle.audit_model.specs.Bytewise.{same}
use Rattle.audit_model.specs.Changes.{all_held_after, connection_after, after_step}
use Rattle.audit_model.specs.Commands.{Deed}
use Rattle.audit_model.specs.Notes.{candidates_of, are_true_notes}
use Rattle.audit_model.specs.Obeys.{Obeys, accepted_values, agree_on_parts}
use Rattle.audit_model.specs.Places.{placed_steps}
use Rattle.audit_model.specs.Situation.{Situation, HeldValue, empty_situation, connection_in, with_connection, live_at, live_keys_at, candidate_at}
use Rattle.audit_model.specs.Steps.{Task, is_right}
use Rattle.audit_model.specs.Summary.{LeadsToSummary}
use Rattle.audit_model.specs.declared.command.Command.TheVariants as says
use Rattle.audit_model.specs.declared.config.Config.{Config}
use Rattle.audit_model.specs.declared.config.EvictionPolicy.{EvictionPolicy}
use Rattle.audit_model.specs.declared.event.Event.{Event}
use Rattle.audit_model.specs.declared.event.Instant.{Instant}
use Rattle.audit_model.specs.declared.input.Input.{Input}
use Rattle.audit_model.specs.declared.transcript.Note.{Note}
use Rattle.audit_model.specs.declared.transcript.Record.{Record}
use Rattle.audit_model.specs.declared.transcript.Step.{Step}
use Rattle.audit_model.specs.declared.transcript.Transcript.{Transcript}
use Rattle.audit_laws.specs.Placing.{placed_steps_in, accepted_in, all_placed_in, Stage, stage_after}
use Rattle.audit_laws.specs.Leading.{LeadsTo, LeadsBy, is_parted}
use Rattle.audit_laws.specs.Comparing.{otherwise, HappenAlike, ReplyAlike}
use Rattle.audit_laws.specs.Cutting.{feed_record, none_held, LeadsInTwo, FollowsInTwo, FaultlessInTwo, FaultlessParts, in_one, in_two, ClosesItsConnection, ObeyingParts}
use Rattle.audit_laws.specs.Breaking.{first_break_from, IsFaultless, BreaksFirstAt}
use Rattle.audit_laws.specs.Orderly.{IsOrderly, idle_deed, is_asking}
use Rattle.audit_laws.specs.Telling.{notes_of, none_with_size}

-- a front of a transcript that obeys obeys
abbrev pub FrontsObey : Type 0
FrontsObey =
    (config : Config) (made : Instant) (front rest : List Record)
    → Obeys config (record {
      made = made;
      records = front ++ rest;
    }) → Obeys config (record { made = made; records = front })

-- the step-by-step relation and the whole-history definition agree
abbrev pub StepsAgree : Type 0
StepsAgree = (config : Config) (transcript : Transcript) → AgreesWithHistory config transcript

-- records that follow one another lead to the situation that their whole history leaves
abbrev pub RecordsLead : Type 0
RecordsLead =
    (config : Config) (made : ℕ) (records : List Record)
    → IsTrue (is_some (after_records config (empty_situation made) records))
    → LeadsToSummary config made records

-- if records follow one another, each step has the same place in the whole history and in the situations
abbrev pub PlacesAgree : Type 0
PlacesAgree =
    (config : Config) (transcript : Transcript)
    → IsTrue
    (is_some (after_records config (empty_situation transcript.made.nanos) transcript.records))
    → placed_steps config transcript
    ≡ all_placed_in config (empty_situation transcript.made.nanos) transcript.records

-- steps may be taken one after the other: what follows after some steps is what follows from the stage to which they lead
pub record StepsInParts : Type 0 where
  pub stages : (config : Config) (stage : Stage) (front rest : List Step)
      → stage_after config stage (front ++ rest) ≡ option_and_then
      (λ reached. stage_after config reached rest) (stage_after config stage front)
  pub records : (config : Config) (stage : Stage) (front rest : List Step)
      → after_steps config stage.situation stage.left (front ++ rest)
      ≡ option_and_then (λ reached. after_steps config reached.situation reached.left rest)
      (stage_after config stage front)
  pub places : (config : Config) (stage reached : Stage) (front rest : List Step)
      → stage_after config stage front ≡ Some reached
      → placed_steps_in config stage.situation stage.left (front ++ rest)
      ≡ placed_steps_in config stage.situation stage.left front
      ++ placed_steps_in config reached.situation reached.left rest

-- a transcript that leads to a situation leads on with one more record that follows
abbrev pub LeadsOn : Type 0
LeadsOn =
    (config : Config) (made : Instant) (records : List Record) (added : Record) (s t : Situation)
    → LeadsTo config (record { made = made; records = records }) s → Follows config s added t
    → LeadsTo config (record { made = made; records = records ++ added ∷ [] }) t

-- the same with the parts of keys: each value that the record accepts is in the part of its key
abbrev pub LeadsOnBy : Type 0
LeadsOnBy =
    (config : Config) (part_of : List ℕ → ℕ) (made : Instant) (records : List Record)
    (added : Record) (s t : Situation)
    → LeadsBy config part_of (record {
      made = made;
      records = records;
    }) s → Follows config s added t
    → IsTrue (list_all (is_parted part_of) (accepted_in config s added))
    → LeadsBy config part_of (record { made = made; records = records ++ added ∷ [] }) t

-- such a transcript obeys, and none of its events is refused
abbrev pub LedObeys : Type 0
LedObeys =
    (config : Config) (part_of : List ℕ → ℕ) (transcript : Transcript) (s : Situation)
    → LeadsBy config part_of transcript s → Obeys config transcript × IsAdmitted config transcript

-- the first record that ends a front that is not good is the first one that does not follow, or with which a key has two parts
abbrev pub BreaksAgree : Type 0
BreaksAgree =
    (config : Config) (transcript : Transcript)
    → first_break config transcript
    ≡ first_break_from config (empty_situation transcript.made.nanos) [] 0 transcript.records

-- if each key has one part, it is the first one that does not follow
abbrev pub BreaksWhereUnfollowed : Type 0
BreaksWhereUnfollowed =
    (config : Config) (transcript : Transcript)
    → IsTrue (agree_on_parts (accepted_values (placed_steps config transcript)))
    → let n = followed config (empty_situation transcript.made.nanos) transcript.records in
    first_break config transcript ≡ (if n == length transcript.records then None else Some (suc n))

-- the test of a good transcript says that it is faultless
abbrev pub GoodIsFaultless : Type 0
GoodIsFaultless =
    (config : Config) (transcript : Transcript)
    → IsTrue (is_good config transcript) ↔ IsFaultless config transcript

-- there is no first break exactly if the transcript is faultless; otherwise it ends the shortest front that has a fault
abbrev pub FirstBreakIsFirst : Type 0
FirstBreakIsFirst =
    (config : Config) (transcript : Transcript) → MatchOption (first_break config transcript)
    (IsFaultless config transcript) (BreaksFirstAt config transcript)

-- without a capacity a transcript that obeys reports nothing as `Size`
abbrev pub NothingToldSize : Type 0
NothingToldSize =
    (config : Config) (transcript : Transcript) → config.capacity ≡ None → Obeys config transcript
    → IsTrue (list_all (λ entry. none_with_size (notes_of entry)) transcript.records)

-- What is not live becomes live only by a newly accepted value. An event makes nothing live, and after a step what a key newly has is what
-- this very step accepts; so after some steps of one record, and after records, it is a value that these steps or records accept.
pub record LiveByAcceptance : Type 0 where
  pub event : (config : Config) (e : Event) (s : Situation) (key : List ℕ)
      → live_at config s.latest s.held key ≡ None
      → live_at config (after_event e s).latest (after_event e s).held key ≡ None
  pub step : (config : Config) (s : Situation) (task : Option Task) (step : Step) (key : List ℕ)
      (value : Value) → live_at config s.latest s.held key ≡ None
      → (let t = after_step config s task step (placed_step_in config s task step).effect in
      live_at config t.latest t.held key ≡ Some value)
      → (placed_step_in config s task step).effect.value ≡ Some value
  pub steps : (config : Config) (stage reached : Stage) (front : List Step) (key : List ℕ)
      (value : Value) → stage_after config stage front ≡ Some reached
      → live_at config stage.situation.latest stage.situation.held key ≡ None
      → live_at config reached.situation.latest reached.situation.held key ≡ Some value → Contains
      (accepted_values (placed_steps_in config stage.situation stage.left front)) value
  pub records : (config : Config) (records : List Record) (s t : Situation) (key : List ℕ)
      (value : Value) → after_records config s records ≡ Some t
      → live_at config s.latest s.held key ≡ None → live_at config t.latest t.held key ≡ Some value
      → Contains (accepted_values (all_placed_in config s records)) value

-- the values held are orderly at the start, after each deed with true notes, and so in each situation that records lead to and in between
pub record OrderlyStays : Type 0 where
  pub empty : (config : Config) → IsOrderly config []
  pub deed : (config : Config) (now : ℕ) (held : List HeldValue) (deed : Deed) (notes : List Note)
      → IsOrderly config held
      → IsTrue (are_true_notes config (map (candidate_at config now) held) deed
      (candidates_of config (map (candidate_at config now) held) deed) notes)
      → IsOrderly config (all_held_after config now held deed notes)
  pub event : (config : Config) (e : Event) (s : Situation) → IsOrderly config s.held
      → IsOrderly config (after_event e s).held
  pub step : (config : Config) (s : Situation) (task : Option Task) (step : Step)
      → IsOrderly config s.held → IsTrue (is_right config (placed_step_in config s task step))
      → IsOrderly config
      (after_step config s task step (placed_step_in config s task step).effect).held
  pub records : (config : Config) (records : List Record) (s t : Situation)
      → IsOrderly config s.held → after_records config s records ≡ Some t → IsOrderly config t.held

-- what does nothing to values leaves orderly ones as they are
abbrev pub IdleKeeps : Type 0
IdleKeeps =
    (config : Config) (now : ℕ) (held : List HeldValue) → IsOrderly config held
    → all_held_after config now held idle_deed [] ≡ held

-- a step of `HAS` or `KEYS` changes nothing of the situation except its own connection, which may close
abbrev pub AskingChangesNothing : Type 0
AskingChangesNothing =
    (config : Config) (s : Situation) (task : Option Task) (step : Step)
    → IsOrderly config s.held → IsTrue (is_right config (placed_step_in config s task step))
    → IsTrue (is_asking (placed_step_in config s task step).effect.action)
    → after_step config s task step (placed_step_in config s task step).effect
    ≡ option_map_or (λ c. with_connection false
    (connection_after task step (placed_step_in config s task step).effect c) s)
    (connection_in step.conn s) s

-- the reply lists keys; each comes before the later ones in byte order; and they are those that have a live value
pub record ListsLiveKeys (config : Config) (s : Situation) (reply_of_step : Option (List ℕ)) :
    Type 0 where
  pub reply : reply_of_step ≡ Some (keys_listed (live_keys_at config s.latest s.held))
  pub rising : IsStrictlySortedBy (slice_cmp nat_cmp) (live_keys_at config s.latest s.held)
  pub live : (key : List ℕ) → list_any (λ k. same key k) (live_keys_at config s.latest s.held)
      ≡ is_some (live_at config s.latest s.held key)

-- `KEYS` lists the live keys, each once, in byte order
abbrev pub KeysAnswer : Type 0
KeysAnswer =
    (config : Config) (s : Situation) (task : Option Task) (step : Step)
    → IsOrderly config s.held → IsTrue (is_right config (placed_step_in config s task step))
    → (placed_step_in config s task step).effect.action ≡ Running says.Keys
    → ListsLiveKeys config s step.reply

-- records that belong to inputs from situation to situation lead to the last one, and a transcript of them belongs to the inputs
pub record BelongsStepByStep : Type 0 where
  pub leads : (config : Config) (namespace : ℕ) (inputs : List Input) (records : List Record)
      (s last : Situation)
      → BelongsIn config namespace s inputs records last
      → after_records config s records ≡ Some last
  pub belongs : (config : Config) (namespace : ℕ) (made : Instant) (inputs : List Input)
      (records : List Record) (last : Situation)
      → BelongsIn config namespace (empty_situation made.nanos) inputs records last
      → LeadsTo config (record {
        made = made;
        records = records;
      }) last × Belongs config namespace (record { made = made; records = records }) inputs

-- records that belong to inputs belong to one more input: with no record of it, or with one that is of its event and follows
pub record BelongsOn : Type 0 where
  pub none : (config : Config) (namespace : ℕ) (s : Situation)
      → BelongsIn config namespace s [] [] s
  pub left_out : (config : Config) (namespace : ℕ) (inputs : List Input) (i : Input)
      (records : List Record) (s last : Situation)
      → BelongsIn config namespace s inputs records last
      → BelongsIn config namespace s (inputs ++ i ∷ []) records last
  pub taken : (config : Config) (namespace : ℕ) (inputs : List Input) (i : Input)
      (records : List Record) (entry : Record) (s last next : Situation)
      → BelongsIn config namespace s inputs records last
      → event_in namespace last.opened i ≡ Some entry.event → Follows config last entry next
      → BelongsIn config namespace s (inputs ++ i ∷ []) (records ++ entry ∷ []) next
  pub in_parts : (config : Config) (namespace : ℕ) (inputs later : List Input)
      (records more : List Record) (s t u : Situation)
      → BelongsIn config namespace s inputs records t → BelongsIn config namespace t later more u
      → BelongsIn config namespace s (inputs ++ later) (records ++ more) u

-- if no command is held back, a feed may be cut in two, and two feeds of a connection at one moment joined, with each step in the feed that
-- brought the byte that lets it run; the second is left out if the first closes the connection
pub record FeedsMayBeCut : Type 0 where
  pub cut : (config : Config) (s t : Situation) (conn : ℕ) (moment : Instant) (front rest : List ℕ)
      (steps : List Step)
      → IsTrue (none_held steps) → Follows config s (feed_record conn moment (front ++ rest) steps)
      t → FollowsInTwo config s conn moment front rest steps t
  pub joined : (config : Config) (s t : Situation) (conn : ℕ) (moment : Instant)
      (front rest : List ℕ) (first second : List Step)
      → IsTrue (none_held first) → LeadsInTwo config s conn moment front rest first second t
      → Follows config s (feed_record conn moment (front ++ rest) (first ++ second)) t

-- so a transcript that obeys, and has no refused event, stays so if a feed of it is cut in two, and if two neighbouring feeds are joined
pub record TranscriptsMayBeCut : Type 0 where
  pub cut : (config : Config) (made : Instant) (before after : List Record) (conn : ℕ)
      (moment : Instant) (front rest : List ℕ) (steps : List Step)
      → IsTrue (none_held steps) → IsFaultless config (record {
        made = made;
        records = before ++ feed_record conn moment (front ++ rest) steps ∷ after;
      })
      → FaultlessParts config made before after conn moment front rest steps
  pub joined : (config : Config) (made : Instant) (before after : List Record) (conn : ℕ)
      (moment : Instant) (front rest : List ℕ) (first second : List Step)
      → IsTrue (none_held first)
      → FaultlessInTwo config made before after conn moment front rest first second
      → IsFaultless config (record {
        made = made;
        records = before ++ feed_record conn moment (front ++ rest) (first ++ second) ∷ after;
      })

-- the same for transcripts that obey, whether or not some of their events are refused: if no command is held back, a feed may be cut in
-- two, and two neighbouring feeds of one connection at one moment joined, with each step in the feed that brought the byte that lets it
-- run; if the first closes the connection, the second may be left out
pub record ObeyingMayBeCut : Type 0 where
  pub cut : (config : Config) (made : Instant) (before after : List Record) (conn : ℕ)
      (moment : Instant) (front rest : List ℕ) (steps : List Step)
      → IsTrue (none_held steps)
      → Obeys config (in_one made before after conn moment (front ++ rest) steps)
      → ObeyingParts config made before after conn moment front rest steps
  pub joined : (config : Config) (made : Instant) (before after : List Record) (conn : ℕ)
      (moment : Instant) (front rest : List ℕ) (first second : List Step)
      → IsTrue (none_held first)
      → Obeys config (in_two made before after conn moment front rest first second)
      → Obeys config (in_one made before after conn moment (front ++ rest) (first ++ second))
  pub joined_alone : (config : Config) (made : Instant) (before after : List Record) (conn : ℕ)
      (moment : Instant) (front rest : List ℕ) (first : List Step)
      → IsTrue (none_held first) → ClosesItsConnection config made before conn moment front first
      → Obeys config (in_one made before after conn moment front first)
      → Obeys config (in_one made before after conn moment (front ++ rest) first)

-- two faultless transcripts of the same events, whose configurations differ at most in capacity, eviction policy and number of parts, and
-- both accept values or neither does: if nothing is reported as `Size`, the same steps are held back and the same `DROPIF`s refused, both
-- have the same steps with the same replies, except for those to `SYNC`
abbrev pub RepliesByCommands : Type 0
RepliesByCommands =
    (config : Config) (capacity : Option ℕ) (policy : EvictionPolicy) (parts : ℕ) (made : Instant)
    (xs ys : List Record)
    → accepts_values config.capacity ≡ accepts_values capacity
    → IsFaultless config (record {
      made = made;
      records = xs;
    }) → IsFaultless (otherwise config capacity policy parts) (record { made = made; records = ys })
    → HappenAlike xs ys → ReplyAlike config xs ys

-- if there is one part, what follows from the empty situation obeys, and none of its events is refused
abbrev pub OnePartObeys : Type 0
OnePartObeys =
    (config : Config) (transcript : Transcript) (s : Situation) → part_count config ≡ 1
    → LeadsTo config transcript s → Obeys config transcript × IsAdmitted config transcript
