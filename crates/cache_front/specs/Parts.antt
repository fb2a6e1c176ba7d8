-- A part of the service's cache, and which values these parts hold.
use Rattle.std.specs.Prelude.{◌≡◌, ℕ, suc, ◌*◌, ◌≤◌, ◌||◌, nat_eq, true, false, List, [], ◌∷◌, ◌++◌, map, length, Option, option_map, Some, None, is_none, IsTrue, slice_get}
use Rattle.std.specs.List.{starts_with}
use Rattle.audit_model.specs.Bytewise.{same}
use Rattle.audit_model.specs.History.{Value, weight_of, share}
use Rattle.audit_model.specs.Situation.{HeldValue}
use Rattle.audit_model.specs.declared.config.Config.{Config}
use Rattle.audit_model.specs.declared.config.Weight.{Weight}
use Rattle.audit_model.specs.declared.config.EvictionPolicy.{EvictionPolicy as Policy}
use Rattle.audit_model.specs.declared.config.EvictionPolicy.TheVariants as policy
use Rattle.audit_model.specs.declared.transcript.Note.{Note}
use Rattle.audit_model.specs.declared.transcript.RemovalCause.{RemovalCause as Cause}
use Rattle.audit_model.specs.declared.transcript.RemovalCause.TheVariants as says
use Rattle.engine_reference.specs.declared.rules.causes.RemovalCause.{RemovalCause}
use Rattle.engine_reference.specs.declared.rules.causes.RemovalCause.TheVariants as cause
use Rattle.engine_reference.specs.declared.rules.settings.EvictionPolicy.{EvictionPolicy}
use Rattle.engine_reference.specs.declared.rules.settings.EvictionPolicy.TheVariants.{TinyLfu, Lru}
use Rattle.engine_reference.specs.declared.data.Entry.{Entry}
use Rattle.engine_reference.specs.declared.data.Record.{Record}
use Rattle.engine_reference.specs.declared.data.Write.{Write}
use Rattle.engine_reference.specs.declared.data.Write.TheVariants.{Put, Removed}
use Rattle.engine_reference.specs.declared.data.Notice.{Notice}
use Rattle.engine_reference.specs.declared.data.Settings.{Settings}
use Rattle.engine_reference.specs.Calls.{first_entry, written, sent, removed_by, removal_told, with_room}
use Rattle.engine_reference.specs.Records.{record_at, held_at, held_entries}
use Rattle.engine_reference.specs.State.{State, Answers}
use Rattle.engine_reference.specs.Visible.{is_covered}
use Rattle.engine_reference.specs.RunLaws.Points.{HasPoint}
use Rattle.cache_commands.specs.Held.{value_at, Corresponds}
use Rattle.cache_commands.specs.Promises.{Frame}

-- ---- what a part keeps, and by which rules

-- a value's bytes, with the milliseconds for which it may live by itself
pub record Stored : Type 0 where
  pub bytes : List ℕ
  pub milliseconds : Option ℕ

abbrev pub nanos : ℕ → ℕ
nanos ms = ms * 1000000

-- the rules of the service: the weight of a namespace; each write sets its own expiration, and each look-up leaves it; a predicate is a prefix
abbrev pub service_answers : Answers (List ℕ) Stored (List ℕ) Weight
service_answers = record {
  weight_of = λ weight key value. weight_of weight value.bytes;
  created = λ weight key value now. option_map nanos value.milliseconds;
  found = λ weight key value now left written. None;
  updated = λ weight key value now left. Some (option_map nanos value.milliseconds);
  covers = λ weight prefix key value. starts_with nat_eq key prefix;
}

abbrev pub policy_of : Policy → EvictionPolicy
policy_of policy.TinyLfu = TinyLfu
policy_of policy.Lru = Lru

-- the settings with which each part is created
abbrev pub part_settings : Config → ℕ → Settings
part_settings config made = record {
  capacity = option_map (share config) config.capacity;
  live = option_map nanos config.live_ms;
  idle = option_map nanos config.idle_ms;
  policy = policy_of config.policy;
  tells = true;
  takes_predicates = true;
  made = made;
}

-- `S` is the hasher
abbrev pub Part : Type 0 → Type 0
Part S = State (List ℕ) Stored (List ℕ) S Weight

-- ---- what is reported

abbrev pub cause_of : RemovalCause → Cause
cause_of cause.Expired = says.Expired
cause_of cause.Explicit = says.Explicit
cause_of cause.Replaced = says.Replaced
cause_of cause.Size = says.Size

abbrev pub note_of : RemovalCause → Entry (List ℕ) Stored → Note
note_of why e = record { cause = cause_of why; key = e.key; value = e.value.bytes }

abbrev pub note_from : Notice (List ℕ) Stored → Note
note_from n = record { cause = cause_of n.cause; key = n.key; value = n.value.bytes }

-- times that a configuration may have
pub record IsBrief (config : Config) : Type 0 where
  pub live : (ms : ℕ) → config.live_ms ≡ Some ms → ms ≤ 999999999999
  pub idle : (ms : ℕ) → config.idle_ms ≡ Some ms → ms ≤ 999999999999

-- the most that a write adds
abbrev pub write_weight : Write → ℕ
write_weight (Put u) = u.weight
write_weight (Removed number) = 0

-- each write adds at most this much
abbrev pub AreLight : ℕ → List Write → Type 0
AreLight most [] = Unit {0}
AreLight most (w ∷ ws) = (write_weight w ≤ most) × AreLight most ws

-- an entry is as the service wrote it
pub record IsProper (frame : Frame) (part step : ℕ) (e : Entry (List ℕ) Stored) : Type 0 where
  pub placed : frame.part_of e.key ≡ part
  pub weighs : e.weight ≡ weight_of frame.config.weight e.value.bytes
  pub short : length e.value.bytes ≤ 8192
  pub written : e.written ≤ frame.latest
  pub used : e.used ≤ frame.latest
  pub earlier : e.step ≤ step
  pub timed : IsTrue (frame.config.own_deadlines || is_none e.expires)

-- ---- values held

abbrev pub as_value : ℕ → Entry (List ℕ) Stored → Value
as_value part e =
    record {
      key = e.key;
      bytes = e.value.bytes;
      part = part;
      weight = e.weight;
      accepted_at = e.written;
      own_deadline = e.expires;
    }

module _ {S : Type 0} where
  -- the entry as a held value, apart from whether it may be evicted
  abbrev pub as_held_value : ℕ → Part S → Entry (List ℕ) Stored → HeldValue
  as_held_value part s e = record {
    value = as_value part e;
    last_use = e.used;
    covered = is_covered service_answers s e;
    evictable = false;
  }

  abbrev pub items_in : ℕ → Part S → List HeldValue
  items_in part s = map (as_held_value part s) (held_entries s.records)

  -- those of all parts, the first of which has this number
  abbrev pub items_of : ℕ → List (Part S) → List HeldValue
  items_of first [] = []
  items_of first (s ∷ parts) = items_in first s ++ items_of (suc first) parts

  -- the held values whose removal for weight would have a point are marked: each may be evicted
  abbrev pub AreMarked : Part S → List HeldValue → Type 0
  AreMarked s held =
      (owner : Record (List ℕ) Stored) → record_at s.records owner.number ≡ Some owner
      → owner.is_held ≡ true
      → HasPoint s.settings.capacity s.writes (map (λ u. u.write) s.unsent) owner.number
      → (h : HeldValue) → value_at held owner.entry.key ≡ Some h → h.evictable ≡ true

  -- the part after its notices were taken
  abbrev pub drained : Part S → Part S
  drained s = record s { notices = [] }

  -- the values held are the held entries of all parts, and those with a point are marked
  pub record Stands (parts : List (Part S)) (held : List HeldValue) : Type 0 where
    pub same : Corresponds (items_of 0 parts) held
    pub marked : (part : ℕ) (s : Part S) → slice_get parts part ≡ Some s → AreMarked s held

-- ---- what the front does with a part

module _ {S : Type 0} where
  -- a value is written under its key, in room that was made, and its ticket is sent
  abbrev pub value_put : List ℕ → ℕ → Stored → ℕ → ℕ → Part S → Part S
  value_put key hash value now step s =
      sent s.next_ticket (written service_answers same (with_room s) key hash value now step)

  -- what it writes
  abbrev pub put_entry : Part S → List ℕ → Stored → ℕ → ℕ → Entry (List ℕ) Stored
  put_entry s key value now step = first_entry service_answers s key value now step

  -- a key is removed, its entry is reported, and the ticket is sent
  abbrev pub key_taken_out : List ℕ → ℕ → Part S → Part S
  key_taken_out key now s = go (held_at same s.records key)
    where
      go : Option (Record (List ℕ) Stored) → Part S
      go None = s
      go (Some r) =
          sent s.next_ticket (removal_told service_answers r.entry now (removed_by same key s))
