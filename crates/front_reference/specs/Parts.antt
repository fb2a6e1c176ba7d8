-- What the front's calls do to one part: each ticket is sent in its own call, and then maintenance runs if it is due.
use Rattle.std.specs.Prelude.{◌≡◌, ℕ, zero, suc, ◌+◌, ◌-◌, ◌^◌, ◌<◌, ◌≤◌, Bool, true, false, if◌then◌else◌, [], length, Option, Some, None, option_map, MatchOption, Result, Ok, Err}
use Rattle.engine_reference.specs.declared.data.Record.{Record}
use Rattle.engine_reference.specs.Calls.{written, sent, with_room, MaintainsIfDue}
pub use Rattle.engine_reference.specs.Calls.{taken_out}
use Rattle.engine_reference.specs.Records.{held_at}
use Rattle.engine_reference.specs.Scanning.{past, NotesLookUp}
use Rattle.engine_reference.specs.State.{State, Answers}
use Rattle.engine_reference.specs.Visible.{visible_value}
use Rattle.front_reference.specs.declared.errors.CacheError.{CacheError}
use Rattle.front_reference.specs.declared.errors.CacheError.TheVariants as errors
use Rattle.front_reference.specs.declared.data.Computed.{Computed}
use Rattle.front_reference.specs.declared.data.Computed.TheVariants as did
use Rattle.front_reference.specs.declared.data.Made.{Made}
use Rattle.front_reference.specs.declared.data.Made.TheVariants as made
use Rattle.front_reference.specs.declared.data.Op.{Op}
use Rattle.front_reference.specs.declared.data.Op.TheVariants as op

-- a cache with this capacity takes nothing: it is 0
abbrev pub takes_nothing : Option ℕ → Bool
takes_nothing None = false
takes_nothing (Some zero) = true
takes_nothing (Some (suc c)) = false

module _ {V : Type 0} where
  -- what is done with what was made: a value is written
  abbrev pub op_of_made : {F : Type 0} → Made V F → Op V
  op_of_made (made.Value value) = op.Put value
  op_of_made made.Nothing = op.Nop
  op_of_made (made.Fault fault) = op.Nop

  -- what is done after a closure decided: nothing if it failed
  abbrev pub op_decided : {E : Type 0} → Result (Op V) E → Op V
  op_decided (Ok does) = does
  op_decided (Err e) = op.Nop

  -- what an operation did, by the value that was visible before it and the one that is held when it begins
  abbrev pub computed_as : Op V → (seen held : Option V) → Computed V
  computed_as op.Nop None held = did.StillNone
  computed_as op.Nop (Some v) held = did.Unchanged v
  computed_as (op.Put value) None held = did.Inserted value
  computed_as (op.Put value) (Some v) held = did.ReplacedWith value
  computed_as op.Remove seen None = did.StillNone
  computed_as op.Remove seen (Some v) = did.Removed v

  -- what a compute call returns: the closure's error if it failed
  abbrev pub computed_by : {E : Type 0} → Result (Op V) E → (seen held : Option V)
      → Result (Computed V) E
  computed_by (Ok does) seen held = Ok (computed_as does seen held)
  computed_by (Err e) seen held = Err e

module _ {K V P S R : Type 0} where
  -- a part between calls: each ticket was sent, and the queue of writes has room
  pub record IsReady (s : State K V P S R) : Type 0 where
    pub sent : s.unsent ≡ []
    pub room : length s.writes < 128

  -- why a call that needs this much room is refused: there was no memory, or the 64-bit tickets do not suffice
  abbrev pub IsCause : (rooms : ℕ) → State K V P S R → CacheError → Type 0
  IsCause rooms s errors.OutOfMemory = Unit {0}
  IsCause rooms s errors.UsedUp = 2 ^ 64 ≤ s.next_ticket + s.reserved + rooms
  IsCause rooms s other = ⊥

  -- room for a value is made, if values are taken
  abbrev pub with_put_room : State K V P S R → State K V P S R
  with_put_room s = if takes_nothing s.settings.capacity then s else with_room s

  -- this much room is given up
  abbrev pub freed : ℕ → State K V P S R → State K V P S R
  freed rooms s = record s { reserved = s.reserved - rooms }

  -- the value that is held, which a removal returns
  abbrev pub held_value : (K → K → Bool) → State K V P S R → K → Option V
  held_value eq s key = option_map (λ r. r.entry.value) (held_at eq s.records key)

module _ {K V P S R : Type 0} (answers : Answers K V P R) where
  -- ---- writing

  -- a value is written in room that was made, and its write is sent
  abbrev pub put_sent : (K → K → Bool) → K → ℕ → V → ℕ → ℕ → State K V P S R → State K V P S R
  put_sent eq key hash value now step s =
      sent s.next_ticket (written answers eq s key hash value now step)

  -- room is made, and a value is written and sent
  abbrev pub inserted : (K → K → Bool) → K → ℕ → V → ℕ → ℕ → State K V P S R → State K V P S R
  inserted eq key hash value now step s = put_sent eq key hash value now step (with_room s)

  -- a value is inserted, and then maintenance runs if it is due; at capacity 0 nothing happens
  pub record Inserts (eq : K → K → Bool) (key : K) (hash : ℕ) (value : V) (now step : ℕ)
      (old new : State K V P S R) : Type 0 where
    pub off : takes_nothing old.settings.capacity ≡ true → new ≡ old
    pub takes : takes_nothing old.settings.capacity ≡ false
        → MaintainsIfDue answers now (inserted eq key hash value now step old) new

  -- a value is inserted in room that was made
  pub record InsertsReserved (eq : K → K → Bool) (key : K) (hash : ℕ) (value : V) (now step : ℕ)
      (old new : State K V P S R) : Type 0 where
    pub off : takes_nothing old.settings.capacity ≡ true → new ≡ old
    pub takes : takes_nothing old.settings.capacity ≡ false
        → MaintainsIfDue answers now (put_sent eq key hash value now step old) new

  -- ---- removing

  -- the key's record is removed, whether its deadline has come or not, and then maintenance runs if it is due; if the key is not held,
  -- nothing happens
  abbrev pub TakesOut : (K → K → Bool) → K → ℕ → State K V P S R → State K V P S R → Type 0
  TakesOut eq key now old new =
      MatchOption (held_at eq old.records key) (new ≡ old)
      (λ r. MaintainsIfDue answers now (taken_out answers r now old) new)

  -- ---- a look-up with what is done after it

  abbrev pub Operates : (K → K → Bool) → K → ℕ → ℕ → ℕ → Op V → State K V P S R → State K V P S R
      → Type 0
  Operates eq key hash now step op.Nop old new = new ≡ old
  Operates eq key hash now step (op.Put value) old new = Inserts eq key hash value now step old new
  Operates eq key hash now step op.Remove old new = TakesOut eq key now old new

  -- the second half of a look-up, and then an operation. Room for this many writes and notices is made before, so that nothing is refused
  -- between them
  pub record Acts (eq : K → K → Bool) (key : K) (hash now step : ℕ) (ignored : Bool) (does : Op V)
      (old new : State K V P S R) : Type 0 where
    pub rooms : ℕ
    pub mid : State K V P S R
    pub looks : NotesLookUp answers eq key hash now ignored (record old {
      reserved = old.reserved + rooms;
    }) mid
    pub operates : Operates eq key hash now step does (freed rooms mid) new

  -- ---- coalesced calls

  -- a visible value that is not passed over is returned, with its read; otherwise something is made, and if that is a value it is inserted
  -- after the read
  pub record Coalesces {
      F : Type 0} (eq : K → K → Bool) (key : K) (hash now step : ℕ) (Ignores : V → Bool → Type 0) (Makes : Made V F → Type 0) (old new : State K V P S R) (answer : Made V F) (is_fresh : Bool) : Type 0 where
    pub ignored : Bool
    pub asked : (value : V) → visible_value answers eq old now key ≡ Some value
        → Ignores value ignored
    pub ends : MatchOption (past ignored (visible_value answers eq old now key))
        (Makes answer × (is_fresh ≡ true)
        × Acts eq key hash now step ignored (op_of_made answer) old new)
        (λ value. (answer ≡ made.Value value) × (is_fresh ≡ false)
        × NotesLookUp answers eq key hash now ignored old new)

  -- ---- compute calls

  -- a closure decides by the visible value what is done; it is done after the read
  pub record Computes {
      E : Type 0} (eq : K → K → Bool) (key : K) (hash now step : ℕ) (Decides : Option V → Result (Op V) E → Type 0) (old new : State K V P S R) (answer : Result (Computed V) E) : Type 0 where
    pub decided : Result (Op V) E
    pub decides : Decides (visible_value answers eq old now key) decided
    pub acts : Acts eq key hash now step false (op_decided decided) old new
    pub gives : answer ≡ computed_by decided (visible_value answers eq old now key)
        (held_value eq acts.mid key)
