-- What a store shows of the values that it has, and what a call does to them.
use Rattle.std.specs.Prelude.{◌≡◌, ℕ, suc, ◌+◌, ◌≤◌, ◌<◌, ◌^◌, Bool, true, false, ◌||◌, List, [], length, map, take, Option, Some, None, IsTrue, IfSome, if◌then◌else◌}
use Rattle.std.specs.Borrow.{Bor, MutBor}
use Rattle.std.specs.Fn.{Once}
use Rattle.std.specs.List.{sum_by, list_all}
use Rattle.std.specs.Option.{option_map}
use Rattle.rand_core.specs.Stream.{Stream}
use Rattle.audit_model.specs.Changes.{all_held_after}
use Rattle.audit_model.specs.Commands.{Covering, Deed, Everything, Nothing, Prefixed}
use Rattle.audit_model.specs.History.{Value, accepts_values, part_count}
use Rattle.audit_model.specs.Notes.{is_within}
use Rattle.audit_model.specs.Recency.{keys_without}
use Rattle.audit_model.specs.Situation.{HeldValue, live_at, live_keys_at}
use Rattle.audit_model.specs.declared.config.Config.{Config}
use Rattle.audit_model.specs.declared.transcript.Note.{Note}
use Rattle.cache_commands.specs.Handing.{AppendsNotes, TellsNone}
use Rattle.cache_commands.specs.Identifiers.{AreUsedUp, KeepsIdentifiers, Register, Registers}
use Rattle.cache_commands.specs.Promises.{Done, Frame, accepting, no_deed, value_for}
use Rattle.cache_commands.specs.Recency.{AreKeysOf, IsPlainLru, put_first, used_first}
use Rattle.cache_commands.specs.Running.{is_bounded, is_timely}

-- Its configuration and the moment of its creation, whether a `DROPIF` was accepted, and the latest moment; which lists of values it stands
-- for, oldest first; how many they are; the notes that were reported and not taken; the keys in their order of use, after a run of all
-- parts or at most one call later; what the generator of identifiers will give; which identifiers are registered in each part; and how many
-- of its 64-bit numbers are used up.
pub record Values : Type 1 where
  pub frame : Frame
  pub Stands : List HeldValue → Type 0
  pub count : ℕ
  pub untaken : List Note
  pub Used : Bool → List (List ℕ) → Type 0
  pub stream : Stream
  pub registered : Register
  pub spent : ℕ

-- ---- what a call requires

-- the moment is not before the latest one, and below 2^63 nanoseconds
abbrev pub IsMoment : Values → ℕ → Type 0
IsMoment v now = (v.frame.latest ≤ now) × (now < 2 ^ 63)

-- values are accepted, the bytes are not too long, and an own deadline has at most twelve digits and is given only if the configuration
-- allows it
pub record IsAcceptable (config : Config) (bytes : List ℕ) (milliseconds : Option ℕ) : Type 0 where
  pub takes : IsTrue (accepts_values config.capacity)
  pub short : length bytes ≤ 8192
  pub own : IfSome milliseconds (λ ms. (ms ≤ 999999999999) × IsTrue config.own_deadlines)

-- a 64-bit number does not have two values left
abbrev pub IsSpent : Values → Type 0
IsSpent v = 2 ^ 64 ≤ v.spent + 2

-- ---- what is true of every store

pub record IsSoundStore (v : Values) : Type 0 where
  -- it stands for a list of values
  pub some : List HeldValue
  pub stands : v.Stands some
  -- the values held are this many
  pub counted : (held : List HeldValue) → v.Stands held → length held ≡ v.count
  -- few enough that their weight is a 64-bit number
  pub small : v.count ≤ 2 ^ 50
  -- the part of a value is that of its key, and there is such a part
  pub parted : (key : List ℕ) → v.frame.part_of key < part_count v.frame.config
  -- a step that does nothing to values leaves those that are held as they are
  pub idle : (held : List HeldValue) (now : ℕ) → v.Stands held
      → v.Stands (all_held_after v.frame.config now held no_deed [])
  -- each part weighs at most its share plus 64 of the longest values
  pub bounded : (held : List HeldValue) → v.Stands held → IsTrue (is_bounded v.frame.config held)
  -- after a run of all parts the keys in their order of use are those held
  pub ordered : (held : List HeldValue) (keys : List (List ℕ)) → v.Stands held → v.Used true keys
      → AreKeysOf held keys

-- ---- what a call does

abbrev pub covers_prefix : Covering → Bool
covers_prefix (Prefixed prefix) = true
covers_prefix other = false

-- a call that covers values reports none, and any other passes its notes on
abbrev pub HandsBy : Covering → (old new told : List Note) → Type 0
HandsBy Nothing old new told = AppendsNotes old new told
HandsBy Everything old new told = TellsNone old new told
HandsBy (Prefixed prefix) old new told = TellsNone old new told

-- each part registers an identifier for a prefix that is covered; otherwise none is drawn
abbrev pub DrawsBy : Covering → (was is : Values) → Type 0
DrawsBy (Prefixed prefix) was is = Registers was.stream is.stream was.registered is.registered
DrawsBy other was is = KeepsIdentifiers was.stream is.stream was.registered is.registered

-- the keys in their order of use: one that is written or found moves to the front, one that is deleted leaves
abbrev pub keys_used_by : (uses : Option (List ℕ)) (value : Option Value)
    (deletes : Option (List ℕ)) → List (List ℕ) → List (List ℕ)
keys_used_by uses (Some value) deletes keys = put_first value.key keys
keys_used_by uses None (Some key) keys = keys_without key keys
keys_used_by (Some key) None None keys = used_first key keys
keys_used_by None None None keys = keys

-- if the list of keys was exact, it is exact again after the next run; a run keeps as many as the capacity
abbrev pub MovesUse : Deed → (was is : Values) → Type 0
MovesUse deed was is = go deed.covers deed.syncs
  where
    go : Covering → Bool → Type 0
    go Nothing false =
        (n : ℕ) (keys : List (List ℕ)) → IsPlainLru was.frame.config n → was.Used true keys
        → is.Used false (keys_used_by deed.uses deed.value deed.deletes keys)
    go Nothing true =
        (n : ℕ) (settled : Bool) (keys : List (List ℕ)) → IsPlainLru was.frame.config n
        → was.Used settled keys → is.Used true (take (suc n) keys)
    go covers syncs = Unit {0}

-- At this moment the call did this to values: it reported some with true causes and left the others as the deed leaves them, whichever list
-- it stood for.
pub record Does (now : ℕ) (deed : Deed) (was is : Values) : Type 0 where
  pub done : (held : List HeldValue) → was.Stands held
      → Done was.frame.config now deed held is.Stands (HandsBy deed.covers was.untaken is.untaken)
  pub frame : is.frame ≡ record was.frame {
    dropped = was.frame.dropped || covers_prefix deed.covers;
    latest = now;
  }
  pub used : MovesUse deed was is
  pub drawn : DrawsBy deed.covers was is
  pub spent : is.spent ≤ was.spent + 1

-- a value was accepted, in the part of its key
abbrev pub AcceptsValue : (now : ℕ) (key bytes : List ℕ) (milliseconds : Option ℕ)
    (looked_up : Bool) (part : ℕ) (was is : Values) → Type 0
AcceptsValue now key bytes milliseconds looked_up part was is =
    (part ≡ was.frame.part_of key) × Does now (accepting (if looked_up then Some key else None)
    (value_for was.frame now key bytes milliseconds)) was is

-- Nothing is covered: a thousand identifiers were drawn that are each registered in one part, and only the generator moved on. A first
-- `DROPIF` is never refused like this.
pub record LacksIdentifiers (was is : Values) : Type 0 where
  pub used_up : AreUsedUp (part_count was.frame.config) was.stream is.stream was.registered
  pub registered : (part : ℕ) (id : List ℕ) → IsTrue (is.registered part id)
      → IsTrue (was.registered part id)
  pub stands : (held : List HeldValue) → was.Stands held → is.Stands held
  pub frame : is.frame ≡ was.frame
  pub dropped : was.frame.dropped ≡ true
  pub untaken : is.untaken ≡ was.untaken
  pub spent : is.spent ≡ was.spent

-- what a run of all parts leaves: this many values of this weight, each part within its share, none covered or long dead, no identifier
pub record IsSettled (v : Values) (number weight : ℕ) : Type 0 where
  pub held : (held : List HeldValue) → v.Stands held → (number ≡ length held)
      × (weight ≡ sum_by (λ h. h.value.weight) held)
  pub within : (held : List HeldValue) → v.Stands held
      → IsTrue (is_within v.frame.config (map (λ h. h.value) held))
  pub timely : (held : List HeldValue) → v.Stands held
      → IsTrue (list_all (is_timely v.frame.config v.frame.made v.frame.latest) held)
  pub released : (part : ℕ) (id : List ℕ) → v.registered part id ≡ false

-- the note that was reported first is taken; nothing else changes
pub record GivesNote (was is : Values) : Type 0 where
  pub stands : (held : List HeldValue) → was.Stands held → is.Stands held
  pub frame : is.frame ≡ was.frame
  pub used : (settled : Bool) (keys : List (List ℕ)) → was.Used settled keys → is.Used settled keys
  pub identifiers : KeepsIdentifiers was.stream is.stream was.registered is.registered
  pub spent : is.spent ≡ was.spent

-- ---- what a store returns

-- the bytes of the key's live value
abbrev pub IsLive : Values → ℕ → List ℕ → Option (List ℕ) → Type 0
IsLive v now key bytes =
    (held : List HeldValue) → v.Stands held
    → bytes ≡ option_map (λ value. value.bytes) (live_at v.frame.config now held key)

-- a call was passed the bytes of the key's live value, if there is one, and the value behind a `&mut`; it returned this, and left that
-- there
pub record ReadsLive {F O R : Type 0}
    (read : Once F (Option (Bor (List ℕ)) × (MutBor O × Unit {0})) (R × (MutBor O × Unit {0})))
    (f : F) (v : Values) (now : ℕ) (key : List ℕ) (old : O) (answer : R) (new : O) : Type 0 where
  pub found : Option (Bor (List ℕ))
  pub live : IsLive v now key (option_map (λ (b : Bor (List ℕ)). b.now) found)
  pub shown : MutBor O
  pub shows : shown.now ≡ old
  pub left : MutBor O
  pub met : read.post f (found, (shown, tt)) (answer, (left, tt))
  pub leaves : left.now ≡ new

-- the live keys
abbrev pub AreLive : Values → ℕ → (List (List ℕ) → Type 0) → Type 0
AreLive v now P = (held : List HeldValue) → v.Stands held → P (live_keys_at v.frame.config now held)
