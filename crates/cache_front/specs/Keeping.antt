-- What a store keeps of each part of its cache between calls.
use Rattle.std.specs.Prelude.{◌≡◌, ℕ, ◌<◌, ◌≤◌, ◌^◌, ◌==◌, Bool, true, false, List, [], length, Some, is_none, IsTrue, slice_get}
use Rattle.std.proofs.Common.{◌||◌}
use Rattle.audit_model.specs.Bytewise.{same}
use Rattle.audit_model.specs.History.{part_count}
use Rattle.cache_commands.specs.Promises.{Frame}
use Rattle.engine_reference.specs.declared.data.Record.{Record}
use Rattle.engine_reference.specs.Soundness.{Each}
use Rattle.audit_model.specs.declared.config.Weight.{Weight}
use Rattle.front_reference.specs.Keeping.{Common, IsKept}
use Rattle.cache_front.specs.Parts.{Part, Stored, IsProper, part_settings, AreLight, IsBrief}
use Rattle.cache_front.specs.Recent.{IsFresh}

-- the frame at a later moment
abbrev pub at_moment : Frame → ℕ → Frame
at_moment frame now = record frame { latest = now }

-- if it is held, it is as the service wrote it
abbrev pub IsProperRecord : Frame → ℕ → ℕ → Record (List ℕ) Stored → Type 0
IsProperRecord frame part step r = r.is_held ≡ true → IsProper frame part step r.entry

-- a key belongs to a part
abbrev pub belongs_to : Frame → ℕ → List ℕ → Bool
belongs_to frame part key = frame.part_of key == part

module _ {S : Type 0} where
  -- what the service adds to what the front keeps
  pub record IsServicePart (frame : Frame) (part step : ℕ) (s : Part S) : Type 0 where
    pub rules : s.rules ≡ frame.config.weight
    pub proper : Each (IsProperRecord frame part step) s.records
    pub fresh : IsFresh step s
    -- no predicate unless a `DROPIF` was accepted
    pub undropped : frame.dropped ≡ false → s.predicates ≡ []
    -- each pending write weighs at most 8192
    pub light : AreLight 8192 s.writes

  -- the settings with which each part was created
  abbrev pub common_by : Frame → S → Common S Weight
  common_by frame hasher = record {
    settings = part_settings frame.config frame.made;
    hasher = hasher;
    rules = frame.config.weight;
  }

  pub record IsKeptPart (frame : Frame) (part step : ℕ) (s : Part S) : Type 0 where
    -- what the front keeps: in order, sent, fewer than 64 writes, created alike, keys apart and of this part, empty at capacity 0, close,
    -- timely
    pub hasher : S
    pub front : IsKept 63 same (common_by frame hasher) (belongs_to frame part) frame.latest step s
    pub own : IsServicePart frame part step s
    pub reads : length s.reads ≤ 64
    pub taken : s.notices ≡ []

  -- and of all its parts
  pub record AreKeptParts (frame : Frame) (step : ℕ) (parts : List (Part S)) : Type 0 where
    pub number : length parts ≡ part_count frame.config
    pub placed : (key : List ℕ) → frame.part_of key < part_count frame.config
    pub brief : IsBrief frame.config
    pub range : frame.latest < 2 ^ 63
    pub each : (part : ℕ) (s : Part S) → slice_get parts part ≡ Some s
        → IsKeptPart frame part step s

-- a value that may be accepted in this part
pub record IsStorable (frame : Frame) (part : ℕ) (key : List ℕ) (value : Stored) : Type 0 where
  pub placed : frame.part_of key ≡ part
  pub short : length value.bytes ≤ 8192
  pub timed : IsTrue (frame.config.own_deadlines || is_none value.milliseconds)
