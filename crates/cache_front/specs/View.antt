-- A store over the parts of a cache, and what it shows.
use Rattle.std.specs.Prelude.{◌≡◌, ℕ, Bool, suc, ◌≤◌, ◌^◌, max, min, List, [], ◌∷◌, ◌++◌, map, length, Option, Some, slice_get}
use Rattle.std.specs.List.{sum_by}
use Rattle.rand_core.specs.Stream.{Stream}
use Rattle.audit_model.specs.declared.config.Config.{Config}
use Rattle.audit_model.specs.declared.config.Weight.{Weight}
use Rattle.audit_model.specs.declared.transcript.Note.{Note}
use Rattle.cache_commands.specs.Promises.{Frame}
use Rattle.cache_commands.specs.Values.{Values, IsMoment}
use Rattle.front_reference.specs.Fronts.{Front, part_of}
use Rattle.cache_front.specs.Parts.{Stored, Part, Stands, items_of, note_from, drained}
use Rattle.cache_front.specs.Recent.{IsRecentOver}
use Rattle.cache_front.specs.Keeping.{AreKeptParts, at_moment}
use Rattle.cache_front.specs.Registering.{register_of}

-- Its configuration and the moment of its creation, its parts, the notes that were taken from them and not from it, the generator of
-- identifiers, and the step of the last call. `S` is the hasher of the parts.
pub record StoreOfParts (S : Type 0) : Type 0 where
  pub frame : Frame
  pub parts : List (Part S)
  pub queue : List Note
  pub stream : Stream
  pub step : ℕ

module _ {S : Type 0} where
  -- the store of a front's parts: how it was created, whether a `DROPIF` was accepted, how keys are hashed, its queue and its generator
  abbrev pub over_front : (config : Config) (made : ℕ) (dropped : Bool) (hash : List ℕ → ℕ)
      → List Note → Stream → Front (List ℕ) Stored (List ℕ) S Weight → StoreOfParts S
  over_front config made dropped hash queue stream f = record {
    frame = record {
      config = config;
      part_of = λ key. part_of f.bits (hash key);
      made = made;
      dropped = dropped;
      latest = f.moment;
    };
    parts = f.parts;
    queue = queue;
    stream = stream;
    step = f.step;
  }

  -- the greatest ticket to come
  abbrev pub greatest_ticket : List (Part S) → ℕ
  greatest_ticket [] = 0
  greatest_ticket (s ∷ parts) = max s.next_ticket (greatest_ticket parts)

  abbrev pub view : StoreOfParts S → Values
  view a = record {
    frame = a.frame;
    Stands = Stands a.parts;
    count = length (items_of 0 a.parts);
    untaken = a.queue;
    Used = IsRecentOver a.frame.config a.parts;
    stream = a.stream;
    registered = register_of a.parts;
    spent = max a.step (greatest_ticket a.parts);
  }

  -- no room stays reserved in any part
  abbrev pub AreUnreserved : List (Part S) → Type 0
  AreUnreserved parts = (k : ℕ) (s : Part S) → slice_get parts k ≡ Some s → s.reserved ≡ 0

  -- what is true between calls
  pub record IsWhole (a : StoreOfParts S) : Type 0 where
    pub kept : AreKeptParts a.frame a.step a.parts
    pub small : length (items_of 0 a.parts) ≤ 2 ^ 50
    pub unreserved : AreUnreserved a.parts

  -- a call comes at this moment and step: the step of the last call, or the next one
  pub record ComesTo (a : StoreOfParts S) (now next : ℕ) : Type 0 where
    pub moment : IsMoment (view a) now
    pub rises : a.step ≤ next
    pub one : next ≤ suc a.step

  -- ---- notices

  -- those that wait in the parts, the first part's first
  abbrev pub waiting : List (Part S) → List Note
  waiting [] = []
  waiting (s ∷ parts) = map note_from s.notices ++ waiting parts

  -- the parts without them
  abbrev pub all_drained : List (Part S) → List (Part S)
  all_drained [] = []
  all_drained (s ∷ parts) = drained s ∷ all_drained parts

  -- ---- what a call does to the store

  -- these are its parts afterwards, and nothing was reported
  abbrev pub after_silently : (now next : ℕ) (parts : List (Part S)) → StoreOfParts S → StoreOfParts S
  after_silently now next parts a = record a { frame = at_moment a.frame now; parts = parts; step = next }

  -- these are its parts, and what they reported was taken from them
  abbrev pub after_telling : (now next : ℕ) (parts : List (Part S)) → StoreOfParts S → StoreOfParts S
  after_telling now next parts a = record a {
    frame = at_moment a.frame now;
    parts = all_drained parts;
    queue = a.queue ++ waiting parts;
    step = next;
  }

  -- the number and the weight of all parts, as of their last runs, at most 2^64 - 1
  abbrev pub number_in_all : List (Part S) → ℕ
  number_in_all parts = min (sum_by (λ s. s.number) parts) 18446744073709551615

  abbrev pub weight_in_all : List (Part S) → ℕ
  weight_in_all parts = min (sum_by (λ s. s.weight) parts) 18446744073709551615

-- what is kept of a value
abbrev pub kept_value : List ℕ → Option ℕ → Stored
kept_value bytes milliseconds = record { bytes = bytes; milliseconds = milliseconds }
