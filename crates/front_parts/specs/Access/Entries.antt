-- What selectors show of what was done.
use Rattle.std.specs.Prelude.{◌≡◌, Bool, true, false, Option, Some, None, Result, Ok, Err}
use Rattle.front_reference.specs.declared.data.Computed.{Computed}
use Rattle.front_reference.specs.declared.data.Computed.TheVariants as did
use Rattle.front_parts.specs.declared.access.entry.Entry.{Entry}
use Rattle.front_parts.specs.declared.access.entry.CompResult.{CompResult}
use Rattle.front_parts.specs.declared.access.entry.CompResult.TheVariants.{StillNone, Unchanged, Inserted, ReplacedWith, Removed}

module _ {K V : Type 0} where
  -- a key with a value: whether the value was made or put, and whether it replaced a visible one
  abbrev pub entry_with : K → V → Bool → Bool → Entry K V
  entry_with key value is_fresh is_replaced = record {
    key = key;
    value = value;
    is_fresh = is_fresh;
    is_old_value_replaced = is_replaced;
  }

  -- a value that was there
  abbrev pub found_entry : K → V → Entry K V
  found_entry key value = entry_with key value false false

  -- what was done to a key
  abbrev pub shown_as : K → Computed V → CompResult K V
  shown_as key did.StillNone = StillNone key
  shown_as key (did.Unchanged value) = Unchanged (found_entry key value)
  shown_as key (did.Inserted value) = Inserted (entry_with key value true false)
  shown_as key (did.ReplacedWith value) = ReplacedWith (entry_with key value true true)
  shown_as key (did.Removed value) = Removed (found_entry key value)

  -- the entry, if there is one
  abbrev pub entry_in : CompResult K V → Option (Entry K V)
  entry_in (StillNone key) = None
  entry_in (Unchanged e) = Some e
  entry_in (Inserted e) = Some e
  entry_in (ReplacedWith e) = Some e
  entry_in (Removed e) = Some e

  -- what a closure decided is done, or its error
  abbrev pub result_shown : {E : Type 0} → K → Result (Computed V) E → Result (CompResult K V) E
  result_shown key (Ok done) = Ok (shown_as key done)
  result_shown key (Err e) = Err e

  -- what is seen, as a closure receives it
  abbrev pub seen_entry : K → Option V → Option (Entry K V)
  seen_entry key None = None
  seen_entry key (Some v) = Some (found_entry key v)
