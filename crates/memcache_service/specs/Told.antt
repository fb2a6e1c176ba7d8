-- What a reply tells of an item.
use Rattle.std.specs.Prelude.{ℕ, Bool, true, false, not, ◌&&◌, ◌||◌, nat_lt, List, ◌++◌, length, Option, Some, None, if◌then◌else◌, codes}
use Rattle.std.specs.Option.{option_map_or}
use Rattle.memcache_model.specs.Items.{Item, exptime_deadline}
use Rattle.memcache_model.specs.Meta.{exptime_of, ends_before, is_late, is_one_of, item_text, lease_text, meta_item, retimed_by, told_to_get}
use Rattle.memcache_service.specs.declared.stock.telling.Told.{Told}

-- the item that it tells of, without its lease
abbrev pub told_item : Told → Item
told_item told = record {
  bytes = told.bytes.now;
  flags = told.flags;
  unique = told.unique;
  deadline = told.deadline;
  stale = false;
  leased = false;
}

-- a deadline comes before the moment that `R` says
abbrev pub late_by : ℕ → List (List ℕ) → Option ℕ → Bool
late_by moment words deadline = ends_before
    (option_map_or (exptime_deadline moment) (exptime_of (codes "R") words) None) deadline

-- what a `mg` tells of a live item
abbrev pub told_found : ℕ → (key : List ℕ) → List (List ℕ) → Item → List ℕ
told_found moment key words found =
    let item = retimed_by moment (codes "T") words found in
    let wins = not item.leased && (item.stale || is_late moment words item) in
    item_text told_to_get moment key item words (lease_text item.leased item.stale wins)

-- and what it leaves of it
abbrev pub found_item : ℕ → List (List ℕ) → Item → Item
found_item moment words found =
    let item = retimed_by moment (codes "T") words found in
    let wins = not item.leased && (item.stale || is_late moment words item) in
    record item { leased = item.leased || wins }

-- what a block becomes by its mode, over what the key has
abbrev pub moded : ℕ → (mode : ℕ) → Item → Option Item → Option Item
moded most mode item None = if is_one_of (codes "SE") mode then Some item else None
moded most mode item (Some old) =
    if is_one_of (codes "SR") mode then Some item
    else (if is_one_of (codes "A") mode then joined_within (old.bytes ++ item.bytes)
    else (if is_one_of (codes "P") mode then joined_within (item.bytes ++ old.bytes) else None))
  where
    joined_within : List ℕ → Option Item
    joined_within bytes =
        if nat_lt most (length bytes) then None else Some (record old { bytes = bytes })

-- what a block becomes over the item of a later unique
abbrev pub renewed_item : ℕ → List (List ℕ) → (block : List ℕ) → (held : Item) → Item
renewed_item moment words block held = record (meta_item moment words block)
    { deadline = held.deadline; stale = true; leased = held.leased }
