-- What an item has beside its bytes.
use Rattle.std.specs.Prelude.{ℕ, ◌+◌, ◌*◌, List, ◌++◌, is_some}
use Rattle.std.specs.Int.{w64, to_le_bytes}
use Rattle.memcache_model.specs.Items.{Item}
use Rattle.memcache_service.specs.Packing.{marks_of, room_with, takes_room}
use Rattle.memcache_service.specs.declared.item.Label.{Label}

-- the item of bytes with a label
abbrev pub labelled_item : List ℕ → Label → Item
labelled_item bytes label = record {
  bytes = bytes;
  flags = label.flags;
  unique = label.unique;
  deadline = label.deadline;
  stale = label.stale;
  leased = label.leased;
}

-- the unique with its marks
abbrev pub word_with : Label → ℕ
word_with label = label.unique * 16 + marks_of label.leased label.stale (is_some label.deadline)
    (takes_room label.flags label.deadline)

-- what stands behind an item's bytes
abbrev pub packed_label : Label → List ℕ
packed_label label = room_with label.flags label.deadline ++ to_le_bytes w64 (word_with label)
