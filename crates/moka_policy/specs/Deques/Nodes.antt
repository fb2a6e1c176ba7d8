-- What the queues read and write of a cache's entries.
use Rattle.std.specs.Prelude.{◌≡◌, ℕ, Option, Some, None}
use Rattle.std.specs.Option.{option_and_then}
use Rattle.slab.specs.Slab.{Slab, get, with_value}
use Rattle.policy_base.specs.declared.name.CacheRegion.{CacheRegion}
use Rattle.policy_base.specs.declared.records.KeyHashDate.{KeyHashDate}
use Rattle.policy_base.specs.declared.records.Slot.{Slot}
use Rattle.policy_base.specs.declared.name.NodeId.{NodeId}
use Rattle.policy_queue.specs.Queue.{Pushes}
use Rattle.moka_policy.specs.Deques.Queues.{Queues, Changes}

-- the name of an entry's node in the access-order queues
abbrev pub access_node : {K : Type 0} → Slab (Slot K) → ℕ → Option NodeId
access_node entries entry = option_and_then (λ s. s.nodes.access_queue) (get entries entry)

-- the name of an entry's node in the write-order queue
abbrev pub write_node : {K : Type 0} → Slab (Slot K) → ℕ → Option NodeId
write_node entries entry = option_and_then (λ s. s.nodes.write_queue) (get entries entry)

abbrev pub with_access_at : {K : Type 0} → Option (Slot K) → ℕ → Option NodeId → Slab (Slot K)
    → Slab (Slot K)
with_access_at None entry name entries = entries
with_access_at (Some s) entry name entries =
    with_value entries entry (record s { nodes = record s.nodes { access_queue = name } })

-- the entries, with one of them under this name in the access-order queues
abbrev pub with_access_node : {K : Type 0} → ℕ → Option NodeId → Slab (Slot K) → Slab (Slot K)
with_access_node entry node entries = with_access_at (get entries entry) entry node entries

abbrev pub with_write_at : {K : Type 0} → Option (Slot K) → ℕ → Option NodeId → Slab (Slot K)
    → Slab (Slot K)
with_write_at None entry name entries = entries
with_write_at (Some s) entry name entries =
    with_value entries entry (record s { nodes = record s.nodes { write_queue = name } })

-- the entries, with one of them under this name in the write-order queue
abbrev pub with_write_node : {K : Type 0} → ℕ → Option NodeId → Slab (Slot K) → Slab (Slot K)
with_write_node entry node entries = with_write_at (get entries entry) entry node entries

-- an entry was appended to a queue, and knows its node
pub record PushesEntry {K : Type 0} (knows : ℕ → Option NodeId → Slab (Slot K) → Slab (Slot K))
    (region : CacheRegion) (node : KeyHashDate) (old new : Queues) (before after : Slab (Slot K)) :
    Type 0 where
  pub id : NodeId
  pub pushed : Changes region (λ o n. Pushes o n id node) old new
  pub known : after ≡ knows node.entry (Some id) before

-- an entry without a node stays as it is; otherwise it forgets its node
abbrev pub forgets : {K : Type 0} → (ℕ → Option NodeId → Slab (Slot K) → Slab (Slot K)) → ℕ
    → Option NodeId → Slab (Slot K) → Slab (Slot K)
forgets knows entry None entries = entries
forgets knows entry (Some id) entries = knows entry None entries
