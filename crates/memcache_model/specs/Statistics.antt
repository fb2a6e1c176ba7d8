-- Statistics: what each command counts, and how counts are told.
use Rattle.std.specs.Prelude.{ℕ, ◌^◌, Bool, not, ◌&&◌, ◌||◌, ◌==◌, List, [], ◌∷◌, ◌++◌, Option, Some, None, if◌then◌else◌, is_some, codes}
use Rattle.std.specs.Fmt.{decimal}
use Rattle.std.specs.Str.{bytes_eq}
use Rattle.memcache_model.specs.Bytes.{number_below}
use Rattle.memcache_model.specs.Commands.{Command, get, gat, store, delete, arithmetic, touch, flush_all, stats, meta, meta_set}
use Rattle.memcache_model.specs.Counts.{added, looked, no_counts, no_looks, noted, touches}
use Rattle.memcache_model.specs.Items.{Item, Items}
use Rattle.memcache_model.specs.Meta.{count_fault, direction_of, exptime_of, flags_fault, goes_on, has_flag, is_one_of, is_other, is_renewed, mode_of, names_none, number_of_letter, set_fault}
use Rattle.memcache_model.specs.declared.command.Direction.{Direction}
use Rattle.memcache_model.specs.declared.command.Direction.TheVariants.{Up, Down}
use Rattle.memcache_model.specs.declared.command.Meta.{Meta}
use Rattle.memcache_model.specs.declared.command.Meta.TheVariants.{Get, Delete, Arithmetic}
use Rattle.memcache_model.specs.declared.command.Storage.{Storage}
use Rattle.memcache_model.specs.declared.command.Storage.TheVariants.{Cas}
use Rattle.memcache_model.specs.declared.counters.Counters.{Counters}
use Rattle.memcache_model.specs.declared.counters.Looks.{Looks}
use Rattle.memcache_model.specs.declared.fault.ProtocolError.{ProtocolError}

-- ---- what a command counts

-- keys are looked at, one after the other
abbrev pub sought : Items → List (List ℕ) → Looks → Looks
sought items [] looks = looks
sought items (key ∷ keys) looks = sought items keys (noted (is_some (items key)) looks)

-- one key is looked at
abbrev pub seen_one : Option Item → Looks
seen_one item = noted (is_some item) no_looks

-- a unique is compared
abbrev pub compared : (unique : ℕ) → Option Item → Counters → Counters
compared unique None counts = record counts { cas_misses = added counts.cas_misses 1 }
compared unique (Some item) counts =
    if item.unique == unique then record counts { cas_hits = added counts.cas_hits 1 }
    else record counts { cas_badval = added counts.cas_badval 1 }

-- a storage command
abbrev pub stores : Counters → Counters
stores counts = record counts { cmd_set = added counts.cmd_set 1 }

-- and what it compares
abbrev pub storage_counts : Storage → Option Item → Counters → Counters
storage_counts (Cas unique) item counts = compared unique item counts
storage_counts storage item counts = counts

-- an item is deleted, or there is none
abbrev pub no_deletion : Counters → Counters
no_deletion counts = record counts { delete_misses = added counts.delete_misses 1 }

abbrev pub deletion : Counters → Counters
deletion counts = record counts { delete_hits = added counts.delete_hits 1 }

abbrev pub deleted : Option Item → Counters → Counters
deleted None counts = no_deletion counts
deleted (Some item) counts = deletion counts

-- an item is counted up or down, or there is none
abbrev pub no_sum : Direction → Counters → Counters
no_sum Up counts = record counts { incr_misses = added counts.incr_misses 1 }
no_sum Down counts = record counts { decr_misses = added counts.decr_misses 1 }

abbrev pub sum_made : Direction → Counters → Counters
sum_made Up counts = record counts { incr_hits = added counts.incr_hits 1 }
sum_made Down counts = record counts { decr_hits = added counts.decr_hits 1 }

-- unless it is no number
abbrev pub summed_by : Direction → Option ℕ → Counters → Counters
summed_by direction None counts = counts
summed_by direction (Some number) counts = sum_made direction counts

abbrev pub summed : Direction → Option Item → Counters → Counters
summed direction None counts = no_sum direction counts
summed direction (Some item) counts = summed_by direction (number_below (2 ^ 64) item.bytes) counts

-- a `mg`: with a `T` it touches what it finds
abbrev pub meta_looked : List (List ℕ) → Option Item → Counters → Counters
meta_looked words None counts = looked (seen_one None) counts
meta_looked words (Some item) counts =
    if is_some (exptime_of (codes "T") words) then touches (seen_one (Some item)) counts
    else looked (seen_one (Some item)) counts

-- a `md`: one that makes an item stale deletes nothing
abbrev pub meta_deleted : List (List ℕ) → Option Item → Counters → Counters
meta_deleted words None counts = no_deletion counts
meta_deleted words (Some item) counts =
    if is_other words item then no_deletion counts
    else (if has_flag (codes "I") words then counts else deletion counts)

-- a `ma`: one that makes a number has missed nothing
abbrev pub meta_summed : List (List ℕ) → Option Item → Counters → Counters
meta_summed words None counts =
    if is_some (exptime_of (codes "N") words) then counts else no_sum (direction_of words) counts
meta_summed words (Some item) counts =
    if is_other words item && not (names_none words) then counts
    else summed_by (direction_of words) (number_below (2 ^ 64) item.bytes) counts

-- a `ms` with a unique: to set or replace is to compare it
abbrev pub compares : (mode : ℕ) → Bool
compares mode = is_one_of (codes "SR") mode

abbrev pub compared_well : (mode : ℕ) → Counters → Counters
compared_well mode counts =
    if compares mode then record counts { cas_hits = added counts.cas_hits 1 } else counts

abbrev pub compared_badly : (mode : ℕ) → Counters → Counters
compared_badly mode counts =
    if compares mode then record counts { cas_badval = added counts.cas_badval 1 } else counts

abbrev pub meta_compared : (mode unique : ℕ) → List (List ℕ) → Option Item → Counters → Counters
meta_compared mode unique words None counts =
    if compares mode then record counts { cas_misses = added counts.cas_misses 1 } else counts
meta_compared mode unique words (Some item) counts =
    if goes_on mode unique item || is_renewed mode unique words item
    then compared_well mode counts else compared_badly mode counts

-- with one or without
abbrev pub meta_stores : List (List ℕ) → Option ℕ → Option Item → Counters → Counters
meta_stores words None item counts = stores counts
meta_stores words (Some unique) item counts =
    stores (meta_compared (mode_of (codes "S") words) unique words item counts)

-- nothing is counted if something is wrong with the flags
abbrev pub counts_unless : Option ProtocolError → (counted counts : Counters) → Counters
counts_unless None counted counts = counted
counts_unless (Some error) counted counts = counts

-- a meta command on a key
abbrev pub meta_counts : Meta → List (List ℕ) → Option Item → Counters → Counters
meta_counts Get words item counts =
    counts_unless (flags_fault words) (meta_looked words item counts) counts
meta_counts Delete words item counts =
    counts_unless (flags_fault words) (meta_deleted words item counts) counts
meta_counts Arithmetic words item counts =
    counts_unless (count_fault words) (meta_summed words item counts) counts

-- a `ms`
abbrev pub meta_set_counts : List (List ℕ) → Option Item → Counters → Counters
meta_set_counts words item counts = counts_unless (set_fault words)
    (meta_stores words (number_of_letter (codes "C") words) item counts) counts

-- the first word, or an empty one
abbrev pub topic_of : List (List ℕ) → List ℕ
topic_of [] = []
topic_of (word ∷ words) = word

-- `stats reset` begins anew
abbrev pub reset_by : List (List ℕ) → Counters → Counters
reset_by words counts = if bytes_eq (topic_of words) (codes "reset") then no_counts else counts

-- what a command counts, by the live items, unless it is refused
abbrev pub counted_by : Command → Items → Counters → Counters
counted_by (get uniques keys) items counts = looked (sought items keys no_looks) counts
counted_by (gat uniques exptime keys) items counts = touches (sought items keys no_looks) counts
counted_by (store storage key flags exptime block) items counts =
    stores (storage_counts storage (items key) counts)
counted_by (delete key) items counts = deleted (items key) counts
counted_by (arithmetic direction key delta) items counts = summed direction (items key) counts
counted_by (touch key exptime) items counts = touches (seen_one (items key)) counts
counted_by (flush_all exptime) items counts =
    record counts { cmd_flush = added counts.cmd_flush 1 }
counted_by (stats words) items counts = reset_by words counts
counted_by (meta kind key words) items counts = meta_counts kind words (items key) counts
counted_by (meta_set key words block) items counts = meta_set_counts words (items key) counts
counted_by command items counts = counts

-- ---- how counts are told

-- a figure, with its name before it
abbrev pub figure_line : List ℕ × ℕ → List ℕ
figure_line (name, figure) =
    codes "STAT " ++ name ++ codes " " ++ decimal figure ++ codes "\r\n"

-- figures, one a line
abbrev pub figures_text : List (List ℕ × ℕ) → List ℕ
figures_text [] = []
figures_text (row ∷ rows) = figure_line row ++ figures_text rows

-- all counts
abbrev pub counts_rows : Counters → List (List ℕ × ℕ)
counts_rows counts = (codes "total_connections", counts.total_connections)
    ∷ (codes "cmd_get", counts.cmd_get)
    ∷ (codes "cmd_set", counts.cmd_set)
    ∷ (codes "cmd_flush", counts.cmd_flush)
    ∷ (codes "cmd_touch", counts.cmd_touch)
    ∷ (codes "get_hits", counts.get_hits)
    ∷ (codes "get_misses", counts.get_misses)
    ∷ (codes "delete_misses", counts.delete_misses)
    ∷ (codes "delete_hits", counts.delete_hits)
    ∷ (codes "incr_misses", counts.incr_misses)
    ∷ (codes "incr_hits", counts.incr_hits)
    ∷ (codes "decr_misses", counts.decr_misses)
    ∷ (codes "decr_hits", counts.decr_hits)
    ∷ (codes "cas_misses", counts.cas_misses)
    ∷ (codes "cas_hits", counts.cas_hits)
    ∷ (codes "cas_badval", counts.cas_badval)
    ∷ (codes "touch_hits", counts.touch_hits)
    ∷ (codes "touch_misses", counts.touch_misses)
    ∷ (codes "bytes_read", counts.bytes_read)
    ∷ (codes "bytes_written", counts.bytes_written)
    ∷ (codes "total_items", counts.total_items)
    ∷ (codes "expired", counts.expired)
    ∷ (codes "evictions", counts.evictions) ∷ []

-- what is told beside the counts: seconds, how many connections are open, how many bytes all items may have, how many items there are and
-- how many bytes they have, and how many bytes one may have
pub record Facts : Type 0 where
  pub uptime : ℕ
  pub time : ℕ
  pub connections : ℕ
  pub capacity : ℕ
  pub items : ℕ
  pub bytes : ℕ
  pub most : ℕ

-- all figures
abbrev pub general_text : Facts → Counters → List ℕ
general_text facts counts =
    figures_text ((codes "pid", 1) ∷ (codes "uptime", facts.uptime) ∷ (codes "time", facts.time)
    ∷ []) ++ codes "STAT version 1.6.18\r\n"
    ++ figures_text ((codes "pointer_size", 64) ∷ (codes "threads", 1)
    ∷ (codes "curr_connections", facts.connections) ∷ (codes "limit_maxbytes", facts.capacity)
    ∷ (codes "curr_items", facts.items) ∷ (codes "bytes", facts.bytes) ∷ [])
    ++ figures_text (counts_rows counts) ++ codes "END\r\n"

-- settings
abbrev pub settings_text : (capacity most : ℕ) → List ℕ
settings_text capacity most =
    figures_text ((codes "maxbytes", capacity) ∷ (codes "item_size_max", most)
    ∷ (codes "num_threads", 1) ∷ []) ++ codes "STAT evictions on\r\nEND\r\n"

-- what a word asks for
abbrev pub topic_text : (word : List ℕ) → Facts → Counters → List ℕ
topic_text word facts counts =
    if bytes_eq word [] then general_text facts counts
    else (if bytes_eq word (codes "settings") then settings_text facts.capacity facts.most
    else (if bytes_eq word (codes "items") || bytes_eq word (codes "slabs") then codes "END\r\n"
    else (if bytes_eq word (codes "reset") then codes "RESET\r\n" else codes "ERROR\r\n")))

-- the reply of a `stats`
abbrev pub stats_text : List (List ℕ) → Facts → Counters → List ℕ
stats_text words facts counts = topic_text (topic_of words) facts counts
