-- What is right: a request, what is live and the moment give the reply and what is there then.
use Rattle.std.specs.Prelude.{ℕ, ◌^◌, Bool, ◌==◌, nat_lt, List, [], ◌∷◌, ◌++◌, length, Option, Some, None, if◌then◌else◌, codes}
use Rattle.std.specs.Fmt.{decimal}
use Rattle.std.specs.Option.{option_map}
use Rattle.memcache_model.specs.Bytes.{number_below}
use Rattle.memcache_model.specs.Commands.{Command, Request, get, gat, store, oversize, delete, arithmetic, touch, flush_all, stats, version, verbosity, quit, malformed, meta, meta_set, meta_oversize, meta_no_op}
use Rattle.memcache_model.specs.Items.{Item, Items, Stock, nothing, with_item, exptime_deadline, live_stock}
use Rattle.memcache_model.specs.Meta.{meta_answer, meta_set_answer, set_fault, unless_faulty}
use Rattle.memcache_model.specs.Outcomes.{Outcome, says_text, changes, stores_item, new_item, counted}
use Rattle.memcache_model.specs.Replies.{error_text, values_text}
use Rattle.memcache_model.specs.declared.command.Direction.{Direction}
use Rattle.memcache_model.specs.declared.command.Exptime.{Exptime}
use Rattle.memcache_model.specs.declared.command.Exptime.TheVariants.{Seconds}
use Rattle.memcache_model.specs.declared.command.Storage.{Storage}
use Rattle.memcache_model.specs.declared.command.Storage.TheVariants.{Set, Add, Replace, Append, Prepend, Cas}

-- ---- reading

-- the live items of the keys, one behind the other
abbrev pub tells_items : Bool → List (List ℕ) → Items → List ℕ
tells_items uniques [] items = codes "END\r\n"
tells_items uniques (key ∷ keys) items =
    values_text uniques key (items key) ++ tells_items uniques keys items

-- the item with another deadline
abbrev pub retimed : Option ℕ → Option Item → Option Item
retimed deadline None = None
retimed deadline (Some item) = Some (record item { deadline = deadline })

-- each item of the keys gets a deadline
abbrev pub touched : Option ℕ → List (List ℕ) → Items → Items
touched deadline [] items = items
touched deadline (key ∷ keys) items =
    touched deadline keys (with_item key (retimed deadline (items key)) items)

-- ---- storing

-- the item is stored, if its bytes are at most `most`
abbrev pub stores_within : ℕ → List ℕ → Item → Stock → Outcome
stores_within most key item stock =
    if nat_lt most (length item.bytes) then says_text (codes "NOT_STORED\r\n") stock
    else stores_item (codes "STORED\r\n") key item stock

-- what a storage command does with an item, by what its key has
abbrev pub store_over : ℕ → Storage → List ℕ → Item → Option Item → Stock → Outcome
store_over most Set key item old stock = stores_item (codes "STORED\r\n") key item stock
store_over most Add key item None stock = stores_item (codes "STORED\r\n") key item stock
store_over most Add key item (Some old) stock = says_text (codes "NOT_STORED\r\n") stock
store_over most Replace key item None stock = says_text (codes "NOT_STORED\r\n") stock
store_over most Replace key item (Some old) stock = stores_item (codes "STORED\r\n") key item stock
store_over most Append key item None stock = says_text (codes "NOT_STORED\r\n") stock
store_over most Append key item (Some old) stock =
    stores_within most key (record old { bytes = old.bytes ++ item.bytes }) stock
store_over most Prepend key item None stock = says_text (codes "NOT_STORED\r\n") stock
store_over most Prepend key item (Some old) stock =
    stores_within most key (record old { bytes = item.bytes ++ old.bytes }) stock
store_over most (Cas unique) key item None stock = says_text (codes "NOT_FOUND\r\n") stock
store_over most (Cas unique) key item (Some old) stock =
    if old.unique == unique then stores_item (codes "STORED\r\n") key item stock
    else says_text (codes "EXISTS\r\n") stock

-- a block that is too large is not stored; what a `set` was to replace goes
abbrev pub passes_over : Storage → List ℕ → Stock → Outcome
passes_over Set key stock =
    changes (codes "SERVER_ERROR object too large for cache\r\n") key None stock
passes_over storage key stock = says_text (codes "SERVER_ERROR object too large for cache\r\n") stock

-- ---- one key

-- a live item is deleted
abbrev pub deletes_one : List ℕ → Option Item → Stock → Outcome
deletes_one key None stock = says_text (codes "NOT_FOUND\r\n") stock
deletes_one key (Some item) stock = changes (codes "DELETED\r\n") key None stock

-- a live item gets another deadline
abbrev pub touches_one : List ℕ → Option ℕ → Option Item → Stock → Outcome
touches_one key deadline None stock = says_text (codes "NOT_FOUND\r\n") stock
touches_one key deadline (Some item) stock =
    changes (codes "TOUCHED\r\n") key (Some (record item { deadline = deadline })) stock

-- the item's bytes as a number, if they are one, and counted
abbrev pub counts_by : List ℕ → Item → Option ℕ → Stock → Outcome
counts_by key item None stock =
    says_text (codes "CLIENT_ERROR cannot increment or decrement non-numeric value\r\n") stock
counts_by key item (Some number) stock =
    stores_item (decimal number ++ codes "\r\n") key (record item { bytes = decimal number }) stock

-- a live item is counted
abbrev pub counts : Direction → List ℕ → ℕ → Option Item → Stock → Outcome
counts direction key delta None stock = says_text (codes "NOT_FOUND\r\n") stock
counts direction key delta (Some item) stock = counts_by key item
    (option_map (λ n. counted direction n delta) (number_below (2 ^ 64) item.bytes)) stock

-- ---- all keys

-- all items go now, or at a moment to come
abbrev pub flushes : ℕ → Exptime → Stock → Outcome
flushes moment (Seconds n) stock = record {
  reply = codes "OK\r\n";
  stock = record stock { flush = exptime_deadline moment (Seconds n) };
}
flushes moment exptime stock = record {
  reply = codes "OK\r\n";
  stock = record stock { items = nothing; flush = None };
}

-- ---- a request

-- what does not follow from a request and the items: how many bytes a block may have, and how statistics are told
pub record Service : Type 0 where
  pub most : ℕ
  pub figures : List (List ℕ) → List ℕ

-- what a command does, one equation for each
abbrev pub answer : Service → ℕ → Command → Stock → Outcome
answer service moment (get uniques keys) stock = says_text (tells_items uniques keys stock.items) stock
answer service moment (gat uniques exptime keys) stock = record {
  reply = tells_items uniques keys stock.items;
  stock = record stock { items = touched (exptime_deadline moment exptime) keys stock.items };
}
answer service moment (store storage key flags exptime block) stock =
    let deadline = exptime_deadline moment exptime in
    let item = new_item block flags deadline in
    store_over service.most storage key item (stock.items key) stock
answer service moment (oversize storage key) stock = passes_over storage key stock
answer service moment (delete key) stock = deletes_one key (stock.items key) stock
answer service moment (arithmetic direction key delta) stock =
    counts direction key delta (stock.items key) stock
answer service moment (touch key exptime) stock =
    touches_one key (exptime_deadline moment exptime) (stock.items key) stock
answer service moment (flush_all exptime) stock = flushes moment exptime stock
answer service moment (stats words) stock = says_text (service.figures words) stock
answer service moment version stock = says_text (codes "VERSION 1.6.18\r\n") stock
answer service moment verbosity stock = says_text (codes "OK\r\n") stock
answer service moment quit stock = says_text [] stock
answer service moment (meta kind key flags) stock =
    meta_answer moment kind key flags (stock.items key) stock
answer service moment (meta_set key flags block) stock =
    meta_set_answer service.most moment key flags block (stock.items key) stock
answer service moment (meta_oversize key flags) stock =
    unless_faulty (set_fault flags) (passes_over Set key stock) stock
answer service moment meta_no_op stock = says_text (codes "MN\r\n") stock
answer service moment (malformed error) stock = says_text (error_text error) stock

-- what a request does: what has expired or was to go is not there, and a quiet request has no reply
abbrev pub serves : Service → ℕ → Request → Stock → Outcome
serves service moment request stock =
    let outcome = answer service moment request.command (live_stock moment stock) in
    record { reply = if request.quiet then [] else outcome.reply; stock = outcome.stock }
