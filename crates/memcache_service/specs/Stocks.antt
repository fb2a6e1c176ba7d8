-- What a stock stands for, and what a command does to it.
use Rattle.std.specs.Prelude.{◌≡◌, ℕ, ◌-◌, ◌/◌, ◌⊎◌, Bool, true, false, not, List, [], ◌++◌, length, take, if◌then◌else◌, Option, Some, None, is_some, codes}
use Rattle.std.specs.Borrow.{Bor}
use Rattle.memcache_model.specs.Commands.{Command, Request, get, gat, oversize, flush_all, stats, version, verbosity, quit, meta, meta_set, meta_oversize, meta_no_op, malformed}
use Rattle.memcache_model.specs.Items as model
use Rattle.memcache_model.specs.Answers.{Service, answer, touched}
use Rattle.memcache_model.specs.Counts.{added}
use Rattle.memcache_model.specs.Items.{Item, Items, exptime_deadline, moment_has_come}
use Rattle.memcache_model.specs.Meta.{count_fault, flags_fault, set_fault}
use Rattle.memcache_model.specs.Outcomes.{Outcome, new_item, says_text, stores_item}
use Rattle.memcache_model.specs.Statistics.{Facts, counted_by, stats_text}
use Rattle.memcache_model.specs.declared.counters.Counters.{Counters}
use Rattle.memcache_model.specs.declared.command.Exptime.TheVariants.{Seconds}
use Rattle.memcache_model.specs.declared.command.Meta.{Meta}
use Rattle.memcache_model.specs.declared.command.Meta.TheVariants.{Arithmetic}
use Rattle.memcache_model.specs.declared.command.Storage.TheVariants.{Set}
use Rattle.memcache_model.specs.declared.fault.ProtocolError.{ProtocolError}
use Rattle.memcache_service.specs.Lines.{reply_text, said_from}
use Rattle.memcache_service.specs.declared.replies.Reply.{Reply}
use Rattle.memcache_service.specs.declared.replies.Reply.TheVariants.{NoMemory, NoRoom, NoStatistics, NotFound, Touched}
use Rattle.memcache_service.specs.Shelves.{MayComeAt, Shelved, UsesOne, live_on}
use Rattle.memcache_service.specs.declared.shelf.Shelf.{Ghosts}
use Rattle.memcache_service.specs.declared.stock.Stock.{Stock}
use Rattle.memcache_service.specs.declared.stock.storing.Block.{Block}

-- what serves data blocks of so many bytes, and tells this text as statistics
abbrev pub service_of : (most : ℕ) → (figures : List ℕ) → Service
service_of most figures = record { most = most; figures = λ words. figures }

-- the reply of a command is one line, and it has no flags
abbrev pub is_short : Command → Bool
is_short (get uniques keys) = false
is_short (gat uniques exptime keys) = false
is_short (stats words) = false
is_short (meta kind key flags) = false
is_short (meta_set key flags block) = false
is_short command = true

-- what is wrong with the flags of a meta command on a key, if anything is
abbrev pub meta_fault : Meta → List (List ℕ) → Option ProtocolError
meta_fault Arithmetic flags = count_fault flags
meta_fault kind flags = flags_fault flags

-- whether memory may be lacking for a command. One that is malformed, or says one line and leaves all as it is whatever is there, needs
-- none
abbrev pub may_want : Command → Bool
may_want (oversize Set key) = true
may_want (oversize storage key) = false
may_want (flush_all (Seconds n)) = false
may_want version = false
may_want verbosity = false
may_want quit = false
may_want meta_no_op = false
may_want (malformed error) = false
may_want (meta kind key flags) = not (is_some (meta_fault kind flags))
may_want (meta_set key flags block) = not (is_some (set_fault flags))
may_want (meta_oversize key flags) = not (is_some (set_fault flags))
may_want command = true

-- the keys that a command reads
abbrev pub keys_read : Command → List (List ℕ)
keys_read (get uniques keys) = keys
keys_read command = []

-- what is replied where memory is lacking
abbrev pub IsRefusal : List ℕ → Type 0
IsRefusal text = (text ≡ reply_text NoMemory) ⊎ (text ≡ reply_text NoRoom)

-- the item of a block
abbrev pub block_item : Block → Item
block_item block = new_item block.bytes.now block.flags block.deadline

-- a statistic as it is told
abbrev pub figure_of : Bor (List ℕ) × ℕ → List ℕ × ℕ
figure_of figure = (figure.0.now, figure.1)

-- what is told beside the counts; items and their bytes are as of the last maintenance
abbrev pub facts_of : {T : Type 0} → (moment : ℕ) → Stock T → (items bytes : ℕ) → Facts
facts_of moment stock items bytes = record {
  uptime = (moment - stock.made) / 1000;
  time = moment / 1000;
  connections = stock.connections;
  capacity = stock.capacity;
  items = items;
  bytes = bytes;
  most = stock.most;
}

-- the reply of a `stats` tells what was counted, unless memory is lacking
abbrev pub TellsStatistics : Command → (facts : (items bytes : ℕ) → Facts) → Counters → List ℕ
    → Type 0
TellsStatistics (stats words) facts counts text =
    (text ≡ reply_text NoStatistics)
    ⊎ ((items bytes : ℕ) × (text ≡ stats_text words (facts items bytes) counts))
TellsStatistics command facts counts text = Unit {0}

-- a command was counted, or it was refused and was not
abbrev pub CountsIfRoom : Command → Items → (text : List ℕ) → (old new : Counters) → Type 0
CountsIfRoom command items text old new = (new ≡ counted_by command items old)
    ⊎ ((IsRefusal text ⊎ (text ≡ reply_text NoStatistics)) × (new ≡ old))

-- so many items were stored, and maybe some left by themselves
abbrev pub CountsStored : (stored : ℕ) → (old new : Counters) → Type 0
CountsStored stored old new = new ≡ record old {
  total_items = added old.total_items stored;
  expired = new.expired;
  evictions = new.evictions;
}

-- a request was counted
abbrev pub HasCounted : {T : Type 0} → Command → Items → (text : List ℕ) → (old new : Stock T)
    → Type 0
HasCounted command items text old new =
    (between : Counters) × CountsIfRoom command items text old.counters between
    × CountsStored (new.uniques - old.uniques) between new.counters

-- an item with more bytes is stored, if it may have them
abbrev pub appends_to : List ℕ → Option Item → model.Stock → Outcome
appends_to key None stock = says_text (codes "NOT_STORED\r\n") stock
appends_to key (Some item) stock = stores_item (codes "STORED\r\n") key item stock

-- a touch says whether there was an item
abbrev pub touch_reply : Option Item → Reply
touch_reply None = NotFound
touch_reply (Some item) = Touched

-- nothing was changed but the key that was named
pub record Spares {T : Type 0} (old new : Stock T) : Type 0 where
  pub shelf : new.shelf ≡ old.shelf
  pub uniques : new.uniques ≡ old.uniques
  pub flush : new.flush ≡ old.flush
  pub most : new.most ≡ old.most
  pub counters : new.counters ≡ old.counters

module _ {T : Type 0} (view : T → Shelved) where
  -- what it stands for at a moment, if no flush is due
  abbrev pub stock_at : ℕ → Stock T → model.Stock
  stock_at moment stock = record {
    items = live_on (view stock.shelf) moment;
    uniques = stock.uniques;
    flush = stock.flush;
  }

  -- a call at a moment leaves all of this, but for items that left by themselves
  pub record LeavesAll (moment : ℕ) (all : model.Stock) (old new : Stock T) : Type 0 where
    pub items : (key : List ℕ) → ((stock_at moment new).items key ≡ all.items key)
        ⊎ ((stock_at moment new).items key ≡ None)
    pub uniques : new.uniques ≡ all.uniques
    pub flush : new.flush ≡ all.flush
    pub may_follow : MayComeAt (view new.shelf) moment
    pub most : new.most ≡ old.most
    pub capacity : (view new.shelf).capacity ≡ (view old.shelf).capacity

  -- it changes nothing else
  abbrev pub LeavesStock : ℕ → (old new : Stock T) → Type 0
  LeavesStock moment old new = LeavesAll moment (stock_at moment old) old new

  -- it gives the items of these keys a deadline
  abbrev pub Touches : ℕ → Option ℕ → List (List ℕ) → (old new : Stock T) → Type 0
  Touches moment deadline keys old new = LeavesAll moment (record (stock_at moment old) {
    items = touched deadline keys (stock_at moment old).items;
  }) old new

  -- a command at a moment said this, and had this outcome
  pub record Did (moment : ℕ) (outcome : Outcome) (old new : Stock T) (text : List ℕ) : Type 0
    where
      pub said : text ≡ outcome.reply
      pub leaves : LeavesAll moment outcome.stock old new

  -- what it has at a moment, live or not
  abbrev pub kept_until : ℕ → Stock T → model.Stock
  kept_until moment stock = record {
    items = (view stock.shelf).items moment;
    uniques = stock.uniques;
    flush = stock.flush;
  }

  -- a command that is refused leaves all exactly as it was, but that as many of the keys of a `gat` as it came to have their new deadline
  abbrev pub LeavesRefused : ℕ → Command → (all : model.Stock) → (old new : Stock T) → Type 0
  LeavesRefused moment (gat uniques exptime keys) all old new =
      (count : ℕ) × LeavesAll moment (record all {
        items = touched (exptime_deadline moment exptime) (take count keys) all.items;
      }) old new
  LeavesRefused moment command all old new = stock_at moment new ≡ all

  -- there was no memory for a command
  pub record IsOutOfMemory (moment : ℕ) (command : Command) (all : model.Stock) (old new : Stock T)
      (text : List ℕ) : Type 0 where
    pub says : IsRefusal text
    pub wants : may_want command ≡ true
    pub keeps : LeavesRefused moment command all old new
    pub capacity : (view new.shelf).capacity ≡ (view old.shelf).capacity

  -- a command did what it was to do, and used what it reads, or was refused
  abbrev pub DoesIfRoom : ℕ → Command → (all : model.Stock) → (Uses : Type 0) → (old new : Stock T)
      → (text : List ℕ) → Type 0
  DoesIfRoom moment command all Uses old new text =
      (Did moment (answer (service_of old.most text) moment command all) old new text × Uses)
      ⊎ IsOutOfMemory moment command all old new text

module _ {T : Type 0} (shelf : Ghosts T) where
  -- the same, by what stood before its reply, what stands there then, and the reply that was returned
  pub record AnswersCommand (moment : ℕ) (command : Command) (old new : Stock T) (before after : List ℕ)
      (reply : Reply) : Type 0 where
    pub begun : take (length before) after ≡ before
    pub does : DoesIfRoom shelf.view moment command (stock_at shelf.view moment old)
        (UsesOne shelf.uses moment (keys_read command) old.shelf new.shelf) old new
        (said_from (length before) after reply)
    pub tells : TellsStatistics command (facts_of moment old) old.counters
        (said_from (length before) after reply)

  -- a request used what it reads, behind a flush that was due, and before removals were counted
  pub record UsesOfStock (moment : ℕ) (keys : List (List ℕ)) (old new : Stock T) : Type 0 where
    pub first : T
    pub last : T
    pub begins : moment_has_come moment old.flush ≡ false → first ≡ old.shelf
    pub uses : UsesOne shelf.uses moment keys first last
    pub counts : shelf.counts last new.shelf

  -- a request wrote its reply behind what stood there, unless it is quiet
  pub record WritesReply (moment : ℕ) (all : model.Stock) (request : Request) (old new : Stock T)
      (before after : List ℕ) : Type 0 where
    pub text : List ℕ
    pub written : after ≡ before ++ (if request.quiet then [] else text)
    pub does : DoesIfRoom shelf.view moment request.command all
        (UsesOfStock moment (keys_read request.command) old new) old new text
    pub tells : TellsStatistics request.command (facts_of moment old) old.counters text
    pub counted : HasCounted request.command all.items text old new
