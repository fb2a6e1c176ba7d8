-- Which bytes are a request, and what it asks for.
use Rattle.std.specs.Prelude.{ℕ, zero, suc, ◌+◌, ◌-◌, ◌^◌, ◌%◌, Bool, true, false, not, ◌&&◌, ◌||◌, ◌==◌, nat_eq, nat_lt, List, [], ◌∷◌, length, take, drop, Option, Some, None, if◌then◌else◌, codes}
use Rattle.std.specs.List.{list_all, position, starts_with}
use Rattle.std.specs.Str.{bytes_eq}
use Rattle.memcache_model.specs.Bytes.{is_filled, is_feed, is_item_key, tokens, without_one_return, digits_below, number_below}
use Rattle.memcache_model.specs.Commands.{Command, Request, get, gat, store, oversize, delete, arithmetic, touch, flush_all, stats, version, verbosity, quit, malformed, meta, meta_set, meta_oversize, meta_no_op}
use Rattle.memcache_model.specs.declared.command.Direction.{Direction}
use Rattle.memcache_model.specs.declared.command.Direction.TheVariants.{Up, Down}
use Rattle.memcache_model.specs.declared.command.Exptime.{Exptime}
use Rattle.memcache_model.specs.declared.command.Exptime.TheVariants.{Never, AtOnce, Seconds}
use Rattle.memcache_model.specs.declared.command.Meta.{Meta}
use Rattle.memcache_model.specs.declared.command.Meta.TheVariants as kind
use Rattle.memcache_model.specs.declared.command.Storage.{Storage}
use Rattle.memcache_model.specs.declared.command.Storage.TheVariants.{Set, Add, Replace, Append, Prepend, Cas}
use Rattle.memcache_model.specs.declared.command.Verb.{Verb}
use Rattle.memcache_model.specs.declared.command.Verb.TheVariants as verb
use Rattle.memcache_model.specs.declared.command.Verb.TheVariants.{Get, Gat, Store, Delete, Arithmetic, Touch, FlushAll, Stats, Version, Verbosity, Quit, MetaSet, MetaNoOp}
use Rattle.memcache_model.specs.declared.fault.ProtocolError.{ProtocolError}
use Rattle.memcache_model.specs.declared.fault.ProtocolError.TheVariants as fault

-- ---- numbers and words

-- a number of seconds of 32 bits, of which the first is its sign
abbrev pub signed : ℕ → Exptime
signed zero = Never
signed (suc n) = if nat_lt (suc n) (2 ^ 31) then Seconds (suc n) else AtOnce

-- a number of seconds as an expiry: of a larger number the last 32 bits count
abbrev pub seconds : ℕ → Exptime
seconds n = signed (n % 2 ^ 32)

-- a number of seconds behind a minus
abbrev pub negative : ℕ → Exptime
negative n = seconds (2 ^ 32 - n % 2 ^ 32)

-- the expiry, if there is a number
abbrev pub exptime_by : (ℕ → Exptime) → Option ℕ → Option Exptime
exptime_by kind None = None
exptime_by kind (Some n) = Some (kind n)

-- an expiry is a number of 64 bits with a sign
abbrev pub exptime_in : List ℕ → Option Exptime
exptime_in [] = None
exptime_in (b ∷ digits) =
    if b == 45 then exptime_by negative (digits_below (2 ^ 63 + 1) digits)
    else exptime_by seconds (number_below (2 ^ 63) (b ∷ digits))

-- whether the reply is left out, by the words behind all others: none, or one, which may be `noreply`
abbrev pub quiet_in : List (List ℕ) → Option Bool
quiet_in [] = Some false
quiet_in (word ∷ more) = if is_filled more then None else Some (bytes_eq word (codes "noreply"))

-- ---- a line

-- what a line says: all of a request, or what stands before a data block of a number of bytes
pub data RequestLine : Type 0 where
  whole : Command → Bool → RequestLine
  head : Storage → (key : List ℕ) → (flags : ℕ) → Exptime → (size : ℕ) → Bool → RequestLine
  meta_head : (key : List ℕ) → (flags : List (List ℕ)) → (size : ℕ) → RequestLine

-- the line cannot be read
abbrev pub faulty : ProtocolError → RequestLine
faulty error = whole (malformed error) false

-- what is wrong with the keys of a `get`, if anything is: there are none, or one is too long
abbrev pub keys_fault : List (List ℕ) → Option ProtocolError
keys_fault keys =
    if is_filled keys then (if list_all is_item_key keys then None else Some fault.Format)
    else Some fault.Unknown

-- a command on keys
abbrev pub keyed_unless : Command → Option ProtocolError → RequestLine
keyed_unless command None = whole command false
keyed_unless command (Some error) = faulty error

-- a `get` or `gets`
abbrev pub read_get : Bool → List (List ℕ) → RequestLine
read_get uniques keys = keyed_unless (get uniques keys) (keys_fault keys)

-- a `gat` or `gats` with its expiry
abbrev pub gat_by : Bool → List (List ℕ) → Option Exptime → RequestLine
gat_by uniques keys None = faulty fault.Exptime
gat_by uniques keys (Some exptime) = keyed_unless (gat uniques exptime keys) (keys_fault keys)

-- its words
abbrev pub read_gat : Bool → List (List ℕ) → RequestLine
read_gat uniques [] = faulty fault.Unknown
read_gat uniques (exptime ∷ keys) = gat_by uniques keys (exptime_in exptime)

-- the size of a data block: with the two bytes behind the block it is below 2 ^ 31
abbrev pub size_in : List ℕ → Option ℕ
size_in word = number_below 2147483646 word

-- what stands before a data block
abbrev pub block_head : Option Storage → List ℕ → Option ℕ → Option Exptime → Option ℕ → Option Bool
    → RequestLine
block_head storage key flags exptime size None = faulty fault.Unknown
block_head (Some storage) key (Some flags) (Some exptime) (Some size) (Some quiet) =
    if is_item_key key then head storage key flags exptime size quiet else faulty fault.Format
block_head storage key flags exptime size (Some quiet) = faulty fault.Format

-- a storage command that knows what it does
abbrev pub read_store : Storage → List (List ℕ) → RequestLine
read_store storage (key ∷ flags ∷ exptime ∷ size ∷ more) =
    block_head (Some storage) key (number_below (2 ^ 32) flags) (exptime_in exptime)
    (size_in size) (quiet_in more)
read_store storage words = faulty fault.Unknown

-- the unique of a `cas`
abbrev pub cas_by : Option ℕ → Option Storage
cas_by None = None
cas_by (Some unique) = Some (Cas unique)

-- a `cas`
abbrev pub read_cas : List (List ℕ) → RequestLine
read_cas (key ∷ flags ∷ exptime ∷ size ∷ unique ∷ more) =
    block_head (cas_by (number_below (2 ^ 64) unique)) key (number_below (2 ^ 32) flags)
    (exptime_in exptime) (size_in size) (quiet_in more)
read_cas words = faulty fault.Unknown

-- a command on one key, if the key is one
abbrev pub on_key : List ℕ → Command → Bool → RequestLine
on_key key command quiet = if is_item_key key then whole command quiet else faulty fault.Format

-- what follows the key of a `delete` is malformed; `noreply` leaves the reply out all the same
abbrev pub delete_fault : Bool → RequestLine
delete_fault quiet = whole (malformed fault.Delete) quiet

-- a `delete` with a word behind its key: a time of 0, which old clients send, or `noreply`
abbrev pub delete_word : (key word : List ℕ) → RequestLine
delete_word key word =
    if bytes_eq word (codes "0") then on_key key (delete key) false
    else (if bytes_eq word (codes "noreply") then on_key key (delete key) true
    else delete_fault false)

-- a `delete` with a word behind its key and those behind it
abbrev pub delete_words : (key word : List ℕ) → List (List ℕ) → RequestLine
delete_words key word [] = delete_word key word
delete_words key time (word ∷ more) =
    if is_filled more then faulty fault.Unknown
    else (if bytes_eq time (codes "0") && bytes_eq word (codes "noreply")
    then on_key key (delete key) true else delete_fault (bytes_eq word (codes "noreply")))

-- a `delete` with what follows its key
abbrev pub delete_by : (key : List ℕ) → List (List ℕ) → RequestLine
delete_by key [] = on_key key (delete key) false
delete_by key (word ∷ more) = delete_words key word more

-- its words
abbrev pub read_delete : List (List ℕ) → RequestLine
read_delete [] = faulty fault.Unknown
read_delete (key ∷ more) = delete_by key more

-- an `incr` or `decr`
abbrev pub arithmetic_by : Direction → List ℕ → Option ℕ → Option Bool → RequestLine
arithmetic_by direction key delta None = faulty fault.Unknown
arithmetic_by direction key None (Some quiet) = faulty fault.Delta
arithmetic_by direction key (Some delta) (Some quiet) =
    on_key key (arithmetic direction key delta) quiet

-- its words
abbrev pub read_arithmetic : Direction → List (List ℕ) → RequestLine
read_arithmetic direction (key ∷ delta ∷ more) =
    arithmetic_by direction key (number_below (2 ^ 64) delta) (quiet_in more)
read_arithmetic direction words = faulty fault.Unknown

-- a command that an expiry belongs to
abbrev pub timed : (Exptime → Command) → Option Exptime → Option Bool → RequestLine
timed command exptime None = faulty fault.Unknown
timed command None (Some quiet) = faulty fault.Exptime
timed command (Some exptime) (Some quiet) = whole (command exptime) quiet

-- a `touch`
abbrev pub read_touch : List (List ℕ) → RequestLine
read_touch (key ∷ exptime ∷ more) =
    if is_item_key key then timed (touch key) (exptime_in exptime) (quiet_in more)
    else faulty fault.Format
read_touch words = faulty fault.Unknown

-- a `flush_all`: a delay and `noreply` may follow
abbrev pub read_flush : List (List ℕ) → RequestLine
read_flush [] = whole (flush_all Never) false
read_flush (word ∷ more) =
    if not (is_filled more) && bytes_eq word (codes "noreply") then whole (flush_all Never) true
    else timed flush_all (exptime_in word) (quiet_in more)

-- a `verbosity`, which does nothing, by its level and what follows that
abbrev pub verbosity_by : Option ℕ → Option Bool → RequestLine
verbosity_by level None = faulty fault.Unknown
verbosity_by None (Some quiet) = whole (malformed fault.Format) quiet
verbosity_by (Some level) (Some quiet) = whole verbosity quiet

-- its words; `noreply` leaves the reply out in place of the level too, which is malformed then
abbrev pub read_verbosity : List (List ℕ) → RequestLine
read_verbosity [] = faulty fault.Unknown
read_verbosity (level ∷ more) = verbosity_by (number_below (2 ^ 64) level)
    (if is_filled more then quiet_in more else Some (bytes_eq level (codes "noreply")))

-- a meta command on a key, with its flags
abbrev pub read_meta : Meta → List (List ℕ) → RequestLine
read_meta kind [] = faulty fault.Unknown
read_meta kind (key ∷ flags) = on_key key (meta kind key flags) false

-- what stands before the data block of a `ms`
abbrev pub meta_head_of : List ℕ → List (List ℕ) → Option ℕ → RequestLine
meta_head_of key flags None = faulty fault.Format
meta_head_of key flags (Some size) =
    if is_item_key key then meta_head key flags size else faulty fault.Format

-- its words
abbrev pub read_meta_set : List (List ℕ) → RequestLine
read_meta_set (key ∷ size ∷ flags) = meta_head_of key flags (size_in size)
read_meta_set words = faulty fault.Unknown

-- the words that stand behind a command's word
abbrev pub read_arguments : Verb → List (List ℕ) → RequestLine
read_arguments (Get uniques) words = read_get uniques words
read_arguments (Gat uniques) words = read_gat uniques words
read_arguments (Store storage) words = read_store storage words
read_arguments verb.Cas words = read_cas words
read_arguments Delete words = read_delete words
read_arguments (Arithmetic direction) words = read_arithmetic direction words
read_arguments Touch words = read_touch words
read_arguments FlushAll words = read_flush words
read_arguments Stats words = whole (stats words) false
read_arguments Version words = whole version false
read_arguments Verbosity words = read_verbosity words
read_arguments Quit words = whole quit false
read_arguments (verb.Meta kind) words = read_meta kind words
read_arguments MetaSet words = read_meta_set words
read_arguments MetaNoOp words = whole meta_no_op false

-- the table of the words of meta commands
abbrev pub meta_verb_in : List ℕ → Option Verb
meta_verb_in word =
    if bytes_eq word (codes "mg") then Some (verb.Meta kind.Get)
    else (if bytes_eq word (codes "ms") then Some MetaSet
    else (if bytes_eq word (codes "md") then Some (verb.Meta kind.Delete)
    else (if bytes_eq word (codes "ma") then Some (verb.Meta kind.Arithmetic)
    else (if bytes_eq word (codes "mn") then Some MetaNoOp else None))))

-- the table of the words of commands for the server
abbrev pub server_verb_in : List ℕ → Option Verb
server_verb_in word =
    if bytes_eq word (codes "flush_all") then Some FlushAll
    else (if bytes_eq word (codes "stats") then Some Stats
    else (if bytes_eq word (codes "version") then Some Version
    else (if bytes_eq word (codes "verbosity") then Some Verbosity
    else (if bytes_eq word (codes "quit") then Some Quit
    else meta_verb_in word))))

-- the table of the words of commands for items that few clients send
abbrev pub rare_verb_in : List ℕ → Option Verb
rare_verb_in word =
    if bytes_eq word (codes "gat") then Some (Gat false)
    else (if bytes_eq word (codes "gats") then Some (Gat true)
    else (if bytes_eq word (codes "replace") then Some (Store Replace)
    else (if bytes_eq word (codes "append") then Some (Store Append)
    else (if bytes_eq word (codes "prepend") then Some (Store Prepend)
    else server_verb_in word))))

-- the table of command words
abbrev pub verb_named : List ℕ → Option Verb
verb_named word =
    if bytes_eq word (codes "get") then Some (Get false)
    else (if bytes_eq word (codes "set") then Some (Store Set)
    else (if bytes_eq word (codes "gets") then Some (Get true)
    else (if bytes_eq word (codes "delete") then Some Delete
    else (if bytes_eq word (codes "add") then Some (Store Add)
    else (if bytes_eq word (codes "cas") then Some verb.Cas
    else (if bytes_eq word (codes "incr") then Some (Arithmetic Up)
    else (if bytes_eq word (codes "decr") then Some (Arithmetic Down)
    else (if bytes_eq word (codes "touch") then Some Touch
    else rare_verb_in word))))))))

-- the last word, if there is one
abbrev pub last_word : List ℕ → List (List ℕ) → List ℕ
last_word word [] = word
last_word word (next ∷ words) = last_word next words

-- what is wrong with a line that begins with no command's word: it is one of HTTP, which a page in a browser may have sent, or it is unknown
abbrev pub stranger : List ℕ → List (List ℕ) → ProtocolError
stranger word words =
    if starts_with nat_eq (last_word word words) (codes "HTTP/") then fault.Foreign else fault.Unknown

-- a command's word with the words behind it
abbrev pub read_command : Option Verb → List ℕ → List (List ℕ) → RequestLine
read_command None word words = faulty (stranger word words)
read_command (Some verb) word words = read_arguments verb words

-- the words of a line
abbrev pub read_tokens : List (List ℕ) → RequestLine
read_tokens [] = faulty fault.Unknown
read_tokens (word ∷ words) = read_command (verb_named word) word words

-- what a line says
abbrev pub request_line : List ℕ → RequestLine
request_line line = read_tokens (tokens line)

-- ---- a stream of bytes

-- what stands at the front of a stream: not a whole request yet, or one that takes so many bytes. A block that is too large is passed
-- over: its request is whole once its line is, and takes more bytes than there may be yet
pub data Arrived : Type 0 where
  part : Arrived
  request : Request → (used : ℕ) → Arrived

-- a request
abbrev pub arrives : Command → Bool → ℕ → Arrived
arrives command quiet used = request (record { command = command; quiet = quiet }) used

-- a data block of so many bytes, with a carriage return and a line feed behind it
abbrev pub has_end : ℕ → List ℕ → Bool
has_end size bytes = bytes_eq (take 2 (drop size bytes)) (codes "\r\n")

-- a data block: larger than it may be, not whole yet, without its end, or whole
pub data Block : Type 0 where
  too_large unfinished broken : Block
  filled : List ℕ → Block

-- the data block of so many bytes that stands at the front; it may have at most `most` bytes
abbrev pub block_in : ℕ → ℕ → List ℕ → Block
block_in most size rest =
    if nat_lt most size then too_large
    else (if nat_lt (length rest) (size + 2) then unfinished
    else (if has_end size rest then filled (take size rest) else broken))

-- a command with its block, or what comes in its place
abbrev pub with_block : (List ℕ → Command) → (passed_over : Command) → Bool → ℕ → Block → Arrived
with_block command passed_over quiet used too_large = arrives passed_over quiet used
with_block command passed_over quiet used unfinished = part
with_block command passed_over quiet used broken = arrives (malformed fault.Chunk) quiet used
with_block command passed_over quiet used (filled block) = arrives (command block) quiet used

-- a line with what stands behind it; `used` bytes are the line and its line feed
abbrev pub arrived_line : ℕ → RequestLine → ℕ → List ℕ → Arrived
arrived_line most (whole command quiet) used rest = arrives command quiet used
arrived_line most (head storage key flags exptime size quiet) used rest =
    with_block (store storage key flags exptime) (oversize storage key) quiet (used + size + 2)
    (block_in most size rest)
arrived_line most (meta_head key flags size) used rest =
    with_block (meta_set key flags) (meta_oversize key flags) false (used + size + 2)
    (block_in most size rest)

-- how many bytes a line may have: those that name many keys have more
abbrev pub line_limit : List ℕ → ℕ
line_limit bytes =
    if starts_with nat_eq bytes (codes "get ") || starts_with nat_eq bytes (codes "gets ")
    || starts_with nat_eq bytes (codes "gat ") || starts_with nat_eq bytes (codes "gats ")
    then 2097152 else 65536

-- so many bytes without the end of a line, which may have at most `longest`
abbrev pub unended : ℕ → ℕ → Arrived
unended longest count =
    if nat_lt longest count then arrives (malformed fault.TooLong) false (longest + 1) else part

-- the line that ends at a place, if one ends within so many bytes
abbrev pub line_at : ℕ → ℕ → List ℕ → Option ℕ → Arrived
line_at most longest bytes None = unended longest (length bytes)
line_at most longest bytes (Some end) =
    arrived_line most (request_line (without_one_return (take end bytes))) (end + 1) (drop (end + 1) bytes)

-- a line of at most so many bytes, with what stands behind it
abbrev pub line_within : ℕ → ℕ → List ℕ → Arrived
line_within most longest bytes =
    line_at most longest bytes (position is_feed (take (longest + 1) bytes))

-- what stands at the front of a stream whose data blocks have at most `most` bytes. A byte of 128 begins a request of memcached's binary
-- protocol
abbrev pub arrived : ℕ → List ℕ → Arrived
arrived most bytes =
    if starts_with nat_eq bytes (128 ∷ []) then arrives (malformed fault.Foreign) false 1
    else line_within most (line_limit bytes) bytes
