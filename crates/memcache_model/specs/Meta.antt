-- The meta commands: which lines are one, and what each replies and leaves.
use Rattle.std.specs.Prelude.{ℕ, ◌+◌, ◌-◌, ◌/◌, ◌^◌, Bool, true, false, not, ◌&&◌, ◌||◌, ◌==◌, nat_le, nat_lt, List, [], ◌∷◌, ◌++◌, length, drop, map, Option, Some, None, if◌then◌else◌, is_some, unwrap_or, codes}
use Rattle.std.specs.Fmt.{decimal}
use Rattle.std.specs.List.{concat, list_any}
use Rattle.std.specs.Option.{option_map, option_map_or, option_or}
use Rattle.memcache_model.specs.Outcomes.{Outcome, says_text, changes, stores_item, new_item, counted}
use Rattle.memcache_model.specs.Bytes.{number_below}
use Rattle.memcache_model.specs.Grammar.{exptime_in}
use Rattle.memcache_model.specs.Items.{Item, Stock, exptime_deadline}
use Rattle.memcache_model.specs.Replies.{error_text}
use Rattle.memcache_model.specs.declared.command.Direction.{Direction}
use Rattle.memcache_model.specs.declared.command.Direction.TheVariants.{Up, Down}
use Rattle.memcache_model.specs.declared.command.Exptime.{Exptime}
use Rattle.memcache_model.specs.declared.command.Exptime.TheVariants.{Never}
use Rattle.memcache_model.specs.declared.command.Meta.{Meta}
use Rattle.memcache_model.specs.declared.command.Meta.TheVariants.{Get, Delete, Arithmetic}
use Rattle.memcache_model.specs.declared.fault.ProtocolError.{ProtocolError}
use Rattle.memcache_model.specs.declared.fault.ProtocolError.TheVariants.{Flag, Token, Opaque, ModeLength, SetMode, CountMode}

-- ---- flags: a letter, and what stands behind it in its word

-- the letter of a word
abbrev pub letter_of : List ℕ → ℕ
letter_of [] = 0
letter_of (b ∷ bs) = b

-- the letter is one of these
abbrev pub is_one_of : (letters : List ℕ) → ℕ → Bool
is_one_of letters letter = list_any (λ l. l == letter) letters

-- what stands behind the letter, in the first word that begins with it
abbrev pub behind_letter : ℕ → List (List ℕ) → Option (List ℕ)
behind_letter letter [] = None
behind_letter letter (word ∷ words) =
    if letter_of word == letter then Some (drop 1 word) else behind_letter letter words

-- the flag is there
abbrev pub has_flag : List ℕ → List (List ℕ) → Bool
has_flag letter words = is_some (behind_letter (letter_of letter) words)

-- numbers behind a letter are below this: flags have 32 bits
abbrev pub limit_of : ℕ → ℕ
limit_of letter = if is_one_of (codes "F") letter then 2 ^ 32 else 2 ^ 64

-- the number behind a letter
abbrev pub number_of_letter : List ℕ → List (List ℕ) → Option ℕ
number_of_letter letter words = unwrap_or
    (option_map (number_below (limit_of (letter_of letter)))
    (behind_letter (letter_of letter) words)) None

-- the expiry behind a letter
abbrev pub exptime_of : List ℕ → List (List ℕ) → Option Exptime
exptime_of letter words =
    unwrap_or (option_map exptime_in (behind_letter (letter_of letter) words)) None

-- this is wrong, unless all is right
abbrev pub fault_unless : Bool → ProtocolError → Option ProtocolError
fault_unless is_right error = if is_right then None else Some error

-- what is wrong with a word, if anything is: no meta command has its letter, or what stands behind the letter is malformed. What a command
-- does not use is passed over
abbrev pub word_fault : List ℕ → Option ProtocolError
word_fault word =
    if is_one_of (codes "vkqstcfILP") (letter_of word) then None
    else (if is_one_of (codes "CDFJ") (letter_of word) then
    fault_unless (is_some (number_below (limit_of (letter_of word)) (drop 1 word))) Token
    else (if is_one_of (codes "NRT") (letter_of word) then
    fault_unless (is_some (exptime_in (drop 1 word))) Token
    else (if is_one_of (codes "O") (letter_of word) then fault_unless (nat_le (length word) 32) Opaque
    else (if is_one_of (codes "M") (letter_of word) then fault_unless (length word == 2) ModeLength
    else Some Flag))))

-- the first fault of the flags
abbrev pub flags_fault : List (List ℕ) → Option ProtocolError
flags_fault [] = None
flags_fault (word ∷ words) = option_or (word_fault word) (flags_fault words)

-- the mode that `M` names, by its letter, or else this one
abbrev pub mode_of : (usual : List ℕ) → List (List ℕ) → ℕ
mode_of usual words =
    option_map_or letter_of (behind_letter (letter_of (codes "M")) words) (letter_of usual)

-- what is wrong with the flags of a `ms`, if anything is: its modes are to add, append, prepend, replace or set
abbrev pub set_fault : List (List ℕ) → Option ProtocolError
set_fault words = option_or (flags_fault words)
    (fault_unless (is_one_of (codes "EAPRS") (mode_of (codes "S") words)) SetMode)

-- what is wrong with the flags of a `ma`, if anything is: its modes are up and down
abbrev pub count_fault : List (List ℕ) → Option ProtocolError
count_fault words = option_or (flags_fault words)
    (fault_unless (is_one_of (codes "I+D-") (mode_of (codes "I") words)) CountMode)

-- an outcome, unless something is wrong with the flags
abbrev pub unless_faulty : Option ProtocolError → Outcome → Stock → Outcome
unless_faulty None outcome stock = outcome
unless_faulty (Some error) outcome stock = says_text (error_text error) stock

-- ---- replies

-- the seconds until a deadline
abbrev pub left_text : ℕ → Option ℕ → List ℕ
left_text moment None = codes "-1"
left_text moment (Some deadline) = decimal ((deadline - moment) / 1000)

-- the letters that have something told by each command
abbrev pub told_to_get : List ℕ
told_to_get = codes "kOstcf"

abbrev pub told_to_set : List ℕ
told_to_set = codes "kOc"

abbrev pub told_to_count : List ℕ
told_to_count = codes "kOtc"

-- what a word has told of an item, by its letter
abbrev pub told_by_letter : ℕ → (key : List ℕ) → Item → List ℕ → List ℕ
told_by_letter moment key item word =
    if is_one_of (codes "k") (letter_of word) then codes " k" ++ key
    else (if is_one_of (codes "O") (letter_of word) then codes " " ++ word
    else (if is_one_of (codes "s") (letter_of word) then
    codes " s" ++ decimal (length item.bytes)
    else (if is_one_of (codes "t") (letter_of word) then
    codes " t" ++ left_text moment item.deadline
    else (if is_one_of (codes "c") (letter_of word) then codes " c" ++ decimal item.unique
    else (if is_one_of (codes "f") (letter_of word) then codes " f" ++ decimal item.flags
    else [])))))

-- the same, if its letter is one of these
abbrev pub told_of_item : (letters : List ℕ) → ℕ → (key : List ℕ) → Item → List ℕ → List ℕ
told_of_item letters moment key item word =
    if is_one_of letters (letter_of word) then told_by_letter moment key item word else []

-- what a word has told where there is no item
abbrev pub told_alone : (key : List ℕ) → List ℕ → List ℕ
told_alone key word =
    if is_one_of (codes "k") (letter_of word) then codes " k" ++ key
    else (if is_one_of (codes "O") (letter_of word) then codes " " ++ word else [])

-- a code with what is told of no item
abbrev pub code_alone : List ℕ → List ℕ → List (List ℕ) → List ℕ
code_alone code key words = code ++ concat (map (told_alone key) words) ++ codes "\r\n"

-- a stored item as a `ms` tells it
abbrev pub stored_text : (letters : List ℕ) → ℕ → List ℕ → Item → List (List ℕ) → List ℕ
stored_text letters moment key item words =
    codes "HD" ++ concat (map (told_of_item letters moment key item) words) ++ codes "\r\n"

-- who holds the lease, as a `mg` tells it
abbrev pub lease_text : (held stale wins : Bool) → List ℕ
lease_text held stale wins = (if held then codes " Z" else []) ++ (if stale then codes " X" else [])
    ++ (if wins then codes " W" else [])

-- an item as a `mg` or `ma` tells it: with its bytes if `v` asks for them
abbrev pub item_text : (letters : List ℕ) → ℕ → List ℕ → Item → List (List ℕ) → (lease : List ℕ) → List ℕ
item_text letters moment key item words lease =
    let told = concat (map (told_of_item letters moment key item) words) ++ lease ++ codes "\r\n" in
    if has_flag (codes "v") words then codes "VA " ++ decimal (length item.bytes) ++ told
    ++ item.bytes ++ codes "\r\n" else codes "HD" ++ told

-- no reply, if the flag `q` leaves it out
abbrev pub unless_quiet : List (List ℕ) → List ℕ → List ℕ
unless_quiet words text = if has_flag (codes "q") words then [] else text

-- ---- `mg`: reading, and leases

-- an item with the expiry that a letter gives, if it is there
abbrev pub retimed_by : ℕ → List ℕ → List (List ℕ) → Item → Item
retimed_by moment letter words item =
    option_map_or (λ exptime. record item { deadline = exptime_deadline moment exptime })
    (exptime_of letter words) item

-- a deadline comes before another
abbrev pub ends_before : (other : Option ℕ) → Option ℕ → Bool
ends_before None deadline = false
ends_before (Some other) None = false
ends_before (Some other) (Some deadline) = nat_lt deadline other

-- the item is to be renewed: it expires before the moment that `R` says
abbrev pub is_late : ℕ → List (List ℕ) → Item → Bool
is_late moment words item = ends_before
    (option_map_or (exptime_deadline moment) (exptime_of (codes "R") words) None) item.deadline

-- a live item is told. Nobody holds its lease, and it is stale or late: then this client wins it
abbrev pub meta_get_live : ℕ → List ℕ → List (List ℕ) → Item → Stock → Outcome
meta_get_live moment key words found stock =
    let item = retimed_by moment (codes "T") words found in
    let wins = not item.leased && (item.stale || is_late moment words item) in
    let text = item_text told_to_get moment key item words (lease_text item.leased item.stale wins) in
    changes text key (Some (record item { leased = item.leased || wins })) stock

-- an empty item whose lease this client wins
abbrev pub vivified : ℕ → (unique : ℕ) → Exptime → Item
vivified moment unique exptime =
    record (new_item [] 0 (exptime_deadline moment exptime)) { unique = unique; leased = true }

-- there is no live item: `N` makes one
abbrev pub meta_get_none : ℕ → List ℕ → List (List ℕ) → Option Exptime → Stock → Outcome
meta_get_none moment key words None stock =
    says_text (unless_quiet words (code_alone (codes "EN") key words)) stock
meta_get_none moment key words (Some exptime) stock =
    let item = vivified moment (stock.uniques + 1) exptime in
    stores_item (item_text told_to_get moment key item words (lease_text false false true)) key item
    stock

abbrev pub meta_get : ℕ → List ℕ → List (List ℕ) → Option Item → Stock → Outcome
meta_get moment key words None stock =
    meta_get_none moment key words (exptime_of (codes "N") words) stock
meta_get moment key words (Some item) stock = meta_get_live moment key words item stock

-- ---- `ms`: storing

-- what a stored item is told by
abbrev pub meta_stored : ℕ → List ℕ → List (List ℕ) → Item → Stock → Outcome
meta_stored moment key words item stock =
    let kept = record item { unique = stock.uniques + 1 } in
    stores_item (unless_quiet words (stored_text told_to_set moment key kept words)) key item stock

-- nothing is stored, and a code says why
abbrev pub meta_refuses : List ℕ → List ℕ → List (List ℕ) → Stock → Outcome
meta_refuses code key words stock = says_text (code_alone code key words) stock

-- the item of a block: flags by `F` and an expiry by `T`
abbrev pub meta_item : ℕ → List (List ℕ) → (block : List ℕ) → Item
meta_item moment words block = new_item block (unwrap_or (number_of_letter (codes "F") words) 0)
    (exptime_deadline moment (unwrap_or (exptime_of (codes "T") words) Never))

-- a block is stored by its mode, over what the key has
abbrev pub meta_put : ℕ → ℕ → (mode : ℕ) → List ℕ → List (List ℕ) → Item → Option Item → Stock
    → Outcome
meta_put most moment mode key words item None stock =
    if is_one_of (codes "SE") mode then
    meta_stored moment key words item stock
    else meta_refuses (codes "NS") key words stock
meta_put most moment mode key words item (Some old) stock =
    if is_one_of (codes "SR") mode then
    meta_stored moment key words item stock
    else (if is_one_of (codes "A") mode then joined (old.bytes ++ item.bytes)
    else (if is_one_of (codes "P") mode then joined (item.bytes ++ old.bytes)
    else meta_refuses (codes "NS") key words stock))
  where
    joined : List ℕ → Outcome
    joined bytes = if nat_lt most (length bytes) then meta_refuses (codes "NS") key words stock
        else meta_stored moment key words (record old { bytes = bytes }) stock

-- `C` names a unique, and a mode makes something of it over an item: to add does not look at it, and what is appended or prepended to may
-- also have any, by a 0
abbrev pub goes_on : (mode unique : ℕ) → Item → Bool
goes_on mode unique old = old.unique == unique || is_one_of (codes "E") mode
    || (unique == 0 && is_one_of (codes "AP") mode)

-- with `I` an earlier one is enough to set or replace
abbrev pub is_renewed : (mode unique : ℕ) → List (List ℕ) → Item → Bool
is_renewed mode unique words old = is_one_of (codes "SR") mode && has_flag (codes "I") words
    && nat_lt 0 unique && nat_lt unique old.unique

-- then the item is stale from the start, with the deadline and the lease of the one before
abbrev pub meta_compare : ℕ → ℕ → (mode unique : ℕ) → List ℕ → List (List ℕ) → Item → Option Item → Stock
    → Outcome
meta_compare most moment mode unique key words item None stock =
    if is_one_of (codes "SR") mode then meta_refuses (codes "NF") key words stock
    else meta_put most moment mode key words item None stock
meta_compare most moment mode unique key words item (Some old) stock =
    if goes_on mode unique old then meta_put most moment mode key words item (Some old) stock
    else (if is_renewed mode unique words old then
    meta_stored moment key words (record item
    { deadline = old.deadline; stale = true; leased = old.leased }) stock
    else meta_refuses (codes "EX") key words stock)

abbrev pub meta_set : ℕ → ℕ → List ℕ → List (List ℕ) → (block : List ℕ) → Option Item → Stock
    → Outcome
meta_set most moment key words block old stock = go (number_of_letter (codes "C") words)
  where
    go : Option ℕ → Outcome
    go None =
        meta_put most moment (mode_of (codes "S") words) key words (meta_item moment words block)
        old stock
    go (Some unique) =
        meta_compare most moment (mode_of (codes "S") words) unique key words
        (meta_item moment words block) old stock

-- ---- `md`: deleting, and making stale

-- `C` names another unique than the item's
abbrev pub is_other : List (List ℕ) → Item → Bool
is_other words item =
    option_map_or (λ unique. not (item.unique == unique)) (number_of_letter (codes "C") words) false

-- a stale item may be read on, and the next `mg` wins its lease
abbrev pub meta_delete : ℕ → List ℕ → List (List ℕ) → Option Item → Stock → Outcome
meta_delete moment key words None stock = meta_refuses (codes "NF") key words stock
meta_delete moment key words (Some item) stock =
    if is_other words item then meta_refuses (codes "EX") key words stock
    else (if has_flag (codes "I") words then
    stores_item text key (record (retimed_by moment (codes "T") words item)
    { stale = true; leased = false }) stock
    else changes text key None stock)
  where
    text : List ℕ
    text = unless_quiet words (code_alone (codes "HD") key words)

-- ---- `ma`: counting

-- down, if `M` says so
abbrev pub direction_of : List (List ℕ) → Direction
direction_of words = if is_one_of (codes "D-") (mode_of (codes "I") words) then Down else Up

-- a number is stored, and told, unless this is so
abbrev pub meta_counted : ℕ → (is_quiet : Bool) → List ℕ → List (List ℕ) → Item → Stock → Outcome
meta_counted moment is_quiet key words item stock =
    let kept = record item { unique = stock.uniques + 1 } in
    stores_item (if is_quiet then [] else item_text told_to_count moment key kept words []) key item
    stock

-- `C` names 0, the unique of no item: then any item is counted
abbrev pub names_none : List (List ℕ) → Bool
names_none words = option_map_or (λ unique. unique == 0) (number_of_letter (codes "C") words) false

-- a live item is counted by `D`, or by one
abbrev pub meta_counts : ℕ → List ℕ → List (List ℕ) → Item → Option ℕ → Stock → Outcome
meta_counts moment key words item None stock =
    says_text (codes "CLIENT_ERROR cannot increment or decrement non-numeric value\r\n") stock
meta_counts moment key words item (Some number) stock =
    let count = counted (direction_of words) number (unwrap_or (number_of_letter (codes "D") words) 1) in
    let timed = retimed_by moment (codes "T") words item in
    meta_counted moment (has_flag (codes "q") words) key words (record timed { bytes = decimal count })
    stock

-- there is no live item: `N` makes one, of `J` or of 0, which is told even if `q` leaves other replies out
abbrev pub meta_count_none : ℕ → List ℕ → List (List ℕ) → Option Exptime → Stock → Outcome
meta_count_none moment key words None stock = meta_refuses (codes "NF") key words stock
meta_count_none moment key words (Some exptime) stock =
    let bytes = decimal (unwrap_or (number_of_letter (codes "J") words) 0) in
    meta_counted moment false key words (new_item bytes 0 (exptime_deadline moment exptime)) stock

abbrev pub meta_arithmetic : ℕ → List ℕ → List (List ℕ) → Option Item → Stock → Outcome
meta_arithmetic moment key words None stock =
    meta_count_none moment key words (exptime_of (codes "N") words) stock
meta_arithmetic moment key words (Some item) stock =
    if is_other words item && not (names_none words) then meta_refuses (codes "EX") key words stock
    else meta_counts moment key words item (number_below (2 ^ 64) item.bytes) stock

-- ---- a request

-- a command on a key, with the flags that it has
abbrev pub meta_answer : ℕ → Meta → List ℕ → List (List ℕ) → Option Item → Stock → Outcome
meta_answer moment Get key words item stock =
    unless_faulty (flags_fault words) (meta_get moment key words item stock) stock
meta_answer moment Delete key words item stock =
    unless_faulty (flags_fault words) (meta_delete moment key words item stock) stock
meta_answer moment Arithmetic key words item stock =
    unless_faulty (count_fault words) (meta_arithmetic moment key words item stock) stock

-- a `ms` with its block
abbrev pub meta_set_answer : ℕ → ℕ → List ℕ → List (List ℕ) → (block : List ℕ) → Option Item
    → Stock → Outcome
meta_set_answer most moment key words block item stock =
    unless_faulty (set_fault words)
    (meta_set most moment key words block item stock) stock
