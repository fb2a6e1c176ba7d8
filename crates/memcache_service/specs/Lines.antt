-- The texts of replies of one line.
use Rattle.std.specs.Prelude.{ℕ, Bool, List, [], ◌++◌, drop, length, codes}
use Rattle.std.specs.Fmt.{decimal}
use Rattle.memcache_model.specs.Items.{Item}
use Rattle.memcache_model.specs.Replies.{error_text, unique_text}
use Rattle.memcache_service.specs.declared.replies.Reply.{Reply}
use Rattle.memcache_service.specs.declared.replies.Reply.TheVariants.{Written, Stored, NotStored, Exists, NotFound, Deleted, Touched, Done, Reset, Version, NoOp, TooLarge, NoNumber, Number, Fault, NoMemory, NoRoom, NoStatistics}

abbrev pub reply_text : Reply → List ℕ
reply_text Written = []
reply_text Stored = codes "STORED\r\n"
reply_text NotStored = codes "NOT_STORED\r\n"
reply_text Exists = codes "EXISTS\r\n"
reply_text NotFound = codes "NOT_FOUND\r\n"
reply_text Deleted = codes "DELETED\r\n"
reply_text Touched = codes "TOUCHED\r\n"
reply_text Done = codes "OK\r\n"
reply_text Reset = codes "RESET\r\n"
reply_text Version = codes "VERSION 1.6.18\r\n"
reply_text NoOp = codes "MN\r\n"
reply_text TooLarge = codes "SERVER_ERROR object too large for cache\r\n"
reply_text NoNumber = codes "CLIENT_ERROR cannot increment or decrement non-numeric value\r\n"
reply_text (Number n) = decimal n ++ codes "\r\n"
reply_text (Fault error) = error_text error
reply_text NoMemory = codes "SERVER_ERROR out of memory storing object\r\n"
reply_text NoRoom = codes "SERVER_ERROR out of memory writing get response\r\n"
reply_text NoStatistics = codes "SERVER_ERROR out of memory writing stats\r\n"

-- the reply: what was written from a place on, or a line
abbrev pub said_from : (start : ℕ) → List ℕ → Reply → List ℕ
said_from start items Written = drop start items
said_from start items reply = reply_text reply

-- what stands before an item's bytes
abbrev pub head_text : Bool → List ℕ → Item → List ℕ
head_text uniques key item = codes "VALUE " ++ key ++ codes " " ++ decimal item.flags ++ codes " "
    ++ decimal (length item.bytes) ++ unique_text uniques item.unique ++ codes "\r\n"
