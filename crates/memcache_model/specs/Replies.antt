-- The texts of replies.
use Rattle.std.specs.Prelude.{ℕ, Bool, List, [], ◌++◌, length, Option, Some, None, if◌then◌else◌, codes}
use Rattle.std.specs.Fmt.{decimal}
use Rattle.memcache_model.specs.Items.{Item}
use Rattle.memcache_model.specs.declared.fault.ProtocolError.{ProtocolError}
use Rattle.memcache_model.specs.declared.fault.ProtocolError.TheVariants.{Unknown, Format, Delete, Chunk, Exptime, Delta, Flag, Token, Opaque, ModeLength, SetMode, CountMode, TooLong, Foreign}

-- the text of an error
abbrev pub error_text : ProtocolError → List ℕ
error_text Unknown = codes "ERROR\r\n"
error_text Format = codes "CLIENT_ERROR bad command line format\r\n"
error_text Delete =
    codes "CLIENT_ERROR bad command line format.  Usage: delete <key> [noreply]\r\n"
error_text Chunk = codes "CLIENT_ERROR bad data chunk\r\n"
error_text Exptime = codes "CLIENT_ERROR invalid exptime argument\r\n"
error_text Delta = codes "CLIENT_ERROR invalid numeric delta argument\r\n"
error_text Flag = codes "CLIENT_ERROR invalid flag\r\n"
error_text Token = codes "CLIENT_ERROR bad token in command line format\r\n"
error_text Opaque = codes "CLIENT_ERROR opaque token too long\r\n"
error_text ModeLength = codes "CLIENT_ERROR incorrect length for M token\r\n"
error_text SetMode = codes "CLIENT_ERROR invalid mode for ms M token\r\n"
error_text CountMode = codes "CLIENT_ERROR invalid mode for ma M token\r\n"
error_text TooLong = codes "CLIENT_ERROR line too long\r\n"
error_text Foreign = []

-- the unique behind a size, where it is told
abbrev pub unique_text : Bool → ℕ → List ℕ
unique_text uniques unique = if uniques then codes " " ++ decimal unique else []

-- an item as a `get` tells it
abbrev pub value_text : Bool → List ℕ → Item → List ℕ
value_text uniques key item = codes "VALUE " ++ key ++ codes " " ++ decimal item.flags ++ codes " "
    ++ decimal (length item.bytes) ++ unique_text uniques item.unique ++ codes "\r\n"
    ++ item.bytes ++ codes "\r\n"

-- the same, or nothing
abbrev pub values_text : Bool → List ℕ → Option Item → List ℕ
values_text uniques key None = []
values_text uniques key (Some item) = value_text uniques key item
