-- Room for replies.
use Rattle.std.specs.Prelude.{IsTrue, vec_len, vec_capacity}
use Rattle.cache_lines.specs.Whole.{has_room}
use Rattle.cache_lines.specs.declared.output.ReplyBuffer.{ReplyBuffer}

-- there is room for the reply to a `LOAD` that is abandoned, now and after the text is taken
abbrev pub IsRoomy : ReplyBuffer → Type 0
IsRoomy output =
    IsTrue (has_room (vec_len output.text) (vec_capacity output.text) (vec_len output.spare)
    (vec_capacity output.spare))
