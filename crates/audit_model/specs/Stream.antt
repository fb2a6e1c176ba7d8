-- A connection's bytes and lines.
use Rattle.std.specs.Prelude.{ℕ, zero, suc, ◌+◌, Bool, true, false, not, ◌&&◌, ◌||◌, ◌==◌, nat_lt, List, [], ◌∷◌, ◌++◌, length, Option, Some, None, if◌then◌else◌, is_some, is_none, unwrap_or}
use Rattle.audit_model.specs.Commands.{quits}
use Rattle.std.specs.Option.{option_map_or}
use Rattle.audit_model.specs.Bytewise.{cut_at}
use Rattle.audit_model.specs.History.{History, Opened, Closed, Fed, Ran, Effect, Action, Holding}
use Rattle.audit_model.specs.declared.command.Closing.{Closing}
use Rattle.audit_model.specs.declared.command.Closing.TheVariants as by

-- the connections that were opened
abbrev pub opened_count : History → ℕ
opened_count [] = 0
opened_count (Opened conn ∷ past) = suc (opened_count past)
opened_count (h ∷ past) = opened_count past

-- the connection was opened
abbrev pub was_opened : ℕ → History → Bool
was_opened conn [] = false
was_opened conn (Opened c ∷ past) = (c == conn) || was_opened conn past
was_opened conn (h ∷ past) = was_opened conn past

-- its closing was requested
abbrev pub was_closed : ℕ → History → Bool
was_closed conn [] = false
was_closed conn (Closed c ∷ past) = (c == conn) || was_closed conn past
was_closed conn (h ∷ past) = was_closed conn past

-- the connection's pieces, concatenated
abbrev pub bytes_of : ℕ → History → List ℕ
bytes_of conn [] = []
bytes_of conn (Fed c piece moment ∷ past) = bytes_of conn past ++ (if c == conn then piece else [])
bytes_of conn (h ∷ past) = bytes_of conn past

-- its last step
abbrev pub last_effect : ℕ → History → Option Effect
last_effect conn [] = None
last_effect conn (Ran c effect ∷ past) = if c == conn then Some effect else last_effect conn past
last_effect conn (h ∷ past) = last_effect conn past

-- how many of its commands were answered
abbrev pub replies_of : ℕ → History → ℕ
replies_of conn [] = 0
replies_of conn (Ran c effect ∷ past) =
    (if (c == conn) && is_some effect.reply then 1 else 0) + replies_of conn past
replies_of conn (h ∷ past) = replies_of conn past

-- it is a line that was held back
abbrev pub is_held : Effect → Bool
is_held effect = go effect.action
  where
    go : Action → Bool
    go Holding = true
    go action = false

-- a `LOAD` without a reply waits
abbrev pub is_waiting : Effect → Bool
is_waiting effect = is_none effect.reply && not (is_held effect)

-- a command of the connection is held back
abbrev pub holds : ℕ → History → Bool
holds conn past = option_map_or is_held (last_effect conn past) false

-- its last step was a `LOAD` without a reply
abbrev pub waits : ℕ → History → Bool
waits conn past = option_map_or is_waiting (last_effect conn past) false

-- the bytes after the first n lines
abbrev pub behind_lines : ℕ → List ℕ → List ℕ
behind_lines zero bytes = bytes
behind_lines (suc n) bytes = behind_lines n (unwrap_or (cut_at 10 bytes).1 [])

-- the bytes from the first line without a reply on
abbrev pub unanswered : ℕ → History → List ℕ
unanswered conn past = behind_lines (replies_of conn past) (bytes_of conn past)

-- the bytes that are not read yet: a held command and a waiting `LOAD` have been read
abbrev pub unread : ℕ → History → List ℕ
unread conn past =
    if holds conn past || waits conn past then behind_lines 1 (unanswered conn past)
    else unanswered conn past

-- the line without one carriage return at its end
abbrev pub without_return : List ℕ → List ℕ
without_return [] = []
without_return (b ∷ []) = if b == 13 then [] else b ∷ []
without_return (b ∷ c ∷ bs) = b ∷ without_return (c ∷ bs)

-- the first line, once its line feed has arrived
abbrev pub first_line : List ℕ → Option (List ℕ)
first_line bytes =
    if is_some (cut_at 10 bytes).1 then Some (without_return (cut_at 10 bytes).0) else None

-- the connection ran a `QUIT`
abbrev pub has_quit : ℕ → History → Bool
has_quit conn [] = false
has_quit conn (Ran c effect ∷ past) = ((c == conn) && quits effect) || has_quit conn past
has_quit conn (h ∷ past) = has_quit conn past

-- 8193 bytes come after its waiting `LOAD`
abbrev pub is_behind : ℕ → History → Bool
is_behind conn past = waits conn past && nat_lt 8192 (length (unread conn past))

-- every line before has run, and the next one has 8193 bytes without a line feed
abbrev pub is_long : ℕ → History → Bool
is_long conn past =
    not (waits conn past) && not (holds conn past)
    && nat_lt 8192 (length (cut_at 10 (unread conn past)).0)

-- why the connection is closed, if it is
abbrev pub closing : ℕ → History → Option Closing
closing conn past =
    if was_closed conn past then Some by.Asked
    else (if has_quit conn past then Some by.Quit
    else (if is_behind conn past then Some by.Behind
    else (if is_long conn past then Some by.Long else None)))

-- it was opened, and nothing has closed it
abbrev pub is_open : ℕ → History → Bool
is_open conn past = was_opened conn past && is_none (closing conn past)

-- its next line may run
abbrev pub may_run : ℕ → History → Bool
may_run conn past =
    is_open conn past && not (waits conn past) && not (holds conn past)
    && is_some (first_line (unread conn past))

-- how often its `LOAD` without a reply began to wait
abbrev pub times_waited : ℕ → History → ℕ
times_waited conn [] = 0
times_waited conn (Ran c effect ∷ past) =
    if c == conn then (if is_some effect.reply then 0 else
    ((if is_waiting effect then 1 else 0) + times_waited conn past)) else times_waited conn past
times_waited conn (h ∷ past) = times_waited conn past
