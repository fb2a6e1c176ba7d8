-- What each step replies, sends and accepts.
use Rattle.std.specs.Prelude.{ℕ, ◌+◌, ◌^◌, Bool, false, ◌&&◌, ◌||◌, nat_lt, List, ◌++◌, length, map, Option, Some, None, if◌then◌else◌, is_some, codes}
use Rattle.std.specs.List.{sum_by, concat}
use Rattle.std.specs.Option.{option_map, option_and_then, option_eq}
use Rattle.std.specs.Fmt.{decimal}
use Rattle.audit_model.specs.Bytewise.{same, text_line}
use Rattle.audit_model.specs.Grammar.{number_in}
use Rattle.audit_model.specs.History.{Effect, Action, Running, Faulting, Holding, Delivering, Abandoning, Storing, Value, accepts_values, weight_of}
use Rattle.audit_model.specs.View.{View}
use Rattle.audit_model.specs.Values.{own_deadline_from}
use Rattle.audit_model.specs.declared.config.Config.{Config}
use Rattle.audit_model.specs.declared.command.Command.{Command}
use Rattle.audit_model.specs.declared.command.Command.TheVariants as says
use Rattle.audit_model.specs.declared.command.LineError.{LineError}
use Rattle.audit_model.specs.declared.command.LineError.TheVariants as fault
use Rattle.audit_model.specs.declared.event.Outcome.{Outcome}
use Rattle.audit_model.specs.declared.event.Outcome.TheVariants as came

-- `VAL` and the bytes
abbrev pub value_reply : List ℕ → List ℕ
value_reply bytes = text_line (codes "VAL " ++ bytes)

-- the value, or `NONE`
abbrev pub value_or_none : Option Value → List ℕ
value_or_none None = text_line (codes "NONE")
value_or_none (Some value) = value_reply value.bytes

-- `YES` if there is a live value, otherwise `NO`
abbrev pub yes_or_no : Option Value → List ℕ
yes_or_no None = text_line (codes "NO")
yes_or_no (Some value) = text_line (codes "YES")

-- `OFF` if no value is accepted
abbrev pub ok_or_off : Config → List ℕ
ok_or_off config =
    if accepts_values config.capacity then text_line (codes "OK") else text_line (codes "OFF")

-- the sum that an `ADD` stores: a missing value counts as 0; none if the value is not a number or the sum is too large
abbrev pub sum_with : Option Value → ℕ → Option ℕ
sum_with None number = Some number
sum_with (Some value) number =
    option_and_then (λ n. if nat_lt (n + number) (2 ^ 64) then Some (n + number) else None)
    (number_in value.bytes)

-- the sum as a value, or `ERR number`
abbrev pub sum_or_error : Option ℕ → List ℕ
sum_or_error None = text_line (codes "ERR number")
sum_or_error (Some sum) = value_reply (decimal sum)

-- how many keys there are, then each on its own line
abbrev pub keys_listed : List (List ℕ) → List ℕ
keys_listed keys = text_line (codes "KEYS " ++ decimal (length keys)) ++ concat (map text_line keys)

-- how many values there are, and their total weight
abbrev pub count_and_weight : List Value → List ℕ
count_and_weight values =
    text_line (codes "SYNC " ++ decimal (length values) ++ codes " "
    ++ decimal (sum_by (λ v. v.weight) values))

-- the reply to a line that cannot be read
abbrev pub fault_text : LineError → List ℕ
fault_text fault.Command = text_line (codes "ERR command")
fault_text fault.Syntax = text_line (codes "ERR syntax")
fault_text fault.Deadline = text_line (codes "ERR deadline")
fault_text fault.Number = text_line (codes "ERR number")

-- the reply to a waiting `LOAD` to which this outcome is delivered
abbrev pub outcome_text : Outcome → List ℕ
outcome_text (came.Value bytes ms) = value_reply bytes
outcome_text came.None = text_line (codes "NONE")
outcome_text (came.Fault text) = text_line (codes "ERR load " ++ text)

-- the reply to a command, if these values are held after its step; none for a `LOAD` that begins to wait
abbrev pub reply_to : Config → View → List Value → Command → Option (List ℕ)
reply_to config seen held (says.Set key ms value) = Some (ok_or_off config)
reply_to config seen held (says.Get key) = Some (value_or_none (seen.live key))
reply_to config seen held (says.Has key) = Some (yes_or_no (seen.live key))
reply_to config seen held (says.Load key) =
    option_map (λ value. value_reply value.bytes) (seen.live key)
reply_to config seen held (says.Del key) = Some (text_line (codes "OK"))
reply_to config seen held (says.Add key ms number) =
    Some (if accepts_values config.capacity then sum_or_error (sum_with (seen.live key) number)
    else text_line (codes "OFF"))
reply_to config seen held says.Clear = Some (text_line (codes "OK"))
reply_to config seen held (says.DropIf prefix) = Some (text_line (codes "OK"))
reply_to config seen held says.Keys = Some (keys_listed seen.live_keys)
reply_to config seen held says.Sync = Some (count_and_weight held)
reply_to config seen held says.Quit = Some (text_line (codes "OK"))

-- the reply that a step owes; a line held back and an answer's own step have none
abbrev pub reply_of : Config → View → List Value → Action → Option (List ℕ)
reply_of config seen held (Running command) = reply_to config seen held command
reply_of config seen held (Faulting error) = Some (fault_text error)
reply_of config seen held Holding = None
reply_of config seen held (Delivering outcome) = Some (outcome_text outcome)
reply_of config seen held Abandoning = Some (text_line (codes "ERR abandoned"))
reply_of config seen held (Storing key outcome) = None

-- a `DROPIF` after an accepted one may be refused instead
abbrev pub may_refuse : View → Action → Bool
may_refuse seen (Running (says.DropIf prefix)) = seen.dropped
may_refuse seen action = false

-- the step's reply is the one that it owes, or the refusal that it may give
abbrev pub is_reply : Config → View → Effect → List Value → Bool
is_reply config seen effect held =
    option_eq same effect.reply (reply_of config seen held effect.action)
    || (may_refuse seen effect.action
    && option_eq same effect.reply (Some (text_line (codes "ERR id"))))

-- the load that a step sends, if it is a `LOAD` that finds neither a live value nor a load under way
abbrev pub load_sent_by : View → Action → Option ℕ
load_sent_by seen (Running (says.Load key)) =
    if is_some (seen.live key) || is_some (seen.load_of_key key) then None else Some seen.next_load
load_sent_by seen action = None

-- a key with the bytes that are offered for it, and how many milliseconds they live
pub record Offer : Type 0 where
  pub key : List ℕ
  pub bytes : List ℕ
  pub ms : Option ℕ

-- what a step would store if values are accepted: the value of a `SET`, the sum of an `ADD`, the value of an answer
abbrev pub offered : View → Action → Option Offer
offered seen (Running (says.Set key ms value)) = Some (record { key = key; bytes = value; ms = ms })
offered seen (Running (says.Add key ms number)) =
    option_map (λ sum. record {
      key = key;
      bytes = decimal sum;
      ms = ms;
    }) (sum_with (seen.live key) number)
offered seen (Storing (Some key) (came.Value bytes ms)) =
    Some (record { key = key; bytes = bytes; ms = ms })
offered seen action = None

-- the offer, if values are accepted
abbrev pub taken_where : Bool → Option Offer → Option Offer
taken_where accepts None = None
taken_where accepts (Some offer) = if accepts then Some offer else None

-- the value that a step offers, which is accepted exactly if the capacity is not 0
abbrev pub offer_of : Config → View → Action → Option Offer
offer_of config seen action = taken_where (accepts_values config.capacity) (offered seen action)

-- the value that an offer becomes, in this part at this moment
abbrev pub value_with : Config → ℕ → ℕ → Offer → Value
value_with config now part offer =
    record {
      key = offer.key;
      bytes = offer.bytes;
      part = part;
      weight = weight_of config.weight offer.bytes;
      accepted_at = now;
      own_deadline = own_deadline_from now offer.ms;
    }

-- the value that was accepted: an offer that a part took
abbrev pub value_from : Config → ℕ → Option Offer → Option ℕ → Option Value
value_from config now offer None = None
value_from config now offer (Some part) = option_map (value_with config now part) offer
