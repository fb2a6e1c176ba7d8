-- Loads: sent, under way, waited for.
use Rattle.std.specs.Prelude.{ℕ, suc, Bool, false, not, ◌&&◌, ◌||◌, ◌==◌, List, [], ◌∷◌, ◌++◌, length, Option, Some, None, if◌then◌else◌, is_some}
use Rattle.std.specs.List.{find, filter}
use Rattle.std.specs.Option.{option_map}
use Rattle.audit_model.specs.Bytewise.{same}
use Rattle.audit_model.specs.History.{History, Settled, Ran, Effect, Action, Running}
use Rattle.audit_model.specs.Stream.{is_waiting, is_open}
use Rattle.audit_model.specs.declared.command.Command.TheVariants as says

-- a load that was sent
pub record Sent : Type 0 where
  pub number : ℕ
  pub key : List ℕ

-- the key of a `LOAD`
abbrev pub key_loaded : Action → Option (List ℕ)
key_loaded (Running (says.Load key)) = Some key
key_loaded action = None

-- the load that a `LOAD` of the key sent, if it sent one
abbrev pub sent_by : Option (List ℕ) → Option ℕ → List Sent
sent_by (Some key) (Some number) = record { number = number; key = key } ∷ []
sent_by key number = []

-- the loads that were sent, newest first
abbrev pub loads_sent : History → List Sent
loads_sent [] = []
loads_sent (Ran conn effect ∷ past) =
    sent_by (key_loaded effect.action) effect.load ++ loads_sent past
loads_sent (h ∷ past) = loads_sent past

-- it was answered or given up
abbrev pub is_load_settled : ℕ → History → Bool
is_load_settled number [] = false
is_load_settled number (Settled load moment ∷ past) = (load == number) || is_load_settled number past
is_load_settled number (h ∷ past) = is_load_settled number past

-- the loads that were sent and not settled, newest first
abbrev pub loads_under_way : History → List Sent
loads_under_way past = filter (λ sent. not (is_load_settled sent.number past)) (loads_sent past)

-- the load of the key that is under way
abbrev pub load_of_key : List ℕ → History → Option ℕ
load_of_key key past =
    option_map (λ sent. sent.number) (find (λ sent. same sent.key key) (loads_under_way past))

-- the key of a load that is under way
abbrev pub key_of_load : ℕ → History → Option (List ℕ)
key_of_load number past =
    option_map (λ sent. sent.key) (find (λ sent. sent.number == number) (loads_under_way past))

-- the number of the next load, from 1
abbrev pub next_load : History → ℕ
next_load past = suc (length (loads_sent past))

-- there is a key, and it is this one
abbrev pub is_key_of : List ℕ → Option (List ℕ) → Bool
is_key_of key None = false
is_key_of key (Some k) = same key k

-- it is a `LOAD` of the key that waits
abbrev pub waits_for : List ℕ → Effect → Bool
waits_for key effect = is_waiting effect && is_key_of key (key_loaded effect.action)

-- it sends a load of the key
abbrev pub sends_for : List ℕ → Effect → Bool
sends_for key effect = is_some effect.load && is_key_of key (key_loaded effect.action)

-- the connections whose last step waits for the key's last load, in the order of these steps
abbrev pub joined : List ℕ → History → List ℕ
joined key [] = []
joined key (Ran conn effect ∷ past) =
    (if sends_for key effect then [] else filter (λ c. not (c == conn)) (joined key past))
    ++ (if waits_for key effect then conn ∷ [] else [])
joined key (h ∷ past) = joined key past

-- the connections that wait for the key's load, in the order in which they joined, without those that closed
abbrev pub waiting_for : Option (List ℕ) → History → List ℕ
waiting_for None past = []
waiting_for (Some key) past = filter (λ conn. is_open conn past) (joined key past)
