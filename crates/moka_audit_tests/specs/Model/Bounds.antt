-- Rows of single definitions: at their bounds, and where no transcript shows what they say.
use Rattle.std.specs.Prelude.{◌≡◌, ℕ, ◌^◌, ◌-◌, true, false, nat_le, [], ◌∷◌, Some, None, codes, replicate}
use Prim.Native.String.{String}
use Rattle.audit_model.specs.Grammar.{is_key, is_numeral}
use Rattle.audit_model.specs.History.{Action, Running, Abandoning, Opened, Closed, Fed, part_count, share}
use Rattle.audit_model.specs.Stream.{closing, times_waited}
use Rattle.audit_model.specs.Steps.{action_in, RunAgain}
use Rattle.audit_model.specs.Places.{history_after}
use Rattle.audit_model.specs.Belongs.{Known, refusal_of, refusal_of_moment, refusal_of_bytes, refusal_of_ms}
use Rattle.audit_model.specs.Configs.{is_valid}
use Rattle.audit_model.specs.Recency.{recency}
use Rattle.audit_model.specs.declared.command.Closing.TheVariants as by
use Rattle.audit_model.specs.declared.command.Command.{Command}
use Rattle.audit_model.specs.declared.command.Command.TheVariants as command
use Rattle.audit_model.specs.declared.config.Config.{Config}
use Rattle.audit_model.specs.declared.event.Event.TheVariants as event
use Rattle.audit_model.specs.declared.event.Outcome.TheVariants as outcome
use Rattle.audit_model.specs.declared.input.ServiceError.TheVariants as error
use Rattle.moka_audit_tests.specs.Model.Making.{text, at, opened, made_feed, answer_stored, came, says, sends, made_held_step, plain_config, of_live_ms, of_idle_ms, of_two_parts, with_deadlines}
use Rattle.moka_audit_tests.specs.Model.Commands.{quit}
use Rattle.moka_audit_tests.specs.Model.Loads.{too_much_behind}

-- ---- bytes and digits

pub record RowsOfBytes : Type 0 where
  pub lowest : is_key (33 ∷ []) ≡ true
  pub below : is_key (32 ∷ []) ≡ false
  pub highest : is_key (126 ∷ []) ≡ true
  pub none : is_key [] ≡ false
  pub digits : is_numeral 20 (codes "0123456789") ≡ true
  pub slash : is_numeral 20 (codes "/") ≡ false
  pub colon : is_numeral 20 (codes ":") ≡ false

-- ---- parts

abbrev pub of_parts : ℕ → Config
of_parts n = record plain_config { parts = n }

pub record RowsOfParts : Type 0 where
  pub three : part_count (of_parts 3) ≡ 4
  pub many : part_count (of_parts 129) ≡ 256
  pub rounded_up : share (of_parts 2) 3 ≡ 2
  pub even : share (of_parts 2) 4 ≡ 2

-- ---- what is refused

-- of two connections that were opened the second one is open, and no load is under way
abbrev pub knowing : Known
knowing =
    record {
      was_opened = λ conn. nat_le conn 2;
      is_open = λ conn. nat_le 2 conn;
      is_under_way = λ load. false;
    }

pub record RowsOfRefusals : Type 0 where
  pub last_moment : refusal_of_moment (at (2 ^ 63 - 1)) ≡ None
  pub moment_too_late : refusal_of_moment (at (2 ^ 63)) ≡ Some error.Moment
  pub longest : refusal_of_bytes (replicate 8192 120) ≡ None
  pub too_long : refusal_of_bytes (replicate 8193 120) ≡ Some error.TooLong
  pub line_end_first : refusal_of_bytes (13 ∷ replicate 8193 120) ≡ Some error.LineEnd
  pub longest_time : refusal_of_ms (with_deadlines plain_config) (Some 999999999999) ≡ None
  pub time_too_long : refusal_of_ms (with_deadlines plain_config) (Some 1000000000000)
      ≡ Some error.Deadline
  pub no_deadlines : refusal_of_ms plain_config (Some 1) ≡ Some error.Deadline
  pub unknown : refusal_of plain_config knowing (event.Close 3) ≡ Some error.NoConnection
  pub closed : refusal_of plain_config knowing (event.Close 1) ≡ Some error.Closed
  pub load_first : refusal_of plain_config knowing (event.Answer 1 outcome.None (at (2 ^ 63)))
      ≡ Some error.NoLoad

-- ---- why a connection is closed

pub record RowsOfClosings : Type 0 where
  pub asked : closing 1 (Closed 1 ∷ Opened 1 ∷ []) ≡ Some by.Asked
  pub by_quit : closing 1 (history_after plain_config 0 [] quit.records) ≡ Some by.Quit
  pub asked_first : closing 1 (Closed 1 ∷ history_after plain_config 0 [] quit.records)
      ≡ Some by.Asked
  pub behind : closing 1 (history_after plain_config 0 [] too_much_behind.records) ≡ Some by.Behind
  pub long : closing 1 (Fed 1 (replicate 8193 120) 0 ∷ Opened 1 ∷ []) ≡ Some by.Long
  pub longest : closing 1 (Fed 1 (replicate 8192 120) 0 ∷ Opened 1 ∷ []) ≡ None

-- ---- the 200th give-up

-- what a given-up `LOAD` does that began to wait so many times
abbrev pub given_up_after : ℕ → Action
given_up_after n = action_in plain_config n (Some (RunAgain 1)) (says 1 "LOAD k" [])

pub record RowsOfGiveUps : Type 0 where
  pub again : given_up_after 199 ≡ Running (command.Load (codes "k"))
  pub abandoned : given_up_after 200 ≡ Abandoning
  -- a line that is held back does not wait, and a reply ends the count
  pub held : times_waited 1 (history_after plain_config 0 [] (opened 1
      ∷ made_feed 1 0 (text "LOAD k") (made_held_step 1 "LOAD k" ∷ []) ∷ [])) ≡ 0
  pub once : times_waited 1 (history_after plain_config 0 [] (opened 1
      ∷ made_feed 1 0 (text "LOAD k") (sends 1 "LOAD k" 1 ∷ []) ∷ [])) ≡ 1
  pub answered : times_waited 1 (history_after plain_config 0 [] (opened 1
      ∷ made_feed 1 0 (text "LOAD k") (sends 1 "LOAD k" 1 ∷ [])
      ∷ answer_stored 1 0 (came "v") [] (says 1 "LOAD k" (text "VAL v") ∷ []) ∷ [])) ≡ 0

-- ---- configurations

pub record RowsOfConfigs : Type 0 where
  pub no_parts : is_valid (of_parts 0) ≡ false
  pub one_part : is_valid (of_parts 1) ≡ true
  pub most_parts : is_valid (of_parts 256) ≡ true
  pub too_many_parts : is_valid (of_parts 257) ≡ false
  pub no_time : is_valid (of_live_ms 0) ≡ false
  pub shortest_time : is_valid (of_idle_ms 1) ≡ true
  pub longest_time : is_valid (of_live_ms 999999999999) ≡ true
  pub time_too_long : is_valid (of_idle_ms 1000000000000) ≡ false
  pub live_and_own : is_valid (with_deadlines (of_live_ms 5)) ≡ false
  pub idle_and_own : is_valid (with_deadlines (of_idle_ms 5)) ≡ true

-- ---- least recently used

abbrev pub set_of : String → Command
set_of key = command.Set (codes key) None []

abbrev pub get_of : String → Command
get_of key = command.Get (codes key)

pub record RowsOfRecency : Type 0 where
  pub used : recency 2 (set_of "a" ∷ set_of "b" ∷ get_of "a" ∷ set_of "c" ∷ [])
      ≡ codes "c" ∷ codes "a" ∷ []
  pub written_again : recency 2 (set_of "a" ∷ set_of "b" ∷ set_of "a" ∷ set_of "c" ∷ [])
      ≡ codes "c" ∷ codes "a" ∷ []
  pub not_there : recency 2 (set_of "a" ∷ get_of "b" ∷ []) ≡ codes "a" ∷ []
  pub deleted : recency 2 (set_of "a" ∷ set_of "b" ∷ command.Del (codes "a") ∷ [])
      ≡ codes "b" ∷ []
