-- Rows of lines: how bytes are cut, and which fault is reported.
use Rattle.std.specs.Prelude.{ℕ, List, [], ◌∷◌, ◌++◌, codes, replicate}
use Rattle.audit_model.specs.declared.transcript.Transcript.{Transcript}
use Rattle.audit_model.specs.declared.transcript.RemovalCause.TheVariants.{Replaced}
use Rattle.moka_audit_tests.specs.Model.Making.{text, opened, made_feed, made_step, says, takes, note, history, plain_config, with_deadlines, IsGood, BreaksAfter}
use Rattle.std.specs.Prelude.{None, Some}

-- n times the byte `x`
abbrev pub long : ℕ → List ℕ
long n = replicate n 120

-- a step that accepts nothing, of a line of bytes
abbrev pub says_to : List ℕ → List ℕ → Transcript
says_to line reply =
    history (opened 1 ∷ made_feed 1 0 (line ++ 10 ∷ []) (made_step 1 line reply None [] ∷ []) ∷ [])

-- ---- good

abbrev pub no_record : Transcript
no_record = history []

abbrev pub no_input : Transcript
no_input = history (opened 1 ∷ [])

abbrev pub cut_pieces : Transcript
cut_pieces = history (opened 1
    ∷ made_feed 1 0 (text "SET a - 1" ++ codes "GE") (takes 1 "SET a - 1" (text "OK") [] ∷ [])
    ∷ made_feed 1 0 (text "T a" ++ codes "GET") (says 1 "GET a" (text "VAL 1") ∷ [])
    ∷ made_feed 1 0 (text " b") (says 1 "GET b" (text "NONE") ∷ []) ∷ [])

-- an unknown word comes before a fault of words, and that one before a fault of the deadline
abbrev pub bad_lines : Transcript
bad_lines = history (opened 1
    ∷ made_feed 1 0 (text "") (says 1 "" (text "ERR command") ∷ [])
    ∷ made_feed 1 0 (text "get a") (says 1 "get a" (text "ERR command") ∷ [])
    ∷ made_feed 1 0 (text "SETS a - 1") (says 1 "SETS a - 1" (text "ERR command") ∷ [])
    ∷ made_feed 1 0 (text "GET") (says 1 "GET" (text "ERR syntax") ∷ [])
    ∷ made_feed 1 0 (text "GET  a") (says 1 "GET  a" (text "ERR syntax") ∷ [])
    ∷ made_feed 1 0 (text "DEL a b") (says 1 "DEL a b" (text "ERR syntax") ∷ [])
    ∷ made_feed 1 0 (text "SYNC ") (says 1 "SYNC " (text "ERR syntax") ∷ [])
    ∷ made_feed 1 0 (text "SET a -") (says 1 "SET a -" (text "ERR syntax") ∷ [])
    ∷ made_feed 1 0 (text "SET  5 x") (says 1 "SET  5 x" (text "ERR syntax") ∷ [])
    ∷ made_feed 1 0 (text "SET a  x") (says 1 "SET a  x" (text "ERR deadline") ∷ [])
    ∷ made_feed 1 0 (text "SET a 5 x") (says 1 "SET a 5 x" (text "ERR deadline") ∷ [])
    ∷ made_feed 1 0 (text "SET a - ") (takes 1 "SET a - " (text "OK") [] ∷ [])
    ∷ made_feed 1 0 (text "GET a") (says 1 "GET a" (text "VAL ") ∷ [])
    ∷ made_feed 1 0 (text "SET a - x  y ")
    (takes 1 "SET a - x  y " (text "OK") (note Replaced "a" "" ∷ []) ∷ [])
    ∷ made_feed 1 0 (text "GET a") (says 1 "GET a" (text "VAL x  y ") ∷ []) ∷ [])

-- one carriage return before the line feed is dropped; another one is a byte that a value may not have
abbrev pub returns : Transcript
returns = history (opened 1
    ∷ made_feed 1 0 (codes "SET a - x" ++ 13 ∷ 10 ∷ []) (takes 1 "SET a - x" (text "OK") [] ∷ [])
    ∷ made_feed 1 0 (codes "SET a - x" ++ 13 ∷ 13 ∷ 10 ∷ [])
    (made_step 1 (codes "SET a - x" ++ 13 ∷ []) (text "ERR syntax") None [] ∷ []) ∷ [])

abbrev pub deadline_digits : Transcript
deadline_digits = history (opened 1
    ∷ made_feed 1 0 (text "SET a 1000000000000 x")
    (says 1 "SET a 1000000000000 x" (text "ERR deadline") ∷ [])
    ∷ made_feed 1 0 (text "SET a 1x x") (says 1 "SET a 1x x" (text "ERR deadline") ∷ [])
    ∷ made_feed 1 0 (text "SET a 00 x") (takes 1 "SET a 00 x" (text "OK") [] ∷ [])
    ∷ made_feed 1 0 (text "GET a") (says 1 "GET a" (text "NONE") ∷ [])
    ∷ made_feed 1 0 (text "SET b 999999999999 x")
    (takes 1 "SET b 999999999999 x" (text "OK") [] ∷ [])
    ∷ made_feed 1 0 (text "GET b") (says 1 "GET b" (text "VAL x") ∷ []) ∷ [])

abbrev pub longest_key : Transcript
longest_key = says_to (codes "GET " ++ long 250) (text "NONE")

abbrev pub key_too_long : Transcript
key_too_long = says_to (codes "GET " ++ long 251) (text "ERR syntax")

abbrev pub key_byte_too_high : Transcript
key_byte_too_high = says_to (codes "GET " ++ 127 ∷ []) (text "ERR syntax")

abbrev pub longest_line : Transcript
longest_line = says_to (long 8192) (text "ERR command")

abbrev pub longest_value : Transcript
longest_value = history (opened 1
    ∷ made_feed 1 0 (codes "SET a - " ++ long 8184 ++ 10 ∷ []) (made_step 1 (codes "SET a - " ++ long 8184) (text "OK") (Some (record { part = 0 })) [] ∷ []) ∷ [])

-- the connection closes, and another one goes on
abbrev pub value_too_long : Transcript
value_too_long = history (opened 1
    ∷ opened 2
    ∷ made_feed 1 0 (codes "SET a - " ++ long 8185 ++ 10 ∷ []) []
    ∷ made_feed 2 0 (text "GET a") (says 2 "GET a" (text "NONE") ∷ []) ∷ [])

-- it closes at the 8193rd byte, without a line feed
abbrev pub line_too_long : Transcript
line_too_long = history (opened 1
    ∷ opened 2
    ∷ made_feed 1 0 (long 8193) []
    ∷ made_feed 2 0 (text "GET a") (says 2 "GET a" (text "NONE") ∷ []) ∷ [])

pub record GoodLines : Type 0 where
  pub no_record_good : IsGood plain_config no_record
  pub no_input_good : IsGood plain_config no_input
  pub cut_pieces_good : IsGood plain_config cut_pieces
  pub bad_lines_good : IsGood plain_config bad_lines
  pub returns_good : IsGood plain_config returns
  pub deadline_digits_good : IsGood (with_deadlines plain_config) deadline_digits
  pub longest_key_good : IsGood plain_config longest_key
  pub key_too_long_good : IsGood plain_config key_too_long
  pub key_byte_too_high_good : IsGood plain_config key_byte_too_high
  pub longest_line_good : IsGood plain_config longest_line
  pub longest_value_good : IsGood plain_config longest_value
  pub value_too_long_good : IsGood plain_config value_too_long
  pub line_too_long_good : IsGood plain_config line_too_long

-- ---- broken

abbrev pub other_fault : Transcript
other_fault = says_to (codes "GET") (text "ERR command")

abbrev pub line_with_return : Transcript
line_with_return = history (opened 1
    ∷ made_feed 1 0 (codes "GET a" ++ 13 ∷ 10 ∷ [])
    (made_step 1 (codes "GET a" ++ 13 ∷ []) (text "NONE") None [] ∷ []) ∷ [])

abbrev pub line_left_over : Transcript
line_left_over = history (opened 1
    ∷ made_feed 1 0 (text "GET a" ++ text "GET b") (says 1 "GET a" (text "NONE") ∷ []) ∷ [])

abbrev pub line_without_end : Transcript
line_without_end = history (opened 1
    ∷ made_feed 1 0 (codes "GET a") (says 1 "GET a" (text "NONE") ∷ []) ∷ [])

abbrev pub lines_swapped : Transcript
lines_swapped = history (opened 1
    ∷ made_feed 1 0 (text "GET a" ++ text "GET b")
    (says 1 "GET b" (text "NONE") ∷ says 1 "GET a" (text "NONE") ∷ []) ∷ [])

abbrev pub key_too_long_read : Transcript
key_too_long_read = says_to (codes "GET " ++ long 251) (text "NONE")

abbrev pub fed_after_long_line : Transcript
fed_after_long_line = history (opened 1
    ∷ made_feed 1 0 (long 8193) []
    ∷ made_feed 1 0 (10 ∷ []) [] ∷ [])

pub record BrokenLines : Type 0 where
  pub other_fault_breaks : BreaksAfter 1 plain_config other_fault
  pub line_with_return_breaks : BreaksAfter 1 plain_config line_with_return
  pub line_left_over_breaks : BreaksAfter 1 plain_config line_left_over
  pub line_without_end_breaks : BreaksAfter 1 plain_config line_without_end
  pub lines_swapped_breaks : BreaksAfter 1 plain_config lines_swapped
  pub key_too_long_read_breaks : BreaksAfter 1 plain_config key_too_long_read
  pub fed_after_long_line_breaks : BreaksAfter 2 plain_config fed_after_long_line
